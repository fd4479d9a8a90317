-- Public vocabulary: the byte strings that spell a value, whole strings beside whole values (A-XDR, IEC 61334-6, as IEC 62056-5-3
-- uses it; the tags are those of IEC 62056-6-2, Common data types).
-- Own rules of this profile: a length may have a longer form than it needs, of at most four bytes after the first; any nonzero
-- boolean byte is true; unused bits of a bit-string may be anything; elements of an array may differ in type; the depth is at most 8.
use Rattle.std.specs.Prelude.{◌≡◌, ℕ, ◌+◌, ◌^◌, ◌<◌, ◌≤◌, ◌⊎◌, ℤ, not, ◌==◌, List, [], ◌∷◌, ◌++◌, length, nat_lt, if◌then◌else◌, take, drop}
use Rattle.std.specs.Int.{Width, w8, w16, w32, w64, to_be_bytes, cast_signed, cast_unsigned}
use Rattle.fw_axdr.specs.Reading.{number}
use Rattle.fw_axdr.specs.Value.{Value, Values, null, array, structure, boolean, bit_string, double_long, double_long_unsigned, octet_string, visible_string, integer, long, unsigned, long_unsigned, long64, long64_unsigned, enumerated, none, more, count, depth}
use Rattle.fw_axdr.specs.Bits.{bits, bytes_for, packed}

-- a length: one byte below 80 (hexadecimal), or 81 to 84 and the 1 to 4 bytes that hold it
abbrev pub IsLength : List ℕ → ℕ → Type 0
IsLength [] n = ⊥
IsLength (b ∷ bytes) n = ((b < 128) × (bytes ≡ []) × (n ≡ b)) ⊎ ((b ≡ 128 + length bytes) × (1 ≤ length bytes) × (length bytes ≤ 4) × (n ≡ number bytes))

-- a tag, and `size` bytes, which hold the number
abbrev pub IsNumber : ℕ → ℕ → List ℕ → ℕ → Type 0
IsNumber tag size s n = (bytes : List ℕ) × (s ≡ tag ∷ bytes) × (length bytes ≡ size) × (n ≡ number bytes)

-- the same in two's complement
abbrev pub IsSigned : ℕ → Width → ℕ → List ℕ → ℤ → Type 0
IsSigned tag w size s z = (n : ℕ) × IsNumber tag size s n × (z ≡ cast_signed w n)

-- a tag, a length, and as many bytes as it says
abbrev pub IsString : ℕ → List ℕ → List ℕ → Type 0
IsString tag s bytes = (len : List ℕ) × (s ≡ tag ∷ len ++ bytes) × IsLength len (length bytes)

-- a spelling, by the tag
abbrev mutual
  pub Spells : List ℕ → Value → Type 0
  Spells s null = s ≡ 0 ∷ []
  Spells s (array vs) = (len body : List ℕ) × (s ≡ 1 ∷ len ++ body) × IsLength len (count vs) × SpellEach body vs
  Spells s (structure vs) = (len body : List ℕ) × (s ≡ 2 ∷ len ++ body) × IsLength len (count vs) × SpellEach body vs
  Spells s (boolean b) = (n : ℕ) × IsNumber 3 1 s n × (b ≡ not (n == 0))
  Spells s (bit_string bs) = (len body : List ℕ) × (s ≡ 4 ∷ len ++ body) × IsLength len (length bs) × (length body ≡ bytes_for (length bs)) × (bs ≡ take (length bs) (bits body))
  Spells s (double_long z) = IsSigned 5 w32 4 s z
  Spells s (double_long_unsigned n) = IsNumber 6 4 s n
  Spells s (octet_string o) = IsString 9 s o
  Spells s (visible_string o) = IsString 10 s o
  Spells s (integer z) = IsSigned 15 w8 1 s z
  Spells s (long z) = IsSigned 16 w16 2 s z
  Spells s (unsigned n) = IsNumber 17 1 s n
  Spells s (long_unsigned n) = IsNumber 18 2 s n
  Spells s (long64 z) = IsSigned 20 w64 8 s z
  Spells s (long64_unsigned n) = IsNumber 21 8 s n
  Spells s (enumerated n) = IsNumber 22 1 s n

  -- the elements' spellings, one after another
  pub SpellEach : List ℕ → Values → Type 0
  SpellEach s none = s ≡ []
  SpellEach s (more v vs) = (first rest : List ℕ) × (s ≡ first ++ rest) × Spells first v × SpellEach rest vs

-- the outermost Data has depth 1, and none has depth 9
abbrev pub max_depth : ℕ
max_depth = 8

-- a Data: a spelling of a value that is at most `levels` deep
abbrev pub IsData : ℕ → List ℕ → Value → Type 0
IsData levels s v = Spells s v × (depth v ≤ levels)

-- no front of the byte string is a Data
abbrev pub NoneBegins : ℕ → List ℕ → Type 0
NoneBegins levels s = (front rest : List ℕ) (v : Value) → s ≡ front ++ rest → IsData levels front v → ⊥

-- a front of the byte string is a Data
abbrev pub SomeBegins : ℕ → List ℕ → Type 0
SomeBegins levels s = (front rest : List ℕ) × (v : Value) × (s ≡ front ++ rest) × IsData levels front v

-- ---- the short spelling, which is written

-- the shortest form of a length below 2 ^ 32
abbrev pub short_length : ℕ → List ℕ
short_length n =
    if nat_lt n 128 then n ∷ [] else (if nat_lt n (2 ^ 8) then 129 ∷ n ∷ [] else (if nat_lt n (2 ^ 16) then 130 ∷ to_be_bytes w16 n else
    (if nat_lt n (2 ^ 24) then 131 ∷ drop 1 (to_be_bytes w32 n) else 132 ∷ to_be_bytes w32 n)))

-- a number in two's complement, the highest byte first
abbrev pub signed_bytes : Width → ℤ → List ℕ
signed_bytes w z = to_be_bytes w (cast_unsigned w z)

-- the spelling with the shortest lengths, 01 for true and zero unused bits
abbrev mutual
  pub short : Value → List ℕ
  short null = 0 ∷ []
  short (array vs) = 1 ∷ short_length (count vs) ++ shorts vs
  short (structure vs) = 2 ∷ short_length (count vs) ++ shorts vs
  short (boolean b) = 3 ∷ (if b then 1 else 0) ∷ []
  short (bit_string bs) = 4 ∷ short_length (length bs) ++ packed bs
  short (double_long z) = 5 ∷ signed_bytes w32 z
  short (double_long_unsigned n) = 6 ∷ to_be_bytes w32 n
  short (octet_string o) = 9 ∷ short_length (length o) ++ o
  short (visible_string o) = 10 ∷ short_length (length o) ++ o
  short (integer z) = 15 ∷ signed_bytes w8 z
  short (long z) = 16 ∷ signed_bytes w16 z
  short (unsigned n) = 17 ∷ n ∷ []
  short (long_unsigned n) = 18 ∷ to_be_bytes w16 n
  short (long64 z) = 20 ∷ signed_bytes w64 z
  short (long64_unsigned n) = 21 ∷ to_be_bytes w64 n
  short (enumerated n) = 22 ∷ n ∷ []

  pub shorts : Values → List ℕ
  shorts none = []
  shorts (more v vs) = short v ++ shorts vs
