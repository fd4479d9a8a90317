-- Public vocabulary: the laws of spellings. They speak of definitions alone, and of byte strings and values of any size.
use Rattle.std.specs.Prelude.{◌≡◌, ℕ, ◌^◌, ◌<◌, Bool, List, ◌++◌, length, take, All, None, FitsSigned}
use Rattle.std.specs.Int.{w8, w16, w32, w64}
use Rattle.fw_axdr.specs.Bits.{bits, bytes_for, packed}
use Rattle.fw_axdr.specs.Value.{Value, Values, array, structure, double_long, double_long_unsigned, integer, long, unsigned, long_unsigned, long64, long64_unsigned, enumerated, none, more}
use Rattle.fw_axdr.specs.Spelling.{IsData, NoneBegins, short}
use Rattle.fw_axdr.specs.Fault.{Fails, unwritable}
use Rattle.fw_axdr.specs.declared.error.AxdrError.{AxdrError}

-- each number in the value is in its type's range
abbrev mutual
  pub HasNumbers : Value → Type 0
  HasNumbers (array vs) = HaveNumbers vs
  HasNumbers (structure vs) = HaveNumbers vs
  HasNumbers (double_long z) = FitsSigned w32 z
  HasNumbers (double_long_unsigned n) = n < 2 ^ 32
  HasNumbers (integer z) = FitsSigned w8 z
  HasNumbers (long z) = FitsSigned w16 z
  HasNumbers (unsigned n) = n < 2 ^ 8
  HasNumbers (long_unsigned n) = n < 2 ^ 16
  HasNumbers (long64 z) = FitsSigned w64 z
  HasNumbers (long64_unsigned n) = n < 2 ^ 64
  HasNumbers (enumerated n) = n < 2 ^ 8
  HasNumbers _ = Unit {0}

  pub HaveNumbers : Values → Type 0
  HaveNumbers none = Unit {0}
  HaveNumbers (more v vs) = HasNumbers v × HaveNumbers vs

-- if nothing in a value is unwritable, its short spelling is a Data that spells it
abbrev pub ShortSpells : Type 0
ShortSpells = (levels : ℕ) (v : Value) → HasNumbers v → unwritable v levels ≡ None → IsData levels (short v) v

-- two Data that begin the same byte string are equal and spell the same value: so a byte string spells at most one value,
-- and no spelling is a proper front of another
abbrev pub OneSpelling : Type 0
OneSpelling = (levels : ℕ) (a b x y : List ℕ) (v w : Value) → a ++ x ≡ b ++ y → IsData levels a v → IsData levels b w → (a ≡ b) × (v ≡ w)

-- a byte string that has a fault begins with no Data, and has no other fault
abbrev pub OneFault : Type 0
OneFault = (levels : ℕ) (s : List ℕ) (f g : AxdrError) → Fails levels s f → NoneBegins levels s × (Fails levels s g → f ≡ g)

-- packed bits are as many bytes as the bits need, and the bits come back from them
abbrev pub BitsPacked : Type 0
BitsPacked = (bs : List Bool) → (length (packed bs) ≡ bytes_for (length bs)) × (take (length bs) (bits (packed bs)) ≡ bs)

-- whole bytes come back from their bits
abbrev pub BytesPacked : Type 0
BytesPacked = (bytes : List ℕ) → All (λ b. b < 256) bytes → packed (bits bytes) ≡ bytes
