-- Public vocabulary: the leftmost fault of a byte string that no Data begins, and of a value that can't be written.
-- What a Data is made of is A-XDR's (IEC 62056-5-3; IEC 62056-6-2, Common data types). The faults and their order are own
-- rules of this profile: they are looked for from left to right, elements in order.
use Rattle.std.specs.Prelude.{◌≡◌, ℕ, zero, suc, ◌+◌, ◌-◌, ◌^◌, ◌<◌, ◌≤◌, ◌⊎◌, List, [], ◌∷◌, ◌++◌, length, Option, Some, None, MatchOption, ◌==◌, if◌then◌else◌, nat_lt}
use Rattle.std.specs.Option.{option_or}
use Rattle.fw_axdr.specs.declared.error.AxdrError.{AxdrError}
use Rattle.fw_axdr.specs.declared.error.AxdrError.TheVariants.{Truncated, UnknownTag, BadLength, TooDeep, OutOfMemory}
use Rattle.fw_axdr.specs.Value.{Value, Values, array, structure, bit_string, octet_string, visible_string, none, more, count, deepest}
use Rattle.fw_axdr.specs.Spelling.{IsLength, SpellEach}
use Rattle.fw_axdr.specs.Bits.{bytes_for}

-- ---- of a byte string

-- what follows a tag: a fixed number of bytes; or a length, and as many bytes, bits or Data as it says
pub data Contents : Type 0 where
  fixed : ℕ → Contents
  counted_bytes : Contents
  counted_bits : Contents
  counted_data : Contents

-- the tags, and what follows each
abbrev pub tags : List (ℕ × Contents)
tags =
    (0, fixed 0) ∷ (1, counted_data) ∷ (2, counted_data) ∷ (3, fixed 1) ∷ (4, counted_bits) ∷ (5, fixed 4) ∷ (6, fixed 4) ∷ (9, counted_bytes) ∷ (10, counted_bytes)
    ∷ (15, fixed 1) ∷ (16, fixed 2) ∷ (17, fixed 1) ∷ (18, fixed 2) ∷ (20, fixed 8) ∷ (21, fixed 8) ∷ (22, fixed 1) ∷ []

abbrev pub contents_in : List (ℕ × Contents) → ℕ → Option Contents
contents_in [] t = None
contents_in (row ∷ rows) t = if t == row.0 then Some row.1 else contents_in rows t

-- at the place of a length: no byte; a first byte 80, or 85 to ff (hexadecimal); fewer bytes after it than it says
abbrev pub LengthFails : List ℕ → AxdrError → Type 0
LengthFails [] f = f ≡ Truncated
LengthFails (b ∷ rest) f = (((b ≡ 128) ⊎ (132 < b)) × (f ≡ BadLength)) ⊎ ((k : ℕ) × (b ≡ 128 + k) × (1 ≤ k) × (k ≤ 4) × (length rest < k) × (f ≡ Truncated))

-- at the place of `size` bytes: fewer are there
abbrev pub BytesFail : ℕ → List ℕ → AxdrError → Type 0
BytesFail size c f = (length c < size) × (f ≡ Truncated)

-- at the place of a length n: in it, or in what follows it
abbrev pub CountedFails : (ℕ → List ℕ → AxdrError → Type 0) → List ℕ → AxdrError → Type 0
CountedFails Behind c f = LengthFails c f ⊎ ((len rest : List ℕ) × (n : ℕ) × (c ≡ len ++ rest) × IsLength len n × Behind n rest f)

-- at the place of n Data: after fewer, which are well spelled, one fails
abbrev pub EachFails : ℕ → (List ℕ → AxdrError → Type 0) → ℕ → List ℕ → AxdrError → Type 0
EachFails levels Fails n s f = (front rest : List ℕ) × (vs : Values) × (s ≡ front ++ rest) × SpellEach front vs × (deepest vs ≤ levels) × (count vs < n) × Fails rest f

-- at the place of contents
abbrev pub ContentsFail : ℕ → (List ℕ → AxdrError → Type 0) → Contents → List ℕ → AxdrError → Type 0
ContentsFail levels Fails (fixed size) c f = BytesFail size c f
ContentsFail levels Fails counted_bytes c f = CountedFails BytesFail c f
ContentsFail levels Fails counted_bits c f = CountedFails (λ n. BytesFail (bytes_for n)) c f
ContentsFail levels Fails counted_data c f = CountedFails (EachFails levels Fails) c f

-- at the place of a Data, where `levels` levels are left: no byte; no level; no such tag; in the contents
abbrev pub Fails : ℕ → List ℕ → AxdrError → Type 0
Fails levels [] f = f ≡ Truncated
Fails zero (t ∷ c) f = f ≡ TooDeep
Fails (suc levels) (t ∷ c) f = MatchOption (contents_in tags t) (f ≡ UnknownTag) (λ k. ContentsFail levels (λ s g. Fails levels s g) k c f)

-- ---- of a value, in the order of writing

-- at the place of a value: TooDeep if no level is left for it, else what follows
abbrev pub within : ℕ → Option AxdrError → Option AxdrError
within levels behind = if levels == 0 then Some TooDeep else behind

-- at the place of a length: BadLength above 2 ^ 32 - 1, else what follows
abbrev pub counted : ℕ → Option AxdrError → Option AxdrError
counted n behind = if nat_lt n (2 ^ 32) then behind else Some BadLength

-- the first part of a value, with `levels` levels left, that can't be written
abbrev mutual
  pub unwritable : Value → ℕ → Option AxdrError
  unwritable (array vs) levels = within levels (counted (count vs) (first_unwritable vs (levels - 1)))
  unwritable (structure vs) levels = within levels (counted (count vs) (first_unwritable vs (levels - 1)))
  unwritable (bit_string bs) levels = within levels (counted (length bs) None)
  unwritable (octet_string o) levels = within levels (counted (length o) None)
  unwritable (visible_string o) levels = within levels (counted (length o) None)
  unwritable _ levels = within levels None

  pub first_unwritable : Values → ℕ → Option AxdrError
  first_unwritable none levels = None
  first_unwritable (more v vs) levels = option_or (unwritable v levels) (first_unwritable vs levels)

-- ---- of both

-- P, where the error is a fault; nothing is said of OutOfMemory, since no definition can say when it comes
abbrev pub IfFault : AxdrError → Type 0 → Type 0
IfFault OutOfMemory P = Unit {0}
IfFault Truncated P = P
IfFault UnknownTag P = P
IfFault BadLength P = P
IfFault TooDeep P = P

-- P, where the error is OutOfMemory
abbrev pub IfMemory : AxdrError → Type 0 → Type 0
IfMemory OutOfMemory P = P
IfMemory Truncated P = Unit {0}
IfMemory UnknownTag P = Unit {0}
IfMemory BadLength P = Unit {0}
IfMemory TooDeep P = Unit {0}
