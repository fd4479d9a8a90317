-- For private clauses alone: tags, reading, writing and the clearing of unused bits, beside the relations.
use Rattle.std.specs.Prelude.{ℕ, Option, Some, None, ◌==◌, if◌then◌else◌, ◌≡◌, zero, suc, Bool, not, List, [], ◌∷◌, length, take, Result, Ok, Err}
use Rattle.std.specs.Int.{w8, w16, w32, w64, cast_signed}
use Rattle.fw_axdr.specs.declared.reader.ReadError.{ReadError}
use Rattle.fw_axdr.specs.Reading.{◌>>=◌}
use Rattle.fw_axdr.specs.Reading as reader
use Rattle.fw_axdr.specs.declared.error.AxdrError.{AxdrError}
use Rattle.fw_axdr.specs.declared.error.AxdrError.TheVariants.{Truncated, UnknownTag, BadLength, TooDeep, OutOfMemory}
use Rattle.fw_axdr.specs.Bits.{bits, bytes_for, packed}
use Rattle.fw_axdr.specs.Value.{Value, Values, null, array, structure, boolean, bit_string, double_long, double_long_unsigned, octet_string, visible_string, integer, long, unsigned, long_unsigned, long64, long64_unsigned, enumerated, none, more}
use Rattle.fw_axdr.specs.Cause.{fault_from}
use Rattle.fw_axdr.specs.declared.tag.Tag.{Tag}
use Rattle.fw_axdr.specs.declared.tag.Tag.TheVariants as tag

-- ---- the code's tags beside their bytes

abbrev pub tag_at : ℕ → Option Tag
tag_at t =
    if t == 0 then Some tag.Null else (if t == 1 then Some tag.Array else (if t == 2 then Some tag.Structure else (if t == 3 then Some tag.Boolean else
    (if t == 4 then Some tag.BitString else (if t == 5 then Some tag.DoubleLong else (if t == 6 then Some tag.DoubleLongUnsigned else
    (if t == 9 then Some tag.OctetString else (if t == 10 then Some tag.VisibleString else (if t == 15 then Some tag.Integer else
    (if t == 16 then Some tag.Long else (if t == 17 then Some tag.Unsigned else (if t == 18 then Some tag.LongUnsigned else
    (if t == 20 then Some tag.Long64 else (if t == 21 then Some tag.Long64Unsigned else (if t == 22 then Some tag.Enumerated else None)))))))))))))))

-- the byte of a tag
abbrev pub code : Tag → ℕ
code tag.Null = 0
code tag.Array = 1
code tag.Structure = 2
code tag.Boolean = 3
code tag.BitString = 4
code tag.DoubleLong = 5
code tag.DoubleLongUnsigned = 6
code tag.OctetString = 9
code tag.VisibleString = 10
code tag.Integer = 15
code tag.Long = 16
code tag.Unsigned = 17
code tag.LongUnsigned = 18
code tag.Long64 = 20
code tag.Long64Unsigned = 21
code tag.Enumerated = 22

-- ---- reading from left to right, as a plain program beside the relations

-- the error is what reading gives, unless memory ran out
abbrev pub Errs : {Y : Type 0} → AxdrError → Result Y AxdrError → Type 0
Errs OutOfMemory read = Unit {0}
Errs Truncated read = read ≡ Err Truncated
Errs UnknownTag read = read ≡ Err UnknownTag
Errs BadLength read = read ≡ Err BadLength
Errs TooDeep read = read ≡ Err TooDeep

-- what a function returned, seen by view, and the bytes that it left are what reading gives, unless memory ran out
abbrev pub Gives : {X Y : Type 0} → (X → Y) → Result X AxdrError → List ℕ → Result (Y × List ℕ) AxdrError → Type 0
Gives view (Ok x) rest read = read ≡ Ok (view x, rest)
Gives view (Err e) rest read = Errs e read

-- what a reader gives, with the fault that a Data has for it
abbrev pub seen : {A : Type 0} → Result A ReadError → Result A AxdrError
seen (Ok x) = Ok x
seen (Err e) = Err (fault_from e)

-- `n` bytes
abbrev pub bytes_at : ℕ → List ℕ → Result (List ℕ × List ℕ) AxdrError
bytes_at n bytes = seen (reader.bytes_at n bytes)

-- a number of `size` bytes
abbrev pub number_at : ℕ → List ℕ → Result (ℕ × List ℕ) AxdrError
number_at size bytes = seen (reader.number_at size bytes)

abbrev pub length_at : List ℕ → Result (ℕ × List ℕ) AxdrError
length_at bytes = seen (reader.length_at bytes)

unfoldable pub octets_at : List ℕ → Result (List ℕ × List ℕ) AxdrError
octets_at bytes = do
  n ← length_at bytes
  bytes_at n.0 n.1

unfoldable pub bits_at : List ℕ → Result (List Bool × List ℕ) AxdrError
bits_at bytes = do
  n ← length_at bytes
  body ← bytes_at (bytes_for n.0) n.1
  Ok (take n.0 (bits body.0), body.1)

abbrev pub join : Values → Values → Values
join none ws = ws
join (more v vs) ws = more v (join vs ws)

-- `n` values, each read by `one`
unfoldable pub each_at : (List ℕ → Result (Value × List ℕ) AxdrError) → ℕ → List ℕ → Result (Values × List ℕ) AxdrError
each_at one zero bytes = Ok (none, bytes)
each_at one (suc n) bytes = do
  first ← one bytes
  others ← each_at one n first.1
  Ok (more first.0 others.0, others.1)

unfoldable pub items_at : (List ℕ → Result (Value × List ℕ) AxdrError) → List ℕ → Result (Values × List ℕ) AxdrError
items_at one bytes = do
  n ← length_at bytes
  each_at one n.0 n.1

abbrev pub seen_by : {A : Type 0} → (A → Value) → Result (A × List ℕ) AxdrError → Result (Value × List ℕ) AxdrError
seen_by make r = r >>= λ x. Ok (make x.0, x.1)

unfoldable pub contents_at : (List ℕ → Result (Value × List ℕ) AxdrError) → Tag → List ℕ → Result (Value × List ℕ) AxdrError
contents_at one tag.Null c = Ok (null, c)
contents_at one tag.Array c = seen_by array (items_at one c)
contents_at one tag.Structure c = seen_by structure (items_at one c)
contents_at one tag.Boolean c = seen_by (λ n. boolean (not (n == 0))) (number_at 1 c)
contents_at one tag.BitString c = seen_by bit_string (bits_at c)
contents_at one tag.DoubleLong c = seen_by (λ n. double_long (cast_signed w32 n)) (number_at 4 c)
contents_at one tag.DoubleLongUnsigned c = seen_by double_long_unsigned (number_at 4 c)
contents_at one tag.OctetString c = seen_by octet_string (octets_at c)
contents_at one tag.VisibleString c = seen_by visible_string (octets_at c)
contents_at one tag.Integer c = seen_by (λ n. integer (cast_signed w8 n)) (number_at 1 c)
contents_at one tag.Long c = seen_by (λ n. long (cast_signed w16 n)) (number_at 2 c)
contents_at one tag.Unsigned c = seen_by unsigned (number_at 1 c)
contents_at one tag.LongUnsigned c = seen_by long_unsigned (number_at 2 c)
contents_at one tag.Long64 c = seen_by (λ n. long64 (cast_signed w64 n)) (number_at 8 c)
contents_at one tag.Long64Unsigned c = seen_by long64_unsigned (number_at 8 c)
contents_at one tag.Enumerated c = seen_by enumerated (number_at 1 c)

abbrev pub tagged_at : (List ℕ → Result (Value × List ℕ) AxdrError) → Option Tag → List ℕ → Result (Value × List ℕ) AxdrError
tagged_at one None c = Err UnknownTag
tagged_at one (Some tag) c = contents_at one tag c

-- a Data, with `levels` levels left
unfoldable pub data_at : ℕ → List ℕ → Result (Value × List ℕ) AxdrError
data_at levels [] = Err Truncated
data_at zero (t ∷ c) = Err TooDeep
data_at (suc levels) (t ∷ c) = tagged_at (λ s. data_at levels s) (tag_at t) c

-- ---- what writing leaves, also after an error

-- new begins with old
abbrev pub Begins : List ℕ → List ℕ → Type 0
Begins old new = take (length old) new ≡ old

-- ---- what clearing the unused bits leaves

-- new has the first n bits of old, and zeros after them
pub record Keeps (n : ℕ) (old new : List ℕ) : Type 0 where
  pub same : take n (bits new) ≡ take n (bits old)
  pub len : length (take n (bits new)) ≡ n
  pub packs : new ≡ packed (take n (bits new))
