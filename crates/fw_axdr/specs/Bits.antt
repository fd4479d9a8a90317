-- Public vocabulary: bits in bytes, eight per byte; the first bit is the top bit of the first byte
-- (bit-string, IEC 62056-5-3, A-XDR).
use Rattle.std.specs.Prelude.{ℕ, zero, suc, ◌+◌, ◌/◌, ◌%◌, Bool, false, ◌==◌, List, [], ◌∷◌, length, drop, slice_index_or, if◌then◌else◌}
use Rattle.std.specs.List.{flat_map}

-- the bit of a byte with this worth: 128, 64, .. or 1
abbrev pub bit : ℕ → ℕ → Bool
bit b worth = b / worth % 2 == 1

-- a byte's eight bits
abbrev pub byte_bits : ℕ → List Bool
byte_bits b = bit b 128 ∷ bit b 64 ∷ bit b 32 ∷ bit b 16 ∷ bit b 8 ∷ bit b 4 ∷ bit b 2 ∷ bit b 1 ∷ []

-- the bits of bytes
abbrev pub bits : List ℕ → List Bool
bits bytes = flat_map byte_bits bytes

-- how many bytes hold n bits
abbrev pub bytes_for : ℕ → ℕ
bytes_for n = (n + 7) / 8

abbrev worth_of : List Bool → ℕ → ℕ → ℕ
worth_of bs i worth = if slice_index_or bs i false then worth else 0

-- the byte of the first eight bits, zeros if there are fewer
abbrev pub byte_of : List Bool → ℕ
byte_of bs =
    worth_of bs 0 128 + worth_of bs 1 64 + worth_of bs 2 32 + worth_of bs 3 16 + worth_of bs 4 8 + worth_of bs 5 4 + worth_of bs 6 2 + worth_of bs 7 1

-- `n` bytes that hold the bits
abbrev pub packed_into : ℕ → List Bool → List ℕ
packed_into zero bs = []
packed_into (suc n) bs = byte_of bs ∷ packed_into n (drop 8 bs)

-- the bytes that hold the bits, as few as serve, with zeros in the unused bits
abbrev pub packed : List Bool → List ℕ
packed bs = packed_into (bytes_for (length bs)) bs
