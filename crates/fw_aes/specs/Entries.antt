-- Tables of 16 entries in a vector.
use Rattle.std.specs.Prelude.{ℕ, ◌/◌, Bool, List, bit_and, bit_xor, slice_index, nat_lt, nat_le, ◌||◌, if◌then◌else◌, T}
use Rattle.std.specs.Simd.Lanes.{Each1}

-- a place in a table, or one if none has an entry
abbrev pub is_place : ℕ → Bool
is_place j = nat_le 128 j || nat_lt j 16

abbrev pub ArePlaces : List ℕ → Type 0
ArePlaces js = Each1 (λ j. T (is_place j)) js

-- what a table has at a place
abbrev pub entry : List ℕ → ℕ → ℕ
entry table j = if nat_le 128 j then 0 else slice_index table j

-- what one table has for the low half of a byte, added to what another one has for its high half
abbrev pub entry_by_halves : List ℕ → List ℕ → ℕ → ℕ
entry_by_halves low high x = bit_xor (entry low (bit_and x 0x0f)) (entry high (x / 16))
