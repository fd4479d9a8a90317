-- Words of private clauses.
use Rattle.std.specs.List.{range_with_len}
use Rattle.std.specs.Prelude.{ℕ, zero, suc, ◌-◌, ◌/◌, List, map, min}

-- the numbers of this many workers, from 0 on; they stay at 2^32 - 1 once they are there
abbrev pub numbers : ℕ → List ℕ
numbers count = map (λ (k : ℕ). min k 4294967295) (range_with_len 0 count)

-- what is left of so many marks when half of them, rounded down, was given away so often
abbrev pub left_after : ℕ → ℕ → ℕ
left_after marks zero = marks
left_after marks (suc k) = left_after marks k - left_after marks k / 2

-- the marks of this many seats, each of which gets half of what is left
abbrev pub halves : ℕ → ℕ → List ℕ
halves marks count = map (λ (k : ℕ). left_after marks k / 2) (range_with_len 0 count)
