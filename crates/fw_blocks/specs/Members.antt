-- Public vocabulary: sets of block numbers below a count. A set is the list of its members' bits (IEC 62056-6-2, Image transfer:
-- image_transferred_blocks_status): bit i says whether number i is in it, and the length of the list is the count.
use Rattle.std.specs.Prelude.{◌≡◌, ℕ, ◌-◌, ◌<◌, ◌≤◌, ◌++◌, Bool, true, false, not, List, length, take, filter, replicate, slice_index_or}
use Rattle.std.specs.List.{position_or_len, range_with_len}
use Rattle.fw_blocks.specs.Cuts.{max_blocks}

-- whether a number is in the set; none at or above the count is
abbrev pub has : List Bool → ℕ → Bool
has set i = slice_index_or set i false

-- a number below the count that is not in the set
pub record IsAbsent (set : List Bool) (i : ℕ) : Type 0 where
  pub below : i < length set
  pub absent : has set i ≡ false

-- every number below the count is in the set
abbrev pub IsComplete : List Bool → Type 0
IsComplete set = (i : ℕ) → i < length set → has set i ≡ true

-- the least absent number, or the count if none is absent
pub record IsFirstMissing (set : List Bool) (n : ℕ) : Type 0 where
  pub within : n ≤ length set
  pub all_before : (i : ℕ) → i < n → has set i ≡ true
  pub absent : n < length set → IsAbsent set n

-- that number: the place of the first bit that is not set
abbrev pub first_missing : List Bool → ℕ
first_missing set = position_or_len not set

-- the absent numbers, ascending
abbrev pub absent_numbers : List Bool → List ℕ
absent_numbers set = filter (λ i. not (has set i)) (range_with_len 0 (length set))

-- the lowest absent numbers, as many as the width
abbrev pub window : List Bool → ℕ → List ℕ
window set width = take width (absent_numbers set)

-- these marks, and no others up to the most that there can be
abbrev pub all_marks : List Bool → List Bool
all_marks marked = marked ++ replicate (max_blocks - length marked) false

-- a set with another count: numbers below both counts stay, others aren't in it
abbrev pub resized_marks : ℕ → List Bool → List Bool
resized_marks count set = take count set ++ replicate (count - length set) false
