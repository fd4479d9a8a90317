-- For the models of `BlockSet`, `Pages` and `Window` alone: what is true of their fields.
use Rattle.std.specs.Prelude.{◌≡◌, ℕ, zero, suc, ◌+◌, ◌-◌, ◌*◌, ◌/◌, ◌%◌, ◌<◌, ◌≤◌, ◌^◌, ◌++◌, Bool, ◌||◌, ◌==◌, List, length, map, replicate, slice_index, take, if◌then◌else◌}
use Rattle.std.specs.Int.{bit_at}
use Rattle.std.specs.List.{range_with_len}
use Rattle.fw_blocks.specs.Cuts.{max_blocks}
use Rattle.fw_blocks.specs.Members.{has}
use Rattle.fw_blocks.specs.Runs.{is_in_any, AreParted}
use Rattle.fw_blocks.specs.Width.{max_width}
use Rattle.fw_blocks.specs.declared.runs.Run.{Run}

-- the set that runs are, below a count
abbrev pub set_of : ℕ → List Run → List Bool
set_of count runs = map (is_in_any runs) (range_with_len 0 count)

-- a set: its count is a `u32`, and there is room for as many runs as can lie apart below the count
pub record IsKept (count : ℕ) (runs : List Run) (capacity : ℕ) : Type 0 where
  pub most : count < 2 ^ 32
  pub apart : AreParted count runs
  pub room : (count + 1) / 2 ≤ capacity

-- a number is put into runs: they have it too, and those that lay apart below a count still do
pub record Puts (number : ℕ) (old new : List Run) : Type 0 where
  pub numbers : (i : ℕ) → is_in_any new i ≡ ((i == number) || is_in_any old i)
  pub apart : (count : ℕ) → number < count → AreParted count old → AreParted count new

-- how many marks a page has
abbrev pub page_size : ℕ
page_size = 64

-- how many pages there are
abbrev pub page_count : ℕ
page_count = 256

-- whether a number is marked in the words of pages: the first mark of a page is the top bit of its word
abbrev pub is_marked : List ℕ → ℕ → Bool
is_marked words i = bit_at (slice_index words (i / page_size)) (63 - i % page_size) == 1

-- the marks below a count
abbrev pub marks_of : ℕ → List ℕ → List Bool
marks_of count words = map (is_marked words) (range_with_len 0 count)

-- the number whose bits are the first n of these, the first one on top
unfoldable pub word_of : (ℕ → Bool) → ℕ → ℕ
word_of bit zero = 0
word_of bit (suc n) = 2 * word_of bit n + (if bit n then 1 else 0)

-- how many of the first n are set
unfoldable pub ones_of : (ℕ → Bool) → ℕ → ℕ
ones_of bit zero = 0
ones_of bit (suc n) = ones_of bit n + (if bit n then 1 else 0)

-- the marks of one page
abbrev pub page_of : List Bool → ℕ → ℕ → Bool
page_of marks page i = has marks (page_size * page + i)

-- the words of the pages that have these marks, and how many are set in each
unfoldable pub words_of : List Bool → List ℕ
words_of marks = map (λ page. word_of (page_of marks page) page_size) (range_with_len 0 page_count)

unfoldable pub counts_of : List Bool → List ℕ
counts_of marks = map (λ page. ones_of (page_of marks page) page_size) (range_with_len 0 page_count)

-- pages: no more marks than an image has blocks, and the words and the numbers beside them are those of the marks
pub record HoldsPages (words counts : List ℕ) (count : ℕ) : Type 0 where
  pub most : count ≤ max_blocks
  pub size : length (marks_of count words) ≡ count
  pub words_again : words_of (marks_of count words) ≡ words
  pub counts_again : counts_of (marks_of count words) ≡ counts

-- a window: the numbers come first, and the places after them are 0
pub record HoldsFew (numbers : List ℕ) (len : ℕ) : Type 0 where
  pub count : length (take len numbers) ≡ len
  pub rest : numbers ≡ take len numbers ++ replicate (max_width - len) 0

-- the first places hold the first of some numbers, no more than the width, and the others hold 0
pub record Lists (all : List ℕ) (width : ℕ) (places : List ℕ) (len : ℕ) : Type 0 where
  pub holds : places ≡ take width all ++ replicate (max_width - len) 0
  pub count : length (take width all) ≡ len
