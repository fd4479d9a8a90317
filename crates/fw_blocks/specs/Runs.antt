-- Public vocabulary: the numbers of a set as runs of them. A gap reaches from where a run ends to where the next one starts.
use Rattle.std.specs.Prelude.{◌≡◌, ℕ, ◌<◌, ◌≤◌, Bool, ◌&&◌, nat_lt, nat_le, List, length, All, AllPairs}
use Rattle.std.specs.List.{list_any}
use Rattle.fw_blocks.specs.Members.{has}
use Rattle.fw_blocks.specs.declared.runs.Run.{Run}

-- whether a number is one of a run's: from its start on, and below its end
abbrev pub is_of : ℕ → Run → Bool
is_of i run = nat_le run.start i && nat_lt i run.end

-- whether it is one of any of the runs
abbrev pub is_in_any : List Run → ℕ → Bool
is_in_any runs i = list_any (is_of i) runs

-- each run has a number, they lie below the count and ascend, and the number that a run ends at parts it from those after it
pub record AreParted (count : ℕ) (runs : List Run) : Type 0 where
  pub some : All (λ run. run.start < run.end) runs
  pub within : All (λ run. run.end ≤ count) runs
  pub parted : AllPairs (λ run later. run.end < later.start) runs

-- the runs of a set: together they have just its numbers
pub record AreRuns (set : List Bool) (runs : List Run) : Type 0 where
  pub numbers : (i : ℕ) → has set i ≡ is_in_any runs i
  pub apart : AreParted (length set) runs
