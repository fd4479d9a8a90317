-- Public vocabulary: the tally invariant. A tally is a word, and those who mark it have a share each. What is said here holds between any
-- two steps, whatever the threads do; a step changes the view of the share that makes it.
use Rattle.std.specs.Prelude.{◌≡◌, ℕ, ◌+◌, ◌-◌, ◌^◌, ◌≤◌, max, List, length, slice_index, All}
use Rattle.std.specs.List.{sum_by}
use Rattle.atomic_table.specs.Table.{State, Me, Step}
use Rattle.fw_tally.specs.declared.rule.View.{View}

-- The word is the sum of all own marks, and no share has seen more. The word and all allowances are at most 2^64 - 1: what is marked and
-- what may still be marked are together what they were at the start.
pub record IsTally (start word : ℕ) (shares : List View) : Type 0 where
  pub counted : word ≡ sum_by (λ v. v.own) shares
  pub seen : All (λ v. v.seen ≤ word) shares
  pub fits : word + sum_by (λ v. v.allowance) shares ≤ 2 ^ 64 - 1
  pub kept : word + sum_by (λ v. v.allowance) shares ≡ start + 2 ^ 63

-- ---- what the kinds of step make of shares

abbrev pub view : ℕ → ℕ → ℕ → View
view own seen allowance = record { own = own; seen = seen; allowance = allowance }

-- the first share has the marks of the start for its own
abbrev pub first_view : ℕ → View
first_view start = view start start (2 ^ 63)

-- a mark moves one from the allowance to the own marks, and sees the count that it makes
abbrev pub marked : View → ℕ → View
marked v found = view (v.own + 1) (found + 1) (v.allowance - 1)

-- a look sees the count
abbrev pub looked : View → ℕ → View
looked v found = view v.own found v.allowance

-- the own marks and the allowance of the share that is joined are added, and the greater count is what both have seen
abbrev pub joined : View → View → View
joined v w = view (v.own + w.own) (max v.seen w.seen) (v.allowance + w.allowance)

abbrev pub spent : View
spent = view 0 0 0

-- ---- the tally as a table of one word and no slot, and what a step on it says

abbrev pub TallyTable : Type 0
TallyTable = State (Unit {0}) View

abbrev pub Place : Type 0
Place = Me (Unit {0}) View

abbrev pub IsTallyTable : ℕ → TallyTable → Type 0
IsTallyTable start s = (length s.words ≡ 1) × IsTally start (slice_index s.words 0) s.views

-- what a share knows of the count that it finds
pub record Finds (v : View) (found : ℕ) : Type 0 where
  pub own : v.own ≤ found
  pub seen : v.seen ≤ found
  pub fits : found + v.allowance ≤ 2 ^ 64 - 1

abbrev pub Marked : Step (Unit {0}) → Place → ℕ → Place → Type 0
Marked s old found new = (new ≡ (marked old.0 found, old.1)) × Finds old.0 found

abbrev pub Looked : Step (Unit {0}) → Place → ℕ → Place → Type 0
Looked s old found new = (new ≡ (looked old.0 found, old.1)) × Finds old.0 found

abbrev pub Fitted : Step (Unit {0}) → Place → ℕ → Place → Type 0
Fitted s old found new = (new ≡ old) × Finds old.0 found
