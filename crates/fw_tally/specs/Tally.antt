-- Public vocabulary: what contracts see of a tally and of its shares.
use Rattle.std.specs.Prelude.{ℕ}
use Rattle.atomic_table.specs.Seated.{TableId}

-- which tally it is
abbrev pub TallyId : Type 0
TallyId = TableId

-- a tally: which one it is, and the count that it began with
pub record Tally : Type 0 where
  pub id : TallyId
  pub start : ℕ

-- a share: of which tally it is, how many marks it made, a count that the tally has reached, and how many marks are left to it
pub record Share : Type 0 where
  pub tally : TallyId
  pub own : ℕ
  pub seen : ℕ
  pub allowance : ℕ
