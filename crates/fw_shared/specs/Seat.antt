-- Public vocabulary: what contracts see of boards and seats.
use Rattle.std.specs.Prelude.{ℕ, List, [], ◌∷◌, ◌++◌}
use Rattle.fw_tally.specs.Tally.{TallyId}
use Rattle.fw_world.specs.Step.{Event}
use Rattle.fw_air.specs.Events.{Receipt}

-- a board: which one it is, and the count that it began with
pub record Board : Type 0 where
  pub id : TallyId
  pub start : ℕ

-- A seat: of which board it is, how many marks it made, a count that the board has reached, how many marks are left to it, and the
-- receipts.
pub record Seat : Type 0 where
  pub board : TallyId
  pub own : ℕ
  pub seen : ℕ
  pub allowance : ℕ
  pub receipts : List Receipt

-- a seat with one receipt more
abbrev pub noted : Seat → ℕ → Event → Seat
noted seat number event = record seat { receipts = seat.receipts ++ (record { number = number; event = event }) ∷ [] }
