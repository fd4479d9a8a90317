use Rattle.std.proofs.Common.{◌≡◌, ℕ, nat_eq, take}
use Rattle.std.specs.HashMap.{get}
use Rattle.fw_plan.specs.Private.{after_rows}
use Rattle.fw_plan.proofs.rows.note_rows.Given as goal

-- the rows so far are noted
abbrev pub invariant-loop-row : goal.invariant-loop-row
invariant-loop-row l = (meter : ℕ) → get nat_eq l.states meter ≡ after_rows (get nat_eq l.fn.states meter) (take l.row-index l.rows) meter
