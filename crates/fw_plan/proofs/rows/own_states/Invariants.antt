use Rattle.std.proofs.Common.{◌≡◌, ℕ, nat_eq}
use Rattle.std.specs.HashMap.{get}
use Rattle.fw_plan.specs.Private.{after_rows}
use Rattle.fw_plan.specs.Waves.{own_state, rows_of}
use Rattle.fw_plan.proofs.rows.own_states.Given as goal

-- what is noted, with the rows of the campaigns that are left, is all
abbrev pub invariant-loop-serial : goal.invariant-loop-serial
invariant-loop-serial l = (meter : ℕ) → after_rows (get nat_eq l.states meter) (rows_of l._serial-iterator) meter ≡ own_state l.book meter
