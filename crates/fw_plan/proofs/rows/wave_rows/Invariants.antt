use Rattle.std.proofs.Common.{◌≡◌, take}
use Rattle.fw_plan.specs.Waves.{wave_rows}
use Rattle.fw_plan.proofs.rows.wave_rows.Given as goal

-- the rows of the meters so far are there
abbrev pub invariant-loop-of : goal.invariant-loop-of
invariant-loop-of l = l.rows.items ≡ wave_rows l.book (take l.of-index l.meters)
