use Rattle.std.proofs.Common.{take}
use Rattle.fw_plan.specs.Waves.{IsFirst}
use Rattle.fw_plan.proofs.gate.next_wave.Given as goal

-- the first wave with a live row among the rows so far
abbrev pub invariant-loop-row : goal.invariant-loop-row
invariant-loop-row l = IsFirst (take l.row-index l.rows) l.next
