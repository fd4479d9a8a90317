use Rattle.std.proofs.Common.{arith}
use Rattle.fw_plan.proofs.Gates.{next_row_more}
use Rattle.fw_plan.proofs.gate.next_wave.Goals as goal

pub loop-row-preserved : goal.loop-row-preserved
loop-row-preserved c =
    next_row_more c.args.rows.now c.loop-row.row-index _ c.loop-row.next c.next_after-next.result (omega (arith, c.loop-row-test.true))
    c.loop-row.invariant c.next_after-next.ensures
