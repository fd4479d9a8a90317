use Rattle.std.proofs.Common.{subst, arith}
use Rattle.std.specs.Prelude.{All}
use Rattle.fw_head_audit.specs.Heads.{IsOrderly}
use Rattle.fw_head_audit.proofs.Lists.{all_more, log_all}
use Rattle.fw_head_audit.proofs.audit.audit_sends.Goals as goal

pub loop-at-preserved : goal.loop-at-preserved
loop-at-preserved c =
    all_more (IsOrderly c.args.book.now c.args.meters.now) c.args.items.now c.loop-at.at _ (omega (arith, c.loop-at-test.true)) c.loop-at.invariant
    (rw c.in-Ok-true.field-0-test at c.in-Ok-true.ensures)

pub returns-clause-offered : goal.returns-clause-offered
returns-clause-offered c =
    subst (All (IsOrderly c.args.book.now c.args.meters.now)) (log_all c.args.items.now c.loop-at.at (omega (arith, c.loop-at-test.false))) c.loop-at.invariant
