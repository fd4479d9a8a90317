use Rattle.std.proofs.Common.{rules, ◌≡◌, ◌≤◌, length, arith}
use Rattle.fw_audit.proofs.Items.{log_size, other_at, start_at}
use Rattle.fw_audit.proofs.audit.starts.Goals as goal

pub returns-clause-start : goal.returns-clause-start
returns-clause-start c is inside =
    let some : 1 ≤ length c.args.items.now = search rules in
    start_at c.args.items.now 0 _ (omega arith) (c.is_start.ensures.start is)

pub returns-clause-other : goal.returns-clause-other
returns-clause-other c is =
    let some : 1 ≤ length c.args.items.now = search rules in
    other_at c.args.items.now 0 _ (omega arith) (c.is_start.ensures.other is)

pub returns-then-is_empty-clause-start : goal.returns-then-is_empty-clause-start
returns-then-is_empty-clause-start c is inside =
    let none : length c.args.items.now ≡ 0 = search rules in
    absurd (omega (arith, log_size c.args.items.now))
