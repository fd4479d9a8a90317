use Rattle.std.proofs.Common.{rules, ◌≡◌, ◌≤◌, length, arith}
use Rattle.fw_audit.proofs.Lives.{last_is_open, last_open, some_last}
use Rattle.fw_audit.proofs.life.ends_open.Goals as goal

pub returns-then-is_empty-clause-closed : goal.returns-then-is_empty-clause-closed
returns-then-is_empty-clause-closed c is ends =
    let none : length c.args.items.now ≡ 0 = search rules in
    omega (arith, some_last c.args.items.now ends)

pub returns-clause-open : goal.returns-clause-open
returns-clause-open c is =
    let some : 1 ≤ length c.args.items.now = search rules in
    last_open c.args.items.now _ some (c.is_open.ensures.open is)

pub returns-clause-closed : goal.returns-clause-closed
returns-clause-closed c is ends =
    let some : 1 ≤ length c.args.items.now = search rules in
    c.is_open.ensures.closed is (last_is_open c.args.items.now _ some ends)
