use Rattle.std.proofs.Common.{◌≤◌, length, ap, arith, rules}
use Rattle.fw_accounts.specs.Accounts.{all_of}
use Rattle.fw_accounts.proofs.Refusing.{some_of_all}
use Rattle.fw_accounts.proofs.accounts.joined.Goals as goal

pub returns-in_err-push_all-clause-memory : goal.returns-in_err-push_all-clause-memory
returns-in_err-push_all-clause-memory c =
    let some : 1 ≤ length c.of_worker-item.result =
    omega (arith, c.in_err-push_all.ensures.memory, ap length c.as_slice.ensures) in
    let all : 1 ≤ length (all_of c.args.receipts.now) =
    some_of_all c.args.receipts.now c.loop-of_worker.of_worker-index c.of_worker-item.result (omega (arith, c.loop-of_worker-test.true)) c.of_worker-item.is some in
    search rules
