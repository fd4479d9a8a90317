use Rattle.std.proofs.Common.{◌≡◌, take}
use Rattle.fw_accounts.specs.Accounts.{all_of}
use Rattle.fw_accounts.proofs.accounts.joined.Given as goal

abbrev pub invariant-loop-of_worker : goal.invariant-loop-of_worker
invariant-loop-of_worker l = l.all.items ≡ all_of (take l.of_worker-index l.receipts)
