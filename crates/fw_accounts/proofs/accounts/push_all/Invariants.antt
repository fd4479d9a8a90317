use Rattle.std.proofs.Common.{◌≡◌, ◌++◌, take}
use Rattle.fw_accounts.proofs.accounts.push_all.Given as goal

abbrev pub invariant-loop-receipt : goal.invariant-loop-receipt
invariant-loop-receipt l = l.all.items ≡ l.initial.all.items ++ take l.receipt-index l.receipts
