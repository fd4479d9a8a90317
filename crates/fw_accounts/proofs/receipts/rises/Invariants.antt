use Rattle.fw_accounts.proofs.Rising.{RisesBelow}
use Rattle.fw_accounts.proofs.receipts.rises.Given as goal

abbrev pub invariant-loop-i : goal.invariant-loop-i
invariant-loop-i l = RisesBelow l.receipts l.i
