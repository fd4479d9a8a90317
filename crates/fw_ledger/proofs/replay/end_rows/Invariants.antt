use Rattle.std.proofs.Common.{length}
use Rattle.fw_ledger.proofs.Endings.{Ends}
use Rattle.fw_ledger.proofs.replay.end_rows.Given as goal

abbrev pub invariant-loop-number : goal.invariant-loop-number
invariant-loop-number l = Ends l.initial.book l.campaign l.numbers l.book l.rest

abbrev pub decreases-loop-number : goal.decreases-loop-number
decreases-loop-number l = length l.rest
