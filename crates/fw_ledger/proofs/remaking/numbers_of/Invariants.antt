use Rattle.std.proofs.Common.{◌≡◌, ◌++◌, length}
use Rattle.fw_ledger.specs.Remade.{numbers_of}
use Rattle.fw_ledger.proofs.remaking.numbers_of.Given as goal

abbrev pub invariant-loop-row : goal.invariant-loop-row
invariant-loop-row l = l.numbers.items ++ numbers_of l.rest ≡ numbers_of l.rows

abbrev pub decreases-loop-row : goal.decreases-loop-row
decreases-loop-row l = length l.rest
