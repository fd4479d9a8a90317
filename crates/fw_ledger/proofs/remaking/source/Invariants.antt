use Rattle.std.proofs.Common.{ℕ, List, length}
use Rattle.fw_book.specs.Contents.{Offered}
use Rattle.fw_ledger.specs.Remade.{HaveSerials}
use Rattle.fw_ledger.proofs.remaking.source.Given as goal

abbrev pub invariant-loop-serial : goal.invariant-loop-serial
invariant-loop-serial l = (front : List (ℕ × Offered)) → HaveSerials front l.shown → HaveSerials front l.rest

abbrev pub decreases-loop-serial : goal.decreases-loop-serial
decreases-loop-serial l = length l.rest
