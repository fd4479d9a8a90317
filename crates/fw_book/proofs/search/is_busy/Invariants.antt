use Rattle.std.proofs.Common.{ℕ, List, length}
use Rattle.fw_book.specs.Contents.{Offered, is_busy}
use Rattle.fw_book.specs.Private.{AreEntries}
use Rattle.fw_book.proofs.Walks.{Left}
use Rattle.fw_book.proofs.search.is_busy.Given as goal

abbrev pub invariant-loop-entry : goal.invariant-loop-entry
invariant-loop-entry l = (list : List (ℕ × Offered)) → AreEntries l.version l.entries list → Left l.version (λ (xs : List (ℕ × Offered)). is_busy xs l.meter) list l.rest

abbrev pub decreases-loop-entry : goal.decreases-loop-entry
decreases-loop-entry l = length l.rest
