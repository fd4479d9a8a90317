use Rattle.std.proofs.Common.{ℕ, nat_eq, is_some, List, length}
use Rattle.std.specs.Map.{lookup}
use Rattle.fw_book.specs.Contents.{Offered}
use Rattle.fw_book.specs.Private.{AreEntries}
use Rattle.fw_book.proofs.Walks.{Left}
use Rattle.fw_book.proofs.search.has_serial.Given as goal

abbrev pub invariant-loop-entry : goal.invariant-loop-entry
invariant-loop-entry l = (list : List (ℕ × Offered)) → AreEntries l.version l.entries list → Left l.version (λ (xs : List (ℕ × Offered)). is_some (lookup (nat_eq l.serial) xs)) list l.rest

abbrev pub decreases-loop-entry : goal.decreases-loop-entry
decreases-loop-entry l = length l.rest
