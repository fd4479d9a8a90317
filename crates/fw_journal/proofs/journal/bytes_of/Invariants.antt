use Rattle.std.proofs.Common.{◌≡◌, [], ◌∷◌, ◌++◌, length}
use Rattle.fw_journal.specs.Book.{blocks, book_bytes, contents_of, AreRecords}
use Rattle.fw_journal.proofs.journal.bytes_of.Given as goal

abbrev pub invariant-loop-record : goal.invariant-loop-record
invariant-loop-record l = record { fit : AreRecords (contents_of l.rest); so_far : l.bytes.items ++ (blocks (contents_of l.rest) ++ 0 ∷ []) ≡ book_bytes (contents_of l.records) }

abbrev pub decreases-loop-record : goal.decreases-loop-record
decreases-loop-record l = length l.rest
