use Rattle.std.proofs.Common.{◌≡◌, ◌++◌, length}
use Rattle.fw_journal.specs.Book.{book_front, contents_of, AreRecords}
use Rattle.fw_journal.proofs.reading.read_book.Given as goal

abbrev pub invariant-loop-behind : goal.invariant-loop-behind
invariant-loop-behind l = record { read : l.bytes ≡ book_front (contents_of l.records.items) ++ l.rest; fit : AreRecords (contents_of l.records.items) }

abbrev pub decreases-loop-behind : goal.decreases-loop-behind
decreases-loop-behind l = length l.rest
