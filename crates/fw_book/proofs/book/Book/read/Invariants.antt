use Rattle.std.proofs.Common.{◌++◌, ℕ, List, length}
use Rattle.fw_book.specs.Contents.{Offered, IsBook}
use Rattle.fw_book.specs.Format.{IsReadAs}
use Rattle.fw_book.specs.Private.{AreEntries}
use Rattle.fw_book.proofs.book.Book.read.Given as goal

-- the campaigns that were read, and those that stand in the rest, are those of the book that the bytes are read as
abbrev pub invariant-loop-entry : goal.invariant-loop-entry
invariant-loop-entry l =
    record {
      left : List (ℕ × Offered);
      are : AreEntries l.front.version l.rest left;
      is_book : IsBook (record { head = l.book.head; campaigns = l.book.campaigns ++ left });
      is_read : IsReadAs l.bytes (record { head = l.book.head; campaigns = l.book.campaigns ++ left });
    }

abbrev pub decreases-loop-entry : goal.decreases-loop-entry
decreases-loop-entry l = length l.rest
