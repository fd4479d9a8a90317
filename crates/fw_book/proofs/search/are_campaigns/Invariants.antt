use Rattle.std.proofs.Common.{◌≡◌, ◌++◌, ℕ, List, length}
use Rattle.fw_book.specs.Contents.{Offered, IsBook}
use Rattle.fw_book.specs.Format.{entries_bytes}
use Rattle.fw_book.specs.Private.{TellsAll}
use Rattle.fw_book.proofs.search.are_campaigns.Given as goal

-- campaigns of a book stand before the rest
abbrev pub invariant-loop-rest : goal.invariant-loop-rest
invariant-loop-rest l =
    record {
      campaigns : List (ℕ × Offered);
      is_book : IsBook (record { head = l.fn.head; campaigns = campaigns });
      tells : TellsAll l.fn.version campaigns;
      before : l.entries ≡ entries_bytes l.fn.version campaigns ++ l.rest;
    }

abbrev pub decreases-loop-rest : goal.decreases-loop-rest
decreases-loop-rest l = length l.rest
