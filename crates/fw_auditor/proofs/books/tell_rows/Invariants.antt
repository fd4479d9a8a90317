use Rattle.std.proofs.Common.{◌≡◌, take}
use Rattle.std.specs.Prelude.{All}
use Rattle.fw_book.specs.Contents.{Contents}
use Rattle.fw_fleet_audit.specs.Rows.{AreBorneOut}
use Rattle.fw_auditor.proofs.books.tell_rows.Given as goal

-- if none departed, the rows of each book so far are borne out
abbrev pub invariant-loop-at : goal.invariant-loop-at
invariant-loop-at g l = l.departed ≡ 0 → All (λ (book : Contents). AreBorneOut book l.meters) (take l.at l.books)
