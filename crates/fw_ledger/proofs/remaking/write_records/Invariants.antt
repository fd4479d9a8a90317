use Rattle.std.proofs.Common.{◌≡◌, ◌++◌, ℕ, List}
use Rattle.fw_book.specs.Contents.{Offered}
use Rattle.fw_ledger.proofs.Remade.{Goes}
use Rattle.fw_ledger.proofs.Renoted.{Told}
use Rattle.fw_ledger.proofs.remaking.write_records.Given as goal

abbrev pub invariant-loop-serial : goal.invariant-loop-serial
invariant-loop-serial l =
    record {
      front : List (ℕ × Offered);
      split : l.book.campaigns ≡ front ++ l.serial-iterator;
      goes : Goes l.book front l.records.items l.shown.items;
      told : Told l.book.head l.notes front l.records.items;
    }
