use Rattle.std.proofs.Common.{◌≡◌, ◌≤◌, ◌++◌, ℕ, flat_map}
use Rattle.std.specs.List.{AllByRecursion}
use Rattle.fw_book.specs.Contents.{Offered}
use Rattle.fw_rows.specs.Noted.{noted_of_book, noted_of_campaign}
use Rattle.fw_rows.proofs.noted.push_noted.Given as goal

abbrev pub invariant-loop-serial : goal.invariant-loop-serial
invariant-loop-serial l =
    record {
      numbered : AllByRecursion (λ (entry : ℕ × Offered). 1 ≤ entry.0) l.serial-iterator;
      rows : l.rows.items ++ flat_map (λ (entry : ℕ × Offered). noted_of_campaign l.notes l.book.head entry) l.serial-iterator
          ≡ l.initial.rows.items ++ noted_of_book l.notes l.book;
    }
