use Rattle.std.proofs.Common.{◌≡◌, ◌++◌, ℕ}
use Rattle.std.specs.List.{AllByRecursion}
use Rattle.fw_book.specs.declared.version.Version.TheVariants.{Second}
use Rattle.fw_book.specs.Contents.{Offered, IsEntry}
use Rattle.fw_book.specs.Format.{entries_bytes, book_bytes}
use Rattle.fw_book.proofs.book.Book.write.Given as goal

abbrev pub invariant-loop-serial : goal.invariant-loop-serial
invariant-loop-serial l =
    record {
      written : l.bytes.items ++ entries_bytes Second l.serial-iterator ≡ book_bytes Second l.self;
      entries : AllByRecursion (λ (entry : ℕ × Offered). IsEntry entry) l.serial-iterator;
    }
