use Rattle.std.proofs.Common.{◌≡◌, ◌++◌, ℕ, true}
use Rattle.std.specs.List.{AllByRecursion, list_any}
use Rattle.fw_book.specs.Rows.{has_live}
use Rattle.fw_book.specs.Contents.{Offered, IsEntry}
use Rattle.fw_head.specs.Head.{has_live_row}
use Rattle.fw_head.specs.Private.{live_rows}
use Rattle.fw_head.proofs.rows.Rows.live_in.Given as goal

-- the rows that are there and those of the campaigns that are left are all
abbrev pub invariant-loop-serial : goal.invariant-loop-serial
invariant-loop-serial l =
    record {
      whole : l.live.rows.entries ++ live_rows l.book.head l.serial-iterator ≡ live_rows l.book.head l.book.campaigns;
      entries : AllByRecursion (λ (entry : ℕ × Offered). IsEntry entry) l.serial-iterator;
      live : list_any (λ (entry : ℕ × Offered). has_live entry.1.rows) l.serial-iterator ≡ true → has_live_row l.book ≡ true;
    }
