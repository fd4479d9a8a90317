use Rattle.std.proofs.Common.{◌≡◌, ◌++◌, ℕ, flat_map}
use Rattle.fw_book.specs.Contents.{Offered}
use Rattle.fw_report.specs.Summary.{rows_of_campaign}
use Rattle.fw_report.proofs.summary.push_book.Given as goal

abbrev pub invariant-loop-serial : goal.invariant-loop-serial
invariant-loop-serial l =
    l.rows.items ++ flat_map (λ (entry : ℕ × Offered). rows_of_campaign l.head entry) l.serial-iterator
    ≡ l.initial.rows.items ++ flat_map (λ (entry : ℕ × Offered). rows_of_campaign l.head entry) l.book.campaigns
