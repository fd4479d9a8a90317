use Rattle.std.proofs.Common.{◌≡◌, ◌++◌, ℕ, flat_map}
use Rattle.std.specs.Prelude.{string_bytes}
use Rattle.fw_book.specs.Contents.{Offered}
use Rattle.fw_report.specs.Report.{campaign_lines}
use Rattle.fw_report.proofs.report.append_book.Given as goal

abbrev pub invariant-loop-serial : goal.invariant-loop-serial
invariant-loop-serial l =
    string_bytes l.text ++ flat_map (λ (entry : ℕ × Offered). campaign_lines l.head entry) l.serial-iterator
    ≡ string_bytes l.initial.text ++ flat_map (λ (entry : ℕ × Offered). campaign_lines l.head entry) l.book.campaigns
