use Rattle.std.proofs.Common.{◌≡◌, ◌++◌, ◌∙◌, ℕ, List, [], ap, subst}
use Rattle.std.specs.Prelude.{string_bytes}
use Rattle.fw_events.specs.Metrics.{book_family, counters, rows_family}
use Rattle.fw_events.proofs.Parts.{onto}
use Rattle.fw_events.proofs.metrics.metrics_page.Goals as goal

pub returns : goal.returns
returns c =
    let t0 = string_bytes c.new-page.result in
    let t1 = string_bytes c.append_book.new.text in
    let t2 = string_bytes c.append_rows.new.text in
    let t3 = string_bytes c.append_counters.new.text in
    let book = λ (n : ℕ). book_family n c.args.book.now in
    let rows = λ (n : ℕ). rows_family n c.args.campaigns.now in
    let counted = λ (n : ℕ). counters n c.args.figures in
    let n = c.number-number.result in
    subst (λ (n : ℕ). t3 ≡ book n ++ (rows n ++ counted n)) c.number-number.ensures.value
    (onto t0 t1 t3 (book n) (rows n ++ counted n) c.in_ok-append_book.ensures
    (onto t1 t2 t3 (rows n) (counted n) c.in_ok-append_rows.ensures c.in_ok-append_counters.ensures)
    ∙ ap (λ (t : List ℕ). t ++ (book n ++ (rows n ++ counted n))) c.new-page.ensures.bytes)
