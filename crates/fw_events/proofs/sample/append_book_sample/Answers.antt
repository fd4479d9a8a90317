use Rattle.std.proofs.Common.{◌++◌}
use Rattle.std.proofs.lemmas.Result.{on_ok_weaker}
use Rattle.std.specs.Prelude.{codes, string_bytes}
use Rattle.fw_events.specs.Metrics.{book_label, escaped}
use Rattle.fw_events.proofs.Parts.{onto}
use Rattle.fw_events.proofs.sample.append_book_sample.Goals as goal

pub returns : goal.returns
returns c =
    let t0 = string_bytes c.args.text.now in
    let t1 = string_bytes c.append_book_label.new.text in
    let t2 = string_bytes c.append_escaped.new.text in
    let t3 = string_bytes c.put.new.text in
    on_ok_weaker c.put.result
    (λ it. onto t0 t1 t3 (book_label c.args.head) (escaped c.args.book.now ++ codes "\"} 1\n") c.in_ok-append_book_label.ensures
    (onto t1 t2 t3 (escaped c.args.book.now) (codes "\"} 1\n") c.in_ok-append_escaped.ensures it))
    c.put.ensures
