use Rattle.std.proofs.Common.{◌++◌, ◌∙◌, ap, List, ℕ}
use Rattle.std.proofs.lemmas.Result.{on_ok_weaker}
use Rattle.std.specs.Prelude.{codes, string_bytes}
use Rattle.fw_rows.specs.States.{state_word}
use Rattle.fw_status.specs.Page.{count_html, details_tag}
use Rattle.fw_status.proofs.Told.{onto}
use Rattle.fw_status.proofs.page.append_table_head.Goals as goal

pub returns : goal.returns
returns c =
    let t0 = string_bytes c.args.text.now in
    let t1 = string_bytes c.put.new.text in
    let t2 = string_bytes c.append_count.new.text in
    let t3 = string_bytes c.put-2.new.text in
    let t4 = string_bytes c.put-3.new.text in
    let t5 = string_bytes c.put-4.new.text in
    on_ok_weaker c.put-4.result
    (λ it. onto t0 t1 t5 (details_tag c.args.state) ((count_html c.args.count) ++ ((state_word c.args.state) ++ ((codes "</summary>\n<table>\n") ++ (codes "<tr><th>campaign<th>meter<th>ended<th>reason\n")))) (c.in_ok-put.ensures ∙ ap (λ (w : List ℕ). t0 ++ w) c.details_tag.ensures)
    (onto t1 t2 t5 (count_html c.args.count) ((state_word c.args.state) ++ ((codes "</summary>\n<table>\n") ++ (codes "<tr><th>campaign<th>meter<th>ended<th>reason\n"))) c.in_ok-append_count.ensures
    (onto t2 t3 t5 (state_word c.args.state) ((codes "</summary>\n<table>\n") ++ (codes "<tr><th>campaign<th>meter<th>ended<th>reason\n")) (c.in_ok-put-2.ensures ∙ ap (λ (w : List ℕ). t2 ++ w) c.state_word.ensures)
    (onto t3 t4 t5 (codes "</summary>\n<table>\n") (codes "<tr><th>campaign<th>meter<th>ended<th>reason\n") c.in_ok-put-3.ensures
    (it)))))
    c.put-4.ensures
