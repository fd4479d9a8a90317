use Rattle.std.proofs.Common.{◌++◌, ◌∙◌, ap, List, ℕ}
use Rattle.std.proofs.lemmas.Result.{on_ok_weaker}
use Rattle.std.specs.Prelude.{codes, string_bytes}
use Rattle.fw_rows.specs.States.{state_word}
use Rattle.fw_status.specs.Page.{width_html}
use Rattle.fw_status.proofs.Told.{onto}
use Rattle.fw_status.proofs.page.append_part.Goals as goal

pub returns : goal.returns
returns c =
    let t0 = string_bytes c.args.text.now in
    let t1 = string_bytes c.put.new.text in
    let t2 = string_bytes c.put-2.new.text in
    let t3 = string_bytes c.append_width.new.text in
    on_ok_weaker c.append_width.result
    (λ it. onto t0 t1 t3 (codes "<i class=") ((state_word c.args.state) ++ (width_html c.args.count)) c.in_ok-put.ensures
    (onto t1 t2 t3 (state_word c.args.state) (width_html c.args.count) (c.in_ok-put-2.ensures ∙ ap (λ (w : List ℕ). t1 ++ w) c.state_word.ensures)
    (it)))
    c.append_width.ensures
