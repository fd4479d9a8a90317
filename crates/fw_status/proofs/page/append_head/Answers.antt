use Rattle.std.proofs.Common.{◌++◌, ◌∙◌, ap, List, ℕ}
use Rattle.std.proofs.lemmas.Result.{on_ok_weaker}
use Rattle.std.specs.Prelude.{codes, string_bytes}
use Rattle.fw_status.specs.Page.{bar_style, page_top, state_style, table_style, text_style}
use Rattle.fw_status.proofs.Told.{onto}
use Rattle.fw_status.proofs.page.append_head.Goals as goal

pub returns : goal.returns
returns c =
    let t0 = string_bytes c.args.text.now in
    let t1 = string_bytes c.put.new.text in
    let t2 = string_bytes c.put-2.new.text in
    let t3 = string_bytes c.put-3.new.text in
    let t4 = string_bytes c.put-4.new.text in
    let t5 = string_bytes c.put-5.new.text in
    on_ok_weaker c.put-5.result
    (λ it. onto t0 t1 t5 page_top (text_style ++ (bar_style ++ (state_style ++ table_style))) c.in_ok-put.ensures
    (onto t1 t2 t5 text_style (bar_style ++ (state_style ++ table_style)) c.in_ok-put-2.ensures
    (onto t2 t3 t5 bar_style (state_style ++ table_style) c.in_ok-put-3.ensures
    (onto t3 t4 t5 state_style table_style c.in_ok-put-4.ensures
    (it)))))
    c.put-5.ensures
