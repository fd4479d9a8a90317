use Rattle.std.proofs.Common.{◌∙◌, ◌++◌, ℕ, ap, refl}
use Rattle.std.proofs.lemmas.Result.{on_ok_weaker}
use Rattle.std.specs.Prelude.{codes, string_bytes}
use Rattle.fw_status.specs.Page.{table_head}
use Rattle.fw_status.specs.Rows.{count_of}
use Rattle.fw_status.proofs.Told.{three_parts}
use Rattle.fw_status.proofs.page.append_table.Goals as goal

pub returns : goal.returns
returns c =
    let head = table_head c.args.state (count_of c.args.state c.args.rows.now) in
    let begun = c.in_ok-append_table_head.ensures ∙ ap (λ (n : ℕ). string_bytes c.args.text.now ++ table_head c.args.state n) c.count_of.ensures in
    let lines = c.in_ok-append_lines.ensures in
    on_ok_weaker c.put.result
    (λ it. (
      head ++ (lines.0 ++ codes "</table></details>\n"),
      (lines.0, lines.1, refl),
      three_parts (string_bytes c.args.text.now) (string_bytes c.append_table_head.new.text) (string_bytes c.append_lines.new.text) (string_bytes c.put.new.text)
          head lines.0 (codes "</table></details>\n") begun lines.2 it,
    ))
    c.put.ensures
