use Rattle.std.proofs.Common.{flat_map}
use Rattle.std.proofs.lemmas.Result.{on_ok_weaker}
use Rattle.std.specs.Prelude.{string_bytes}
use Rattle.fw_inventory.specs.Cells.{table_headings, table_line}
use Rattle.fw_inventory.proofs.Told.{onto}
use Rattle.fw_survey.specs.Rows.{Row}
use Rattle.fw_inventory.proofs.table.append_table.Goals as goal

pub returns : goal.returns
returns c =
    on_ok_weaker c.append_lines.result
    (λ it. onto (string_bytes c.args.text.now) (string_bytes c.push_str.new.self) (string_bytes c.append_lines.new.text) table_headings
    (flat_map (λ (row : Row). table_line c.args.offer row) c.args.rows.now) c.in_ok-push_str.ensures.bytes it)
    c.append_lines.ensures
