use Rattle.std.proofs.Common.{flat_map}
use Rattle.std.proofs.lemmas.Result.{on_ok_weaker}
use Rattle.std.specs.Prelude.{string_bytes}
use Rattle.fw_inventory.specs.Cells.{csv_headings, csv_line}
use Rattle.fw_inventory.proofs.Told.{onto}
use Rattle.fw_survey.specs.Rows.{Row}
use Rattle.fw_inventory.proofs.csv.append_csv.Goals as goal

pub returns : goal.returns
returns c =
    on_ok_weaker c.append_lines.result
    (λ it. onto (string_bytes c.args.text.now) (string_bytes c.push_str.new.self) (string_bytes c.append_lines.new.text) csv_headings
    (flat_map (λ (row : Row). csv_line c.args.offer row) c.args.rows.now) c.in_ok-push_str.ensures.bytes it)
    c.append_lines.ensures
