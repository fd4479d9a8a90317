use Rattle.std.proofs.lemmas.Result.{on_ok_weaker}
use Rattle.std.specs.Prelude.{codes, string_bytes}
use Rattle.fw_inventory.specs.Cells.{cell_of, shown, table_cells, table_columns}
use Rattle.fw_inventory.specs.declared.cell.Column.TheVariants as column
use Rattle.fw_inventory.proofs.Told.{if_put, three_parts}
use Rattle.fw_inventory.proofs.table.append_line.Goals as goal

pub returns : goal.returns
returns c =
    on_ok_weaker c.push_str.result
    (λ it. three_parts (string_bytes c.args.text.now) (string_bytes c.append_cells.new.text) (string_bytes c.append_shown.new.text)
    (string_bytes c.push_str.new.self) (table_cells table_columns c.args.row.now c.args.offer)
    (shown (cell_of column.Offer c.args.row.now c.args.offer)) (codes "\n") c.in_ok-append_cells.ensures c.in_ok-append_shown.ensures it)
    (if_put c.push_str.result (string_bytes c.append_shown.new.text) (string_bytes c.push_str.new.self) (codes "\n") c.push_str.ensures.bytes)
