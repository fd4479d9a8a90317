use Rattle.std.proofs.Common.{◌≡◌, ◌++◌, take}
use Rattle.std.specs.Prelude.{string_bytes}
use Rattle.fw_inventory.specs.Cells.{csv_cells}
use Rattle.fw_inventory.proofs.csv.append_cells.Given as goal

abbrev pub invariant-loop-column : goal.invariant-loop-column
invariant-loop-column l = string_bytes l.text ≡ string_bytes l.initial.text ++ csv_cells (take l.column-index l.columns) l.row l.offer
