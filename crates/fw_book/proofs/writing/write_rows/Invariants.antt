use Rattle.std.proofs.Common.{◌≡◌, ◌++◌, take}
use Rattle.fw_book.specs.Format.{rows_bytes}
use Rattle.fw_book.proofs.writing.write_rows.Given as goal

abbrev pub invariant-loop-row : goal.invariant-loop-row
invariant-loop-row l = l.bytes.items ≡ l.initial.bytes.items ++ rows_bytes (take l.row-index l.rows)
