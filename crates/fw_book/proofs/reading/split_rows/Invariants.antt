use Rattle.std.proofs.Common.{◌≡◌, ◌++◌, List, length}
use Rattle.fw_book.specs.declared.row.Row.{Row}
use Rattle.fw_book.specs.Format.{rows_bytes}
use Rattle.fw_book.specs.Private.{MetersFit}
use Rattle.fw_book.proofs.reading.split_rows.Given as goal

abbrev pub invariant-loop : goal.invariant-loop
invariant-loop l =
    record {
      rows : List Row;
      found : l.bytes ≡ rows_bytes rows ++ l.rest;
      count : length rows ≡ l.counter;
      fit : MetersFit rows;
    }
