use Rattle.std.proofs.Common.{◌≡◌, ◌<◌, ◌^◌, take, map}
use Rattle.std.specs.List.{AllByRecursion}
use Rattle.fw_book.specs.Rows.{live_row, meters_of}
use Rattle.fw_book.proofs.meters.live_rows.Given as goal

abbrev pub invariant-loop-meter : goal.invariant-loop-meter
invariant-loop-meter l =
    record {
      rows : l.rows.items ≡ map live_row (take l.meter-index l.meters);
      fit : AllByRecursion (λ meter. meter < 2 ^ 32) (meters_of l.rows.items);
    }
