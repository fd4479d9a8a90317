use Rattle.std.proofs.Common.{◌≡◌, ◌++◌, ◌%◌, length}
use Rattle.fw_ledger.specs.Entry.{meters_bytes, MetersFit}
use Rattle.fw_ledger.proofs.reading.meters_of.Given as goal

abbrev pub invariant-loop-meter : goal.invariant-loop-meter
invariant-loop-meter l = record { read : l.bytes ≡ meters_bytes l.meters.items ++ l.rest; fit : MetersFit l.meters.items; fours : length l.rest % 4 ≡ 0 }

abbrev pub decreases-loop-meter : goal.decreases-loop-meter
decreases-loop-meter l = length l.rest
