use Rattle.std.proofs.Common.{◌≡◌, ◌++◌, take}
use Rattle.fw_ledger.specs.Entry.{meters_bytes, MetersFit}
use Rattle.fw_ledger.proofs.writing.put_meters.Given as goal

abbrev pub invariant-loop-meter : goal.invariant-loop-meter
invariant-loop-meter l = record { written : l.bytes.items ≡ l.initial.bytes.items ++ meters_bytes (take l.meter-index l.meters); fit : MetersFit (take l.meter-index l.meters) }
