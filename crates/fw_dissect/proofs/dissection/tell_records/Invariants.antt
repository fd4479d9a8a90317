use Rattle.std.proofs.Common.{◌≡◌, ◌+◌, ◌-◌, ◌≤◌, ◌^◌}
use Rattle.std.specs.Prelude.{is_some}
use Rattle.std.specs.Option.{option_map}
use Rattle.fw_dissect.proofs.Flow.{SoFar}
use Rattle.fw_dissect.proofs.dissection.tell_records.Given as goal

abbrev pub invariant-records : goal.invariant-records
invariant-records g l = record {
  counted : l.number + 24 ≤ l.offset;
  present : is_some l.plain ≡ is_some l.initial.plain;
  so_far : SoFar l.times l.links l.format l.number l.offset (g.R.Read.remaining l.initial.reader) (g.R.Read.remaining l.reader)
      (g.W.Write.contents l.initial.writer) (g.W.Write.contents l.writer) (option_map g.C.Write.contents l.initial.plain) (option_map g.C.Write.contents l.plain);
}

abbrev pub decreases-records : goal.decreases-records
decreases-records g l = 2 ^ 64 - l.offset
