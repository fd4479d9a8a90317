use Rattle.fw_capture.proofs.Filling.{Filling}
use Rattle.fw_capture.proofs.whole.fill.Given as goal

abbrev pub invariant-loop : goal.invariant-loop
invariant-loop g l = Filling l.len (g.R.Read.remaining l.initial.reader) (g.R.Read.remaining l.reader) l.initial.bytes.items l.bytes.items
