use Rattle.std.specs.Prelude.{string_bytes}
use Rattle.fw_report.specs.Trace.{note_of}
use Rattle.fw_report.proofs.Traces.{SoFar}
use Rattle.fw_report.proofs.trace.append_trace.Given as goal

abbrev pub invariant-loop-number : goal.invariant-loop-number
invariant-loop-number l = SoFar (note_of l.courses l.reasons) l.sent l.number (string_bytes l.initial.text) (string_bytes l.text)
