use Rattle.std.proofs.Common.{◌≡◌, Some, inl, inr, subst, sym, ◌∙◌}
use Rattle.std.specs.Option.{option_map}
use Rattle.std.proofs.KnownBytes.{Keeps-refl}
use Rattle.fw_capture.specs.declared.fault.CaptureError.{CaptureError}
use Rattle.fw_dissect.specs.Streams.{Dissects}
use Rattle.fw_dissect.proofs.Flow.{front_of_whole}
use Rattle.fw_cli.specs.declared.trace.TraceError.TheVariants as trace
use Rattle.fw_cli.proofs.Dissected.{asked_fault, cut_fault, other_fault}
use Rattle.fw_cli.proofs.trace.run_trace.Goals as goal

pub returns-in-Ok-None-clause-ok : goal.returns-in-Ok-None-clause-ok
returns-in-Ok-None-clause-ok g c = rw c.in-Ok-None.field-0-is at c.in-Ok-None.ensures.tells

pub returns-in-Ok-Some-clause-bad_capture : goal.returns-in-Ok-Some-clause-bad_capture
returns-in-Ok-Some-clause-bad_capture g c = λ error found.
    let same : c.in-Ok-Some.error ≡ error = cc in
    inl (subst (λ (e : CaptureError). Dissects c.args.times c.args.links.now (Some e) (g.R.Read.remaining c.args.reader.now) (g.R.Read.remaining c.dissect.new.reader)
    (g.W.Write.contents c.args.writer.now) (g.W.Write.contents c.dissect.new.writer) (option_map g.C.Write.contents c.args.plain.now)
    (option_map g.C.Write.contents c.dissect.new.plain)) same (rw c.in-Ok-Some.field-0-is at c.in-Ok-Some.ensures.tells))

pub returns-in-Ok-Some-clause-front : goal.returns-in-Ok-Some-clause-front
returns-in-Ok-Some-clause-front g c = λ other.
    let last = g.W.Write.contents c.dissect.new.writer in
    front_of_whole c.args.times c.args.links.now (g.R.Read.remaining c.args.reader.now) (g.W.Write.contents c.args.writer.now) last last (Keeps-refl last) _
    (g.R.Read.remaining c.dissect.new.reader) (option_map g.C.Write.contents c.args.plain.now) (option_map g.C.Write.contents c.dissect.new.plain) c.in-Ok-Some.ensures.tells

-- ---- where something else ends it

pub returns-in-Err-clause-front : goal.returns-in-Err-clause-front
returns-in-Err-clause-front g c = rw c.trace_error.ensures (other_fault c.in-Err.error c.in-Err.ensures.front)

pub returns-in-Err-clause-bad_capture : goal.returns-in-Err-clause-bad_capture
returns-in-Err-clause-bad_capture g c = λ error found.
    let same : c.trace_error.result ≡ trace.BadCapture error = cc in
    inr (cut_fault c.args.links.now (g.R.Read.remaining c.args.reader.now) c.in-Err.error error c.in-Err.ensures.cause (sym c.trace_error.ensures ∙ same))

pub returns-in-Err-clause-asked : goal.returns-in-Err-clause-asked
returns-in-Err-clause-asked g c = λ found.
    let same : c.trace_error.result ≡ trace.CaptureFault = cc in
    asked_fault c.in-Err.error c.in-Err.ensures.asked (sym c.trace_error.ensures ∙ same)
