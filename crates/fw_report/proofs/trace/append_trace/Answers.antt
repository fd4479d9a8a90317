use Rattle.std.proofs.Common.{◌≡◌, ◌<◌, ◌+◌, ◌∷◌, ◌++◌, length, drop, suc, add-one, ap, sym, ◌∙◌, drop-cons, arith}
use Rattle.std.specs.Prelude.{string_bytes}
use Rattle.std.proofs.lemmas.List.{drop_all}
use Rattle.fw_world.specs.World.{Datagram}
use Rattle.fw_report.specs.declared.trace.Note.{Note}
use Rattle.fw_report.specs.Trace.{line_of, note_of}
use Rattle.fw_report.proofs.Traces.{ends, goes_on}
use Rattle.fw_report.proofs.trace.append_trace.Goals as goal

pub loop-number-preserved : goal.loop-number-preserved
loop-number-preserved c =
    let sent = c.args.sent.now in
    let number = c.loop-number.number in
    let d = c.index-sent-number.result in
    let inside : number < length sent = omega arith in
    let cut : drop number sent ≡ d ∷ drop (number + 1) sent =
    rw add-one (drop-cons sent number d inside ∙ ap (λ (first : Datagram). first ∷ drop (suc number) sent) (sym c.index-sent-number.is)) in
    let notes = note_of c.args.courses.now c.args.reasons.now in
    let said = c.in_ok-append_line.ensures in
    let more = said.2 ∙ ap (λ (n : Note). string_bytes c.loop-number.text ++ line_of number d said.0 n) c.note_at-note.ensures in
    goes_on notes sent number d said.0 (string_bytes c.args.text.now) (string_bytes c.loop-number.text) (string_bytes c.append_line.new.text) c.loop-number.invariant cut said.1 more

pub returns : goal.returns
returns c =
    let sent = c.args.sent.now in
    let number = c.loop-number.number in
    ends (note_of c.args.courses.now c.args.reasons.now) sent number (string_bytes c.args.text.now) (string_bytes c.loop-number.text) c.loop-number.invariant (drop_all number sent (omega arith))
