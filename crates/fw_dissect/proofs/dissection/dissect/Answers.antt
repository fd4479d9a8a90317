use Rattle.std.proofs.Common.{◌≡◌, ◌≢◌, Option, subst}
use Rattle.std.specs.Prelude.{IsTrue, is_some}
use Rattle.std.specs.Option.{option_map}
use Rattle.std.proofs.lemmas.Result.{IfErr-at_err, IfOk-at_ok, err_from_is_err_and}
use Rattle.fw_capture.specs.declared.fault.CaptureError.{CaptureError}
use Rattle.fw_dissect.specs.declared.error.DissectError.{DissectError}
use Rattle.fw_dissect.specs.declared.error.DissectError.TheVariants as error
use Rattle.fw_dissect.specs.Streams.{Dissects, HasCause, IsOfPlain, TellsFront}
use Rattle.fw_dissect.specs.Private.{IsOfNoRecord}
use Rattle.fw_dissect.proofs.Flow.{front_kept, front_of_whole, no_record, whole_kept}
use Rattle.fw_dissect.proofs.dissection.dissect.Goals as goal

-- ---- where it isn't told up to its end or its first fault

pub returns-in_err-ending-clause-front : goal.returns-in_err-ending-clause-front
returns-in_err-ending-clause-front g c =
    let times = c.args.times in
    let links = c.args.links.now in
    let before = g.R.Read.remaining c.args.reader.now in
    let first = g.W.Write.contents c.args.writer.now in
    let last = g.W.Write.contents c.tell_capture-ended.new.writer in
    let p = err_from_is_err_and c.from_residual.result c.from_residual.ensures.1 in
    let front = IfErr-at_err (λ (e : DissectError). e ≢ error.Output → TellsFront times links before first last) c.in_err-ending.was c.tell_capture-ended.ensures.front in
    rw (p.1, p.2) (λ other. front_kept times links before first last (g.W.Write.contents c.flush-flushed.new.writer) c.flush-flushed.ensures.lines (front other))

pub returns-in_err-ending-clause-cause : goal.returns-in_err-ending-clause-cause
returns-in_err-ending-clause-cause g c = λ capture is.
    let p = err_from_is_err_and c.from_residual.result c.from_residual.ensures.1 in
    rw (p.1, p.2) (IfErr-at_err (λ (e : DissectError). HasCause c.args.links.now capture e) c.in_err-ending.was (c.tell_capture-ended.ensures.cause capture is))

pub returns-in_err-ending-clause-asked : goal.returns-in_err-ending-clause-asked
returns-in_err-ending-clause-asked g c =
    let p = err_from_is_err_and c.from_residual.result c.from_residual.ensures.1 in
    rw (p.1, p.2) (IfErr-at_err (λ (e : DissectError). IsOfPlain e → IsTrue (is_some c.args.plain.now)) c.in_err-ending.was c.tell_capture-ended.ensures.asked)

-- ---- where it is, and can't be flushed

pub returns-in_err-flushed-clause-front : goal.returns-in_err-flushed-clause-front
returns-in_err-flushed-clause-front g c =
    let times = c.args.times in
    let links = c.args.links.now in
    let before = g.R.Read.remaining c.args.reader.now in
    let after = g.R.Read.remaining c.tell_capture-ended.new.reader in
    let first = g.W.Write.contents c.args.writer.now in
    let last = g.W.Write.contents c.tell_capture-ended.new.writer in
    let plain_first = option_map g.C.Write.contents c.args.plain.now in
    let plain_last = option_map g.C.Write.contents c.tell_capture-ended.new.plain in
    let p = err_from_is_err_and c.from_residual-in_err-flushed.result c.from_residual-in_err-flushed.ensures.1 in
    let whole = IfOk-at_ok (λ (ending : Option CaptureError). Dissects times links ending before after first last plain_first plain_last) c.in_ok-ending.was
    c.tell_capture-ended.ensures.tells in
    rw p.1 (λ other. front_of_whole times links before first last (g.W.Write.contents c.flush-flushed.new.writer) c.flush-flushed.ensures.lines _ after plain_first plain_last whole)

pub returns-in_err-flushed-clause-cause : goal.returns-in_err-flushed-clause-cause
returns-in_err-flushed-clause-cause g c = λ capture is.
    let p = err_from_is_err_and c.from_residual-in_err-flushed.result c.from_residual-in_err-flushed.ensures.1 in
    rw (p.1, p.2) (no_record c.args.links.now capture _ (IfErr-at_err (λ (e : DissectError). IsOfNoRecord e) c.in_err-flushed.was c.flush-flushed.ensures.faults))

pub returns-in_err-flushed-clause-asked : goal.returns-in_err-flushed-clause-asked
returns-in_err-flushed-clause-asked g c =
    let p = err_from_is_err_and c.from_residual-in_err-flushed.result c.from_residual-in_err-flushed.ensures.1 in
    let asked = IfErr-at_err (λ (e : DissectError). IsOfPlain e → IsTrue (is_some c.tell_capture-ended.new.plain)) c.in_err-flushed.was c.flush-flushed.ensures.asked in
    let present = IfOk-at_ok (λ (ending : Option CaptureError). is_some c.tell_capture-ended.new.plain ≡ is_some c.args.plain.now) c.in_ok-ending.was
    c.tell_capture-ended.ensures.present in
    rw (p.1, p.2) (λ kind. subst IsTrue present (asked kind))

-- ---- otherwise

pub returns-clause-tells : goal.returns-clause-tells
returns-clause-tells g c =
    let times = c.args.times in
    let links = c.args.links.now in
    let before = g.R.Read.remaining c.args.reader.now in
    let after = g.R.Read.remaining c.tell_capture-ended.new.reader in
    let first = g.W.Write.contents c.args.writer.now in
    let last = g.W.Write.contents c.tell_capture-ended.new.writer in
    let plain_first = option_map g.C.Write.contents c.args.plain.now in
    let plain_last = option_map g.C.Write.contents c.tell_capture-ended.new.plain in
    let whole = IfOk-at_ok (λ (ending : Option CaptureError). Dissects times links ending before after first last plain_first plain_last) c.in_ok-ending.was
    c.tell_capture-ended.ensures.tells in
    whole_kept times links before first last (g.W.Write.contents c.flush-flushed.new.writer) c.flush-flushed.ensures.lines _ after plain_first plain_last whole
    (option_map g.C.Write.contents c.flush-flushed.new.plain) c.flush-flushed.ensures.kept
