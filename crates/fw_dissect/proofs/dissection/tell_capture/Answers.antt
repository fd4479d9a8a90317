use Rattle.std.proofs.Common.{◌≡◌, Result, subst, ◌∙◌}
use Rattle.std.specs.Prelude.{IsTrue, is_some}
use Rattle.std.specs.Option.{option_map}
use Rattle.std.proofs.lemmas.Result.{IfErr-weaker, err_from_is_err_and, on_ok_weaker}
use Rattle.fw_capture.specs.declared.fault.CaptureError.{CaptureError}
use Rattle.fw_capture.specs.declared.format.Format.{Format}
use Rattle.fw_dissect.specs.declared.error.DissectError.{DissectError}
use Rattle.fw_dissect.specs.Streams.{IsOfPlain}
use Rattle.fw_dissect.specs.Private.{OpensBy}
use Rattle.fw_dissect.proofs.Flow.{no_record, not_opened, nothing_told, on_cause, on_front, on_told}
use Rattle.fw_dissect.proofs.Taken.{no_plain_at_start, of_start}
use Rattle.fw_dissect.proofs.dissection.tell_capture.Goals as goal

-- ---- before a file header was taken

pub returns-in_err-opened-clause-front : goal.returns-in_err-opened-clause-front
returns-in_err-opened-clause-front g c =
    let p = err_from_is_err_and c.from_residual.result c.from_residual.ensures.1 in
    rw p.1 (λ other. nothing_told c.args.times c.args.links.now (g.R.Read.remaining c.args.reader.now) (g.W.Write.contents c.args.writer.now))

pub returns-in_err-opened-clause-cause : goal.returns-in_err-opened-clause-cause
returns-in_err-opened-clause-cause g c = λ capture is.
    let p = err_from_is_err_and c.from_residual.result c.from_residual.ensures.1 in
    rw (p.1, p.2) (no_record c.args.links.now capture c.in_err-opened.field-0.0 (of_start c.in_err-opened.field-0.0 c.in_err-opened.ensures.faults))

pub returns-in_err-opened-clause-asked : goal.returns-in_err-opened-clause-asked
returns-in_err-opened-clause-asked g c =
    let p = err_from_is_err_and c.from_residual.result c.from_residual.ensures.1 in
    rw (p.1, p.2) (λ kind. no_plain_at_start c.in_err-opened.field-0.0 c.in_err-opened.ensures.faults kind)

-- ---- before one was put

pub returns-in_err-put_file_header-clause-front : goal.returns-in_err-put_file_header-clause-front
returns-in_err-put_file_header-clause-front g c =
    let p = err_from_is_err_and c.from_residual-in_err-put_file_header.result c.from_residual-in_err-put_file_header.ensures.1 in
    rw p.1 (λ other. nothing_told c.args.times c.args.links.now (g.R.Read.remaining c.args.reader.now) (g.W.Write.contents c.args.writer.now))

pub returns-in_err-put_file_header-clause-cause : goal.returns-in_err-put_file_header-clause-cause
returns-in_err-put_file_header-clause-cause g c = λ capture is.
    let p = err_from_is_err_and c.from_residual-in_err-put_file_header.result c.from_residual-in_err-put_file_header.ensures.1 in
    rw (p.1, p.2) (no_record c.args.links.now capture c.in_err-put_file_header.field-0.0 c.in_err-put_file_header.ensures.faults)

pub returns-in_err-put_file_header-clause-asked : goal.returns-in_err-put_file_header-clause-asked
returns-in_err-put_file_header-clause-asked g c =
    let p = err_from_is_err_and c.from_residual-in_err-put_file_header.result c.from_residual-in_err-put_file_header.ensures.1 in
    rw p.1 (λ kind. c.in_err-put_file_header.ensures.asked)

-- ---- behind it

pub returns-in-Ok-clause-tells : goal.returns-in-Ok-clause-tells
returns-in-Ok-clause-tells g c =
    let before = g.R.Read.remaining c.args.reader.now in
    let mid = g.R.Read.remaining c.take_format.new.reader in
    let by = subst (λ (o : Result Format CaptureError). OpensBy before mid o) c.in-Ok.is c.in_ok-opened.ensures.opens in
    on_told c.args.times c.args.links.now before mid c.in-Ok.format by (g.R.Read.remaining c.tell_records.new.reader) (g.W.Write.contents c.args.writer.now)
    (g.W.Write.contents c.tell_records.new.writer) (option_map g.C.Write.contents c.args.plain.now) (option_map g.C.Write.contents c.put_file_header.new.plain)
    (option_map g.C.Write.contents c.tell_records.new.plain) c.in_ok-put_file_header.ensures.put c.tell_records.result c.tell_records.ensures.tells

pub returns-in-Ok-clause-front : goal.returns-in-Ok-clause-front
returns-in-Ok-clause-front g c =
    let before = g.R.Read.remaining c.args.reader.now in
    let mid = g.R.Read.remaining c.take_format.new.reader in
    let by = subst (λ (o : Result Format CaptureError). OpensBy before mid o) c.in-Ok.is c.in_ok-opened.ensures.opens in
    on_front c.args.times c.args.links.now before mid c.in-Ok.format by c.tell_records.result (g.W.Write.contents c.args.writer.now)
    (g.W.Write.contents c.tell_records.new.writer) c.tell_records.ensures.front

pub returns-in-Ok-clause-cause : goal.returns-in-Ok-clause-cause
returns-in-Ok-clause-cause g c = λ capture is.
    let before = g.R.Read.remaining c.args.reader.now in
    let mid = g.R.Read.remaining c.take_format.new.reader in
    let by = subst (λ (o : Result Format CaptureError). OpensBy before mid o) c.in-Ok.is c.in_ok-opened.ensures.opens in
    on_cause c.args.times c.args.links.now before mid c.in-Ok.format by c.tell_records.result capture is c.tell_records.ensures.cause

pub returns-in-Ok-clause-asked : goal.returns-in-Ok-clause-asked
returns-in-Ok-clause-asked g c =
    IfErr-weaker c.tell_records.result (λ (e : DissectError). IsOfPlain e → IsTrue (is_some c.put_file_header.new.plain))
    (λ (e : DissectError). IsOfPlain e → IsTrue (is_some c.args.plain.now))
    (λ e asked kind. subst IsTrue c.put_file_header.ensures.present (asked kind)) c.tell_records.ensures.asked

pub returns-in-Ok-clause-present : goal.returns-in-Ok-clause-present
returns-in-Ok-clause-present g c =
    on_ok_weaker c.tell_records.result
    (λ (h : is_some c.tell_records.new.plain ≡ is_some c.put_file_header.new.plain). h ∙ c.put_file_header.ensures.present) c.tell_records.ensures.present

pub returns-in-Err-clause-tells : goal.returns-in-Err-clause-tells
returns-in-Err-clause-tells g c =
    let before = g.R.Read.remaining c.args.reader.now in
    let mid = g.R.Read.remaining c.take_format.new.reader in
    let by = subst (λ (o : Result Format CaptureError). OpensBy before mid o) c.in-Err.is c.in_ok-opened.ensures.opens in
    not_opened c.args.times c.args.links.now before mid (g.W.Write.contents c.args.writer.now) (option_map g.C.Write.contents c.args.plain.now)
    (option_map g.C.Write.contents c.put_file_header.new.plain) c.in_ok-put_file_header.ensures.put c.in-Err.error by
