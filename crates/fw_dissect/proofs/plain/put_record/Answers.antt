use Rattle.std.proofs.Common.{◌≡◌, subst, sym, ◌∙◌}
use Rattle.std.proofs.lemmas.Result.{IfErr-weaker, err_from_is_err_and}
use Rattle.fw_capture.specs.View.{told_in}
use Rattle.fw_dissect.specs.declared.error.DissectError.{DissectError}
use Rattle.fw_dissect.specs.declared.error.DissectError.TheVariants as error
use Rattle.fw_dissect.specs.Private.{NoneIf}
use Rattle.fw_dissect.proofs.Taken.{puts_record}
use Rattle.fw_dissect.proofs.plain.put_record.Goals as goal

pub returns-in_err-bytes-clause-none : goal.returns-in_err-bytes-clause-none
returns-in_err-bytes-clause-none g c =
    let p = err_from_is_err_and c.from_residual.result c.from_residual.ensures.1 in
    rw (p.1, p.2) c.in_err-bytes.ensures.none

pub returns-clause-put : goal.returns-clause-put
returns-clause-put g c =
    let packet = c.args.packet.now in
    let made = c.in_ok-bytes.ensures.record in
    puts_record c.put.result (g.C.Write.contents c.args.writer.now) (g.C.Write.contents c.put.new.writer) c.deref.result.now c.args.links.now packet.nanoseconds
    (told_in packet.content) made.0 made.1 (c.deref.ensures.value ∙ made.2) c.put.ensures.put

pub returns-clause-none : goal.returns-clause-none
returns-clause-none g c =
    let packet = c.args.packet.now in
    let links = c.args.links.now in
    IfErr-weaker c.put.result (λ (e : DissectError). e ≡ error.Plain) (λ (e : DissectError). NoneIf e links packet.nanoseconds (told_in packet.content))
    (λ e is. subst (λ (x : DissectError). NoneIf x links packet.nanoseconds (told_in packet.content)) (sym is) tt) c.put.ensures.faults
