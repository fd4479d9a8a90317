use Rattle.std.proofs.Common.{ℕ, List, ◌++◌, ap, ◌∙◌}
use Rattle.std.proofs.lemmas.Result.{err_from_is_err_and}
use Rattle.fw_capture.specs.View.{told_in}
use Rattle.fw_recording.specs.Recording.{records_bytes}
use Rattle.fw_dissect.proofs.Taken.{makes_none}
use Rattle.fw_dissect.proofs.plain.record_of.Goals as goal

pub returns-in_err-append_record-clause-none : goal.returns-in_err-append_record-clause-none
returns-in_err-append_record-clause-none c =
    let p = err_from_is_err_and c.from_residual.result c.from_residual.ensures.1 in
    let packet = c.args.packet.now in
    rw (p.1, p.2) (makes_none c.args.links.now packet.nanoseconds (told_in packet.content) c.in_err-append_record.field-0.0 c.in_err-append_record.ensures.refused)

pub returns-clause-record : goal.returns-clause-record
returns-clause-record c =
    let made = c.in_ok-append_record.ensures.record in
    (made.0, made.1, made.2 ∙ ap (λ (x : List ℕ). x ++ records_bytes made.0) c.new-bytes.ensures.items)
