use Rattle.std.proofs.lemmas.Result.{IfOk-weaker}
use Rattle.fw_auditor.specs.Private.{FitsBooks, FitsHead}
use Rattle.fw_auditor.specs.declared.heads.HeadVerdict.{HeadVerdict}
use Rattle.fw_auditor.proofs.Ending.{fits_head}
use Rattle.fw_auditor.proofs.heads.append_judged.Goals as goal

pub returns-in-Ok : goal.returns-in-Ok
returns-in-Ok c =
    let asked = c.args.asked.now in
    let books = c.args.given.now.books.books.items in
    let head = c.args.head.now in
    let log = c.in-Ok.log in
    IfOk-weaker c.append_by_books.result (λ (v : HeadVerdict). FitsBooks asked books log v) (λ (v : HeadVerdict). FitsHead asked books head v)
    (λ v fits. fits_head asked books head c.args.capture.now c.whole_part-whole.result.now log log.marks.items v c.whole_part-whole.ensures c.in-Ok.ensures.log fits)
    c.append_by_books.ensures
