use Rattle.std.proofs.Common.{List, subst}
use Rattle.std.specs.Prelude.{Contains}
use Rattle.std.proofs.lemmas.Result.{IfOk-weaker}
use Rattle.fw_book.specs.Contents.{Contents}
use Rattle.fw_auditor.specs.Private.{FitsBook, FitsBooks}
use Rattle.fw_auditor.specs.declared.heads.HeadVerdict.{HeadVerdict}
use Rattle.fw_auditor.proofs.Ending.{fits_one}
use Rattle.fw_auditor.proofs.heads.append_by_books.Goals as goal

pub returns-in-Some : goal.returns-in-Some
returns-in-Some c =
    let asked = c.args.asked.now in
    let books = c.args.given.now.books.books.items in
    let book = c.in-Some.book.now in
    let one = subst (λ (bs : List Contents). Contains bs book) c.deref.ensures.value c.in-Some.ensures in
    IfOk-weaker c.append_by_book.result (λ (v : HeadVerdict). FitsBook book asked c.args.log v) (λ (v : HeadVerdict). FitsBooks asked books c.args.log v)
    (λ v fits. fits_one asked books book c.args.log v one fits) c.append_by_book.ensures
