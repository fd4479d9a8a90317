use Rattle.std.proofs.Common.{ℕ, refl, sym, subst}
use Rattle.fw_book.specs.Contents.{Contents}
use Rattle.fw_kept.specs.Kept.{HasBook, HasNoted, Keeps, LeavesRecords}
use Rattle.fw_kept.proofs.Books.{has_book}
use Rattle.fw_kept.proofs.head.KeptHead.open.Goals as goal

pub returns-in-Ok-of_book-clause-opened_noted : goal.returns-in-Ok-of_book-clause-opened_noted
returns-in-Ok-of_book-clause-opened_noted g c = λ honest.
    let J = g.D.JournalDevice in
    let opened = c.in-Ok.opened in
    record {
      works = refl;
      keeps = subst (λ (b : Contents). Keeps J.honest J.contents J.may_leave b.head opened.2 b b opened.1 opened.1) (sym c.in-Ok-of_book.ensures.begun.book_is)
          (subst (λ (n : ℕ). Keeps J.honest J.contents J.may_leave n opened.2 opened.0 opened.0 opened.1 opened.1) (sym c.in-Ok.ensures.number) (c.in-Ok.ensures.opened honest));
      offers = λ campaign. refl;
    }

pub returns-in-Ok-of_book-clause-opened : goal.returns-in-Ok-of_book-clause-opened
returns-in-Ok-of_book-clause-opened g c = λ honest. (c.in-Ok.opened.1, returns-in-Ok-of_book-clause-opened_noted g c honest)

pub returns-in-Ok-of_book-clause-noted : goal.returns-in-Ok-of_book-clause-noted
returns-in-Ok-of_book-clause-noted g c = λ honest.
    let opened = c.in-Ok.opened in
    subst (λ (b : Contents). HasNoted c.args.head (g.D.JournalDevice.contents c.args.device) b opened.1) (sym c.in-Ok-of_book.ensures.begun.book_is) (c.in-Ok.ensures.book honest)

pub returns-in-Ok-of_book-clause-book : goal.returns-in-Ok-of_book-clause-book
returns-in-Ok-of_book-clause-book g c = λ honest.
    let opened = c.in-Ok.opened in
    let bytes = g.D.JournalDevice.contents c.args.device in
    subst (λ (b : Contents). HasBook c.args.head bytes b) (sym c.in-Ok-of_book.ensures.begun.book_is) (has_book c.args.head bytes opened.0 opened.1 (c.in-Ok.ensures.book honest))

pub returns-in-Err-of_book-clause-any_moment_err : goal.returns-in-Err-of_book-clause-any_moment_err
returns-in-Err-of_book-clause-any_moment_err g c = λ honest.
    subst (λ d. LeavesRecords g.D.JournalDevice c.args.device d) (sym c.into_device.ensures) (c.in-Ok.ensures.any_moment honest)
