use Rattle.std.proofs.Common.{[], refl, sym, subst}
use Rattle.fw_book.specs.Changes.{empty_book}
use Rattle.fw_book.specs.Notes.{Known, nothing_known}
use Rattle.fw_head.specs.Head.{Head}
use Rattle.fw_kept.specs.Kept.{Keeps}
use Rattle.fw_kept.specs.Head.{OfferSame}
use Rattle.fw_kept.proofs.head.KeptHead.create.Goals as goal

pub returns-in-Ok-clause-noted : goal.returns-in-Ok-clause-noted
returns-in-Ok-clause-noted g c = λ honest.
    let J = g.D.JournalDevice in
    let journal = c.in-Ok.journal in
    let none = c.nothing_noted.ensures [] [] tt tt in
    record {
      works = refl;
      keeps = subst (λ (k : Known). Keeps J.honest J.contents J.may_leave c.new.result.book.head journal (empty_book c.args.head) c.new.result.book nothing_known k) (sym c.none.ensures)
          (subst (λ (h : Head). Keeps J.honest J.contents J.may_leave h.book.head journal (empty_book c.args.head) h.book nothing_known nothing_known) (sym c.new.ensures)
          (record { done = []; waiting = []; has = c.in-Ok.ensures.made honest; of_done = refl; of_waiting = refl; notes_done = none; notes_all = none }));
      offers = subst (λ (h : Head). OfferSame h.book (empty_book c.args.head)) (sym c.new.ensures) (λ campaign. refl);
    }

pub returns-in-Ok-clause-made : goal.returns-in-Ok-clause-made
returns-in-Ok-clause-made g c = λ honest. (nothing_known, returns-in-Ok-clause-noted g c honest)
