use Rattle.std.proofs.Common.{rules, ◌≡◌, ℕ, List, [], Vec, refl, sym, ◌∙◌, subst}
use Rattle.std.specs.declared.alloc.Global.{Global}
use Rattle.std.proofs.lemmas.List.{append-nil}
use Rattle.fw_journal.specs.Book.{contents_of, Stands}
use Rattle.fw_ledger.specs.Noted.{AreNotesOf}
use Rattle.fw_ledger.specs.Replay.{IsBookOf, records_of}
use Rattle.fw_kept.proofs.Books.{same_lists, book_head, bad_of}
use Rattle.fw_kept.proofs.opening.open_book.Goals as goal

pub returns-in-Ok-book_of-clause-opened : goal.returns-in-Ok-book_of-clause-opened
returns-in-Ok-book_of-clause-opened g c = λ honest.
    let items = c.in-Ok.records.items in
    let book = c.in-Ok-book_of.book in
    let here : c.deref.result.now ≡ items = search rules in
    let found : IsBookOf c.args.head (records_of items) book = subst (λ (l : List (Vec ℕ Global)). IsBookOf c.args.head (records_of l) book) here c.in-Ok-book_of.ensures.found in
    let notes = c.in-Ok-book_of.notes in
    let are : AreNotesOf (records_of items) notes = subst (λ (l : List (Vec ℕ Global)). AreNotesOf (records_of l) notes) here c.in-Ok-book_of.ensures.noted in
    let all = subst (λ (l : List (List ℕ)). AreNotesOf l notes) (sym (same_lists items)) are in
    record {
      done = contents_of items;
      waiting = [];
      has = c.in-Ok.ensures.opened honest;
      of_done = subst (λ (l : List (List ℕ)). IsBookOf c.args.head l book) (sym (same_lists items)) found;
      of_waiting = refl;
      notes_done = all;
      notes_all = subst (λ (l : List (List ℕ)). AreNotesOf l notes) (sym (append-nil (contents_of items))) all;
    }

pub returns-in-Ok-book_of-clause-book : goal.returns-in-Ok-book_of-clause-book
returns-in-Ok-book_of-clause-book g c = λ honest.
    let items = c.in-Ok.records.items in
    let book = c.in-Ok-book_of.book in
    let notes = c.in-Ok-book_of.notes in
    let here : c.deref.result.now ≡ items = search rules in
    record {
      records = records_of items;
      stands = subst (λ (l : List (List ℕ)). Stands (g.D.JournalDevice.contents c.args.device) l) (same_lists items) (c.in-Ok.ensures.records honest);
      is_book = subst (λ (l : List (Vec ℕ Global)). IsBookOf c.args.head (records_of l) book) here c.in-Ok-book_of.ensures.found;
      are_notes = subst (λ (l : List (Vec ℕ Global)). AreNotesOf (records_of l) notes) here c.in-Ok-book_of.ensures.noted;
    }

pub returns-clause-bad : goal.returns-clause-bad
returns-clause-bad g c = λ honest offset is.
    c.in-Err.ensures.bad honest offset (bad_of c.in-Err.refusal offset (sym c.open_error.ensures ∙ is))

pub returns-in-Ok-book_of-clause-number : goal.returns-in-Ok-book_of-clause-number
returns-in-Ok-book_of-clause-number g c = book_head c.args.head _ c.in-Ok-book_of.book c.in-Ok-book_of.ensures.found
