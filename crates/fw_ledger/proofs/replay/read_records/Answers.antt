use Rattle.std.proofs.Common.{rules, Err, ◌≡◌, ⊎_elim, ℕ, List, [], ◌∷◌, ◌++◌, ◌-◌, length, refl, sym, ap, subst, ◌∙◌, arith, append_assoc, length-append}
use Rattle.std.proofs.lemmas.List.{append-nil}
use Rattle.fw_book.specs.Changes.{empty_book}
use Rattle.fw_book.specs.declared.error.BookError.{BookError}
use Rattle.fw_ledger.specs.Replay.{IsBookOf, FailsAt, records_of}
use Rattle.fw_ledger.proofs.Books.{all_push, book_unique, failed_none, first_of, none_of, wants_memory}
use Rattle.fw_ledger.proofs.Known.{exactly_more, exactly_notes}
use Rattle.fw_book.specs.Notes.{Known}
use Rattle.fw_ledger.specs.Noted.{AreNotesOf}
use Rattle.fw_ledger.proofs.replay.read_records.Goals as goal

pub loop-bytes-preserved : goal.loop-bytes-preserved
loop-bytes-preserved c =
    let i = c.loop-bytes.invariant in
    let bytes = c.as_slice.result.now in
    let others = records_of c.in-Some.others.now in
    let same : bytes ≡ c.in-Some.bytes.now.items = search rules in
    let next = first_of c.loop-bytes.rest.now c.in-Some.others.now c.in-Some.bytes.now bytes c.in-Some.ensures.cases.0 same in
    record {
      front = i.front ++ bytes ∷ [];
      split = i.split ∙ ap (λ (l : List (List ℕ)). i.front ++ l) next ∙ sym (append_assoc i.front (bytes ∷ []) others);
      count = omega (arith, i.count, c.in-Some.ensures.cases.1, length-append i.front (bytes ∷ []));
      is_book = all_push i.front bytes (empty_book c.args.head) c.loop-bytes.book c.add.new.book i.is_book c.in-Ok.ensures.made;
      are_notes = (let noted = c.in-Ok.ensures.noted in exactly_more i.front bytes noted.0 c.loop-bytes.notes c.add.new.notes i.are_notes noted.1 noted.2);
    }

pub returns-in-Err-clause-unique : goal.returns-in-Err-clause-unique
returns-in-Err-clause-unique c = λ book is.
    let i = c.loop-bytes.invariant in
    let bytes = c.as_slice.result.now in
    let same : bytes ≡ c.in-Some.bytes.now.items = search rules in
    let next = first_of c.loop-bytes.rest.now c.in-Some.others.now c.in-Some.bytes.now bytes c.in-Some.ensures.cases.0 same in
    ⊎_elim (λ out. out.1)
    (λ bad.
    let fails : FailsAt c.args.head (records_of c.args.records.now) (length i.front) bytes = record {
      front = i.front;
      rest = records_of c.in-Some.others.now;
      split = i.split ∙ ap (λ (l : List (List ℕ)). i.front ++ l) next;
      index_is = refl;
      book = c.loop-bytes.book;
      is_book = i.is_book;
      nothing = c.in-Err.ensures.refused bad.0;
    } in
    absurd (failed_none c.args.head (records_of c.args.records.now) (length i.front) bytes book fails is)) c.replay_error.ensures

pub returns-in-Err-clause-bad : goal.returns-in-Err-clause-bad
returns-in-Err-clause-bad c = λ index is.
    let i = c.loop-bytes.invariant in
    let bytes = c.as_slice.result.now in
    let same : bytes ≡ c.in-Some.bytes.now.items = search rules in
    let next = first_of c.loop-bytes.rest.now c.in-Some.others.now c.in-Some.bytes.now bytes c.in-Some.ensures.cases.0 same in
    ⊎_elim (λ out. let memory = out.1 in cc)
    (λ bad.
    let told = bad.1 in
    let at : index ≡ length c.args.records.now - length c.loop-bytes.rest.now = cc in (
      bytes,
      record {
        front = i.front;
        rest = records_of c.in-Some.others.now;
        split = i.split ∙ ap (λ (l : List (List ℕ)). i.front ++ l) next;
        index_is = omega (arith, at, i.count);
        book = c.loop-bytes.book;
        is_book = i.is_book;
        nothing = c.in-Err.ensures.refused bad.0;
      },
    )) c.replay_error.ensures

pub returns-clause-unique : goal.returns-clause-unique
returns-clause-unique c = λ book is.
    let i = c.loop-bytes.invariant in
    let none = none_of c.loop-bytes.rest.now c.in_default.ensures.cases in
    let all : records_of c.args.records.now ≡ i.front = i.split ∙ ap (λ (l : List (List ℕ)). i.front ++ l) none ∙ append-nil i.front in
    c.into_book.ensures ∙ book_unique c.args.head i.front c.loop-bytes.book book i.is_book (subst (λ (l : List (List ℕ)). IsBookOf c.args.head l book) all is)

pub returns-in-Err-clause-memory : goal.returns-in-Err-clause-memory
returns-in-Err-clause-memory c = λ is.
    let i = c.loop-bytes.invariant in
    let bytes = c.as_slice.result.now in
    let same : bytes ≡ c.in-Some.bytes.now.items = search rules in
    let next = first_of c.loop-bytes.rest.now c.in-Some.others.now c.in-Some.bytes.now bytes c.in-Some.ensures.cases.0 same in
    record {
      front = i.front;
      bytes = bytes;
      rest = records_of c.in-Some.others.now;
      split = i.split ∙ ap (λ (l : List (List ℕ)). i.front ++ l) next;
      takes = c.in-Err.ensures.memory (ap (λ (e : BookError). Err e) (wants_memory c.in-Err.refusal c.replay_error.result _ c.replay_error.ensures is));
      book = c.loop-bytes.book;
      is_book = i.is_book;
    }
