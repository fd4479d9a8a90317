use Rattle.std.proofs.Common.{rules, ◌≡◌, ℕ, List, [], ◌∷◌, ◌++◌, sym, ap, subst, ◌∙◌, append_assoc}
use Rattle.std.proofs.lemmas.List.{append-nil}
use Rattle.fw_book.specs.declared.error.BookError.TheVariants.{OutOfMemory}
use Rattle.fw_book.specs.declared.row.Row.{Row}
use Rattle.fw_book.specs.Contents.{Offered, Contents, IsBook}
use Rattle.fw_book.specs.Changes.{added, ReadRefused}
use Rattle.fw_book.specs.Format.{IsReadAs}
use Rattle.fw_book.specs.Private.{Admits, entry_in}
use Rattle.fw_book.proofs.Spellings.{same_read}
use Rattle.fw_book.proofs.Parts.{next_admitted}
use Rattle.fw_book.proofs.Walks.{first_left, none_left, may_run_out}
use Rattle.fw_book.proofs.book.Book.read.Goals as goal

pub add-requires : goal.add-requires
add-requires c =
    let i = c.loop-entry.invariant in
    let e = c.in-Some-entry_at.entry in
    let entry : ℕ × Offered = entry_in e.serial e.release e.image.now e.rows.now in
    let first = first_left c.in-Some.front.version entry c.in-Some-entry_at.after.now c.loop-entry.rest.now i.left c.in-Some-entry_at.ensures.found c.in-Some-entry_at.ensures.fits i.are in
    let with_rows : List Row → Offered = λ rows. record { release = e.release; image = e.image.now; rows = rows } in
    let offer : c.in_ok-offer.offer ≡ entry.1 = c.in_ok-offer.ensures.offer ∙ ap with_rows c.in_ok-rows_of.ensures.rows in
    let whole = subst (λ (xs : List (ℕ × Offered)). IsBook (record { head = c.loop-entry.book.head; campaigns = c.loop-entry.book.campaigns ++ xs })) first.1 i.is_book in
    subst (λ (o : Offered). Admits c.loop-entry.book entry.0 o) (sym offer) (next_admitted c.loop-entry.book entry.0 entry.1 first.0 whole)

pub loop-entry-preserved : goal.loop-entry-preserved
loop-entry-preserved c =
    let i = c.loop-entry.invariant in
    let book : Contents = c.loop-entry.book in
    let e = c.in-Some-entry_at.entry in
    let entry : ℕ × Offered = entry_in e.serial e.release e.image.now e.rows.now in
    let first = first_left c.in-Some.front.version entry c.in-Some-entry_at.after.now c.loop-entry.rest.now i.left c.in-Some-entry_at.ensures.found c.in-Some-entry_at.ensures.fits i.are in
    let with_rows : List Row → Offered = λ rows. record { release = e.release; image = e.image.now; rows = rows } in
    let offer : c.in_ok-offer.offer ≡ entry.1 = c.in_ok-offer.ensures.offer ∙ ap with_rows c.in_ok-rows_of.ensures.rows in
    let longer : c.add.new.self ≡ added book entry.0 entry.1 = c.in_ok-add.ensures.ok ∙ ap (λ (o : Offered). added book entry.0 o) offer in
    let split : book.campaigns ++ i.left ≡ (book.campaigns ++ entry ∷ []) ++ first.0 = ap (λ (xs : List (ℕ × Offered)). book.campaigns ++ xs) first.1 ∙ sym (append_assoc book.campaigns (entry ∷ []) first.0) in
    let same : record book { campaigns = book.campaigns ++ i.left } ≡ record c.add.new.self { campaigns = c.add.new.self.campaigns ++ first.0 } =
    ap (λ (xs : List (ℕ × Offered)). record book { campaigns = xs }) split ∙ ap (λ (b : Contents). record b { campaigns = b.campaigns ++ first.0 }) (sym longer) in
    record {
      left = first.0;
      are = first.2;
      is_book = subst (λ (b : Contents). IsBook b) same i.is_book;
      is_read = subst (λ (b : Contents). IsReadAs c.args.bytes.now b) same i.is_read;
    }

pub returns-clause-found : goal.returns-clause-found
returns-clause-found c =
    let i = c.loop-entry.invariant in
    let none = none_left c.in-Some.front.version c.loop-entry.rest.now i.left c.in_default-entry_at.ensures.none i.are in
    let all : c.loop-entry.book.campaigns ++ i.left ≡ c.loop-entry.book.campaigns = ap (λ (xs : List (ℕ × Offered)). c.loop-entry.book.campaigns ++ xs) none ∙ append-nil c.loop-entry.book.campaigns in
    subst (λ (xs : List (ℕ × Offered)). IsReadAs c.args.bytes.now (record { head = c.loop-entry.book.head; campaigns = xs })) all i.is_read

pub returns-clause-unique : goal.returns-clause-unique
returns-clause-unique c = λ book read. same_read c.args.bytes.now c.loop-entry.book book (returns-clause-found c) read

pub returns-in_err-rows_of-clause-refused : goal.returns-in_err-rows_of-clause-refused
returns-in_err-rows_of-clause-refused c =
    let i = c.loop-entry.invariant in
    let refused : ReadRefused c.args.bytes.now OutOfMemory =
    may_run_out c.in-Some.front.version c.args.bytes.now c.loop-entry.rest.now c.in-Some-entry_at.after.now c.loop-entry.book _ i.left
    c.in-Some-entry_at.ensures.found i.are i.is_read in
    search rules

pub returns-in_err-offer-clause-refused : goal.returns-in_err-offer-clause-refused
returns-in_err-offer-clause-refused c =
    let i = c.loop-entry.invariant in
    let refused : ReadRefused c.args.bytes.now OutOfMemory =
    may_run_out c.in-Some.front.version c.args.bytes.now c.loop-entry.rest.now c.in-Some-entry_at.after.now c.loop-entry.book _ i.left
    c.in-Some-entry_at.ensures.found i.are i.is_read in
    search rules

pub returns-in_err-add-clause-refused : goal.returns-in_err-add-clause-refused
returns-in_err-add-clause-refused c =
    let i = c.loop-entry.invariant in
    let refused : ReadRefused c.args.bytes.now OutOfMemory =
    may_run_out c.in-Some.front.version c.args.bytes.now c.loop-entry.rest.now c.in-Some-entry_at.after.now c.loop-entry.book _ i.left
    c.in-Some-entry_at.ensures.found i.are i.is_read in
    search rules
