-- That records which are made of a book make it again, whatever records made it before.
use Rattle.std.proofs.lemmas.List.{append-nil}
use Rattle.std.proofs.Common.{◌≡◌, ◌⊎◌, inl, inr, ⊎_elim, ℕ, ◌<◌, ◌^◌, List, [], ◌∷◌, ◌++◌, length, Vec, IsTrue, Bool, Result, Ok, Err, OnOk, OnErr, sym, subst, refl}
use Rattle.std.specs.List.{AllByRecursion}
use Rattle.std.specs.declared.alloc.Global.{Global}
use Rattle.fw_book.specs.Contents.{Contents}
use Rattle.fw_book.specs.Changes.{empty_book}
use Rattle.fw_journal.specs.Book.{contents_of, AreRecords, Stands}
use Rattle.fw_journal.specs.Device.{LeavesOnly}
use Rattle.fw_journal.specs.Journal as journal
use Rattle.fw_journal.specs.declared.journal.Journal.{Journal}
use Rattle.fw_book.specs.Notes.{Known}
use Rattle.fw_ledger.specs.Replay.{IsBookOf, IsMade, records_of}
use Rattle.fw_ledger.specs.Noted.{AreNotesOf, IsKnownOf}
use Rattle.fw_ledger.specs.Laws.{BooksHaveNotes}
use Rattle.fw_kept.specs.Kept.{HasNoted, Keeps}
use Rattle.fw_kept.proofs.Books.{same_lists, all_join, book_head}
use Rattle.fw_kept.proofs.Moments.{weaker}

-- records that are short enough can be written
pub short_fit : (vs : List (Vec ℕ Global)) → AllByRecursion (λ (bytes : List ℕ). length bytes < 2 ^ 32) (records_of vs) → AreRecords (contents_of vs)
short_fit [] short = tt
short_fit (v ∷ vs) short = (short.0, short_fit vs short.1)

module _ {D : Type 0} (honest : D → Bool) (contents : D → List ℕ) (may_leave : D → List ℕ → Type 0) (head : ℕ) (kept : Journal D) (synced book : Contents) (noted known : Known) (keeps : Keeps honest contents may_leave head kept synced book noted known) where
  all_of : IsBookOf head (keeps.done ++ keeps.waiting) book
  all_of = all_join keeps.done keeps.waiting (empty_book head) synced book keeps.of_done keeps.of_waiting

  number : book.head ≡ head
  number = book_head head (keeps.done ++ keeps.waiting) book all_of

  -- some records make the book
  pub kept_made : IsMade book
  kept_made = (keeps.done ++ keeps.waiting, subst (λ (n : ℕ). IsBookOf n (keeps.done ++ keeps.waiting) book) (sym number) all_of)

  -- and what is known is of it
  pub kept_known : BooksHaveNotes → IsKnownOf book known
  kept_known have = (have head (keeps.done ++ keeps.waiting) book all_of).of_book known keeps.notes_all

  notes_of : (vs : List (Vec ℕ Global)) → AreNotesOf (records_of vs) known → AreNotesOf (contents_of vs) known
  notes_of vs are = subst (λ (l : List (List ℕ)). AreNotesOf l known) (sym (same_lists vs)) are

  -- and these do
  pub anew_of : (vs : List (Vec ℕ Global)) → IsBookOf book.head (records_of vs) book → IsBookOf head (contents_of vs) book
  anew_of vs made = subst (λ (l : List (List ℕ)). IsBookOf head l book) (sym (same_lists vs)) (subst (λ (n : ℕ). IsBookOf n (records_of vs) book) number made)

  -- a journal of these is one of the book
  pub anew_keeps : (vs : List (Vec ℕ Global)) (new : Journal D) → IsBookOf book.head (records_of vs) book → AreNotesOf (records_of vs) known → journal.Has honest contents may_leave new (contents_of vs) [] → Keeps honest contents may_leave head new book book known known
  anew_keeps vs new made are has = record {
    done = contents_of vs;
    waiting = [];
    has = has;
    of_done = anew_of vs made;
    of_waiting = refl;
    notes_done = notes_of vs are;
    notes_all = subst (λ (l : List (List ℕ)). AreNotesOf l known) (sym (append-nil (contents_of vs))) (notes_of vs are);
  }

  -- what a cut leaves where the journal is as before, or is broken
  pub back_keeps : (new : Journal D) → journal.Has honest contents may_leave new keeps.done keeps.waiting ⊎ IsTrue (journal.is_broken new) → Keeps honest contents may_leave head new synced book noted known ⊎ IsTrue (journal.is_broken new)
  back_keeps new back =
      ⊎_elim
      (λ has. inl (record {
        done = keeps.done;
        waiting = keeps.waiting;
        has = has;
        of_done = keeps.of_done;
        of_waiting = keeps.of_waiting;
        notes_done = keeps.notes_done;
        notes_all = keeps.notes_all;
      }))
      (λ broken. inr broken) back

  -- what it leaves at any moment
  pub anew_leaves : (moment : D → ℕ) (left_since : D → ℕ → List ℕ → Type 0) (new : D) (vs : List (Vec ℕ Global)) → IsBookOf book.head (records_of vs) book → AreNotesOf (records_of vs) known
      → LeavesOnly moment left_since (journal.device_of kept) new (λ left. Stands left keeps.done ⊎ Stands left (contents_of vs)) → LeavesOnly moment left_since (journal.device_of kept) new (λ left. HasNoted head left synced noted ⊎ HasNoted head left book known)
  anew_leaves moment left_since new vs made are leaves =
      weaker moment left_since (journal.device_of kept) new (λ left. Stands left keeps.done ⊎ Stands left (contents_of vs)) (λ left. HasNoted head left synced noted ⊎ HasNoted head left book known) leaves
      (λ left stands. ⊎_elim (λ before. inl (record { records = keeps.done; stands = before; is_book = keeps.of_done; are_notes = keeps.notes_done }))
      (λ after. inr (record { records = contents_of vs; stands = after; is_book = anew_of vs made; are_notes = notes_of vs are })) stands)

-- ---- what follows of an answer

pub on_ok : {T E : Type 0} (result : Result T E) (P Q : Type 0) → (P → Q) → OnOk result P → OnOk result Q
on_ok (Ok v) P Q follows holds = follows holds
on_ok (Err e) P Q follows holds = holds

pub on_err : {T E : Type 0} (result : Result T E) (P Q : Type 0) → (P → Q) → OnErr result P → OnErr result Q
on_err (Ok v) P Q follows holds = holds
on_err (Err e) P Q follows holds = follows holds
