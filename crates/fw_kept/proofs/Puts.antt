-- What a commit leaves of the journal of a book.
use Rattle.std.proofs.lemmas.List.{append-nil}
use Rattle.std.proofs.Common.{◌≡◌, ◌⊎◌, inl, inr, ⊎_elim, ℕ, List, [], ◌++◌, IsTrue, Ok, Err, IsErrOf, refl, sym, subst}
use Rattle.fw_book.specs.Contents.{Contents}
use Rattle.fw_journal.specs.Book.{Stands}
use Rattle.fw_journal.specs.Device.{LeavesOnly, Keeps as DeviceKeeps}
use Rattle.fw_journal.specs.Journal as journal
use Rattle.fw_journal.specs.declared.device.JournalDevice
use Rattle.fw_journal.specs.declared.journal.Journal.{Journal}
use Rattle.fw_book.specs.Notes.{Known}
use Rattle.fw_ledger.specs.Replay.{AddsAll, IsBookOf}
use Rattle.fw_ledger.specs.Noted.{AreNotesOf}
use Rattle.fw_kept.specs.Kept.{HasNoted, Keeps}
use Rattle.fw_kept.specs.Private.{Puts}
use Rattle.fw_kept.proofs.Books.{nothing_done}
use Rattle.fw_kept.proofs.Moments.{weaker}

-- ---- which error it is

pub err_same : {T E : Type 0} (x y : E) → IsErrOf {T = T} (Err x) y → x ≡ y
err_same x y is = cc is

pub ok_err : {T E : Type 0} (v : T) (e : E) → IsErrOf (Ok v) e → ⊥
ok_err v e is = absurd (cc is)

module _ {D E : Type 0} (J : JournalDevice.Ghosts D) (fault : E) (old : Journal D) (book next : Contents) (known later : Known) where
  -- it is refused before anything is done
  pub unput : {T : Type 0} (e : E) → ((device : D) (left : List ℕ) → J.left_since device (J.moment device) left → J.may_leave device left) → (e ≡ fault → ⊥) → Puts {T = T} J fault old (Err e) old book next known later
  unput e only other = record {
    acknowledged = λ head synced noted keeps. tt;
    unchanged = λ head synced noted keeps. inl keeps;
    any_moment = λ head synced noted keeps. nothing_done J.honest J.contents J.may_leave J.moment J.left_since head old synced book noted known (λ left. HasNoted head left next later) keeps only;
    breaks = λ is. absurd (other (err_same e fault is));
    never = λ sound is. absurd (other (err_same e fault is));
    kept = record { honesty = refl; soundness = λ sound. sound };
  }

  -- the records that wait are put on the device, as these are
  module _ (new : Journal D) (put : List (List ℕ) → List (List ℕ))
      (makes : (head : ℕ) (done waiting : List (List ℕ)) (synced : Contents) → IsBookOf head done synced → AddsAll waiting synced book → IsBookOf head (done ++ put waiting) next)
      (tells : (done waiting : List (List ℕ)) → AreNotesOf (done ++ waiting) known → AreNotesOf (done ++ put waiting) later)
      (leaves : (done waiting : List (List ℕ)) → journal.Has J.honest J.contents J.may_leave old done waiting
      → LeavesOnly J.moment J.left_since (journal.device_of old) (journal.device_of new) (λ left. Stands left done ⊎ Stands left (done ++ put waiting)))
      (device : DeviceKeeps J.honest J.sound (journal.device_of old) (journal.device_of new)) where
    moments : (head : ℕ) (synced : Contents) (noted : Known) → Keeps J.honest J.contents J.may_leave head old synced book noted known
        → LeavesOnly J.moment J.left_since (journal.device_of old) (journal.device_of new) (λ left. HasNoted head left synced noted ⊎ HasNoted head left next later)
    moments head synced noted keeps =
        weaker J.moment J.left_since (journal.device_of old) (journal.device_of new) (λ left. Stands left keeps.done ⊎ Stands left (keeps.done ++ put keeps.waiting)) (λ left. HasNoted head left synced noted ⊎ HasNoted head left next later)
        (leaves keeps.done keeps.waiting keeps.has)
        (λ left stands. ⊎_elim (λ before. inl (record { records = keeps.done; stands = before; is_book = keeps.of_done; are_notes = keeps.notes_done }))
        (λ after. inr (record {
          records = keeps.done ++ put keeps.waiting;
          stands = after;
          is_book = makes head keeps.done keeps.waiting synced keeps.of_done keeps.of_waiting;
          are_notes = tells keeps.done keeps.waiting keeps.notes_all;
        })) stands)

    pub put_err : {T : Type 0} (e : E)
        → ((done waiting : List (List ℕ)) → journal.Has J.honest J.contents J.may_leave old done waiting → journal.Has J.honest J.contents J.may_leave new done waiting ⊎ IsTrue (journal.is_broken new))
        → (e ≡ fault → IsTrue (journal.is_broken new)) → (IsTrue (J.sound (journal.device_of old)) → e ≡ fault → IsTrue (journal.is_broken old)) → Puts {T = T} J fault old (Err e) new book next known later
    put_err e unchanged breaks never = record {
      acknowledged = λ head synced noted keeps. tt;
      unchanged = λ head synced noted keeps.
          ⊎_elim (λ back. inl (record {
            done = keeps.done;
            waiting = keeps.waiting;
            has = back;
            of_done = keeps.of_done;
            of_waiting = keeps.of_waiting;
            notes_done = keeps.notes_done;
            notes_all = keeps.notes_all;
          }))
          (λ broken. inr broken) (unchanged keeps.done keeps.waiting keeps.has);
      any_moment = moments;
      breaks = λ is. breaks (err_same e fault is);
      never = λ sound is. never sound (err_same e fault is);
      kept = device;
    }

    pub put_ok : {T : Type 0} (v : T)
        → ((done waiting : List (List ℕ)) → journal.Has J.honest J.contents J.may_leave old done waiting → journal.Has J.honest J.contents J.may_leave new (done ++ put waiting) []) → Puts J fault old (Ok v) new book next known later
    put_ok v acknowledged = record {
      acknowledged = λ head synced noted keeps.
          let notes = tells keeps.done keeps.waiting keeps.notes_all in
          record {
            done = keeps.done ++ put keeps.waiting;
            waiting = [];
            has = acknowledged keeps.done keeps.waiting keeps.has;
            of_done = makes head keeps.done keeps.waiting synced keeps.of_done keeps.of_waiting;
            of_waiting = refl;
            notes_done = notes;
            notes_all = subst (λ (l : List (List ℕ)). AreNotesOf l later) (sym (append-nil (keeps.done ++ put keeps.waiting))) notes;
          };
      unchanged = λ head synced noted keeps. tt;
      any_moment = moments;
      breaks = λ is. absurd (ok_err v fault is);
      never = λ sound is. absurd (ok_err v fault is);
      kept = device;
    }
