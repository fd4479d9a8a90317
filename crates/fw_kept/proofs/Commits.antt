-- What a call leaves of a head end that puts what waits on the device of its journal.
use Rattle.std.proofs.Common.{◌≡◌, inl, inr, ⊎_elim, ◌⊎◌, ℕ, ◌≤◌, List, Bool, true, false, IsTrue, IsErrOf, Result, Ok, Err, OnOk, OnErr, Option, None, refl, sym, ap, subst, ◌∙◌}
use Rattle.fw_book.specs.Contents.{Contents}
use Rattle.fw_book.specs.Notes.{Known}
use Rattle.fw_book.specs.declared.error.BookError.{BookError}
use Rattle.fw_head.specs.Head.{Head}
use Rattle.fw_journal.specs.Device.{LeavesOnly, Keeps as DeviceKeeps}
use Rattle.fw_journal.specs.Journal as journal
use Rattle.fw_journal.specs.declared.device.JournalDevice
use Rattle.fw_journal.specs.declared.journal.Journal.{Journal}
use Rattle.fw_kept.specs.Kept.{HasBook, HasNoted, Keeps}
use Rattle.fw_kept.specs.Head.{Commits, CommitsNoted, HasOffers, Holds, HoldsNoted, IsBacked, OfferSame, OffersAlso, is_broken}
use Rattle.fw_kept.specs.Private.{Puts}
use Rattle.fw_kept.specs.declared.head.KeptHead.{KeptHead}
use Rattle.fw_kept.proofs.Backs.{either_has, left_is, holds_backs}
use Rattle.fw_kept.proofs.Books.{nothing_done, left_noted, has_book, or_right, or_none}
use Rattle.fw_kept.proofs.Compacts.{on_ok, on_err}
use Rattle.fw_kept.proofs.Heads.{same_also}
use Rattle.fw_kept.proofs.Moments.{weaker}
use Rattle.fw_kept.proofs.Puts.{err_same, ok_err}

module _ {D : Type 0} (J : JournalDevice.Ghosts D) (counts : (device : D) (since : ℕ) (left : List ℕ) → since ≤ J.moment device → J.may_leave device left → J.left_since device since left)
    (only : (device : D) (left : List ℕ) → J.left_since device (J.moment device) left → J.may_leave device left) (reads : (device : D) → IsTrue (J.honest device) → J.may_leave device (J.contents device)) where
  abbrev HoldsIt : KeptHead D → Contents → Known → Type 0
  HoldsIt kept synced noted = HoldsNoted J.honest J.contents J.may_leave kept synced noted

  module _ {E : Type 0} (fault : E) (refusal : Option BookError) (old : KeptHead D) (next : Contents) (later : Known) where
    abbrev number : ℕ
    number = old.head.book.head

    -- either of these, with what is noted
    abbrev IsEither : Contents → Known → List ℕ → Type 0
    IsEither synced noted left = HasNoted number left synced noted ⊎ HasNoted number left next later

    -- what is said of a book is said of one and its notes
    either_book : (synced : Contents) (noted : Known) (left : List ℕ) → IsEither synced noted left → HasBook number left synced ⊎ HasBook number left next
    either_book synced noted left has = ⊎_elim (λ before. inl (has_book number left synced noted before)) (λ after. inr (has_book number left next later after)) has

    commits : {T : Type 0} (r : Result T E) (new : KeptHead D) → CommitsNoted J old r new next later → ((synced : Contents) → Holds J.honest J.contents J.may_leave old synced → IsBacked J.may_leave new)
        → (IsTrue (is_broken old) → IsBacked J.may_leave old → IsBacked J.may_leave new) → (IsErrOf r fault → IsTrue (is_broken new)) → (IsTrue (is_broken old) → refusal ≡ None → IsErrOf r fault × (new ≡ old))
        → (IsTrue (J.sound (journal.device_of old.journal)) → IsErrOf r fault → IsTrue (is_broken old)) → DeviceKeeps J.honest J.sound (journal.device_of old.journal) (journal.device_of new.journal) → Commits J fault refusal old r new next later
    commits r new noted backed stays breaks broken never kept = record {
      acknowledged = λ synced holds. on_ok r (HoldsIt new next later) (Holds J.honest J.contents J.may_leave new next) (λ now. (later, now)) (noted.acknowledged synced holds.0 holds.1);
      each_cut = λ synced holds.
          on_ok r ((left : List ℕ) → J.may_leave (journal.device_of new.journal) left → HasNoted number left next later) ((left : List ℕ) → J.may_leave (journal.device_of new.journal) left → HasBook number left next)
          (λ cut left now. has_book number left next later (cut left now)) (noted.each_cut synced holds.0 holds.1);
      unchanged = λ synced holds.
          on_err r (HoldsIt new synced holds.0 ⊎ IsTrue (is_broken new)) (Holds J.honest J.contents J.may_leave new synced ⊎ IsTrue (is_broken new))
          (λ back. ⊎_elim (λ as_before. inl (holds.0, as_before)) (λ b. inr b) back) (noted.unchanged synced holds.0 holds.1);
      any_moment = λ synced holds.
          weaker J.moment J.left_since (journal.device_of old.journal) (journal.device_of new.journal) (IsEither synced holds.0) (λ left. HasBook number left synced ⊎ HasBook number left next) (noted.any_moment synced holds.0 holds.1)
          (λ left has. either_book synced holds.0 left has);
      read_back = λ synced holds. either_book synced holds.0 (J.contents (journal.device_of new.journal)) (noted.read_back synced holds.0 holds.1);
      noted = noted;
      backed = backed;
      stays_backed = stays;
      breaks = breaks;
      broken = broken;
      never = never;
      kept = kept;
    }

    -- what a cut may leave may be read
    read_is : (new : D) → DeviceKeeps J.honest J.sound (journal.device_of old.journal) new → (synced : Contents) (noted : Known) → HoldsIt old synced noted
        → LeavesOnly J.moment J.left_since (journal.device_of old.journal) new (IsEither synced noted) → IsEither synced noted (J.contents new)
    read_is new kept synced noted holds leaves =
        left_is J.moment J.left_since J.may_leave counts (journal.device_of old.journal) new (IsEither synced noted) leaves (J.contents new)
        (reads new (subst (λ b. IsTrue b) (sym kept.honesty) holds.keeps.has.honesty))

    put_read : {S : Type 0} (put : Result S E) (after : Journal D) → Puts J fault old.journal put after old.head.book next old.notes later → (synced : Contents) (noted : Known) → HoldsIt old synced noted
        → IsEither synced noted (J.contents (journal.device_of after))
    put_read put after puts synced noted holds = read_is (journal.device_of after) puts.kept synced noted holds (puts.any_moment number synced noted holds.keeps)

    -- it is refused before anything is done
    pub undone : {T : Type 0} (e : E) → (IsTrue (is_broken old) → refusal ≡ None → e ≡ fault) → (e ≡ fault → IsTrue (is_broken old)) → Commits {T = T} J fault refusal old (Err e) old next later
    undone e first breaks =
        commits (Err e) old (record {
          acknowledged = λ synced noted holds. tt;
          each_cut = λ synced noted holds. tt;
          unchanged = λ synced noted holds. inl holds;
          any_moment = λ synced noted holds.
              nothing_done J.honest J.contents J.may_leave J.moment J.left_since number old.journal synced old.head.book noted old.notes (λ left. HasNoted number left next later) holds.keeps only;
          read_back = λ synced noted holds.
              inl (left_noted J.honest J.contents J.may_leave number old.journal synced old.head.book noted old.notes holds.keeps (J.contents (journal.device_of old.journal)) (reads (journal.device_of old.journal) holds.keeps.has.honesty));
        })
        (λ synced holds. holds_backs J.honest J.contents J.may_leave old synced holds) (λ broken back. back) (λ is. breaks (err_same e fault is))
        (λ broken none. (ap (λ (x : E). Err x) (first broken none), refl)) (λ sound is. breaks (err_same e fault is)) (record { honesty = refl; soundness = λ sound. sound })

    -- what a cut left after it offers what the book before it does
    cut_offers : {S : Type 0} (put : Result S E) (after : Journal D) → OffersAlso old.head.book next → Puts J fault old.journal put after old.head.book next old.notes later → (synced : Contents) → Holds J.honest J.contents J.may_leave old synced
        → (left : List ℕ) → J.may_leave (journal.device_of after) left → HasOffers old.head.book left
    cut_offers put after also puts synced holds left now =
        either_has old.head.book synced next left (same_also old.head.book synced holds.1.offers) also
        (either_book synced holds.0 left (left_is J.moment J.left_since J.may_leave counts (journal.device_of old.journal) (journal.device_of after) (IsEither synced holds.0) (puts.any_moment number synced holds.0 holds.1.keeps) left now))

    -- the journal refuses it
    pub fails : {T S : Type 0} (after : Journal D) (e : E) → is_broken old ≡ false → OffersAlso old.head.book next → Puts {T = S} J fault old.journal (Err e) after old.head.book next old.notes later
        → Commits {T = T} J fault refusal old (Err e) (record old { journal = after }) next later
    fails after e works also puts =
        commits (Err e) (record old { journal = after }) (record {
          acknowledged = λ synced noted holds. tt;
          each_cut = λ synced noted holds. tt;
          unchanged = λ synced noted holds.
              ⊎_elim (λ back. inl (record { works = holds.works; keeps = back; offers = holds.offers })) (λ broken. inr (or_right old.broken _ broken)) (puts.unchanged number synced noted holds.keeps);
          any_moment = λ synced noted holds. puts.any_moment number synced noted holds.keeps;
          read_back = put_read (Err e) after puts;
        })
        (λ synced holds. cut_offers (Err e) after also puts synced holds) (λ broken back. absurd (or_none _ broken works))
        (λ is. or_right old.broken _ (puts.breaks (ap (λ (x : E). Err x) (err_same e fault is)))) (λ broken none. absurd (or_none _ broken works))
        (λ sound is. or_right old.broken _ (puts.never sound (ap (λ (x : E). Err x) (err_same e fault is)))) puts.kept

    done_holds : {S : Type 0} (head : Head) (notes : Known) (after : Journal D) (unit : S) → head.book ≡ next → next.head ≡ number → notes ≡ later → Puts J fault old.journal (Ok unit) after old.head.book next old.notes later
        → (synced : Contents) (noted : Known) → HoldsIt old synced noted → HoldsIt (record old { head = head; notes = notes; journal = after }) next later
    done_holds head notes after unit is same known puts synced noted holds = record {
      works = holds.works;
      keeps = subst (λ (k : Known). Keeps J.honest J.contents J.may_leave head.book.head after next head.book later k) (sym known)
          (subst (λ (b : Contents). Keeps J.honest J.contents J.may_leave b.head after next b later later) (sym is)
          (subst (λ (n : ℕ). Keeps J.honest J.contents J.may_leave n after next next later later) (sym same) (puts.acknowledged number synced noted holds.keeps)));
      offers = subst (λ (b : Contents). OfferSame b next) (sym is) (λ campaign. refl);
    }

    -- it is done
    pub done : {T S : Type 0} (head : Head) (notes : Known) (after : Journal D) (v : T) (unit : S) → is_broken old ≡ false → head.book ≡ next → next.head ≡ number → notes ≡ later
        → Puts J fault old.journal (Ok unit) after old.head.book next old.notes later → Commits J fault refusal old (Ok v) (record old { head = head; notes = notes; journal = after }) next later
    done head notes after v unit works is same known puts =
        commits (Ok v) (record old { head = head; notes = notes; journal = after }) (record {
          acknowledged = done_holds head notes after unit is same known puts;
          each_cut = λ synced noted holds left now. left_noted J.honest J.contents J.may_leave number after next next later later (puts.acknowledged number synced noted holds.keeps) left now;
          unchanged = λ synced noted holds. tt;
          any_moment = λ synced noted holds. puts.any_moment number synced noted holds.keeps;
          read_back = put_read (Ok unit) after puts;
        })
        (λ synced holds. holds_backs J.honest J.contents J.may_leave (record old { head = head; notes = notes; journal = after }) next (later, done_holds head notes after unit is same known puts synced holds.0 holds.1))
        (λ broken back. absurd (or_none _ broken works)) (λ is_err. absurd (ok_err v fault is_err)) (λ broken none. absurd (or_none _ broken works)) (λ sound is_err. absurd (ok_err v fault is_err)) puts.kept

    -- it is on the device, and memory for the head end is refused
    pub lost : {T S : Type 0} (head : Head) (notes : Known) (after : Journal D) (e : E) (unit : S) → is_broken old ≡ false → (e ≡ fault → ⊥) → OffersAlso old.head.book next → head ≡ old.head
        → Puts J fault old.journal (Ok unit) after old.head.book next old.notes later → Commits {T = T} J fault refusal old (Err e) (record old { head = head; notes = notes; journal = after; broken = true }) next later
    lost head notes after e unit works other also is puts =
        commits (Err e) (record old { head = head; notes = notes; journal = after; broken = true }) (record {
          acknowledged = λ synced noted holds. tt;
          each_cut = λ synced noted holds. tt;
          unchanged = λ synced noted holds. inr refl;
          any_moment = λ synced noted holds. puts.any_moment number synced noted holds.keeps;
          read_back = put_read (Ok unit) after puts;
        })
        (λ synced holds left now. subst (λ (h : Head). HasOffers h.book left) (sym is) (cut_offers (Ok unit) after also puts synced holds left now)) (λ broken back. absurd (or_none _ broken works))
        (λ is_err. absurd (other (err_same e fault is_err))) (λ broken none. absurd (or_none _ broken works)) (λ sound is_err. absurd (other (err_same e fault is_err))) puts.kept

  -- it makes the same of the book, and its answer is the journal's
  pub same_book : {T E : Type 0} (fault : E) (refusal : Option BookError) (old : KeptHead D) (after : Journal D) (r : Result T E) → is_broken old ≡ false → Puts J fault old.journal r after old.head.book old.head.book old.notes old.notes
      → Commits J fault refusal old r (record old { journal = after }) old.head.book old.notes
  same_book fault refusal old after (Ok v) works puts = done fault refusal old old.head.book old.notes old.head old.notes after v v works refl refl refl puts
  same_book fault refusal old after (Err e) works puts = fails fault refusal old old.head.book old.notes after e works (λ campaign shown is. is) puts

-- ---- another value, or the same error

module _ {D E : Type 0} (J : JournalDevice.Ghosts D) (fault : E) (refusal : Option BookError) (old new : KeptHead D) (next : Contents) (later : Known) where
  pub told_ok : {T S : Type 0} (v : T) (u : S) → Commits J fault refusal old (Ok u) new next later → Commits J fault refusal old (Ok v) new next later
  told_ok v u commits = record {
    acknowledged = commits.acknowledged;
    each_cut = commits.each_cut;
    unchanged = λ synced holds. tt;
    any_moment = commits.any_moment;
    read_back = commits.read_back;
    noted = record {
      acknowledged = commits.noted.acknowledged;
      each_cut = commits.noted.each_cut;
      unchanged = λ synced noted holds. tt;
      any_moment = commits.noted.any_moment;
      read_back = commits.noted.read_back;
    };
    backed = commits.backed;
    stays_backed = commits.stays_backed;
    breaks = λ is. absurd (ok_err v fault is);
    broken = λ broken none. absurd (ok_err u fault (commits.broken broken none).0);
    never = λ sound is. absurd (ok_err v fault is);
    kept = commits.kept;
  }

  pub told_err : {T S : Type 0} (e : E) → Commits {T = S} J fault refusal old (Err e) new next later → Commits {T = T} J fault refusal old (Err e) new next later
  told_err e commits = record {
    acknowledged = λ synced holds. tt;
    each_cut = λ synced holds. tt;
    unchanged = commits.unchanged;
    any_moment = commits.any_moment;
    read_back = commits.read_back;
    noted = record {
      acknowledged = λ synced noted holds. tt;
      each_cut = λ synced noted holds. tt;
      unchanged = commits.noted.unchanged;
      any_moment = commits.noted.any_moment;
      read_back = commits.noted.read_back;
    };
    backed = commits.backed;
    stays_backed = commits.stays_backed;
    breaks = λ is. commits.breaks (ap (λ (x : E). Err x) (err_same e fault is));
    broken = λ broken none. (ap (λ (x : E). Err x) (err_same e fault (commits.broken broken none).0), (commits.broken broken none).1);
    never = λ sound is. commits.never sound (ap (λ (x : E). Err x) (err_same e fault is));
    kept = commits.kept;
  }

-- ---- a head end that was begun with, once its journal had what it is of

module _ {D : Type 0} (old new : KeptHead D) (after : Journal D) (same : new.journal ≡ after) where
  pub begun : new.broken ≡ old.broken → (let kept : KeptHead D = record old { head = new.head; notes = new.notes; journal = after } in kept ≡ new)
  begun works =
      ap (λ (j : Journal D). (let kept : KeptHead D = record old { head = new.head; notes = new.notes; journal = j } in kept)) (sym same)
      ∙ ap (λ (b : Bool). (let kept : KeptHead D = record new { broken = b } in kept)) (sym works)

  pub begun_broken : (let kept : KeptHead D = record old { head = new.head; notes = new.notes; journal = after; broken = true } in kept ≡ record new { broken = true })
  begun_broken = ap (λ (j : Journal D). (let kept : KeptHead D = record old { head = new.head; notes = new.notes; journal = j; broken = true } in kept)) (sym same)
