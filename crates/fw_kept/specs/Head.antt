-- Public vocabulary: a head end whose book is kept in a journal, and what a power cut leaves of it.
use Rattle.std.specs.Prelude.{◌≡◌, ◌⊎◌, ℕ, List, Option, Some, None, Bool, true, false, ◌||◌, Result, OnOk, OnErr, IsErrOf, IsTrue}
use Rattle.std.specs.Option.{option_map}
use Rattle.fw_names.specs.Name.{Campaign}
use Rattle.fw_book.specs.Contents.{Contents, Offered, offered_in}
use Rattle.fw_book.specs.Notes.{Known, with_ending}
use Rattle.fw_book.specs.declared.error.BookError.{BookError}
use Rattle.fw_book.specs.declared.notes.Reason.{Reason}
use Rattle.fw_head.specs.Head.{Head, GivesUpRow, HeadHears}
use Rattle.fw_head.specs.declared.giving_up.GivenUp.{GivenUp}
use Rattle.fw_head.specs.declared.giving_up.WhyGivenUp.{WhyGivenUp}
use Rattle.fw_head.specs.declared.news.News.{News}
use Rattle.fw_head.specs.declared.news.News.TheVariants.{Nothing, Moved, Done, Failed}
use Rattle.fw_journal.specs.Device.{LeavesOnly, Keeps as DeviceKeeps}
use Rattle.fw_journal.specs.Journal as journal
use Rattle.fw_journal.specs.declared.device.JournalDevice
use Rattle.fw_journal.specs.declared.journal.Journal.{Journal}
use Rattle.fw_kept.specs.Kept.{HasBook, HasNoted, Keeps}
use Rattle.fw_kept.specs.declared.head.KeptHead.{KeptHead}

-- ---- books that offer the same

-- the release and the image that a campaign offers, whatever became of its rows
abbrev pub shown_in : Contents → Campaign → Option (ℕ × List ℕ)
shown_in book campaign = option_map (λ (offer : Offered). (offer.release, offer.image)) (offered_in book campaign)

-- each campaign offers the same in both books
abbrev pub OfferSame : Contents → Contents → Type 0
OfferSame a b = (campaign : Campaign) → shown_in a campaign ≡ shown_in b campaign

-- what the first offers, the second offers too
abbrev pub OffersAlso : Contents → Contents → Type 0
OffersAlso a b = (campaign : Campaign) (shown : ℕ × List ℕ) → shown_in a campaign ≡ Some shown → shown_in b campaign ≡ Some shown

-- ---- a kept head end

-- the head end in memory
abbrev pub head_of : {D : Type 0} → KeptHead D → Head
head_of kept = kept.head

-- its book
abbrev pub book_of : {D : Type 0} → KeptHead D → Contents
book_of kept = kept.head.book

-- what is known of it
abbrev pub known_of : {D : Type 0} → KeptHead D → Known
known_of kept = kept.notes

abbrev pub journal_of : {D : Type 0} → KeptHead D → Journal D
journal_of kept = kept.journal

abbrev pub device_of : {D : Type 0} → KeptHead D → D
device_of kept = journal.device_of kept.journal

-- nothing is committed any more
abbrev pub is_broken : {D : Type 0} → KeptHead D → Bool
is_broken kept = kept.broken || journal.is_broken kept.journal

-- Every power cut leaves the book `synced` and what was `noted` of it, and what waits for the next commit makes the book in memory of it and
-- what is known there. Both books offer the same: only marks wait, each with its note.
pub record HoldsNoted {D : Type 0} (honest : D → Bool) (contents : D → List ℕ) (may_leave : D → List ℕ → Type 0) (kept : KeptHead D) (synced : Contents) (noted : Known) : Type 0 where
  pub works : kept.broken ≡ false
  pub keeps : Keeps honest contents may_leave kept.head.book.head kept.journal synced kept.head.book noted kept.notes
  pub offers : OfferSame kept.head.book synced

-- the same, whatever was noted
abbrev pub Holds : {D : Type 0} → (D → Bool) → (D → List ℕ) → (D → List ℕ → Type 0) → KeptHead D → Contents → Type 0
Holds honest contents may_leave kept synced = (noted : Known) × HoldsNoted honest contents may_leave kept synced noted

-- ---- what is heard

-- a row ended
abbrev pub IsEnd : News → Type 0
IsEnd Nothing = ⊥
IsEnd Moved = ⊥
IsEnd (Done campaign meter) = Unit {0}
IsEnd (Failed campaign meter) = Unit {0}

-- what is known once these news are heard: when a row ended, and why, if it failed
abbrev pub known_heard : Known → News → Option Reason → ℕ → Known
known_heard known Nothing why now = known
known_heard known Moved why now = known
known_heard known (Done campaign meter) why now = with_ending known campaign.serial meter (record { at = now; reason = None })
known_heard known (Failed campaign meter) why now = with_ending known campaign.serial meter (record { at = now; reason = why })

-- A row ended, and memory for the record of its mark or of its note was refused. The book in memory has the mark, and nothing is committed
-- any more.
pub record LosesMark {D : Type 0} (old : KeptHead D) (meter : ℕ) (datagram : List ℕ) (new : KeptHead D) : Type 0 where
  pub told : News
  pub hears : HeadHears old.head meter datagram told new.head
  pub ends : IsEnd told
  pub broken : new.broken ≡ true

-- ---- what is given up

-- what is known once the row of a meter is given up: when it ended, and why
abbrev pub known_given_up : Known → ℕ → GivenUp → ℕ → Known
known_given_up known meter given now = with_ending known given.campaign.serial meter (record { at = now; reason = Some given.reason })

-- A row was given up, and memory for the record of its mark or for its note was refused. The book in memory has the mark, and nothing is
-- committed any more.
pub record LosesGivenUp {D : Type 0} (old : KeptHead D) (meter : ℕ) (why : WhyGivenUp) (new : KeptHead D) : Type 0 where
  pub given : GivenUp
  pub gives : GivesUpRow old.head meter why given new.head
  pub broken : new.broken ≡ true

-- ---- if nothing is committed any more

-- the bytes have a book of the same head end, which offers what this one does
pub record HasOffers (book : Contents) (bytes : List ℕ) : Type 0 where
  pub other : Contents
  pub has : HasBook book.head bytes other
  pub also : OffersAlso book other

-- every power cut leaves a book that offers what the one in memory does
abbrev pub IsBacked : {D : Type 0} → (D → List ℕ → Type 0) → KeptHead D → Type 0
IsBacked may_leave kept = (left : List ℕ) → may_leave (device_of kept) left → HasOffers kept.head.book left

-- ---- what a call that commits leaves

-- What a call that commits leaves of a book and of what is noted of it: from `Ok` on `next`, of which `known` is known, after each cut, and
-- at any moment that or what was left before it.
pub record CommitsNoted {D T E : Type 0} (J : JournalDevice.Ghosts D) (old : KeptHead D) (result : Result T E) (new : KeptHead D) (next : Contents) (known : Known) : Type 0 where
  pub acknowledged : (synced : Contents) (noted : Known) → HoldsNoted J.honest J.contents J.may_leave old synced noted → OnOk result (HoldsNoted J.honest J.contents J.may_leave new next known)
  pub each_cut : (synced : Contents) (noted : Known) → HoldsNoted J.honest J.contents J.may_leave old synced noted
      → OnOk result ((left : List ℕ) → J.may_leave (device_of new) left → HasNoted (book_of old).head left next known)
  pub unchanged : (synced : Contents) (noted : Known) → HoldsNoted J.honest J.contents J.may_leave old synced noted
      → OnErr result (HoldsNoted J.honest J.contents J.may_leave new synced noted ⊎ IsTrue (is_broken new))
  pub any_moment : (synced : Contents) (noted : Known) → HoldsNoted J.honest J.contents J.may_leave old synced noted
      → LeavesOnly J.moment J.left_since (device_of old) (device_of new) (λ left. HasNoted (book_of old).head left synced noted ⊎ HasNoted (book_of old).head left next known)
  pub read_back : (synced : Contents) (noted : Known) → HoldsNoted J.honest J.contents J.may_leave old synced noted
      → HasNoted (book_of old).head (J.contents (device_of new)) synced noted ⊎ HasNoted (book_of old).head (J.contents (device_of new)) next known

-- A call that commits what waits, and makes `next` of the book, of which `known` is known then. It is refused for `refusal` of the book
-- first, if that is some; `fault` says that the device failed, in this call or in an earlier one.
pub record Commits {D T E : Type 0} (J : JournalDevice.Ghosts D) (fault : E) (refusal : Option BookError) (old : KeptHead D) (result : Result T E) (new : KeptHead D) (next : Contents) (known : Known) : Type 0 where
  -- from `Ok` on every power cut leaves that book
  pub acknowledged : (synced : Contents) → Holds J.honest J.contents J.may_leave old synced → OnOk result (Holds J.honest J.contents J.may_leave new next)
  pub each_cut : (synced : Contents) → Holds J.honest J.contents J.may_leave old synced → OnOk result ((left : List ℕ) → J.may_leave (device_of new) left → HasBook (book_of old).head left next)
  -- if it is refused, what a power cut leaves and what waits are as they were, or it is broken
  pub unchanged : (synced : Contents) → Holds J.honest J.contents J.may_leave old synced → OnErr result (Holds J.honest J.contents J.may_leave new synced ⊎ IsTrue (is_broken new))
  -- a cut at any moment of the call leaves the book of the last commit, or that one
  pub any_moment : (synced : Contents) → Holds J.honest J.contents J.may_leave old synced
      → LeavesOnly J.moment J.left_since (device_of old) (device_of new) (λ left. HasBook (book_of old).head left synced ⊎ HasBook (book_of old).head left next)
  -- and so does the call where it returns, as it is read back without a cut: the process may be killed then
  pub read_back : (synced : Contents) → Holds J.honest J.contents J.may_leave old synced
      → HasBook (book_of old).head (J.contents (device_of new)) synced ⊎ HasBook (book_of old).head (J.contents (device_of new)) next
  -- so it is with what is noted
  pub noted : CommitsNoted J old result new next known
  -- also if nothing is committed from now on: every cut leaves a book that offers what the one in memory does
  pub backed : (synced : Contents) → Holds J.honest J.contents J.may_leave old synced → IsBacked J.may_leave new
  pub stays_backed : IsTrue (is_broken old) → IsBacked J.may_leave old → IsBacked J.may_leave new
  -- whatever the device is: what failed once stays failed, and only a device that isn't sound fails
  pub breaks : IsErrOf result fault → IsTrue (is_broken new)
  pub broken : IsTrue (is_broken old) → refusal ≡ None → IsErrOf result fault × (new ≡ old)
  pub never : IsTrue (J.sound (device_of old)) → IsErrOf result fault → IsTrue (is_broken old)
  pub kept : DeviceKeeps J.honest J.sound (device_of old) (device_of new)
