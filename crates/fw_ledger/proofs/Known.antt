-- What is known from the notes of records, and that it is of their book.
use Rattle.std.proofs.Common.{◌≡◌, ◌≢◌, ◌⊎◌, inl, inr, ℕ, ◌<◌, ◌^◌, Bool, true, false, cond, ◌==◌, ◌&&◌, not, is_none, is_some, nat_eq, List, [], ◌∷◌, ◌++◌, Option, Some, None, option_map, if◌then◌else◌, refl, sym, ap, subst, ◌∙◌, ⊎_elim}
use Rattle.std.specs.Prelude.{IsSome}
use Rattle.std.specs.List.{AllByRecursion}
use Rattle.std.specs.Map.{lookup}
use Rattle.std.specs.Option.{option_map_or, option_and_then}
use Rattle.std.proofs.lemmas.Bool.{false≢true, cases_Bool, cond-true, cond-false}
use Rattle.std.proofs.lemmas.Bool.Decides.{Decides-eqb}
use Rattle.fw_names.specs.Name.{Campaign}
use Rattle.fw_wrapper.specs.Refusals.{first_applying}
use Rattle.fw_book.specs.declared.row.Row.{Row}
use Rattle.fw_book.specs.declared.row.RowState.{RowState}
use Rattle.fw_book.specs.declared.row.RowState.TheVariants as row
use Rattle.fw_book.specs.declared.error.BookError.{BookError}
use Rattle.fw_book.specs.declared.error.BookError.TheVariants.{NoSuchCampaign, NotLive}
use Rattle.fw_book.specs.declared.notes.End.{End}
use Rattle.fw_book.specs.Rows.{is_live, has_live, meters_of, state_of}
use Rattle.fw_book.specs.Contents.{Offered, Contents, offered_in, image_in, state_in, has_serial}
use Rattle.fw_book.specs.Changes.{empty_book, opened, marked, cancelled, mark_refusal, cancel_refusal}
use Rattle.fw_book.specs.Laws.{ImagesStay, StatesFollowCalls, AdmittedOpens}
use Rattle.fw_book.specs.Notes.{Known, nothing_known, opened_at, end_of, with_opening, with_ending, NotesSay}
use Rattle.fw_ledger.specs.declared.record.Ending.{Ending}
use Rattle.fw_ledger.specs.declared.record.Note.{Note}
use Rattle.fw_ledger.specs.declared.record.Note.TheVariants.{Opened, Ended}
use Rattle.fw_ledger.specs.Entry.{Entry, opening, mark, cancelling, endings, note, NumbersFit, IsNote, Spells, SpellAll}
use Rattle.fw_ledger.specs.Replay as replay
use Rattle.fw_ledger.specs.Replay.{ends_so, HasEnd, IsNoteOf, MakesMarked, MakesNumbered, MakesEach, Makes, Adds, AddsAll, IsBookOf}
use Rattle.fw_ledger.specs.Noted.{known_with, known_after, KnowSame, AreNotesOf, IsKnownOf}
use Rattle.fw_ledger.specs.Laws.{NotesOfBook, BooksHaveNotes, NotesGoOn, NothingNoted}
use Rattle.fw_ledger.proofs.Spellings.{record_unique}

-- ---- the same is known

pub know_same : (a : Known) → KnowSame a a
know_same a = record { openings = λ serial. refl; ends = λ serial meter fits. refl }

know_back : (a b : Known) → KnowSame a b → KnowSame b a
know_back a b same = record { openings = λ serial. sym (same.openings serial); ends = λ serial meter fits. sym (same.ends serial meter fits) }

know_on : (a b c : Known) → KnowSame a b → KnowSame b c → KnowSame a c
know_on a b c one two = record { openings = λ serial. one.openings serial ∙ two.openings serial; ends = λ serial meter fits. one.ends serial meter fits ∙ two.ends serial meter fits }

pub same_with : NotesSay → (a b : Known) (entry : Entry) → NumbersFit entry → KnowSame a b → KnowSame (known_with a entry) (known_with b entry)
same_with say a b (opening campaign release source meters) fits same = same
same_with say a b (mark campaign meter e) fits same = same
same_with say a b (cancelling campaign) fits same = same
same_with say a b (endings campaign numbers) fits same = same
same_with say a b (note campaign (Opened at)) fits same = record {
  openings = λ other.
      say.opened a campaign.serial at other ∙ ap (λ (o : Option ℕ). if other == campaign.serial then Some at else o) (same.openings other) ∙ sym (say.opened b campaign.serial at other);
  ends = λ serial meter is. same.ends serial meter is;
}
same_with say a b (note campaign (Ended meter told)) fits same = record {
  openings = λ serial. same.openings serial;
  ends = λ other whose is.
      say.ended a campaign.serial meter told other whose fits.0 is
      ∙ ap (λ (o : Option End). if (other == campaign.serial) && (whose == meter) then Some told else o) (same.ends other whose is)
      ∙ sym (say.ended b campaign.serial meter told other whose fits.0 is);
}

pub after_join : (known : Known) (xs ys : List Entry) → known_after known (xs ++ ys) ≡ known_after (known_after known xs) ys
after_join known [] ys = refl
after_join known (x ∷ xs) ys = after_join (known_with known x) xs ys

-- ---- records spell one list of entries

pub spell_unique : (records : List (List ℕ)) (xs ys : List Entry) → SpellAll records xs → SpellAll records ys → xs ≡ ys
spell_unique [] [] [] first second = refl
spell_unique [] [] (y ∷ ys) first second = absurd second
spell_unique [] (x ∷ xs) ys first second = absurd first
spell_unique (bytes ∷ records) [] ys first second = absurd first
spell_unique (bytes ∷ records) (x ∷ xs) [] first second = absurd second
spell_unique (bytes ∷ records) (x ∷ xs) (y ∷ ys) first second =
    ap (λ (e : Entry). e ∷ xs) (record_unique bytes x y first.0 second.0) ∙ ap (λ (l : List Entry). y ∷ l) (spell_unique records xs ys first.1 second.1)

pub spell_more : (records : List (List ℕ)) (entries : List Entry) (bytes : List ℕ) (entry : Entry) → SpellAll records entries → Spells bytes entry → SpellAll (records ++ bytes ∷ []) (entries ++ entry ∷ [])
spell_more [] [] bytes entry spell one = (one, tt)
spell_more [] (x ∷ xs) bytes entry spell one = absurd spell
spell_more (first ∷ records) [] bytes entry spell one = absurd spell
spell_more (first ∷ records) (x ∷ xs) bytes entry spell one = (spell.0, spell_more records xs bytes entry spell.1 one)

-- just this is known after these records
pub record AreExactly (records : List (List ℕ)) (known : Known) : Type 0 where
  pub entries : List Entry
  pub spelled : SpellAll records entries
  pub is : known ≡ known_after nothing_known entries

pub exactly_none : AreExactly [] nothing_known
exactly_none = record { entries = []; spelled = tt; is = refl }

pub exactly_more : (records : List (List ℕ)) (bytes : List ℕ) (entry : Entry) (known later : Known) → AreExactly records known → Spells bytes entry → later ≡ known_with known entry → AreExactly (records ++ bytes ∷ []) later
exactly_more records bytes entry known later are spells is = record {
  entries = are.entries ++ entry ∷ [];
  spelled = spell_more records are.entries bytes entry are.spelled spells;
  is = is ∙ ap (λ (k : Known). known_with k entry) are.is ∙ sym (after_join nothing_known are.entries (entry ∷ []));
}

pub exactly_notes : (records : List (List ℕ)) (known : Known) → AreExactly records known → AreNotesOf records known
exactly_notes records known are = record {
  entries = are.entries;
  spelled = are.spelled;
  same = subst (λ (k : Known). KnowSame (known_after nothing_known are.entries) k) (sym are.is) (know_same (known_after nothing_known are.entries));
}

pub notes_go_on : NotesSay → NotesGoOn
notes_go_on say records bytes entry known are spells = record {
  entries = are.entries ++ entry ∷ [];
  spelled = spell_more records are.entries bytes entry are.spelled spells;
  same = subst (λ (k : Known). KnowSame k (known_with known entry)) (sym (after_join nothing_known are.entries (entry ∷ [])))
      (same_with say (known_after nothing_known are.entries) known entry spells.fit are.same);
}

no_note : (known : Known) (entry : Entry) → ¬ IsNote entry → known_with known entry ≡ known
no_note known (opening campaign release source meters) none = refl
no_note known (mark campaign meter e) none = refl
no_note known (cancelling campaign) none = refl
no_note known (endings campaign numbers) none = refl
no_note known (note campaign told) none = absurd (none tt)

no_notes : (known : Known) (entries : List Entry) → AllByRecursion (λ (entry : Entry). ¬ IsNote entry) entries → known_after known entries ≡ known
no_notes known [] none = refl
no_notes known (entry ∷ entries) none = ap (λ (k : Known). known_after k entries) (no_note known entry none.0) ∙ no_notes known entries none.1

pub nothing_noted : NothingNoted
nothing_noted records entries spell none = record {
  entries = entries;
  spelled = spell;
  same = subst (λ (k : Known). KnowSame k nothing_known) (sym (no_notes nothing_known entries none)) (know_same nothing_known);
}

-- ---- options

pub same_value : {X : Type 0} (a b : X) → Some a ≡ Some b → a ≡ b
same_value a b is = cc is

pub none_some : {X : Type 0} (x : X) → None ≡ Some x → ⊥
none_some x is = cc is

record Found {X : Type 0} (o : Option X) : Type 0 where
  pub value : X
  pub is : o ≡ Some value

found : {X : Type 0} (o : Option X) → IsSome o → Found o
found None some = absurd (false≢true some)
found (Some x) some = record { value = x; is = refl }

-- ---- of which book they are

abbrev own : Contents → ℕ → Campaign
own book serial = record { head = book.head; serial = serial }

offered_head : (book : Contents) (campaign : Campaign) → IsSome (offered_in book campaign) → campaign.head ≡ book.head
offered_head book campaign some =
    ⊎_elim (λ here. (Decides-eqb campaign.head book.head).0 here)
    (λ foreign. absurd (false≢true (sym (ap (λ b. is_some (cond b (lookup (nat_eq campaign.serial) book.campaigns) None)) foreign) ∙ some)))
    (cases_Bool (campaign.head == book.head))

state_offered : (book : Contents) (campaign : Campaign) (meter : ℕ) (state : RowState) → state_in book campaign meter ≡ Some state → IsSome (offered_in book campaign)
state_offered book campaign meter state is = of (offered_in book campaign) is
  where
    of : (o : Option Offered) → option_and_then (λ (offer : Offered). state_of offer.rows meter) o ≡ Some state → IsSome o
    of None is = absurd (none_some state is)
    of (Some offer) is = refl

offered_serial : (book : Contents) (campaign : Campaign) → IsSome (offered_in book campaign) → has_serial book campaign.serial ≡ true
offered_serial book campaign some =
    let here = (Decides-eqb campaign.head book.head).1 (offered_head book campaign some) in
    sym (ap (λ b. is_some (cond b (lookup (nat_eq campaign.serial) book.campaigns) None)) here) ∙ some

shows : (o : Option Offered) (image : List ℕ) → option_map (λ (offer : Offered). offer.image) o ≡ Some image → IsSome o
shows None image is = absurd (none_some image is)
shows (Some offer) image is = refl

-- a campaign that has its image still is there
still_offered : (book next : Contents) (campaign : Campaign) → ((image : List ℕ) → image_in book campaign ≡ Some image → image_in next campaign ≡ Some image) → IsSome (offered_in book campaign) → IsSome (offered_in next campaign)
still_offered book next campaign stays some =
    let offer = found (offered_in book campaign) some in
    shows (offered_in next campaign) offer.value.image (stays offer.value.image (ap (λ (o : Option Offered). option_map (λ (f : Offered). f.image) o) offer.is))

same_campaign : (a b : Campaign) → a.head ≡ b.head → a.serial ≡ b.serial → a ≡ b
same_campaign a b heads serials =
    let of_head : ℕ → Campaign = λ n. record { head = n; serial = a.serial } in
    let of_serial : ℕ → Campaign = λ n. record { head = b.head; serial = n } in
    ap of_head heads ∙ ap of_serial serials

-- what a call leaves of what was noted: campaigns that were there, and rows that had ended
record Leaves (book next : Contents) : Type 0 where
  pub head : next.head ≡ book.head
  pub campaigns : (campaign : Campaign) → IsSome (offered_in book campaign) → IsSome (offered_in next campaign)
  pub rows : (campaign : Campaign) (meter : ℕ) (told : End) → HasEnd book campaign meter told → HasEnd next campaign meter told

leaves_known : (book next : Contents) (known : Known) → Leaves book next → IsKnownOf book known → IsKnownOf next known
leaves_known book next known leaves is = record {
  openings = λ serial at has. subst (λ n. IsNoteOf next (record { head = n; serial = serial }) (Opened at)) (sym leaves.head) (leaves.campaigns (own book serial) (is.openings serial at has));
  ends = λ serial meter told fits has. subst (λ n. IsNoteOf next (record { head = n; serial = serial }) (Ended meter told)) (sym leaves.head) (leaves.rows (own book serial) meter told (is.ends serial meter told fits has));
}

leaves_same : (book next : Contents) → next ≡ book → Leaves book next
leaves_same book next same = subst (λ (c : Contents). Leaves book c) (sym same) (record { head = refl; campaigns = λ campaign some. some; rows = λ campaign meter told has. has })

leaves_on : (a b c : Contents) → Leaves a b → Leaves b c → Leaves a c
leaves_on a b c one two = record {
  head = two.head ∙ one.head;
  campaigns = λ campaign some. two.campaigns campaign (one.campaigns campaign some);
  rows = λ campaign meter told has. two.rows campaign meter told (one.rows campaign meter told has);
}

-- the same campaign or another one
one_or_other : (book : Contents) (campaign other : Campaign) → campaign.head ≡ book.head → other.head ≡ book.head → (other ≡ campaign) ⊎ (other ≢ campaign)
one_or_other book campaign other heads others =
    ⊎_elim (λ here. inl (same_campaign other campaign (others ∙ sym heads) ((Decides-eqb other.serial campaign.serial).0 here)))
    (λ away. inr (λ same. false≢true (sym away ∙ (Decides-eqb other.serial campaign.serial).1 (ap (λ (c : Campaign). c.serial) same))))
    (cases_Bool (other.serial == campaign.serial))

leaves_opened : ImagesStay → StatesFollowCalls → (book : Contents) (campaign : Campaign) (release : ℕ) (image meters : List ℕ) → campaign.head ≡ book.head → has_serial book campaign.serial ≡ false → Leaves book (opened book campaign.serial release image meters)
leaves_opened stay follow book campaign release image meters heads new =
    let next = opened book campaign.serial release image meters in
    let go = (follow book campaign heads).at_opening release image meters new in
    record {
      head = refl;
      campaigns = λ other some. still_offered book next other (λ shown is. (stay book other).at_opening campaign.serial release shown image meters is) some;
      rows = λ other meter told has.
          let there = state_offered book other meter has.state has.is_state in
          ⊎_elim
          (λ same. absurd (false≢true (sym new ∙ subst (λ (c : Campaign). has_serial book c.serial ≡ true) same (offered_serial book other there))))
          (λ apart. record { state = has.state; is_state = go.others other meter apart ∙ has.is_state; ended = has.ended })
          (one_or_other book campaign other heads (offered_head book other there));
    }

-- what isn't live stays as it is
leaves_marked : ImagesStay → StatesFollowCalls → (book : Contents) (campaign : Campaign) (meter : ℕ) (state : RowState) → state_in book campaign meter ≡ Some row.Live → Leaves book (marked book campaign.serial meter state)
leaves_marked stay follow book campaign meter state live =
    let heads = offered_head book campaign (state_offered book campaign meter row.Live live) in
    let next = marked book campaign.serial meter state in
    let go = (follow book campaign heads).at_mark meter state in
    record {
      head = refl;
      campaigns = λ other some. still_offered book next other (λ shown is. (stay book other).at_mark campaign.serial meter state ∙ is) some;
      rows = λ other whose told has.
          ⊎_elim
          (λ same.
          let has_own : HasEnd book campaign whose told = subst (λ (c : Campaign). HasEnd book c whose told) same has in
          ⊎_elim
          (λ here.
          let live_own : state_in book campaign whose ≡ Some row.Live = ap (λ n. state_in book campaign n) ((Decides-eqb whose meter).0 here) ∙ live in
          let is_live_one : has_own.state ≡ row.Live = same_value has_own.state row.Live (sym has_own.is_state ∙ live_own) in
          absurd (false≢true (sym (ap (λ (s : RowState). ends_so s told) is_live_one) ∙ has_own.ended)))
          (λ away.
          subst (λ (c : Campaign). HasEnd next c whose told) (sym same) (record {
            state = has_own.state;
            is_state = go.own whose ∙ cond-false (whose == meter) (option_map (λ (was : RowState). state) (state_in book campaign whose)) (state_in book campaign whose) away ∙ has_own.is_state;
            ended = has_own.ended;
          }))
          (cases_Bool (whose == meter)))
          (λ apart. record { state = has.state; is_state = go.others other whose apart ∙ has.is_state; ended = has.ended })
          (one_or_other book campaign other heads (offered_head book other (state_offered book other whose has.state has.is_state)));
    }

ended_stays : (state : RowState) (told : End) → ends_so state told ≡ true → (if is_live state then row.Cancelled else state) ≡ state
ended_stays row.Live told ended = absurd (false≢true ended)
ended_stays row.Done told ended = refl
ended_stays row.Failed told ended = refl
ended_stays row.Cancelled told ended = refl

leaves_cancelled : ImagesStay → StatesFollowCalls → (book : Contents) (campaign : Campaign) → campaign.head ≡ book.head → Leaves book (cancelled book campaign.serial)
leaves_cancelled stay follow book campaign heads =
    let next = cancelled book campaign.serial in
    let go = (follow book campaign heads).at_cancelling in
    record {
      head = refl;
      campaigns = λ other some. still_offered book next other (λ shown is. (stay book other).at_cancelling campaign.serial ∙ is) some;
      rows = λ other whose told has.
          ⊎_elim
          (λ same.
          let has_own : HasEnd book campaign whose told = subst (λ (c : Campaign). HasEnd book c whose told) same has in
          subst (λ (c : Campaign). HasEnd next c whose told) (sym same) (record {
            state = has_own.state;
            is_state = go.own whose ∙ ap (λ (o : Option RowState). option_map (λ (was : RowState). if is_live was then row.Cancelled else was) o) has_own.is_state
                ∙ ap (λ (s : RowState). Some s) (ended_stays has_own.state told has_own.ended);
            ended = has_own.ended;
          }))
          (λ apart. record { state = has.state; is_state = go.others other whose apart ∙ has.is_state; ended = has.ended })
          (one_or_other book campaign other heads (offered_head book other (state_offered book other whose has.state has.is_state)));
    }

-- ---- what refusals say

live_marked : (book : Contents) (campaign : Campaign) (meter : ℕ) → mark_refusal book campaign meter ≡ None → state_in book campaign meter ≡ Some row.Live
live_marked book campaign meter admitted = of (state_in book campaign meter) admitted
  where
    refusal : Option RowState → Option BookError
    refusal s = first_applying ((is_none s, NoSuchCampaign) ∷ (not (option_map_or is_live s false), NotLive) ∷ [])

    of : (s : Option RowState) → refusal s ≡ None → s ≡ Some row.Live
    of None is = absurd (none_some NoSuchCampaign (sym is))
    of (Some row.Live) is = refl
    of (Some row.Done) is = absurd (none_some NotLive (sym is))
    of (Some row.Failed) is = absurd (none_some NotLive (sym is))
    of (Some row.Cancelled) is = absurd (none_some NotLive (sym is))

cancelled_offered : (book : Contents) (campaign : Campaign) → cancel_refusal book campaign ≡ None → IsSome (offered_in book campaign)
cancelled_offered book campaign admitted = of (offered_in book campaign) admitted
  where
    of : (o : Option Offered) → first_applying ((is_none o, NoSuchCampaign) ∷ (not (option_map_or (λ (offer : Offered). has_live offer.rows) o false), NotLive) ∷ []) ≡ None → IsSome o
    of None is = absurd (none_some NoSuchCampaign (sym is))
    of (Some offer) is = refl

-- ---- what each record leaves

module _ (stay : ImagesStay) (follow : StatesFollowCalls) (admitted : AdmittedOpens) (say : NotesSay) where
  mark_leaves : (book : Contents) (campaign : Campaign) (meter : ℕ) (e : Ending) (next : Contents) → MakesMarked book campaign meter e next → Leaves book next
  mark_leaves book campaign meter e next makes =
      subst (λ (c : Contents). Leaves book c) (sym makes.1) (leaves_marked stay follow book campaign meter (replay.state_of e) (live_marked book campaign meter makes.0))

  number_leaves : (book : Contents) (campaign : Campaign) (meter number : ℕ) (next : Contents) → MakesNumbered book campaign meter number next → Leaves book next
  number_leaves book campaign meter number next (inl none) = leaves_same book next none.1
  number_leaves book campaign meter number next (inr some) = mark_leaves book campaign meter some.0 next some.2

  each_leaves : (meters numbers : List ℕ) (book : Contents) (campaign : Campaign) (next : Contents) → MakesEach book campaign meters numbers next → Leaves book next
  each_leaves [] [] book campaign next each = leaves_same book next each
  each_leaves [] (number ∷ numbers) book campaign next each = absurd each
  each_leaves (meter ∷ meters) [] book campaign next each = absurd each
  each_leaves (meter ∷ meters) (number ∷ numbers) book campaign next each =
      leaves_on book each.0 next (number_leaves book campaign meter number each.0 each.1) (each_leaves meters numbers each.0 campaign next each.2)

  makes_leaves : (entry : Entry) (book next : Contents) → Makes entry book next → Leaves book next
  makes_leaves (opening campaign release source meters) book next makes =
      let opens = (admitted book campaign makes.image meters).0 makes.admitted in
      subst (λ (c : Contents). Leaves book c) (sym makes.next_is) (leaves_opened stay follow book campaign release makes.image meters opens.own opens.serial_new)
  makes_leaves (mark campaign meter e) book next makes = mark_leaves book campaign meter e next makes
  makes_leaves (cancelling campaign) book next makes =
      subst (λ (c : Contents). Leaves book c) (sym makes.1) (leaves_cancelled stay follow book campaign (offered_head book campaign (cancelled_offered book campaign makes.0)))
  makes_leaves (endings campaign numbers) book next makes = each_leaves (meters_of makes.offer.rows) numbers book campaign next makes.each
  makes_leaves (note campaign told) book next makes = leaves_same book next makes.1

  -- what a note of the book says is of the book
  notes_one : (book : Contents) (known : Known) (campaign : Campaign) (told : Note) → NumbersFit (note campaign told) → IsNoteOf book campaign told → IsKnownOf book known → IsKnownOf book (known_with known (note campaign told))
  notes_one book known campaign (Opened at) fits is was = record {
    openings = λ serial time has.
        let here = sym (say.opened known campaign.serial at serial) ∙ has in
        ⊎_elim
        (λ same.
        let one = same_campaign campaign (own book serial) (offered_head book campaign is) (sym ((Decides-eqb serial campaign.serial).0 same)) in
        subst (λ (c : Campaign). IsSome (offered_in book c)) one is)
        (λ apart. was.openings serial time (sym (cond-false (serial == campaign.serial) (Some at) (opened_at known serial) apart) ∙ here))
        (cases_Bool (serial == campaign.serial));
    ends = λ serial meter told fit has. was.ends serial meter told fit has;
  }
  notes_one book known campaign (Ended meter told) fits is was = record {
    openings = λ serial time has. was.openings serial time has;
    ends = λ serial whose other fit has.
        let here = sym (say.ended known campaign.serial meter told serial whose fits.0 fit) ∙ has in
        ⊎_elim
        (λ both.
        let parts = both_true (serial == campaign.serial) (whose == meter) both in
        let one = same_campaign campaign (own book serial) (offered_head book campaign (state_offered book campaign meter is.state is.is_state)) (sym ((Decides-eqb serial campaign.serial).0 parts.0)) in
        let ends : told ≡ other = same_value told other (sym (cond-true ((serial == campaign.serial) && (whose == meter)) (Some told) (end_of known serial whose) both) ∙ here) in
        subst (λ (t : End). HasEnd book (own book serial) whose t) ends
        (subst (λ n. HasEnd book (own book serial) n told) (sym ((Decides-eqb whose meter).0 parts.1)) (subst (λ (c : Campaign). HasEnd book c meter told) one is)))
        (λ apart. was.ends serial whose other fit (sym (cond-false ((serial == campaign.serial) && (whose == meter)) (Some told) (end_of known serial whose) apart) ∙ here))
        (cases_Bool ((serial == campaign.serial) && (whose == meter)));
  }
    where
      both_true : (a b : Bool) → (a && b) ≡ true → (a ≡ true) × (b ≡ true)
      both_true true b is = (refl, is)
      both_true false b is = absurd (false≢true is)

  known_next : (entry : Entry) (book next : Contents) (known : Known) → NumbersFit entry → Makes entry book next → IsKnownOf book known → IsKnownOf next (known_with known entry)
  known_next (opening campaign release source meters) book next known fits makes was = leaves_known book next known (makes_leaves (opening campaign release source meters) book next makes) was
  known_next (mark campaign meter e) book next known fits makes was = leaves_known book next known (makes_leaves (mark campaign meter e) book next makes) was
  known_next (cancelling campaign) book next known fits makes was = leaves_known book next known (makes_leaves (cancelling campaign) book next makes) was
  known_next (endings campaign numbers) book next known fits makes was = leaves_known book next known (makes_leaves (endings campaign numbers) book next makes) was
  known_next (note campaign told) book next known fits makes was =
      subst (λ (c : Contents). IsKnownOf c (known_with known (note campaign told))) (sym makes.1) (notes_one book known campaign told fits makes.0 was)

  known_all : (records : List (List ℕ)) (entries : List Entry) (book next : Contents) (known : Known) → SpellAll records entries → AddsAll records book next → IsKnownOf book known → IsKnownOf next (known_after known entries)
  known_all [] [] book next known spell adds was = subst (λ (c : Contents). IsKnownOf c known) (sym adds) was
  known_all [] (x ∷ xs) book next known spell adds was = absurd spell
  known_all (bytes ∷ records) [] book next known spell adds was = absurd spell
  known_all (bytes ∷ records) (x ∷ xs) book next known spell adds was =
      let same = record_unique bytes adds.1.entry x adds.1.spells spell.0 in
      let makes : Makes x book adds.0 = subst (λ (e : Entry). Makes e book adds.0) same adds.1.makes in
      known_all records xs adds.0 next (known_with known x) spell.1 adds.2 (known_next x book adds.0 known spell.0.fit makes was)

  spelled_all : (records : List (List ℕ)) (book next : Contents) → AddsAll records book next → (entries : List Entry) × SpellAll records entries
  spelled_all [] book next adds = ([], tt)
  spelled_all (bytes ∷ records) book next adds =
      let rest = spelled_all records adds.0 next adds.2 in
      (adds.1.entry ∷ rest.0, (adds.1.spells, rest.1))

  of_same : (book : Contents) (a b : Known) → KnowSame a b → IsKnownOf book a → IsKnownOf book b
  of_same book a b same is = record {
    openings = λ serial at has. is.openings serial at (same.openings serial ∙ has);
    ends = λ serial meter told fits has. is.ends serial meter told fits (same.ends serial meter fits ∙ has);
  }

  nothing_of : (book : Contents) → IsKnownOf book nothing_known
  nothing_of book = record { openings = λ serial at has. absurd (none_some at has); ends = λ serial meter told fits has. absurd (none_some told has) }

  pub books_have_notes : BooksHaveNotes
  books_have_notes head records book is = record {
    some = (let all = spelled_all records (empty_book head) book is in (known_after nothing_known all.0, record { entries = all.0; spelled = all.1; same = know_same (known_after nothing_known all.0) }));
    one = λ a b first second.
        know_on a (known_after nothing_known first.entries) b (know_back (known_after nothing_known first.entries) a first.same)
        (subst (λ (l : List Entry). KnowSame (known_after nothing_known l) b) (spell_unique records second.entries first.entries second.spelled first.spelled) second.same);
    of_book = λ known are.
        of_same book (known_after nothing_known are.entries) known are.same
        (known_all records are.entries (empty_book head) book nothing_known are.spelled is (nothing_of (empty_book head)));
  }
