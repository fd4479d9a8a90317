-- What notes make of a book and of what is known.
use Rattle.std.proofs.Common.{◌≡◌, ℕ, Bool, true, false, cond, ◌==◌, nat_eq, is_none, not, List, [], ◌∷◌, Option, Some, None, IsSome, option_map, Result, refl, sym, ap, subst, ◌∙◌, ⊎_elim}
use Rattle.std.specs.Map.{lookup}
use Rattle.std.specs.Option.{option_map_or, option_and_then}
use Rattle.std.proofs.lemmas.Bool.{false≢true, cases_Bool, cond-true}
use Rattle.std.proofs.lemmas.Bool.Decides.{Decides-eqb}
use Rattle.fw_names.specs.Name.{Campaign}
use Rattle.fw_wrapper.specs.Refusals.{first_applying}
use Rattle.fw_book.specs.declared.row.RowState.{RowState}
use Rattle.fw_book.specs.declared.row.RowState.TheVariants as state
use Rattle.fw_book.specs.declared.error.BookError.{BookError}
use Rattle.fw_book.specs.declared.error.BookError.TheVariants.{NoSuchCampaign, NotLive}
use Rattle.fw_book.specs.declared.notes.End.{End}
use Rattle.fw_book.specs.Rows.{is_live, state_of}
use Rattle.fw_book.specs.Contents.{Offered, Contents, offered_in, image_in, state_in}
use Rattle.fw_book.specs.Changes.{opened, marked, opening_refusal, mark_refusal}
use Rattle.fw_book.specs.Laws.{OpeningOffers, StatesFollowCalls, AdmittedOpens}
use Rattle.fw_book.specs.Notes.{Known, with_opening, with_ending}
use Rattle.fw_journal.specs.declared.device.JournalDevice
use Rattle.fw_journal.specs.declared.journal.Journal.{Journal}
use Rattle.fw_ledger.specs.declared.record.Ending.{Ending}
use Rattle.fw_ledger.specs.declared.record.Ending.TheVariants as ending
use Rattle.fw_ledger.specs.declared.record.Note.TheVariants.{Opened, Ended}
use Rattle.fw_ledger.specs.Entry.{Entry, mark, note, IsNote}
use Rattle.fw_ledger.specs.Replay as replay
use Rattle.fw_ledger.specs.Replay.{ends_so, HasEnd, MakesMarked, Makes}
use Rattle.fw_ledger.specs.Noted.{known_with}
use Rattle.fw_kept.specs.Private.{Puts}
use Rattle.fw_kept.proofs.Books.{no_note}

no_state : {X : Type 0} (x : X) → None ≡ Some x → ⊥
no_state x is = cc is

-- ---- a commit of a record that is no note

pub puts_plain : {D T E : Type 0} (J : JournalDevice.Ghosts D) (fault : E) (old new : Journal D) (r : Result T E) (book next : Contents) (known : Known) (entry : Entry) → ¬ IsNote entry
    → Puts J fault old r new book next known (known_with known entry) → Puts J fault old r new book next known known
puts_plain J fault old new r book next known entry none puts = subst (λ (k : Known). Puts J fault old r new book next known k) (no_note known entry none) puts

-- ---- the note of an opening

some_image : (o : Option Offered) (image : List ℕ) → option_map (λ (offer : Offered). offer.image) o ≡ Some image → IsSome o
some_image None image is = absurd (no_state image is)
some_image (Some offer) image is = refl

-- a campaign that was opened is there
pub opened_there : OpeningOffers → AdmittedOpens → (book : Contents) (campaign : Campaign) (release : ℕ) (image meters : List ℕ) → opening_refusal book campaign image meters ≡ None → IsSome (offered_in (opened book campaign.serial release image meters) campaign)
opened_there offers admitted book campaign release image meters none =
    let opens = (admitted book campaign image meters).0 none in
    some_image (offered_in (opened book campaign.serial release image meters) campaign) image (offers book campaign release image meters opens.own opens.serial_new).own

pub opening_makes : (next : Contents) (campaign : Campaign) (now : ℕ) (entry : Entry) → entry ≡ note campaign (Opened now) → IsSome (offered_in next campaign) → Makes entry next next
opening_makes next campaign now entry is some = subst (λ (e : Entry). Makes e next next) (sym is) (some, refl)

-- what is known after an opening and its note
pub opening_known : (known : Known) (first second : Entry) (campaign : Campaign) (now : ℕ) → ¬ IsNote first → second ≡ note campaign (Opened now) → known_with (known_with known first) second ≡ with_opening known campaign.serial now
opening_known known first second campaign now none is = ap (λ (k : Known). known_with k second) (no_note known first none) ∙ ap (λ (e : Entry). known_with known e) is

-- ---- the note of a row's end

live_marked : (book : Contents) (campaign : Campaign) (meter : ℕ) → mark_refusal book campaign meter ≡ None → state_in book campaign meter ≡ Some state.Live
live_marked book campaign meter admitted = of (state_in book campaign meter) admitted
  where
    refusal : Option RowState → Option BookError
    refusal s = first_applying ((is_none s, NoSuchCampaign) ∷ (not (option_map_or is_live s false), NotLive) ∷ [])

    of : (s : Option RowState) → refusal s ≡ None → s ≡ Some state.Live
    of None is = absurd (no_state NoSuchCampaign (sym is))
    of (Some state.Live) is = refl
    of (Some state.Done) is = absurd (no_state NotLive (sym is))
    of (Some state.Failed) is = absurd (no_state NotLive (sym is))
    of (Some state.Cancelled) is = absurd (no_state NotLive (sym is))

state_head : (book : Contents) (campaign : Campaign) (meter : ℕ) (s : RowState) → state_in book campaign meter ≡ Some s → campaign.head ≡ book.head
state_head book campaign meter s is =
    ⊎_elim (λ here. (Decides-eqb campaign.head book.head).0 here)
    (λ foreign.
    absurd (no_state s (sym (ap (λ b. option_and_then (λ (offer : Offered). state_of offer.rows meter) (cond b (lookup (nat_eq campaign.serial) book.campaigns) None)) foreign) ∙ is)))
    (cases_Bool (campaign.head == book.head))

-- a row that was marked so has ended so
pub marked_end : StatesFollowCalls → (before next : Contents) (campaign : Campaign) (meter : ℕ) (e : Ending) (told : End) → MakesMarked before campaign meter e next → ends_so (replay.state_of e) told ≡ true → HasEnd next campaign meter told
marked_end follow before next campaign meter e told makes so =
    let s = replay.state_of e in
    let live = live_marked before campaign meter makes.0 in
    let go = (follow before campaign (state_head before campaign meter state.Live live)).at_mark meter s in
    subst (λ (c : Contents). HasEnd c campaign meter told) (sym makes.1) (record {
      state = s;
      is_state = go.own meter
          ∙ cond-true (meter == meter) (option_map (λ (was : RowState). s) (state_in before campaign meter)) (state_in before campaign meter) ((Decides-eqb meter meter).1 refl)
          ∙ ap (λ (o : Option RowState). option_map (λ (was : RowState). s) o) live;
      ended = so;
    })

pub ending_makes : (next : Contents) (campaign : Campaign) (meter : ℕ) (told : End) (entry : Entry) → entry ≡ note campaign (Ended meter told) → HasEnd next campaign meter told → Makes entry next next
ending_makes next campaign meter told entry is has = subst (λ (e : Entry). Makes e next next) (sym is) (has, refl)
