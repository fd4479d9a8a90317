-- That the notes of records that are made again say what is known, and leave the book.
use Rattle.std.proofs.Common.{◌≡◌, ℕ, ◌<◌, ◌≤◌, ◌^◌, Bool, true, false, cond, ◌==◌, ◌&&◌, eqb, nat_eq, nat_lt, is_some, find, List, [], ◌∷◌, ◌++◌, length, Option, Some, None, option_map, if◌then◌else◌, refl, sym, ap, subst, ◌∙◌, ⊎_elim, append_assoc}
use Rattle.std.specs.Prelude.{IsSome}
use Rattle.std.specs.List.{flat_map, list_any, AllByRecursion}
use Rattle.std.specs.Map.{lookup}
use Rattle.std.specs.Option.{option_and_then}
use Rattle.std.proofs.lemmas.Bool.{false≢true, or_parts, cases_Bool, cond_both, cond-true, cond-false}
use Rattle.std.proofs.lemmas.Bool.Decides.{Decides-eqb}
use Rattle.fw_names.specs.Name.{Campaign}
use Rattle.fw_book.specs.declared.row.Row.{Row}
use Rattle.fw_book.specs.declared.row.RowState.{RowState}
use Rattle.fw_book.specs.declared.notes.End.{End}
use Rattle.fw_book.specs.Rows.{meters_of, repeats, state_of}
use Rattle.fw_book.specs.Contents.{Offered, Contents, offered_in, state_in, IsBook}
use Rattle.fw_book.specs.Notes.{Known, nothing_known, opened_at, end_of, with_opening, with_ending, NotesSay}
use Rattle.fw_book.specs.Private.{Admits}
use Rattle.fw_book.proofs.Books.{all_push}
use Rattle.fw_ledger.specs.declared.record.Note.TheVariants.{Opened, Ended}
use Rattle.fw_ledger.specs.Entry.{Source, Entry, opening, mark, cancelling, endings, note, NumbersFit, Spells, SpellAll}
use Rattle.fw_ledger.specs.Replay as replay
use Rattle.fw_ledger.specs.Replay.{ends_so, HasEnd, IsNoteOf, Makes, AddsAll, IsBookOf, records_of}
use Rattle.fw_ledger.specs.Noted.{known_with, known_after, KnowSame, AreNotesOf, IsKnownOf}
use Rattle.fw_ledger.specs.Remade.{numbers_of, rows_entries, has_cancelled, ending_entries, campaign_entries, opening_notes, row_notes, rows_notes, campaign_notes, Puts, HaveSerials}
use Rattle.fw_ledger.proofs.Known.{after_join, same_value, none_some}
use Rattle.fw_ledger.proofs.Remade.{Vecs, Goes, IsShort, IsSmall, all_map, all_both, all_append, all_short, all_join, spell_join, records-join, offered_last, other_way, has_meter, entry_in}

-- ---- a note that is known

-- what a note says is known
abbrev pub Tells : Known → Entry → Type 0
Tells known (opening campaign release source meters) = Unit {0}
Tells known (mark campaign meter e) = Unit {0}
Tells known (cancelling campaign) = Unit {0}
Tells known (endings campaign numbers) = Unit {0}
Tells known (note campaign (Opened at)) = opened_at known campaign.serial ≡ Some at
Tells known (note campaign (Ended meter told)) = (meter < 2 ^ 32) × (end_of known campaign.serial meter ≡ Some told)

-- all that is known is known there too
record IsPart (a b : Known) : Type 0 where
  pub openings : (serial at : ℕ) → opened_at a serial ≡ Some at → opened_at b serial ≡ Some at
  pub ends : (serial meter : ℕ) (told : End) → meter < 2 ^ 32 → end_of a serial meter ≡ Some told → end_of b serial meter ≡ Some told

both_true : (a b : Bool) → (a && b) ≡ true → (a ≡ true) × (b ≡ true)
both_true true b is = (refl, is)
both_true false b is = absurd (false≢true is)

both_from : (a b : Bool) → a ≡ true → b ≡ true → (a && b) ≡ true
both_from a b one two = ap (λ x. x && b) one ∙ two

module _ (say : NotesSay) where
  -- with one note more that is told there
  part_with : (known notes : Known) (entry : Entry) → Tells notes entry → IsPart known notes → IsPart (known_with known entry) notes
  part_with known notes (opening campaign release source meters) tells part = part
  part_with known notes (mark campaign meter e) tells part = part
  part_with known notes (cancelling campaign) tells part = part
  part_with known notes (endings campaign numbers) tells part = part
  part_with known notes (note campaign (Opened at)) tells part = record {
    openings = λ serial time has.
        let here = sym (say.opened known campaign.serial at serial) ∙ has in
        ⊎_elim
        (λ same.
        ap (λ n. opened_at notes n) ((Decides-eqb serial campaign.serial).0 same) ∙ tells
        ∙ (sym (cond-true (serial == campaign.serial) (Some at) (opened_at known serial) same) ∙ here))
        (λ apart. part.openings serial time (sym (cond-false (serial == campaign.serial) (Some at) (opened_at known serial) apart) ∙ here))
        (cases_Bool (serial == campaign.serial));
    ends = λ serial meter told fits has. part.ends serial meter told fits has;
  }
  part_with known notes (note campaign (Ended meter told)) tells part = record {
    openings = λ serial time has. part.openings serial time has;
    ends = λ serial whose other fits has.
        let test = (serial == campaign.serial) && (whose == meter) in
        let here = sym (say.ended known campaign.serial meter told serial whose tells.0 fits) ∙ has in
        ⊎_elim
        (λ both.
        let parts = both_true (serial == campaign.serial) (whose == meter) both in
        ap (λ n. end_of notes n whose) ((Decides-eqb serial campaign.serial).0 parts.0) ∙ ap (λ n. end_of notes campaign.serial n) ((Decides-eqb whose meter).0 parts.1) ∙ tells.1
        ∙ (sym (cond-true test (Some told) (end_of known serial whose) both) ∙ here))
        (λ apart. part.ends serial whose other fits (sym (cond-false test (Some told) (end_of known serial whose) apart) ∙ here))
        (cases_Bool test);
  }

  part_after : (known notes : Known) (entries : List Entry) → AllByRecursion (Tells notes) entries → IsPart known notes → IsPart (known_after known entries) notes
  part_after known notes [] tells part = part
  part_after known notes (entry ∷ entries) tells part = part_after (known_with known entry) notes entries tells.1 (part_with known notes entry tells.0 part)

  -- a note is known from then on
  tells_own : (known : Known) (entry : Entry) → NumbersFit entry → Tells (known_with known entry) entry
  tells_own known (opening campaign release source meters) fits = tt
  tells_own known (mark campaign meter e) fits = tt
  tells_own known (cancelling campaign) fits = tt
  tells_own known (endings campaign numbers) fits = tt
  tells_own known (note campaign (Opened at)) fits =
      say.opened known campaign.serial at campaign.serial
      ∙ cond-true (campaign.serial == campaign.serial) (Some at) (opened_at known campaign.serial) ((Decides-eqb campaign.serial campaign.serial).1 refl)
  tells_own known (note campaign (Ended meter told)) fits =
      let both = both_from (campaign.serial == campaign.serial) (meter == meter) ((Decides-eqb campaign.serial campaign.serial).1 refl) ((Decides-eqb meter meter).1 refl) in
      (fits.0, say.ended known campaign.serial meter told campaign.serial meter fits.0 fits.0 ∙ cond-true ((campaign.serial == campaign.serial) && (meter == meter)) (Some told) (end_of known campaign.serial meter) both)

  -- notes that are told at one place don't gainsay one another
  opening_stays : (known notes : Known) (serial at : ℕ) (entry : Entry) → opened_at known serial ≡ Some at → opened_at notes serial ≡ Some at → Tells notes entry → opened_at (known_with known entry) serial ≡ Some at
  opening_stays known notes serial at (opening campaign release source meters) has tells other = has
  opening_stays known notes serial at (mark campaign meter e) has tells other = has
  opening_stays known notes serial at (cancelling campaign) has tells other = has
  opening_stays known notes serial at (endings campaign numbers) has tells other = has
  opening_stays known notes serial at (note campaign (Ended meter told)) has tells other = has
  opening_stays known notes serial at (note campaign (Opened time)) has tells other =
      say.opened known campaign.serial time serial
      ∙ ⊎_elim
      (λ same.
      cond-true (serial == campaign.serial) (Some time) (opened_at known serial) same
      ∙ sym (sym tells ∙ ap (λ n. opened_at notes n) ((Decides-eqb serial campaign.serial).0 same) ∙ other))
      (λ apart. cond-false (serial == campaign.serial) (Some time) (opened_at known serial) apart ∙ has)
      (cases_Bool (serial == campaign.serial))

  end_stays : (known notes : Known) (serial meter : ℕ) (told : End) (entry : Entry) → meter < 2 ^ 32 → end_of known serial meter ≡ Some told → end_of notes serial meter ≡ Some told → Tells notes entry → end_of (known_with known entry) serial meter ≡ Some told
  end_stays known notes serial meter told (opening campaign release source meters) fits has tells other = has
  end_stays known notes serial meter told (mark campaign m e) fits has tells other = has
  end_stays known notes serial meter told (cancelling campaign) fits has tells other = has
  end_stays known notes serial meter told (endings campaign numbers) fits has tells other = has
  end_stays known notes serial meter told (note campaign (Opened time)) fits has tells other = has
  end_stays known notes serial meter told (note campaign (Ended whose also)) fits has tells other =
      let test = (serial == campaign.serial) && (meter == whose) in
      say.ended known campaign.serial whose also serial meter other.0 fits
      ∙ ⊎_elim
      (λ both.
      let parts = both_true (serial == campaign.serial) (meter == whose) both in
      cond-true test (Some also) (end_of known serial meter) both
      ∙ sym (sym tells ∙ ap (λ n. end_of notes n meter) ((Decides-eqb serial campaign.serial).0 parts.0) ∙ ap (λ n. end_of notes campaign.serial n) ((Decides-eqb meter whose).0 parts.1) ∙ other.1))
      (λ apart. cond-false test (Some also) (end_of known serial meter) apart ∙ has)
      (cases_Bool test)

  tells_stay : (known notes : Known) (entry other : Entry) → Tells known entry → Tells notes entry → Tells notes other → Tells (known_with known other) entry
  tells_stay known notes (opening campaign release source meters) other has tells also = tt
  tells_stay known notes (mark campaign meter e) other has tells also = tt
  tells_stay known notes (cancelling campaign) other has tells also = tt
  tells_stay known notes (endings campaign numbers) other has tells also = tt
  tells_stay known notes (note campaign (Opened at)) other has tells also = opening_stays known notes campaign.serial at other has tells also
  tells_stay known notes (note campaign (Ended meter told)) other has tells also = (has.0, end_stays known notes campaign.serial meter told other has.0 has.1 tells.1 also)

  tells_after : (known notes : Known) (entry : Entry) (entries : List Entry) → Tells known entry → Tells notes entry → AllByRecursion (Tells notes) entries → Tells (known_after known entries) entry
  tells_after known notes entry [] has tells all = has
  tells_after known notes entry (other ∷ entries) has tells all = tells_after (known_with known other) notes entry entries (tells_stay known notes entry other has tells all.0) tells all.1

  -- all notes of a list are known after it
  tells_all : (known notes : Known) (records : List (List ℕ)) (entries : List Entry) → SpellAll records entries → AllByRecursion (Tells notes) entries → AllByRecursion (Tells (known_after known entries)) entries
  tells_all known notes [] [] spell all = tt
  tells_all known notes [] (entry ∷ entries) spell all = absurd spell
  tells_all known notes (bytes ∷ records) [] spell all = absurd spell
  tells_all known notes (bytes ∷ records) (entry ∷ entries) spell all = (
    tells_after (known_with known entry) notes entry entries (tells_own known entry spell.0.fit) all.0 all.1,
    tells_all (known_with known entry) notes records entries spell.1 all.1,
  )

nothing_part : (notes : Known) → IsPart nothing_known notes
nothing_part notes = record { openings = λ serial at has. absurd (none_some at has); ends = λ serial meter told fits has. absurd (none_some told has) }

-- ---- what is put of a campaign is known

opening_tells : (notes : Known) (campaign : Campaign) (o : Option ℕ) → opened_at notes campaign.serial ≡ o → AllByRecursion (Tells notes) (opening_notes campaign o)
opening_tells notes campaign None is = tt
opening_tells notes campaign (Some at) is = (is, tt)

row_tells : (notes : Known) (campaign : Campaign) (row : Row) (o : Option End) → row.meter < 2 ^ 32 → end_of notes campaign.serial row.meter ≡ o → AllByRecursion (Tells notes) (row_notes campaign row o)
row_tells notes campaign row None fits is = tt
row_tells notes campaign row (Some told) fits is =
    cond_both (ends_so row.state told) (note campaign (Ended row.meter told) ∷ []) [] (λ (l : List Entry). AllByRecursion (Tells notes) l) (λ _. ((fits, is), tt)) (λ _. tt)

rows_tell : (notes : Known) (campaign : Campaign) (rows : List Row) → AllByRecursion (λ meter. meter < 2 ^ 32) (meters_of rows) → AllByRecursion (Tells notes) (rows_notes notes campaign rows)
rows_tell notes campaign [] fits = tt
rows_tell notes campaign (row ∷ rows) fits =
    all_append (Tells notes) (row_notes campaign row (end_of notes campaign.serial row.meter)) (rows_notes notes campaign rows) (row_tells notes campaign row (end_of notes campaign.serial row.meter) fits.0 refl) (rows_tell notes campaign rows fits.1)

campaign_tells : (notes : Known) (campaign : Campaign) (rows : List Row) → AllByRecursion (λ meter. meter < 2 ^ 32) (meters_of rows) → AllByRecursion (Tells notes) (campaign_notes notes campaign rows)
campaign_tells notes campaign rows fits =
    all_append (Tells notes) (opening_notes campaign (opened_at notes campaign.serial)) (rows_notes notes campaign rows) (opening_tells notes campaign (opened_at notes campaign.serial) refl) (rows_tell notes campaign rows fits)

entries_tell : (notes : Known) (campaign : Campaign) (offer : Offered) (source : Source) → AllByRecursion (Tells notes) (campaign_entries campaign offer source)
entries_tell notes campaign offer source = (
  tt,
  all_append (Tells notes) (rows_entries campaign offer.rows) (ending_entries campaign offer.rows)
      (cond_both (list_any (λ number. nat_lt 0 number) (numbers_of offer.rows)) (endings campaign (numbers_of offer.rows) ∷ []) [] (λ (l : List Entry). AllByRecursion (Tells notes) l) (λ _. (tt, tt)) (λ _. tt))
      (cond_both (has_cancelled offer.rows) (cancelling campaign ∷ []) [] (λ (l : List Entry). AllByRecursion (Tells notes) l) (λ _. (tt, tt)) (λ _. tt)),
)

-- ---- and all that is known of it is put

all_front : (P : Entry → Type 0) (xs ys : List Entry) → AllByRecursion P (xs ++ ys) → AllByRecursion P xs
all_front P [] ys all = tt
all_front P (x ∷ xs) ys all = (all.0, all_front P xs ys all.1)

all_rest : (P : Entry → Type 0) (xs ys : List Entry) → AllByRecursion P (xs ++ ys) → AllByRecursion P ys
all_rest P [] ys all = all
all_rest P (x ∷ xs) ys all = all_rest P xs ys all.1

opening_put : (known : Known) (campaign : Campaign) (o : Option ℕ) (at : ℕ) → o ≡ Some at → AllByRecursion (Tells known) (opening_notes campaign o) → opened_at known campaign.serial ≡ Some at
opening_put known campaign None at is all = absurd (none_some at is)
opening_put known campaign (Some time) at is all = all.0 ∙ is

row_put : (known : Known) (campaign : Campaign) (row : Row) (o : Option End) (told : End) → o ≡ Some told → ends_so row.state told ≡ true → AllByRecursion (Tells known) (row_notes campaign row o) → end_of known campaign.serial row.meter ≡ Some told
row_put known campaign row None told is ended all = absurd (none_some told is)
row_put known campaign row (Some other) told is ended all =
    let same : other ≡ told = same_value other told is in
    let test : ends_so row.state other ≡ true = ap (λ (t : End). ends_so row.state t) same ∙ ended in
    (subst (λ (l : List Entry). AllByRecursion (Tells known) l) (cond-true (ends_so row.state other) (note campaign (Ended row.meter other) ∷ []) [] test) all).0.1 ∙ is

rows_put : (known notes : Known) (campaign : Campaign) (rows : List Row) (meter : ℕ) (state : RowState) (told : End) → state_of rows meter ≡ Some state → ends_so state told ≡ true → end_of notes campaign.serial meter ≡ Some told
    → AllByRecursion (Tells known) (rows_notes notes campaign rows) → end_of known campaign.serial meter ≡ Some told
rows_put known notes campaign [] meter state told is ended has all = absurd (none_some state is)
rows_put known notes campaign (row ∷ rows) meter state told is ended has all =
    let head = row_notes campaign row (end_of notes campaign.serial row.meter) in
    ⊎_elim
    (λ here.
    let same = (Decides-eqb row.meter meter).0 here in
    let is_state : row.state ≡ state =
    same_value row.state state (sym (ap (λ (o : Option Row). option_map (λ (r : Row). r.state) o) (cond-true (row.meter == meter) (Some row) (find (λ (r : Row). r.meter == meter) rows) here)) ∙ is) in
    ap (λ n. end_of known campaign.serial n) (sym same)
    ∙ row_put known campaign row (end_of notes campaign.serial row.meter) told (ap (λ n. end_of notes campaign.serial n) same ∙ has) (ap (λ (s : RowState). ends_so s told) is_state ∙ ended)
    (all_front (Tells known) head (rows_notes notes campaign rows) all))
    (λ away.
    let later = sym (ap (λ (o : Option Row). option_map (λ (r : Row). r.state) o) (cond-false (row.meter == meter) (Some row) (find (λ (r : Row). r.meter == meter) rows) away)) ∙ is in
    rows_put known notes campaign rows meter state told later ended has (all_rest (Tells known) head (rows_notes notes campaign rows) all))
    (cases_Bool (row.meter == meter))

-- ---- the campaigns so far

-- the notes of a campaign are among these records
abbrev pub Covers : ℕ → Known → List Entry → ℕ × Offered → Type 0
Covers head notes entries entry =
    (known : Known) → AllByRecursion (Tells known) entries → AllByRecursion (Tells known) (campaign_notes notes (record { head = head; serial = entry.0 }) entry.1.rows)

-- these records tell all that is known of these campaigns, and nothing else
pub record Told (head : ℕ) (notes : Known) (front : List (ℕ × Offered)) (records : Vecs) : Type 0 where
  pub entries : List Entry
  pub spelled : SpellAll (records_of records) entries
  pub tells : AllByRecursion (Tells notes) entries
  pub covers : AllByRecursion (Covers head notes entries) front

pub nothing_told : (head : ℕ) (notes : Known) (records : Vecs) → records ≡ [] → Told head notes [] records
nothing_told head notes records none = subst (λ (l : Vecs). Told head notes [] l) (sym none) (record { entries = []; spelled = tt; tells = tt; covers = tt })

pub told_on : (head : ℕ) (notes : Known) (front : List (ℕ × Offered)) (serial : ℕ) (offer : Offered) (source : Source) (records mid later : Vecs) → AllByRecursion (λ meter. meter < 2 ^ 32) (meters_of offer.rows) → Told head notes front records
    → Puts records mid (campaign_entries (record { head = head; serial = serial }) offer source) → Puts mid later (campaign_notes notes (record { head = head; serial = serial }) offer.rows) → Told head notes (front ++ (serial, offer) ∷ []) later
told_on head notes front serial offer source records mid later fits told first second =
    let campaign : Campaign = record { head = head; serial = serial } in
    let some = campaign_entries campaign offer source in
    let more = campaign_notes notes campaign offer.rows in
    let all : records_of later ≡ (records_of records ++ records_of first.more) ++ records_of second.more =
    ap (λ (l : Vecs). records_of l) second.put ∙ records-join mid second.more
    ∙ ap (λ (l : List (List ℕ)). l ++ records_of second.more) (ap (λ (l : Vecs). records_of l) first.put ∙ records-join records first.more) in
    record {
      entries = (told.entries ++ some) ++ more;
      spelled = subst (λ (l : List (List ℕ)). SpellAll l ((told.entries ++ some) ++ more)) (sym all)
          (spell_join (records_of records ++ records_of first.more) (records_of second.more) (told.entries ++ some) more (spell_join (records_of records) (records_of first.more) told.entries some told.spelled first.spelled) second.spelled);
      tells = all_append (Tells notes) (told.entries ++ some) more (all_append (Tells notes) told.entries some told.tells (entries_tell notes campaign offer source)) (campaign_tells notes campaign offer.rows fits);
      covers = all_push (Covers head notes ((told.entries ++ some) ++ more)) front (serial, offer)
          (all_map (Covers head notes told.entries) (Covers head notes ((told.entries ++ some) ++ more))
          (λ entry covers known all_told. covers known (all_front (Tells known) told.entries some (all_front (Tells known) (told.entries ++ some) more all_told))) front told.covers)
          (λ known all_told. all_rest (Tells known) (told.entries ++ some) more all_told);
    }

-- ---- all campaigns

all_found : (P : ℕ × Offered → Type 0) (entries : List (ℕ × Offered)) (serial : ℕ) (offer : Offered) → AllByRecursion P entries → lookup (nat_eq serial) entries ≡ Some offer → P (serial, offer)
all_found P [] serial offer all has = absurd (none_some offer has)
all_found P (entry ∷ entries) serial offer all has =
    ⊎_elim
    (λ here.
    let same : entry.1 ≡ offer = same_value entry.1 offer (sym (cond-true (nat_eq serial entry.0) (Some entry.1) (lookup (nat_eq serial) entries) here) ∙ has) in
    subst (λ (f : Offered). P (serial, f)) same (subst (λ n. P (n, entry.1)) (sym ((Decides-eqb serial entry.0).0 here)) all.0))
    (λ away. all_found P entries serial offer all.1 (sym (cond-false (nat_eq serial entry.0) (Some entry.1) (lookup (nat_eq serial) entries) away) ∙ has))
    (cases_Bool (nat_eq serial entry.0))

record Has (book : Contents) (serial : ℕ) : Type 0 where
  pub offer : Offered
  pub offered : offered_in book (record { head = book.head; serial = serial }) ≡ Some offer
  pub is : lookup (nat_eq serial) book.campaigns ≡ Some offer

own_offer : (book : Contents) (serial : ℕ) (o : Option Offered) → offered_in book (record { head = book.head; serial = serial }) ≡ o → IsSome o → Has book serial
own_offer book serial None is some = absurd (false≢true some)
own_offer book serial (Some offer) is some = record {
  offer = offer;
  offered = is;
  is = sym (cond-true (book.head == book.head) (lookup (nat_eq serial) book.campaigns) None ((Decides-eqb book.head book.head).1 refl)) ∙ is;
}

state_some : (o : Option Offered) (meter : ℕ) (state : RowState) → option_and_then (λ (offer : Offered). state_of offer.rows meter) o ≡ Some state → IsSome o
state_some None meter state is = absurd (none_some state is)
state_some (Some offer) meter state is = refl

both_parts : {X : Type 0} (a b : Option X) → ((x : X) → a ≡ Some x → b ≡ Some x) → ((x : X) → b ≡ Some x → a ≡ Some x) → a ≡ b
both_parts None None on back = refl
both_parts None (Some y) on back = back y refl
both_parts (Some x) b on back = sym (on x refl)

-- what is known of a book is known from records that tell all of its campaigns
pub told_whole : NotesSay → (book : Contents) (notes : Known) (records : Vecs) → IsKnownOf book notes → Told book.head notes book.campaigns records → AreNotesOf (records_of records) notes
told_whole say book notes records is told =
    let after = known_after nothing_known told.entries in
    let part = part_after say nothing_known notes told.entries told.tells (nothing_part notes) in
    let all = tells_all say nothing_known notes (records_of records) told.entries told.spelled told.tells in
    record {
      entries = told.entries;
      spelled = told.spelled;
      same = record {
        openings = λ serial.
            let campaign : Campaign = record { head = book.head; serial = serial } in
            both_parts (opened_at after serial) (opened_at notes serial) (part.openings serial)
            (λ at has.
            let here = own_offer book serial (offered_in book campaign) refl (is.openings serial at has) in
            let mine = all_found (Covers book.head notes told.entries) book.campaigns serial here.offer told.covers here.is after all in
            opening_put after campaign (opened_at notes serial) at has (all_front (Tells after) (opening_notes campaign (opened_at notes serial)) (rows_notes notes campaign here.offer.rows) mine));
        ends = λ serial meter fits.
            let campaign : Campaign = record { head = book.head; serial = serial } in
            both_parts (end_of after serial meter) (end_of notes serial meter) (λ ended has. part.ends serial meter ended fits has)
            (λ ended has.
            let row = is.ends serial meter ended fits has in
            let here = own_offer book serial (offered_in book campaign) refl (state_some (offered_in book campaign) meter row.state row.is_state) in
            let state : state_of here.offer.rows meter ≡ Some row.state = sym (ap (λ (o : Option Offered). option_and_then (λ (offer : Offered). state_of offer.rows meter) o) here.offered) ∙ row.is_state in
            let mine = all_found (Covers book.head notes told.entries) book.campaigns serial here.offer told.covers here.is after all in
            rows_put after notes campaign here.offer.rows meter row.state ended state row.ended has
            (all_rest (Tells after) (opening_notes campaign (opened_at notes serial)) (rows_notes notes campaign here.offer.rows) mine));
      };
    }

-- ---- the book stays

notes_keep : (records : List (List ℕ)) (entries : List Entry) (book : Contents) → SpellAll records entries → AllByRecursion (λ (entry : Entry). Makes entry book book) entries → AddsAll records book book
notes_keep [] [] book spell makes = refl
notes_keep [] (entry ∷ entries) book spell makes = absurd spell
notes_keep (bytes ∷ records) [] book spell makes = absurd spell
notes_keep (bytes ∷ records) (entry ∷ entries) book spell makes = (book, record { entry = entry; spells = spell.0; makes = makes.0 }, notes_keep records entries book spell.1 makes.1)

away_all : (meter : ℕ) (rows : List Row) → has_meter meter rows ≡ false → AllByRecursion (λ (row : Row). (meter == row.meter) ≡ false) rows
away_all meter [] away = tt
away_all meter (row ∷ rows) away =
    let parts = or_parts (row.meter == meter) (has_meter meter rows) away in
    (other_way row.meter meter parts.0, away_all meter rows parts.1)

-- each row has its own state
own_states : (rows : List Row) → repeats (meters_of rows) ≡ false → AllByRecursion (λ (row : Row). state_of rows row.meter ≡ Some row.state) rows
own_states [] once = tt
own_states (row ∷ rows) once =
    let parts = or_parts (has_meter row.meter rows) (repeats (meters_of rows)) once in (
      ap (λ (o : Option Row). option_map (λ (r : Row). r.state) o) (cond-true (row.meter == row.meter) (Some row) (find (λ (r : Row). r.meter == row.meter) rows) ((Decides-eqb row.meter row.meter).1 refl)),
      all_both (λ (other : Row). (row.meter == other.meter) ≡ false) (λ (other : Row). state_of rows other.meter ≡ Some other.state) (λ (other : Row). state_of (row ∷ rows) other.meter ≡ Some other.state)
          (λ other away has. ap (λ (o : Option Row). option_map (λ (r : Row). r.state) o) (cond-false (row.meter == other.meter) (Some row) (find (λ (r : Row). r.meter == other.meter) rows) away) ∙ has)
          rows (away_all row.meter rows parts.0) (own_states rows parts.1),
    )

module _ (book : Contents) (campaign : Campaign) where
  abbrev StaysWith : Entry → Type 0
  StaysWith entry = Makes entry book book

  opening_makes : (o : Option ℕ) → IsSome (offered_in book campaign) → AllByRecursion StaysWith (opening_notes campaign o)
  opening_makes None some = tt
  opening_makes (Some at) some = ((some, refl), tt)

  row_makes : (row : Row) (o : Option End) → state_in book campaign row.meter ≡ Some row.state → AllByRecursion StaysWith (row_notes campaign row o)
  row_makes row None is = tt
  row_makes row (Some told) is =
      cond_both (ends_so row.state told) (note campaign (Ended row.meter told) ∷ []) [] (λ (l : List Entry). AllByRecursion StaysWith l)
      (λ ended. ((record { state = row.state; is_state = is; ended = ended }, refl), tt)) (λ _. tt)

  rows_make : (notes : Known) (rows : List Row) → AllByRecursion (λ (row : Row). state_in book campaign row.meter ≡ Some row.state) rows → AllByRecursion StaysWith (rows_notes notes campaign rows)
  rows_make notes [] states = tt
  rows_make notes (row ∷ rows) states =
      all_append StaysWith (row_notes campaign row (end_of notes campaign.serial row.meter)) (rows_notes notes campaign rows) (row_makes row (end_of notes campaign.serial row.meter) states.0) (rows_make notes rows states.1)

  pub campaign_makes : (notes : Known) (offer : Offered) → offered_in book campaign ≡ Some offer → repeats (meters_of offer.rows) ≡ false → AllByRecursion StaysWith (campaign_notes notes campaign offer.rows)
  campaign_makes notes offer offered once =
      all_append StaysWith (opening_notes campaign (opened_at notes campaign.serial)) (rows_notes notes campaign offer.rows)
      (opening_makes (opened_at notes campaign.serial) (ap (λ (o : Option Offered). is_some o) offered))
      (rows_make notes offer.rows (all_map (λ (row : Row). state_of offer.rows row.meter ≡ Some row.state) (λ (row : Row). state_in book campaign row.meter ≡ Some row.state)
      (λ row is. ap (λ (o : Option Offered). option_and_then (λ (f : Offered). state_of f.rows row.meter) o) offered ∙ is) offer.rows (own_states offer.rows once)))

-- no campaign, and no record
pub nothing_goes : (book : Contents) (records : Vecs) (shown : List ℕ) → records ≡ [] → shown ≡ [] → Goes book [] records shown
nothing_goes book records shown no_records no_shown =
    subst (λ (l : Vecs). Goes book [] l shown) (sym no_records) (subst (λ (l : List ℕ). Goes book [] [] l) (sym no_shown) (record { made = λ made. refl; short = tt; have = tt }))

-- ---- sizes

notes_small : (notes : Known) (campaign : Campaign) (rows : List Row) → AllByRecursion IsSmall (campaign_notes notes campaign rows)
notes_small notes campaign rows =
    all_append IsSmall (opening_notes campaign (opened_at notes campaign.serial)) (rows_notes notes campaign rows) (first (opened_at notes campaign.serial)) (later rows)
  where
    first : (o : Option ℕ) → AllByRecursion IsSmall (opening_notes campaign o)
    first None = tt
    first (Some at) = (tt, tt)

    one : (row : Row) (o : Option End) → AllByRecursion IsSmall (row_notes campaign row o)
    one row None = tt
    one row (Some told) = cond_both (ends_so row.state told) (note campaign (Ended row.meter told) ∷ []) [] (λ (l : List Entry). AllByRecursion IsSmall l) (λ _. (tt, tt)) (λ _. tt)

    later : (rest : List Row) → AllByRecursion IsSmall (rows_notes notes campaign rest)
    later [] = tt
    later (row ∷ rest) = all_append IsSmall (row_notes campaign row (end_of notes campaign.serial row.meter)) (rows_notes notes campaign rest) (one row (end_of notes campaign.serial row.meter)) (later rest)

-- the notes of a campaign after its own records
pub goes_noted : (book : Contents) (front : List (ℕ × Offered)) (serial : ℕ) (offer : Offered) (notes : Known) (records later : Vecs) (shown : List ℕ) → Admits (record { head = book.head; campaigns = front }) serial offer
    → Goes book (front ++ (serial, offer) ∷ []) records shown → Puts records later (campaign_notes notes (record { head = book.head; serial = serial }) offer.rows) → Goes book (front ++ (serial, offer) ∷ []) later shown
goes_noted book front serial offer notes records later shown admits goes puts =
    let campaign : Campaign = record { head = book.head; serial = serial } in
    let next : Contents = record { head = book.head; campaigns = front ++ (serial, offer) ∷ [] } in
    let all : records_of later ≡ records_of records ++ records_of puts.more = ap (λ (l : Vecs). records_of l) puts.put ∙ records-join records puts.more in
    let makes = campaign_makes next campaign notes offer (offered_last book.head front serial offer offer.rows admits.serial_new) admits.is_entry.meters_once in
    record {
      made = λ made.
          subst (λ (l : List (List ℕ)). IsBookOf book.head l next) (sym all)
          (all_join (records_of records) (records_of puts.more) (let empty : Contents = record { head = book.head; campaigns = [] } in empty) next next (goes.made made)
          (notes_keep (records_of puts.more) (campaign_notes notes campaign offer.rows) next puts.spelled makes));
      short = subst (λ (l : List (List ℕ)). AllByRecursion IsShort l) (sym all)
          (all_append IsShort (records_of records) (records_of puts.more) goes.short (all_short (records_of puts.more) (campaign_notes notes campaign offer.rows) puts.spelled (notes_small notes campaign offer.rows)));
      have = goes.have;
    }
