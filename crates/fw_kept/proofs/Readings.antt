-- What bytes are read as, whoever's they are.
use Rattle.std.proofs.Common.{◌≡◌, ◌≢◌, ⊎_elim, ℕ, List, [], ◌∷◌, ◌++◌, Option, Some, None, IsSome, Bool, true, false, cond, eqb, Err, IsErrOf, Vec, length, arith, refl, sym, ap, subst, ◌∙◌, append_assoc}
use Rattle.std.specs.declared.alloc.Global.{Global}
use Rattle.std.proofs.lemmas.Bool.{cases_eq}
use Rattle.fw_names.specs.Name.{Campaign, IsOpened}
use Rattle.fw_book.specs.Contents.{Offered, Contents, offered_in}
use Rattle.fw_book.specs.Changes.{empty_book, mark_refusal, cancel_refusal}
use Rattle.fw_book.specs.Laws.{AdmittedOpens}
use Rattle.fw_book.specs.declared.error.BookError.TheVariants.{NoSuchCampaign}
use Rattle.fw_journal.specs.Book.{contents_of, mark as journal_mark, body, blocks, Stands, HasRecord}
use Rattle.fw_journal.specs.Laws.{OneReading}
use Rattle.fw_ledger.specs.Entry.{Entry, opening, mark, cancelling, endings, note, Spells, NoRecord}
use Rattle.fw_ledger.specs.declared.error.ReplayError.{ReplayError}
use Rattle.fw_ledger.specs.declared.error.ReplayError.TheVariants as replay
use Rattle.fw_ledger.specs.declared.record.Note.{Note}
use Rattle.fw_ledger.specs.declared.record.Note.TheVariants.{Opened, Ended}
use Rattle.fw_ledger.specs.Noted.{AreNotesOf}
use Rattle.fw_book.specs.Notes.{Known}
use Rattle.fw_ledger.specs.Replay.{Makes, IsBookOf, FailsAt, records_of}
use Rattle.fw_ledger.specs.Laws.{OneRecord, FailedHaveNone}
use Rattle.fw_kept.specs.Kept.{HasNotes, HasBadRecord, IsForeign, IsReadAs, campaign_of}
use Rattle.fw_book.specs.declared.row.RowState.{RowState}
use Rattle.fw_kept.specs.Private.{AreReadAs, IsBadAt, IsReadingRefusal}
use Rattle.fw_kept.specs.Laws.{ForeignHaveNone, BadRecordsHaveNone}
use Rattle.fw_kept.specs.declared.error.ReadingError.{ReadingError}
use Rattle.fw_kept.specs.declared.error.ReadingError.TheVariants as reading
use Rattle.fw_kept.proofs.Books.{same_lists, book_head, state_none, mark_none, cancel_none, some_none}

-- ---- the head end of a first record

pub spelled_opened : (bytes : List ℕ) (entry : Entry) → Spells bytes entry → IsOpened (campaign_of entry)
spelled_opened bytes (opening campaign release source meters) spells = spells.can.0
spelled_opened bytes (mark campaign meter ending) spells = spells.can
spelled_opened bytes (cancelling campaign) spells = spells.can
spelled_opened bytes (endings campaign numbers) spells = spells.can.0
spelled_opened bytes (note campaign told) spells = spells.can

same_either : (b : Bool) (o : Option Offered) → cond b o o ≡ o
same_either true o = refl
same_either false o = refl

empty_offers : (head : ℕ) (campaign : Campaign) → offered_in (empty_book head) campaign ≡ None
empty_offers head campaign = same_either (eqb campaign.head head) None

no_offer : (offer : Offered) → None ≡ Some offer → ⊥
no_offer offer is = cc is

none_there : (o : Option Offered) → o ≡ None → IsSome o → ⊥
none_there None none some = cc some
none_there (Some offer) none some = cc none

no_state : (state : RowState) → None ≡ Some state → ⊥
no_state state is = cc is

makes_own : AdmittedOpens → (head : ℕ) (entry : Entry) (next : Contents) → Makes entry (empty_book head) next → (campaign_of entry).head ≡ head
makes_own admitted head (opening campaign release source meters) next makes = ((admitted (empty_book head) campaign makes.image meters).0 makes.admitted).own
makes_own admitted head (mark campaign meter ending) next makes =
    absurd (some_none (mark_refusal (empty_book head) campaign meter) NoSuchCampaign makes.0 (mark_none (empty_book head) campaign meter (empty_offers head campaign)))
makes_own admitted head (cancelling campaign) next makes =
    absurd (some_none (cancel_refusal (empty_book head) campaign) NoSuchCampaign makes.0 (cancel_none (empty_book head) campaign (empty_offers head campaign)))
makes_own admitted head (endings campaign numbers) next makes = absurd (no_offer makes.offer (sym (empty_offers head campaign) ∙ makes.offered))
makes_own admitted head (note campaign (Opened at)) next makes = absurd (none_there (offered_in (empty_book head) campaign) (empty_offers head campaign) makes.0)
makes_own admitted head (note campaign (Ended meter told)) next makes =
    absurd (no_state makes.0.state (sym (state_none (empty_book head) campaign meter (empty_offers head campaign)) ∙ makes.0.is_state))

-- the first record of a book is of its head end
record Begins (head : ℕ) (first : List ℕ) : Type 0 where
  pub entry : Entry
  pub spells : Spells first entry
  pub own : (campaign_of entry).head ≡ head

first_own : AdmittedOpens → (head : ℕ) (first : List ℕ) (rest : List (List ℕ)) (book : Contents) → IsBookOf head (first ∷ rest) book → Begins head first
first_own admitted head first rest book is = record { entry = is.1.entry; spells = is.1.spells; own = makes_own admitted head is.1.entry is.0 is.1.makes }

cons_first : (a b : List ℕ) (s t : List (List ℕ)) → a ∷ s ≡ b ∷ t → a ≡ b
cons_first a b s t is = cc is

-- a first record of the head end itself is no other's
pub not_foreign : OneRecord → (head : ℕ) (records rest : List (List ℕ)) (first : List ℕ) (entry : Entry) → records ≡ first ∷ rest → Spells first entry → (campaign_of entry).head ≡ head → ¬ IsForeign head records
not_foreign one head records rest first entry is spells own = λ foreign.
    let same = cons_first foreign.first first foreign.rest rest (sym foreign.split ∙ is) in
    let entries = one first foreign.entry entry (subst (λ (l : List ℕ). Spells l foreign.entry) same foreign.spells) spells in
    foreign.foreign (ap (λ (e : Entry). (campaign_of e).head) entries ∙ own)

pub foreign_have_none : OneReading → OneRecord → AdmittedOpens → ForeignHaveNone
foreign_have_none reading one admitted = λ head bytes book is has.
    let same = reading bytes has.records is.records has.stands is.stands in
    let foreign = is.foreign in
    let of : IsBookOf head (foreign.first ∷ foreign.rest) book = subst (λ (l : List (List ℕ)). IsBookOf head l book) (same ∙ foreign.split) has.is_book in
    let begins = first_own admitted head foreign.first foreign.rest book of in
    not_foreign one head is.records foreign.rest foreign.first begins.entry foreign.split begins.spells begins.own foreign

-- ---- what the vectors hold

pub none_of : (vs : List (Vec ℕ Global)) → length vs ≡ 0 → records_of vs ≡ []
none_of [] none = refl
none_of (v ∷ vs) none = absurd (omega (arith, none))

pub first_of : (vs rest : List (Vec ℕ Global)) (v : Vec ℕ Global) (bytes : List ℕ) → vs ≡ v ∷ rest → bytes ≡ v.items → records_of vs ≡ bytes ∷ records_of rest
first_of vs rest v bytes is same = ap (λ (l : List (Vec ℕ Global)). records_of l) is ∙ ap (λ (l : List ℕ). l ∷ records_of rest) (sym same)

-- ---- a record that has no place

pub some_records : (records rest : List (List ℕ)) (first : List ℕ) → records ≡ first ∷ rest → records ≢ []
some_records records rest first is = λ none. absurd (cc (sym is ∙ none))

some_behind : (front rest : List (List ℕ)) (bytes : List ℕ) → front ++ bytes ∷ rest ≡ [] → ⊥
some_behind [] rest bytes is = cc is
some_behind (x ∷ front) rest bytes is = cc is

same_head : AdmittedOpens → (head other : ℕ) (records : List (List ℕ)) (book : Contents) → IsBookOf other records book → ¬ IsForeign head records → records ≢ [] → other ≡ head
same_head admitted head other [] book is own some = absurd (some refl)
same_head admitted head other (first ∷ rest) book is own some =
    let begins = first_own admitted other first rest book is in
    ⊎_elim (λ same. sym begins.own ∙ same)
    (λ differs. absurd (own (record { first = first; rest = rest; split = refl; entry = begins.entry; spells = begins.spells; foreign = differs })))
    (cases_eq (campaign_of begins.entry).head head)

pub bad_records_have_none : OneReading → FailedHaveNone → AdmittedOpens → BadRecordsHaveNone
bad_records_have_none reading failed admitted = λ head bytes index bad other book has.
    let same = reading bytes has.records bad.records has.stands bad.stands in
    let of : IsBookOf other bad.records book = subst (λ (l : List (List ℕ)). IsBookOf other l book) same has.is_book in
    let some : bad.records ≢ [] = λ none. some_behind bad.fails.front bad.fails.rest bad.bad (sym bad.fails.split ∙ none) in
    let here = same_head admitted head other bad.records book of bad.own some in
    failed head bad.records index bad.bad book bad.fails (subst (λ (n : ℕ). IsBookOf n bad.records book) here of)

-- a first record that spells none is bad for each head end
pub bad_first : (head : ℕ) (records rest : List (List ℕ)) (first : List ℕ) → records ≡ first ∷ rest → NoRecord first → IsBadAt head records 0
bad_first head records rest first is none = record {
  bad = first;
  fails = record { front = []; rest = rest; split = is; index_is = refl; book = empty_book head; is_book = refl; nothing = λ next adds. none adds.entry adds.spells };
  own = λ foreign.
      let same = cons_first foreign.first first foreign.rest rest (sym foreign.split ∙ is) in
      none foreign.entry (subst (λ (l : List ℕ). Spells l foreign.entry) same foreign.spells);
}

-- ---- what a reading answers

pub reading_refused : (head : ℕ) (records : List (List ℕ)) (e : ReplayError) → ((index : ℕ) → e ≡ replay.BadRecord index → (bytes : List ℕ) × FailsAt head records index bytes) → ¬ IsForeign head records → records ≢ [] → IsReadingRefusal records e
reading_refused head records (replay.BadRecord index) bad own some =
    let at = bad index refl in
    (head, record { bad = at.0; fails = at.1; own = own })
reading_refused head records replay.OutOfMemory bad own some = some

pub books_read : (head : ℕ) (records : List (List ℕ)) (book : Contents) → IsBookOf head records book → records ≢ [] → AreReadAs records (Some book)
books_read head records book is some = (subst (λ (n : ℕ). IsBookOf n records book) (sym (book_head head records book is)) is, some)

pub read_as : OneReading → (bytes : List ℕ) (vs : List (Vec ℕ Global)) (o : Option Contents) → Stands bytes (contents_of vs) → AreReadAs (records_of vs) o → IsReadAs bytes o
read_as reading bytes vs None stands are = subst (λ (l : List (List ℕ)). Stands bytes l) (same_lists vs ∙ are) stands
read_as reading bytes vs (Some book) stands are = (
  record { records = records_of vs; stands = subst (λ (l : List (List ℕ)). Stands bytes l) (same_lists vs) stands; is_book = are.0 },
  λ none. are.1 (sym (same_lists vs) ∙ reading bytes (contents_of vs) [] stands none),
)

pub notes_read : (bytes : List ℕ) (vs : List (Vec ℕ Global)) (known : Known) → Stands bytes (contents_of vs) → AreNotesOf (records_of vs) known → HasNotes bytes known
notes_read bytes vs known stands are = record { records = records_of vs; stands = subst (λ (l : List (List ℕ)). Stands bytes l) (same_lists vs) stands; are_notes = are }

first_stands : (bytes : List ℕ) (records : List (List ℕ)) → Stands bytes records → records ≢ [] → HasRecord bytes
first_stands bytes [] stands some = absurd (some refl)
first_stands bytes (x ∷ xs) stands some = record {
  first = x;
  rest = blocks xs ++ stands.end;
  short = stands.fit.0;
  split = stands.split ∙ ap (λ (l : List ℕ). journal_mark ++ 1 ∷ l) (append_assoc (body x) (blocks xs) stands.end);
}

pub records_bad : (bytes : List ℕ) (vs : List (Vec ℕ Global)) (index : ℕ) → Stands bytes (contents_of vs) → IsReadingRefusal (records_of vs) (replay.BadRecord index) → (head : ℕ) × HasBadRecord head bytes index
records_bad bytes vs index stands bad =
    (bad.0, record { records = records_of vs; stands = subst (λ (l : List (List ℕ)). Stands bytes l) (same_lists vs) stands; bad = bad.1.bad; fails = bad.1.fails; own = bad.1.own })

pub records_memory : (bytes : List ℕ) (vs : List (Vec ℕ Global)) → Stands bytes (contents_of vs) → IsReadingRefusal (records_of vs) replay.OutOfMemory → HasRecord bytes
records_memory bytes vs stands some =
    first_stands bytes (records_of vs) (subst (λ (l : List (List ℕ)). Stands bytes l) (same_lists vs) stands) some

pub same_index : {T : Type 0} (a b : ℕ) → IsErrOf {T = T} (Err (reading.BadRecord a)) (reading.BadRecord b) → a ≡ b
same_index a b is = cc is

pub read_is : {T : Type 0} (a b : ReadingError) → IsErrOf {T = T} (Err a) b → a ≡ b
read_is a b is = cc is
