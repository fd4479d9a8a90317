-- Books of records that are put together, and what a power cut leaves of them.
use Rattle.std.proofs.Common.{◌≡◌, ◌⊎◌, inl, ⊎_elim, ℕ, ◌+◌, ◌<◌, ◌≤◌, ◌^◌, ◌*◌, List, [], ◌∷◌, ◌++◌, Option, Some, None, is_none, Err, IsErrOf, Bool, true, false, not, ◌||◌, IsTrue, Vec, length, arith, refl, sym, ap, subst, ◌∙◌, length-append, append_assoc}
use Rattle.std.specs.Int.{w32, to_be_bytes}
use Rattle.std.specs.Option.{option_and_then, option_map_or}
use Rattle.std.specs.declared.alloc.Global.{Global}
use Rattle.fw_blocks.specs.Cuts.{max_image}
use Rattle.fw_names.specs.Name.{Campaign, campaign_bytes}
use Rattle.fw_wrapper.specs.Refusals.{first_applying}
use Rattle.fw_book.specs.Contents.{Offered, Contents, max_meters, offered_in, state_in}
use Rattle.fw_book.specs.Changes.{empty_book, mark_refusal, cancel_refusal}
use Rattle.fw_book.specs.Rows.{state_of, meters_of, is_live, has_live}
use Rattle.fw_book.specs.declared.row.RowState.{RowState}
use Rattle.fw_book.specs.declared.row.RowState.TheVariants.{Live}
use Rattle.fw_book.specs.declared.error.BookError.{BookError}
use Rattle.fw_book.specs.declared.error.BookError.TheVariants.{NoSuchCampaign, NotLive}
use Rattle.fw_journal.specs.Book.{contents_of, Stands}
use Rattle.fw_journal.specs.Device.{LeavesOnly}
use Rattle.fw_journal.specs.Journal as journal
use Rattle.fw_journal.specs.declared.journal.Journal.{Journal}
use Rattle.fw_journal.specs.Laws as journal_laws
use Rattle.fw_ledger.specs.Entry.{Source, whole, earlier, Entry, opening, mark, cancelling, endings, note, IsNote, Spells, entry_bytes, source_bytes, meters_bytes, opening_front}
use Rattle.fw_ledger.specs.declared.record.Note.{Note}
use Rattle.fw_ledger.specs.Note.{note_bytes}
use Rattle.fw_ledger.specs.Noted.{known_with, AreNotesOf}
use Rattle.fw_ledger.proofs.NoteSpellings.{note_short}
use Rattle.fw_book.specs.Notes.{Known}
use Rattle.fw_ledger.specs.Replay.{MakesEach, Makes, Adds, AddsAll, IsBookOf, records_of}
use Rattle.fw_ledger.specs.Laws as ledger_laws
use Rattle.fw_kept.specs.Kept.{HasBook, HasNoted, Keeps}
use Rattle.fw_kept.specs.Laws.{OneBook, RefusedHaveNone}
use Rattle.fw_journal.specs.Refusals as journal_refusals
use Rattle.fw_journal.specs.declared.error.JournalError.{JournalError}
use Rattle.fw_journal.specs.declared.error.JournalError.TheVariants as refusal
use Rattle.fw_kept.specs.Refusals.{IsCommitRefusal, IsRefusedFor, kept_error, open_error}
use Rattle.fw_kept.specs.declared.error.OpenError.TheVariants as opened
use Rattle.fw_kept.specs.declared.error.KeptError.{KeptError}
use Rattle.fw_kept.specs.declared.error.KeptError.TheVariants.{Refused, Full, BookFault, OutOfMemory}

-- ---- records

pub same_lists : (vs : List (Vec ℕ Global)) → contents_of vs ≡ records_of vs
same_lists [] = refl
same_lists (v ∷ vs) = ap (λ (l : List (List ℕ)). v.items ∷ l) (same_lists vs)

pub all_join : (front rest : List (List ℕ)) (book between next : Contents) → AddsAll front book between → AddsAll rest between next → AddsAll (front ++ rest) book next
all_join [] rest book between next first second = subst (λ (c : Contents). AddsAll rest c next) first second
all_join (bytes ∷ front) rest book between next first second = (first.0, first.1, all_join front rest first.0 between next first.2 second)

pub all_push : (records : List (List ℕ)) (bytes : List ℕ) (book between next : Contents) → AddsAll records book between → Adds bytes between next → AddsAll (records ++ bytes ∷ []) book next
all_push records bytes book between next all one = all_join records (bytes ∷ []) book between next all (next, one, refl)

each_head : (meters numbers : List ℕ) (book : Contents) (campaign : Campaign) (next : Contents) → MakesEach book campaign meters numbers next → next.head ≡ book.head
each_head [] [] book campaign next each = ap (λ (c : Contents). c.head) each
each_head [] (number ∷ numbers) book campaign next each = absurd each
each_head (meter ∷ meters) [] book campaign next each = absurd each
each_head (meter ∷ meters) (number ∷ numbers) book campaign next each =
    each_head meters numbers each.0 campaign next each.2 ∙ ⊎_elim (λ none. ap (λ (c : Contents). c.head) none.1) (λ some. ap (λ (c : Contents). c.head) some.2.1) each.1

makes_head : (entry : Entry) (book next : Contents) → Makes entry book next → next.head ≡ book.head
makes_head (opening campaign release source meters) book next makes = ap (λ (c : Contents). c.head) makes.next_is
makes_head (mark campaign meter ending) book next makes = ap (λ (c : Contents). c.head) makes.1
makes_head (cancelling campaign) book next makes = ap (λ (c : Contents). c.head) makes.1
makes_head (endings campaign numbers) book next makes = each_head (meters_of makes.offer.rows) numbers book campaign next makes.each
makes_head (note campaign told) book next makes = ap (λ (c : Contents). c.head) makes.1

all_head : (records : List (List ℕ)) (book next : Contents) → AddsAll records book next → next.head ≡ book.head
all_head [] book next all = ap (λ (c : Contents). c.head) all
all_head (bytes ∷ records) book next all = all_head records all.0 next all.2 ∙ makes_head all.1.entry book all.0 all.1.makes

pub book_head : (head : ℕ) (records : List (List ℕ)) (book : Contents) → IsBookOf head records book → book.head ≡ head
book_head head records book is = all_head records (empty_book head) book is

pub one_book : journal_laws.OneReading → ledger_laws.OneBook → OneBook
one_book reading book = λ head bytes a b has_a has_b.
    let same = reading bytes has_a.records has_b.records has_a.stands has_b.stands in
    book head has_b.records a b (subst (λ (l : List (List ℕ)). IsBookOf head l a) same has_a.is_book) has_b.is_book

pub refused_have_none : journal_laws.OneReading → journal_laws.BadIsNone → ledger_laws.FailedHaveNone → RefusedHaveNone
refused_have_none reading bad failed = record {
  bad = λ head bytes offset book is has. bad bytes offset has.records is has.stands;
  bad_record = λ head bytes index book is has.
      let same = reading bytes has.records is.records has.stands is.stands in
      failed head is.records index is.bad book is.fails (subst (λ (l : List (List ℕ)). IsBookOf head l book) same has.is_book);
}

-- ---- sizes

length-meters : (meters : List ℕ) → length (meters_bytes meters) ≡ 4 * length meters
length-meters [] = refl
length-meters (meter ∷ meters) =
    let four : length (to_be_bytes w32 meter) ≡ 4 = refl in
    omega (arith, four, length-append (to_be_bytes w32 meter) (meters_bytes meters), length-meters meters)

pub length-whole : (image : List ℕ) → length (source_bytes (whole image)) ≤ length image + 5
length-whole image =
    let four : length (to_be_bytes w32 (length image)) ≡ 4 = refl in
    omega (arith, four, length-append (to_be_bytes w32 (length image)) image)

pub length-earlier : (serial : ℕ) (image : List ℕ) → length (source_bytes (earlier serial)) ≤ length image + 5
length-earlier serial image =
    let four : length (to_be_bytes w32 serial) ≡ 4 = refl in
    omega (arith, four)

pub opening_short : (campaign : Campaign) (release : ℕ) (source : Source) (image meters : List ℕ) → length (source_bytes source) ≤ length image + 5 → length image ≤ max_image → length meters ≤ max_meters
    → length (entry_bytes (opening campaign release source meters)) < 2 ^ 32
opening_short campaign release source image meters short image_ends meters_end =
    let eight : length (campaign_bytes campaign) ≡ 8 = refl in
    let four : length (to_be_bytes w32 release) ≡ 4 = refl in
    omega (
      arith,
      eight,
      four,
      short,
      image_ends,
      meters_end,
      length-meters meters,
      length-append (opening_front campaign release source) (meters_bytes meters),
      length-append (campaign_bytes campaign) (to_be_bytes w32 release ++ source_bytes source),
      length-append (to_be_bytes w32 release) (source_bytes source),
    )

pub short_note : (campaign : Campaign) (told : Note) → length (entry_bytes (note campaign told)) ≤ 32
short_note campaign told =
    let eight : length (campaign_bytes campaign) ≡ 8 = refl in
    omega (arith, eight, note_short told, length-append (campaign_bytes campaign) (note_bytes told))

-- ---- notes

-- what isn't a note tells nothing
pub no_note : (known : Known) (entry : Entry) → ¬ IsNote entry → known_with known entry ≡ known
no_note known (opening campaign release source meters) none = refl
no_note known (mark campaign meter e) none = refl
no_note known (cancelling campaign) none = refl
no_note known (endings campaign numbers) none = refl
no_note known (note campaign told) none = absurd (none tt)

-- ---- what a power cut leaves

-- the same without what is noted
pub has_book : (head : ℕ) (bytes : List ℕ) (book : Contents) (known : Known) → HasNoted head bytes book known → HasBook head bytes book
has_book head bytes book known has = record { records = has.records; stands = has.stands; is_book = has.is_book }

module _ {D : Type 0} (honest : D → Bool) (contents : D → List ℕ) (may_leave : D → List ℕ → Type 0) where
  pub left_noted : (head : ℕ) (kept : Journal D) (synced book : Contents) (noted known : Known) → Keeps honest contents may_leave head kept synced book noted known → (left : List ℕ) → may_leave (journal.device_of kept) left → HasNoted head left synced noted
  left_noted head kept synced book noted known keeps left now = record {
    records = keeps.done;
    stands = subst (λ (l : List ℕ). Stands l keeps.done) (sym (keeps.has.synced left now ∙ keeps.has.bytes)) (record { fit = keeps.has.done_fit; end = 0 ∷ []; split = refl; shut = tt });
    is_book = keeps.of_done;
    are_notes = keeps.notes_done;
  }

  pub left_has : (head : ℕ) (kept : Journal D) (synced book : Contents) (noted known : Known) → Keeps honest contents may_leave head kept synced book noted known → (left : List ℕ) → may_leave (journal.device_of kept) left → HasBook head left synced
  left_has head kept synced book noted known keeps left now = has_book head left synced noted (left_noted head kept synced book noted known keeps left now)

  -- where there is no call
  pub nothing_done : (moment : D → ℕ) (left_since : D → ℕ → List ℕ → Type 0) (head : ℕ) (kept : Journal D) (synced book : Contents) (noted known : Known) (Q : List ℕ → Type 0) → Keeps honest contents may_leave head kept synced book noted known
      → ((device : D) (left : List ℕ) → left_since device (moment device) left → may_leave device left)
      → LeavesOnly moment left_since (journal.device_of kept) (journal.device_of kept) (λ left. HasNoted head left synced noted ⊎ Q left)
  nothing_done moment left_since head kept synced book noted known Q keeps only_now = record {
    later = omega arith;
    each = λ left now. inl (left_noted head kept synced book noted known keeps left (only_now (journal.device_of kept) left now));
    before = λ since left le now. inl now;
  }

-- ---- refusals

pub or_right : (a b : Bool) → IsTrue b → IsTrue (a || b)
or_right true b is = refl
or_right false b is = is

pub or_none : (b : Bool) → IsTrue b → b ≡ false → ⊥
or_none true is none = absurd (cc none)
or_none false is none = absurd (cc is)

pub err_is : {T : Type 0} (x y : KeptError) → IsErrOf {T = T} (Err x) y → x ≡ y
err_is x y is = cc is

pub fault_of : (r : JournalError) → journal_refusals.IsCommitRefusal r → kept_error r ≡ BookFault → r ≡ refusal.BookFault
fault_of (refusal.BadBook offset) is same = absurd is
fault_of refusal.NotEmpty is same = absurd is
fault_of refusal.TooLong is same = absurd is
fault_of refusal.Full is same = absurd (cc same)
fault_of refusal.Locked is same = absurd is
fault_of refusal.BookFault is same = refl
fault_of refusal.OutOfMemory is same = absurd (cc same)

pub full_of : (r : JournalError) → journal_refusals.IsCommitRefusal r → kept_error r ≡ Full → r ≡ refusal.Full
full_of (refusal.BadBook offset) is same = absurd is
full_of refusal.NotEmpty is same = absurd is
full_of refusal.TooLong is same = absurd is
full_of refusal.Full is same = refl
full_of refusal.Locked is same = absurd is
full_of refusal.BookFault is same = absurd (cc same)
full_of refusal.OutOfMemory is same = absurd (cc same)

pub commit_of : (r : JournalError) → journal_refusals.IsCommitRefusal r → IsCommitRefusal (kept_error r)
commit_of (refusal.BadBook offset) is = absurd is
commit_of refusal.NotEmpty is = absurd is
commit_of refusal.TooLong is = absurd is
commit_of refusal.Full is = tt
commit_of refusal.Locked is = absurd is
commit_of refusal.BookFault is = tt
commit_of refusal.OutOfMemory is = tt

pub bad_of : (r : JournalError) (offset : ℕ) → open_error r ≡ opened.BadBook offset → r ≡ refusal.BadBook offset
bad_of (refusal.BadBook at) offset same = let is : at ≡ offset = cc same in ap (λ (n : ℕ). refusal.BadBook n) is
bad_of refusal.NotEmpty offset same = absurd (cc same)
bad_of refusal.TooLong offset same = absurd (cc same)
bad_of refusal.Full offset same = absurd (cc same)
bad_of refusal.Locked offset same = absurd (cc same)
bad_of refusal.BookFault offset same = absurd (cc same)
bad_of refusal.OutOfMemory offset same = absurd (cc same)

pub commit_refused : (first : Option BookError) (e : KeptError) → IsCommitRefusal e → first ≡ None → IsRefusedFor first e
commit_refused first (Refused r) is none = absurd is
commit_refused first Full is none = none
commit_refused first BookFault is none = none
commit_refused first OutOfMemory is none = none

pub state_none : (book : Contents) (campaign : Campaign) (meter : ℕ) → offered_in book campaign ≡ None → state_in book campaign meter ≡ None
state_none book campaign meter none = ap (λ (o : Option Offered). option_and_then (λ (offer : Offered). state_of offer.rows meter) o) none

pub mark_none : (book : Contents) (campaign : Campaign) (meter : ℕ) → offered_in book campaign ≡ None → mark_refusal book campaign meter ≡ Some NoSuchCampaign
mark_none book campaign meter none =
    ap (λ (s : Option RowState). first_applying ((is_none s, NoSuchCampaign) ∷ (not (option_map_or is_live s false), NotLive) ∷ [])) (state_none book campaign meter none)

pub live_admits : (book : Contents) (campaign : Campaign) (meter : ℕ) → state_in book campaign meter ≡ Some Live → mark_refusal book campaign meter ≡ None
live_admits book campaign meter live =
    ap (λ (s : Option RowState). first_applying ((is_none s, NoSuchCampaign) ∷ (not (option_map_or is_live s false), NotLive) ∷ [])) live

pub cancel_none : (book : Contents) (campaign : Campaign) → offered_in book campaign ≡ None → cancel_refusal book campaign ≡ Some NoSuchCampaign
cancel_none book campaign none =
    ap (λ (o : Option Offered). first_applying ((is_none o, NoSuchCampaign) ∷ (not (option_map_or (λ (offer : Offered). has_live offer.rows) o false), NotLive) ∷ [])) none

pub some_none : (first : Option BookError) (e : BookError) → first ≡ None → first ≡ Some e → ⊥
some_none first e none some = absurd (cc (sym none ∙ some))

-- ---- records that are put

-- all records, with the one that these bytes spell
pub all_with : (head : ℕ) (done waiting : List (List ℕ)) (bytes : List ℕ) (synced book next : Contents) → IsBookOf head done synced → AddsAll waiting synced book → Adds bytes book next → IsBookOf head (done ++ (waiting ++ bytes ∷ [])) next
all_with head done waiting bytes synced book next of_done of_waiting adds =
    all_join done (waiting ++ bytes ∷ []) (empty_book head) synced next of_done (all_push waiting bytes synced book next of_waiting adds)

-- and with two records
pub all_both : (head : ℕ) (done waiting : List (List ℕ)) (first second : List ℕ) (synced book between next : Contents) (one two : Entry) → IsBookOf head done synced → AddsAll waiting synced book → Spells first one → Spells second two
    → Makes one book between → Makes two between next → IsBookOf head (done ++ ((waiting ++ first ∷ []) ++ second ∷ [])) next
all_both head done waiting first second synced book between next one two of_done of_waiting spells also makes later =
    all_with head done (waiting ++ first ∷ []) second synced between next of_done (all_push waiting first synced book between of_waiting (record { entry = one; spells = spells; makes = makes })) (record { entry = two; spells = also; makes = later })

pub notes_with : ledger_laws.NotesGoOn → (done waiting : List (List ℕ)) (bytes : List ℕ) (entry : Entry) (known : Known) → AreNotesOf (done ++ waiting) known → Spells bytes entry → AreNotesOf (done ++ (waiting ++ bytes ∷ [])) (known_with known entry)
notes_with on done waiting bytes entry known are spells =
    subst (λ (l : List (List ℕ)). AreNotesOf l (known_with known entry)) (append_assoc done waiting (bytes ∷ [])) (on (done ++ waiting) bytes entry known are spells)

pub notes_both : ledger_laws.NotesGoOn → (done waiting : List (List ℕ)) (first second : List ℕ) (one two : Entry) (known : Known) → AreNotesOf (done ++ waiting) known → Spells first one → Spells second two
    → AreNotesOf (done ++ ((waiting ++ first ∷ []) ++ second ∷ [])) (known_with (known_with known one) two)
notes_both on done waiting first second one two known are spells also =
    notes_with on done (waiting ++ first ∷ []) second two (known_with known one) (notes_with on done waiting first one known are spells) also
