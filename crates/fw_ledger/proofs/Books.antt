-- That records have one book at most.
use Rattle.std.proofs.Common.{◌≡◌, ◌≢◌, ◌⊎◌, inl, inr, ℕ, ◌≤◌, List, [], ◌∷◌, ◌++◌, Option, Some, None, Result, Ok, Err, IfErr, IsErrOf, Vec, length, arith, refl, sym, ap, subst, ◌∙◌}
use Rattle.std.specs.declared.alloc.Global.{Global}
use Rattle.fw_names.specs.Name.{Campaign}
use Rattle.fw_book.specs.Rows.{meters_of}
use Rattle.fw_book.specs.Contents.{Offered, Contents, image_in}
use Rattle.fw_book.specs.declared.error.BookError.{BookError}
use Rattle.fw_book.specs.declared.error.BookError.TheVariants.{OutOfMemory}
use Rattle.fw_book.specs.Changes.{empty_book, opened, marked, opening_refusal, IsRefusal}
use Rattle.fw_ledger.specs.Entry.{Source, whole, earlier, Entry, opening, mark, cancelling, endings, note, ending_number}
use Rattle.fw_ledger.specs.declared.record.Ending.{Ending}
use Rattle.fw_ledger.specs.declared.record.Ending.TheVariants as ending
use Rattle.fw_ledger.specs.Replay.{state_of, IsImage, MakesOpened, MakesNumbered, MakesEach, MakesEnded, Makes, Adds, AddsNothing, AddsAll, IsBookOf, FailsAt, records_of}
use Rattle.fw_ledger.specs.Entry.{Spells, NoRecord, IsOpening, IsNote, BeginsOpening, SpellsNote, MayTakeMemory, meters_bytes}
use Rattle.fw_ledger.specs.declared.error.ReplayError.{ReplayError}
use Rattle.fw_ledger.specs.declared.error.ReplayError.TheVariants as replay
use Rattle.fw_ledger.proofs.Spellings.{record_unique, number_unique}

some_unique : (a b : List ℕ) → Some a ≡ Some b → a ≡ b
some_unique a b is = cc is

image_unique : (book : Contents) (source : Source) (a b : List ℕ) → IsImage book source a → IsImage book source b → a ≡ b
image_unique book (whole bytes) a b ha hb = ha ∙ sym hb
image_unique book (earlier serial) a b ha hb = some_unique a b (sym ha.1 ∙ hb.1)

pub some_number : (e : Ending) → ending_number e ≢ 0
some_number ending.Done = λ is. absurd (omega (arith, is))
some_number ending.Failed = λ is. absurd (omega (arith, is))

pub numbered_unique : (book : Contents) (campaign : Campaign) (meter number : ℕ) (a b : Contents) → MakesNumbered book campaign meter number a → MakesNumbered book campaign meter number b → a ≡ b
numbered_unique book campaign meter number a b (inl ha) (inl hb) = ha.1 ∙ sym hb.1
numbered_unique book campaign meter number a b (inl ha) (inr hb) = absurd (some_number hb.0 (sym hb.1 ∙ ha.0))
numbered_unique book campaign meter number a b (inr ha) (inl hb) = absurd (some_number ha.0 (sym ha.1 ∙ hb.0))
numbered_unique book campaign meter number a b (inr ha) (inr hb) =
    ha.2.1 ∙ ap (λ (e : Ending). marked book campaign.serial meter (state_of e)) (number_unique ha.0 hb.0 (sym ha.1 ∙ hb.1)) ∙ sym hb.2.1

each_unique : (meters numbers : List ℕ) (book : Contents) (campaign : Campaign) (a b : Contents) → MakesEach book campaign meters numbers a → MakesEach book campaign meters numbers b → a ≡ b
each_unique [] [] book campaign a b ha hb = ha ∙ sym hb
each_unique [] (number ∷ numbers) book campaign a b ha hb = absurd ha
each_unique (meter ∷ meters) [] book campaign a b ha hb = absurd ha
each_unique (meter ∷ meters) (number ∷ numbers) book campaign a b ha hb =
    let same = numbered_unique book campaign meter number ha.0 hb.0 ha.1 hb.1 in
    each_unique meters numbers hb.0 campaign a b (subst (λ (c : Contents). MakesEach c campaign meters numbers a) same ha.2) hb.2

pub same_offer : (a b : Offered) → Some a ≡ Some b → a ≡ b
same_offer a b is = cc is

ended_unique : (book : Contents) (campaign : Campaign) (numbers : List ℕ) (a b : Contents) → MakesEnded book campaign numbers a → MakesEnded book campaign numbers b → a ≡ b
ended_unique book campaign numbers a b ha hb =
    let same = same_offer ha.offer hb.offer (sym ha.offered ∙ hb.offered) in
    each_unique (meters_of hb.offer.rows) numbers book campaign a b (subst (λ (o : Offered). MakesEach book campaign (meters_of o.rows) numbers a) same ha.each) hb.each

makes_unique : (entry : Entry) (book a b : Contents) → Makes entry book a → Makes entry book b → a ≡ b
makes_unique (opening campaign release source meters) book a b ha hb =
    ha.next_is ∙ ap (λ (l : List ℕ). opened book campaign.serial release l meters) (image_unique book source ha.image hb.image ha.is_image hb.is_image) ∙ sym hb.next_is
makes_unique (mark campaign meter e) book a b ha hb = ha.1 ∙ sym hb.1
makes_unique (cancelling campaign) book a b ha hb = ha.1 ∙ sym hb.1
makes_unique (endings campaign numbers) book a b ha hb = ended_unique book campaign numbers a b ha hb
makes_unique (note campaign told) book a b ha hb = ha.1 ∙ sym hb.1

pub adds_unique : (bytes : List ℕ) (book a b : Contents) → Adds bytes book a → Adds bytes book b → a ≡ b
adds_unique bytes book a b ha hb =
    makes_unique hb.entry book a b (subst (λ (e : Entry). Makes e book a) (record_unique bytes ha.entry hb.entry ha.spells hb.spells) ha.makes) hb.makes

all_unique : (records : List (List ℕ)) (book a b : Contents) → AddsAll records book a → AddsAll records book b → a ≡ b
all_unique [] book a b ha hb = ha ∙ sym hb
all_unique (bytes ∷ records) book a b ha hb =
    let same = adds_unique bytes book ha.0 hb.0 ha.1 hb.1 in
    all_unique records hb.0 a b (subst (λ (c : Contents). AddsAll records c a) same ha.2) hb.2

pub book_unique : (head : ℕ) (records : List (List ℕ)) (a b : Contents) → IsBookOf head records a → IsBookOf head records b → a ≡ b
book_unique head records a b ha hb = all_unique records (empty_book head) a b ha hb

-- one record more
pub all_push : (records : List (List ℕ)) (bytes : List ℕ) (book between next : Contents) → AddsAll records book between → Adds bytes between next → AddsAll (records ++ bytes ∷ []) book next
all_push [] bytes book between next all one = (next, subst (λ (c : Contents). Adds bytes c next) all one, refl)
all_push (first ∷ records) bytes book between next all one = (all.0, all.1, all_push records bytes all.0 between next all.2 one)

-- the records up to a place have a book, and the rest makes the whole one of it
pub all_split : (front rest : List (List ℕ)) (book next : Contents) → AddsAll (front ++ rest) book next → (between : Contents) × AddsAll front book between × AddsAll rest between next
all_split [] rest book next all = (book, refl, all)
all_split (bytes ∷ front) rest book next all =
    let later = all_split front rest all.0 next all.2 in
    (later.0, (all.0, all.1, later.1), later.2)

pub failed_none : (head : ℕ) (records : List (List ℕ)) (index : ℕ) (bytes : List ℕ) (book : Contents) → FailsAt head records index bytes → IsBookOf head records book → ⊥
failed_none head records index bytes book fails is =
    let parts = all_split fails.front (bytes ∷ fails.rest) (empty_book head) book (subst (λ (l : List (List ℕ)). IsBookOf head l book) fails.split is) in
    let same = book_unique head fails.front parts.0 fails.book parts.1 fails.is_book in
    fails.nothing parts.2.0 (subst (λ (c : Contents). Adds bytes c parts.2.0) same parts.2.1)

-- ---- refusals

-- a book that refuses an opening with this image makes nothing of it
pub opening_refused : (book : Contents) (campaign : Campaign) (release : ℕ) (source : Source) (image meters : List ℕ) (e : BookError) → IsImage book source image → IsRefusal (opening_refusal book campaign image meters) e → e ≢ OutOfMemory
    → (next : Contents) → MakesOpened book campaign release source meters next → ⊥
opening_refused book campaign release source image meters e is refused other next makes =
    let same = image_unique book source makes.image image makes.is_image is in
    let none : opening_refusal book campaign image meters ≡ None = subst (λ (l : List ℕ). opening_refusal book campaign l meters ≡ None) same makes.admitted in
    other (subst (λ (r : Option BookError). IsRefusal r e) none refused)

none_some : (o : Option (List ℕ)) (image : List ℕ) → o ≡ None → o ≡ Some image → ⊥
none_some o image none some = absurd (cc (sym none ∙ some))

-- and one without the earlier campaign has no image for it
pub no_image : (book : Contents) (campaign : Campaign) (release serial : ℕ) (meters : List ℕ) → (1 ≤ serial → image_in book (record { head = book.head; serial = serial }) ≡ None)
    → (next : Contents) → MakesOpened book campaign release (earlier serial) meters next → ⊥
no_image book campaign release serial meters none next makes =
    none_some (image_in book (record { head = book.head; serial = serial })) makes.image (none makes.is_image.0) makes.is_image.1

pub no_mark : (refusal : Option BookError) (e : BookError) → refusal ≡ Some e → refusal ≡ None → ⊥
no_mark refusal e some none = absurd (cc (sym none ∙ some))

-- what a book makes of the record that bytes spell
pub spelled_adds_nothing : (bytes : List ℕ) (entry : Entry) (book : Contents) → Spells bytes entry → ((next : Contents) → Makes entry book next → ⊥) → AddsNothing bytes book
spelled_adds_nothing bytes entry book spells none = λ next adds.
    none next (subst (λ (e : Entry). Makes e book next) (record_unique bytes adds.entry entry adds.spells spells) adds.makes)

pub no_record_adds_nothing : (bytes : List ℕ) (book : Contents) → NoRecord bytes → AddsNothing bytes book
no_record_adds_nothing bytes book none = λ next adds. none adds.entry adds.spells

-- ---- memory

pub taken_begins : (bytes : List ℕ) → MayTakeMemory bytes → BeginsOpening bytes
taken_begins bytes may = record { campaign = may.campaign; release = may.release; image = may.image; meters = may.meters; opened = may.opened; is_source = may.is_source; spelled = may.spelled }

pub spelled_begins : (bytes : List ℕ) (entry : Entry) → Spells bytes entry → IsOpening entry → BeginsOpening bytes
spelled_begins bytes (opening campaign release source meters) spells is = record {
  campaign = campaign;
  release = release;
  image = source;
  meters = meters_bytes meters;
  opened = spells.can.0;
  is_source = spells.can.1;
  spelled = spells.spelled;
}
spelled_begins bytes (mark campaign meter e) spells is = absurd is
spelled_begins bytes (cancelling campaign) spells is = absurd is
spelled_begins bytes (endings campaign numbers) spells is = absurd is
spelled_begins bytes (note campaign told) spells is = absurd is

-- and so does a note
pub spelled_takes : (bytes : List ℕ) (entry : Entry) → Spells bytes entry → IsOpening entry ⊎ IsNote entry → BeginsOpening bytes ⊎ SpellsNote bytes
spelled_takes bytes entry spells (inl is) = inl (spelled_begins bytes entry spells is)
spelled_takes bytes entry spells (inr is) = inr (entry, spells, is)

told_is : {T : Type 0} (a b : ReplayError) → IsErrOf {T = T} (Err a) b → a ≡ b
told_is a b is = cc is

-- memory was refused where a reading says so
pub wants_memory : {T : Type 0} (refusal : BookError) (told : ReplayError) (index : ℕ) → ((refusal ≡ OutOfMemory) × (told ≡ replay.OutOfMemory)) ⊎ ((refusal ≢ OutOfMemory) × (told ≡ replay.BadRecord index)) → IsErrOf {T = T} (Err told) replay.OutOfMemory → refusal ≡ OutOfMemory
wants_memory refusal told index (inl out) is = out.0
wants_memory refusal told index (inr bad) is = absurd (cc (sym bad.1 ∙ told_is told replay.OutOfMemory is))

-- what follows of each error
pub if_err : {T E : Type 0} (result : Result T E) (P Q : E → Type 0) → ((e : E) → P e → Q e) → IfErr result P → IfErr result Q
if_err (Ok v) P Q follows holds = tt
if_err (Err e) P Q follows holds = follows e holds

-- ---- what the vectors hold

pub none_of : (vs : List (Vec ℕ Global)) → length vs ≡ 0 → records_of vs ≡ []
none_of [] none = refl
none_of (v ∷ vs) none = absurd (omega (arith, none))

pub first_of : (vs rest : List (Vec ℕ Global)) (v : Vec ℕ Global) (bytes : List ℕ) → vs ≡ v ∷ rest → bytes ≡ v.items → records_of vs ≡ bytes ∷ records_of rest
first_of vs rest v bytes is same = ap (λ (l : List (Vec ℕ Global)). records_of l) is ∙ ap (λ (l : List ℕ). l ∷ records_of rest) (sym same)
