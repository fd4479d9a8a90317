-- That what spells a record spells one alone.
use Rattle.std.proofs.Common.{◌≡◌, ℕ, ◌<◌, ◌^◌, List, [], ◌∷◌, ◌++◌, length, take, drop, refl, sym, ap, ◌∙◌, arith, append_assoc, length-append}
use Rattle.std.proofs.lemmas.List.{take_at, drop_at, append-nil}
use Rattle.std.specs.Int.{w32, to_be_bytes, from_be_bytes}
use Rattle.std.proofs.lemmas.Nat.{from_be_bytes-to_be_bytes_4}
use Rattle.fw_names.specs.Name.{Campaign, IsOpened, campaign_bytes}
use Rattle.fw_ledger.specs.declared.record.Ending.{Ending}
use Rattle.fw_ledger.specs.declared.record.Ending.TheVariants.{Done, Failed}
use Rattle.fw_ledger.specs.declared.record.Note.{Note}
use Rattle.fw_ledger.specs.Note.{note_bytes}
use Rattle.fw_ledger.proofs.NoteSpellings.{note_unique}
use Rattle.fw_ledger.specs.Entry.{Source, whole, earlier, Entry, opening, mark, cancelling, endings, note, source_bytes, meters_bytes, ending_number, opening_front, mark_bytes, IsSource, MetersFit, Spells}

split_unique : (n : ℕ) (p q s t : List ℕ) → length p ≡ n → length q ≡ n → p ++ s ≡ q ++ t → (p ≡ q) × (s ≡ t)
split_unique n p q s t hp hq e = (
  sym (take_at p s n hp) ∙ ap (λ (l : List ℕ). take n l) e ∙ take_at q t n hq,
  sym (drop_at p s n hp) ∙ ap (λ (l : List ℕ). drop n l) e ∙ drop_at q t n hq,
)

pub four_unique : (a b : ℕ) (s t : List ℕ) → a < 2 ^ 32 → b < 2 ^ 32 → to_be_bytes w32 a ++ s ≡ to_be_bytes w32 b ++ t → (a ≡ b) × (s ≡ t)
four_unique a b s t ha hb e =
    let parts = split_unique 4 (to_be_bytes w32 a) (to_be_bytes w32 b) s t refl refl e in
    (sym (from_be_bytes-to_be_bytes_4 a ha) ∙ ap (λ (l : List ℕ). from_be_bytes w32 l) parts.0 ∙ from_be_bytes-to_be_bytes_4 b hb, parts.1)

pub campaign_unique : (a b : Campaign) (s t : List ℕ) → IsOpened a → IsOpened b → campaign_bytes a ++ s ≡ campaign_bytes b ++ t → (a ≡ b) × (s ≡ t)
campaign_unique a b s t ha hb e =
    let e' : to_be_bytes w32 a.head ++ (to_be_bytes w32 a.serial ++ s) ≡ to_be_bytes w32 b.head ++ (to_be_bytes w32 b.serial ++ t) =
    sym (append_assoc (to_be_bytes w32 a.head) (to_be_bytes w32 a.serial) s) ∙ e ∙ append_assoc (to_be_bytes w32 b.head) (to_be_bytes w32 b.serial) t in
    let heads = four_unique a.head b.head (to_be_bytes w32 a.serial ++ s) (to_be_bytes w32 b.serial ++ t) ha.head_fits hb.head_fits e' in
    let serials = four_unique a.serial b.serial s t ha.serial_fits hb.serial_fits heads.1 in
    let of_head : ℕ → Campaign = λ n. record { head = n; serial = a.serial } in
    let of_serial : ℕ → Campaign = λ n. record { head = b.head; serial = n } in
    (ap of_head heads.0 ∙ ap of_serial serials.0, serials.1)

pub tail_of : (a b : ℕ) (s t : List ℕ) → a ∷ s ≡ b ∷ t → (a ≡ b) × (s ≡ t)
tail_of a b s t is = (cc is, cc is)

pub image_unique : (a b s t : List ℕ) → length a < 2 ^ 32 → length b < 2 ^ 32 → (to_be_bytes w32 (length a) ++ a) ++ s ≡ (to_be_bytes w32 (length b) ++ b) ++ t → (a ≡ b) × (s ≡ t)
image_unique a b s t ha hb e =
    let e' : to_be_bytes w32 (length a) ++ (a ++ s) ≡ to_be_bytes w32 (length b) ++ (b ++ t) =
    sym (append_assoc (to_be_bytes w32 (length a)) a s) ∙ e ∙ append_assoc (to_be_bytes w32 (length b)) b t in
    let sizes = four_unique (length a) (length b) (a ++ s) (b ++ t) ha hb e' in
    split_unique (length b) a b s t sizes.0 refl sizes.1

pub source_unique : (a b : Source) (s t : List ℕ) → IsSource a → IsSource b → source_bytes a ++ s ≡ source_bytes b ++ t → (a ≡ b) × (s ≡ t)
source_unique (whole a) (whole b) s t ha hb e =
    let same = image_unique a b s t ha hb (tail_of 1 1 ((to_be_bytes w32 (length a) ++ a) ++ s) ((to_be_bytes w32 (length b) ++ b) ++ t) e).1 in
    (ap (λ (l : List ℕ). whole l) same.0, same.1)
source_unique (whole a) (earlier b) s t ha hb e = absurd (omega (arith, (tail_of 1 2 ((to_be_bytes w32 (length a) ++ a) ++ s) (to_be_bytes w32 b ++ t) e).0))
source_unique (earlier a) (whole b) s t ha hb e = absurd (omega (arith, (tail_of 2 1 (to_be_bytes w32 a ++ s) ((to_be_bytes w32 (length b) ++ b) ++ t) e).0))
source_unique (earlier a) (earlier b) s t ha hb e =
    let same = four_unique a b s t ha hb (tail_of 2 2 (to_be_bytes w32 a ++ s) (to_be_bytes w32 b ++ t) e).1 in
    (ap (λ (n : ℕ). earlier n) same.0, same.1)

pub meters_unique : (xs ys : List ℕ) → MetersFit xs → MetersFit ys → meters_bytes xs ≡ meters_bytes ys → xs ≡ ys
meters_unique [] [] ha hb e = refl
meters_unique [] (b ∷ ys) ha hb e =
    let four : length (to_be_bytes w32 b) ≡ 4 = refl in
    absurd (omega (arith, ap length e, length-append (to_be_bytes w32 b) (meters_bytes ys), four))
meters_unique (a ∷ xs) [] ha hb e =
    let four : length (to_be_bytes w32 a) ≡ 4 = refl in
    absurd (omega (arith, ap length e, length-append (to_be_bytes w32 a) (meters_bytes xs), four))
meters_unique (a ∷ xs) (b ∷ ys) ha hb e =
    let first = four_unique a b (meters_bytes xs) (meters_bytes ys) ha.0 hb.0 e in
    ap (λ (n : ℕ). n ∷ xs) first.0 ∙ ap (λ (l : List ℕ). b ∷ l) (meters_unique xs ys ha.1 hb.1 first.1)

-- an opening up to its meters, field by field
pub front_fields : (campaign : Campaign) (release : ℕ) (source : Source) (s : List ℕ) → opening_front campaign release source ++ s ≡ campaign_bytes campaign ++ (to_be_bytes w32 release ++ (source_bytes source ++ s))
front_fields campaign release source s =
    append_assoc (campaign_bytes campaign) (to_be_bytes w32 release ++ source_bytes source) s
    ∙ ap (λ (l : List ℕ). campaign_bytes campaign ++ l) (append_assoc (to_be_bytes w32 release) (source_bytes source) s)

pub front_unique : (a b : Campaign) (r q : ℕ) (x y : Source) (s t : List ℕ) → IsOpened a → IsOpened b → r < 2 ^ 32 → q < 2 ^ 32 → IsSource x → IsSource y
    → opening_front a r x ++ s ≡ opening_front b q y ++ t → (a ≡ b) × (r ≡ q) × (x ≡ y) × (s ≡ t)
front_unique a b r q x y s t ha hb hr hq hx hy e =
    let campaigns = campaign_unique a b (to_be_bytes w32 r ++ (source_bytes x ++ s)) (to_be_bytes w32 q ++ (source_bytes y ++ t)) ha hb (sym (front_fields a r x s) ∙ e ∙ front_fields b q y t) in
    let releases = four_unique r q (source_bytes x ++ s) (source_bytes y ++ t) hr hq campaigns.1 in
    let sources = source_unique x y s t hx hy releases.1 in
    (campaigns.0, releases.0, sources.0, sources.1)

pub number_unique : (a b : Ending) → ending_number a ≡ ending_number b → a ≡ b
number_unique Done Done e = refl
number_unique Done Failed e = absurd (omega (arith, e))
number_unique Failed Done e = absurd (omega (arith, e))
number_unique Failed Failed e = refl

same_entry : (bytes : List ℕ) (a b : Entry) → Spells bytes a → Spells bytes b → a ≡ b
same_entry bytes (opening a r x ms) (opening b q y ns) sa sb =
    let e = (tail_of 1 1 (opening_front a r x ++ meters_bytes ms) (opening_front b q y ++ meters_bytes ns) (sym sa.spelled ∙ sb.spelled)).1 in
    let same = front_unique a b r q x y (meters_bytes ms) (meters_bytes ns) sa.can.0 sb.can.0 sa.fit.0 sb.fit.0 sa.can.1 sb.can.1 e in
    ap (λ (c : Campaign). opening c r x ms) same.0 ∙ ap (λ (n : ℕ). opening b n x ms) same.1 ∙ ap (λ (z : Source). opening b q z ms) same.2
    ∙ ap (λ (l : List ℕ). opening b q y l) (meters_unique ms ns sa.fit.1 sb.fit.1 same.3)
same_entry bytes (opening a r x ms) (mark b n f) sa sb = absurd (omega (arith, (tail_of 1 2 (opening_front a r x ++ meters_bytes ms) (mark_bytes b n f) (sym sa.spelled ∙ sb.spelled)).0))
same_entry bytes (opening a r x ms) (cancelling b) sa sb = absurd (omega (arith, (tail_of 1 3 (opening_front a r x ++ meters_bytes ms) (campaign_bytes b) (sym sa.spelled ∙ sb.spelled)).0))
same_entry bytes (opening a r x ms) (endings b ns) sa sb = absurd (omega (arith, (tail_of 1 4 (opening_front a r x ++ meters_bytes ms) (campaign_bytes b ++ ns) (sym sa.spelled ∙ sb.spelled)).0))
same_entry bytes (opening a r x ms) (note b n) sa sb = absurd (omega (arith, (tail_of 1 5 (opening_front a r x ++ meters_bytes ms) (campaign_bytes b ++ note_bytes n) (sym sa.spelled ∙ sb.spelled)).0))
same_entry bytes (mark a m f) (opening b q y ns) sa sb = absurd (omega (arith, (tail_of 2 1 (mark_bytes a m f) (opening_front b q y ++ meters_bytes ns) (sym sa.spelled ∙ sb.spelled)).0))
same_entry bytes (mark a m f) (mark b n g) sa sb =
    let e = (tail_of 2 2 (mark_bytes a m f) (mark_bytes b n g) (sym sa.spelled ∙ sb.spelled)).1 in
    let campaigns = campaign_unique a b (to_be_bytes w32 m ++ ending_number f ∷ []) (to_be_bytes w32 n ++ ending_number g ∷ []) sa.can sb.can e in
    let meters = four_unique m n (ending_number f ∷ []) (ending_number g ∷ []) sa.fit sb.fit campaigns.1 in
    let endings = number_unique f g (tail_of (ending_number f) (ending_number g) [] [] meters.1).0 in
    ap (λ (c : Campaign). mark c m f) campaigns.0 ∙ ap (λ (k : ℕ). mark b k f) meters.0 ∙ ap (λ (h : Ending). mark b n h) endings
same_entry bytes (mark a m f) (cancelling b) sa sb = absurd (omega (arith, (tail_of 2 3 (mark_bytes a m f) (campaign_bytes b) (sym sa.spelled ∙ sb.spelled)).0))
same_entry bytes (mark a m f) (endings b ns) sa sb = absurd (omega (arith, (tail_of 2 4 (mark_bytes a m f) (campaign_bytes b ++ ns) (sym sa.spelled ∙ sb.spelled)).0))
same_entry bytes (mark a m f) (note b n) sa sb = absurd (omega (arith, (tail_of 2 5 (mark_bytes a m f) (campaign_bytes b ++ note_bytes n) (sym sa.spelled ∙ sb.spelled)).0))
same_entry bytes (cancelling a) (opening b q y ns) sa sb = absurd (omega (arith, (tail_of 3 1 (campaign_bytes a) (opening_front b q y ++ meters_bytes ns) (sym sa.spelled ∙ sb.spelled)).0))
same_entry bytes (cancelling a) (mark b n g) sa sb = absurd (omega (arith, (tail_of 3 2 (campaign_bytes a) (mark_bytes b n g) (sym sa.spelled ∙ sb.spelled)).0))
same_entry bytes (cancelling a) (cancelling b) sa sb =
    let e = (tail_of 3 3 (campaign_bytes a) (campaign_bytes b) (sym sa.spelled ∙ sb.spelled)).1 in
    let whole_a : campaign_bytes a ++ [] ≡ campaign_bytes b ++ [] = append-nil (campaign_bytes a) ∙ e ∙ sym (append-nil (campaign_bytes b)) in
    ap (λ (c : Campaign). cancelling c) (campaign_unique a b [] [] sa.can sb.can whole_a).0
same_entry bytes (cancelling a) (endings b ns) sa sb = absurd (omega (arith, (tail_of 3 4 (campaign_bytes a) (campaign_bytes b ++ ns) (sym sa.spelled ∙ sb.spelled)).0))
same_entry bytes (cancelling a) (note b n) sa sb = absurd (omega (arith, (tail_of 3 5 (campaign_bytes a) (campaign_bytes b ++ note_bytes n) (sym sa.spelled ∙ sb.spelled)).0))
same_entry bytes (endings a ms) (opening b q y ns) sa sb = absurd (omega (arith, (tail_of 4 1 (campaign_bytes a ++ ms) (opening_front b q y ++ meters_bytes ns) (sym sa.spelled ∙ sb.spelled)).0))
same_entry bytes (endings a ms) (mark b n g) sa sb = absurd (omega (arith, (tail_of 4 2 (campaign_bytes a ++ ms) (mark_bytes b n g) (sym sa.spelled ∙ sb.spelled)).0))
same_entry bytes (endings a ms) (cancelling b) sa sb = absurd (omega (arith, (tail_of 4 3 (campaign_bytes a ++ ms) (campaign_bytes b) (sym sa.spelled ∙ sb.spelled)).0))
same_entry bytes (endings a ms) (endings b ns) sa sb =
    let same = campaign_unique a b ms ns sa.can.0 sb.can.0 (tail_of 4 4 (campaign_bytes a ++ ms) (campaign_bytes b ++ ns) (sym sa.spelled ∙ sb.spelled)).1 in
    ap (λ (c : Campaign). endings c ms) same.0 ∙ ap (λ (l : List ℕ). endings b l) same.1
same_entry bytes (endings a ms) (note b n) sa sb = absurd (omega (arith, (tail_of 4 5 (campaign_bytes a ++ ms) (campaign_bytes b ++ note_bytes n) (sym sa.spelled ∙ sb.spelled)).0))
same_entry bytes (note a m) (opening b q y ns) sa sb = absurd (omega (arith, (tail_of 5 1 (campaign_bytes a ++ note_bytes m) (opening_front b q y ++ meters_bytes ns) (sym sa.spelled ∙ sb.spelled)).0))
same_entry bytes (note a m) (mark b n g) sa sb = absurd (omega (arith, (tail_of 5 2 (campaign_bytes a ++ note_bytes m) (mark_bytes b n g) (sym sa.spelled ∙ sb.spelled)).0))
same_entry bytes (note a m) (cancelling b) sa sb = absurd (omega (arith, (tail_of 5 3 (campaign_bytes a ++ note_bytes m) (campaign_bytes b) (sym sa.spelled ∙ sb.spelled)).0))
same_entry bytes (note a m) (endings b ns) sa sb = absurd (omega (arith, (tail_of 5 4 (campaign_bytes a ++ note_bytes m) (campaign_bytes b ++ ns) (sym sa.spelled ∙ sb.spelled)).0))
same_entry bytes (note a m) (note b n) sa sb =
    let same = campaign_unique a b (note_bytes m) (note_bytes n) sa.can sb.can (tail_of 5 5 (campaign_bytes a ++ note_bytes m) (campaign_bytes b ++ note_bytes n) (sym sa.spelled ∙ sb.spelled)).1 in
    ap (λ (c : Campaign). note c m) same.0 ∙ ap (λ (t : Note). note b t) (note_unique m n sa.fit sb.fit same.1)

pub record_unique : (bytes : List ℕ) (a b : Entry) → Spells bytes a → Spells bytes b → a ≡ b
record_unique = same_entry
