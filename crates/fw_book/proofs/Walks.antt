-- Looking through rows and campaigns where they stand in bytes.
use Rattle.std.proofs.Common.{◌≡◌, ℕ, zero, suc, ◌-◌, ◌*◌, ◌<◌, ◌^◌, Bool, false, true, List, [], ◌∷◌, ◌++◌, length, take, drop, Option, Some, None, refl, sym, ap, ◌∙◌, arith, append_assoc, length-append}
use Rattle.std.proofs.lemmas.List.{take_at, drop_at}
use Rattle.std.proofs.lemmas.Nat.{from_be_bytes-to_be_bytes_4}
use Rattle.std.specs.Int.{w16, w32, to_be_bytes, from_be_bytes}
use Rattle.fw_book.specs.declared.row.Row.{Row}
use Rattle.fw_book.specs.declared.row.RowState.{RowState}
use Rattle.fw_book.specs.declared.row.RowState.TheVariants.{Live, Done, Failed, Cancelled}
use Rattle.fw_book.specs.declared.version.Version.{Version}
use Rattle.fw_book.specs.declared.error.BookError.TheVariants.{OutOfMemory}
use Rattle.fw_book.specs.Contents.{Offered, Contents, IsEntry}
use Rattle.fw_book.specs.Changes.{ReadRefused}
use Rattle.fw_book.specs.Format.{state_number, row_bytes, rows_bytes, counted_bytes, image_bytes, entry_bytes, entries_bytes, IsReadAs}
use Rattle.fw_book.specs.Private.{MetersFit, IsEntryIn, NoEntry, state_of_number, row_before, rows_in, entry_in, Skims, AreEntries}
use Rattle.fw_book.proofs.Spellings.{split_unique, two_unique, image_unique, numbers_unique, numbers_of, entry_parts, entry_some, entry_unique}

state_none : (n : ℕ) → 3 < n → state_of_number n ≡ None
state_none zero h = absurd (omega (arith, h))
state_none (suc zero) h = absurd (omega (arith, h))
state_none (suc (suc zero)) h = absurd (omega (arith, h))
state_none (suc (suc (suc zero))) h = absurd (omega (arith, h))
state_none (suc (suc (suc (suc n)))) h = refl

state_some : (state : RowState) → state_of_number (state_number state) ≡ Some state
state_some Live = refl
state_some Done = refl
state_some Failed = refl
state_some Cancelled = refl

pub rows_short : (bytes : List ℕ) → length bytes < 5 → rows_in bytes ≡ []
rows_short [] h = refl
rows_short (a ∷ []) h = refl
rows_short (a ∷ b ∷ []) h = refl
rows_short (a ∷ b ∷ c ∷ []) h = refl
rows_short (a ∷ b ∷ c ∷ d ∷ []) h = refl
rows_short (a ∷ b ∷ c ∷ d ∷ state ∷ rest) h = absurd (omega (arith, h))

pub rows_bad : (bytes rest : List ℕ) (meter n : ℕ) → bytes ≡ to_be_bytes w32 meter ++ n ∷ rest → 3 < n → rows_in bytes ≡ []
rows_bad bytes rest meter n e bad =
    ap (λ (l : List ℕ). rows_in l) e
    ∙ ap (λ (s : Option RowState). row_before (from_be_bytes w32 (to_be_bytes w32 meter)) s (rows_in rest)) (state_none n bad)

pub rows_first : (bytes rest : List ℕ) (row : Row) → row.meter < 2 ^ 32 → bytes ≡ row_bytes row ++ rest → rows_in bytes ≡ row ∷ rows_in rest
rows_first bytes rest row fits e =
    let at_meter : ℕ → List Row = λ m. record { meter = m; state = row.state } ∷ rows_in rest in
    ap (λ (l : List ℕ). rows_in l) e
    ∙ ap (λ (s : Option RowState). row_before (from_be_bytes w32 (to_be_bytes w32 row.meter)) s (rows_in rest)) (state_some row.state)
    ∙ ap at_meter (from_be_bytes-to_be_bytes_4 row.meter fits)

-- rows are found where they are spelled
pub rows_whole : (rows : List Row) → MetersFit rows → rows_in (rows_bytes rows) ≡ rows
rows_whole [] h = refl
rows_whole (row ∷ rows) h = rows_first (rows_bytes (row ∷ rows)) (rows_bytes rows) row h.0 refl ∙ ap (λ (rs : List Row). row ∷ rs) (rows_whole rows h.1)

pub length_rows : (rows : List Row) → length (rows_bytes rows) ≡ 5 * length rows
length_rows [] = refl
length_rows (row ∷ rows) = omega (arith, length_rows rows)

-- what stands before the rest
pub cut_before : (bytes front rest : List ℕ) (k : ℕ) → bytes ≡ front ++ rest → k ≡ length bytes - length rest → (take k bytes ≡ front) × (drop k bytes ≡ rest)
cut_before bytes front rest k e h =
    let n : length front ≡ k = omega (arith, h, ap length e, length-append front rest) in
    (ap (λ (l : List ℕ). take k l) e ∙ take_at front rest k n, ap (λ (l : List ℕ). drop k l) e ∙ drop_at front rest k n)

-- what a test of campaigns says of those that are left
pub record Left (v : Version) (F : List (ℕ × Offered) → Bool) (list : List (ℕ × Offered)) (rest : List ℕ) : Type 0 where
  pub left : List (ℕ × Offered)
  pub are : AreEntries v rest left
  pub same : F list ≡ F left

pub left_all : (v : Version) (F : List (ℕ × Offered) → Bool) (list : List (ℕ × Offered)) (bytes : List ℕ) → AreEntries v bytes list → Left v F list bytes
left_all v F list bytes are = record { left = list; are = are; same = refl }

-- the first of them stands there
pub first_left : (v : Version) (entry : ℕ × Offered) (after rest : List ℕ) (left : List (ℕ × Offered)) → rest ≡ entry_bytes v entry ++ after → IsEntryIn v entry → AreEntries v rest left → (others : List (ℕ × Offered)) × (left ≡ entry ∷ others) × AreEntries v after others
first_left v entry after rest [] e is are = absurd (entry_some v entry after (sym e ∙ are.spelled))
first_left v entry after rest (x ∷ xs) e is are =
    let same = entry_unique v x entry (entries_bytes v xs) after are.fit.0 is (sym are.spelled ∙ e) in
    (xs, ap (λ (y : ℕ × Offered). y ∷ xs) same.0, record { spelled = sym same.1; fit = are.fit.1 })

-- none is left where none stands
pub none_left : (v : Version) (rest : List ℕ) (left : List (ℕ × Offered)) → NoEntry v rest → AreEntries v rest left → left ≡ []
none_left v rest [] none are = refl
none_left v rest (x ∷ xs) none are = absurd (none x (entries_bytes v xs) are.fit.0 are.spelled)

some_left : (v : Version) (entry : ℕ × Offered) (after rest : List ℕ) (before left : List (ℕ × Offered)) → rest ≡ entry_bytes v entry ++ after → AreEntries v rest left → before ++ left ≡ [] → ⊥
some_left v entry after rest before [] e are none = entry_some v entry after (sym e ∙ are.spelled)
some_left v entry after rest before (x ∷ xs) e are none = absurd (omega (arith, ap length none, length-append before (x ∷ xs)))

-- memory may run out where a campaign is left, since the bytes are read as a book that has it
pub may_run_out : (v : Version) (bytes rest after : List ℕ) (book : Contents) (entry : ℕ × Offered) (left : List (ℕ × Offered)) → rest ≡ entry_bytes v entry ++ after → AreEntries v rest left
    → IsReadAs bytes (record { head = book.head; campaigns = book.campaigns ++ left }) → ReadRefused bytes OutOfMemory
may_run_out v bytes rest after book entry left e are is_read =
    (record { head = book.head; campaigns = book.campaigns ++ left }, is_read, some_left v entry after rest book.campaigns left e are)

-- what was skimmed is what stands there
skim_is : (v : Version) (bytes image rows rest after : List ℕ) (serial release : ℕ) (entry : ℕ × Offered) → Skims v bytes serial release image rows rest → IsEntryIn v entry → bytes ≡ entry_bytes v entry ++ after → (entry_in serial release image rows ≡ entry) × (rest ≡ after)
skim_is v bytes image rows rest after serial release entry skims in_version e =
    let is : IsEntry entry = in_version.is_entry in
    let target : List Row = entry.1.rows in
    let numbers = numbers_unique v serial entry.0 release entry.1.release (image_bytes image ++ skims.behind) (image_bytes entry.1.image ++ (counted_bytes target ++ after)) skims.are_numbers (numbers_of v entry in_version) (sym skims.spelled ∙ e ∙ entry_parts v entry after) in
    let images = image_unique image entry.1.image skims.behind (counted_bytes target ++ after) (omega (arith, skims.is_image.ends)) (omega (arith, is.image_ends)) numbers.2 in
    let counts = two_unique skims.of_rows.count (length target) (rows ++ rest) (rows_bytes target ++ after) skims.of_rows.fits (omega (arith, is.meters_end))
    (sym skims.of_rows.spelled ∙ images.1 ∙ append_assoc (to_be_bytes w16 (length target)) (rows_bytes target) after) in
    let parts = split_unique (5 * skims.of_rows.count) rows (rows_bytes target) rest after skims.of_rows.size (omega (arith, length_rows target, counts.0)) counts.1 in
    let same : rows_in rows ≡ target = ap (λ (l : List ℕ). rows_in l) parts.0 ∙ rows_whole target is.meters_fit in
    let at_serial : ℕ → ℕ × Offered = λ n. (n, record { release = release; image = image; rows = rows_in rows }) in
    let at_release : ℕ → ℕ × Offered = λ n. (entry.0, record { release = n; image = image; rows = rows_in rows }) in
    let at_image : List ℕ → ℕ × Offered = λ l. (entry.0, record { release = entry.1.release; image = l; rows = rows_in rows }) in
    let at_rows : List Row → ℕ × Offered = λ rs. (entry.0, record { release = entry.1.release; image = entry.1.image; rows = rs }) in
    (ap at_serial numbers.0 ∙ ap at_release numbers.1 ∙ ap at_image images.0 ∙ ap at_rows same, parts.1)

-- the first campaign is the one that was skimmed
pub first_skimmed : (v : Version) (bytes image rows after : List ℕ) (serial release : ℕ) (left : List (ℕ × Offered)) → Skims v bytes serial release image rows after → length after < length bytes → AreEntries v bytes left → (others : List (ℕ × Offered)) × (left ≡ entry_in serial release image rows ∷ others) × AreEntries v after others
first_skimmed v bytes image rows after serial release [] skims shorter are = absurd (omega (arith, shorter, ap length are.spelled))
first_skimmed v bytes image rows after serial release (x ∷ xs) skims shorter are =
    let same = skim_is v bytes image rows after (entries_bytes v xs) serial release x skims are.fit.0 are.spelled in
    (xs, ap (λ (y : ℕ × Offered). y ∷ xs) (sym same.0), record { spelled = same.1; fit = are.fit.1 })

pub left_step : (v : Version) (F : List (ℕ × Offered) → Bool) (list : List (ℕ × Offered)) (image rows after rest : List ℕ) (serial release : ℕ) → Skims v rest serial release image rows after → length after < length rest → ((others : List (ℕ × Offered)) → F (entry_in serial release image rows ∷ others) ≡ F others) → Left v F list rest → Left v F list after
left_step v F list image rows after rest serial release skims shorter skips h =
    let first = first_skimmed v rest image rows after serial release h.left skims shorter h.are in
    record { left = first.0; are = first.2; same = h.same ∙ ap F first.1 ∙ skips first.0 }

pub left_found : (v : Version) (F : List (ℕ × Offered) → Bool) (list : List (ℕ × Offered)) (image rows after rest : List ℕ) (serial release : ℕ) → Skims v rest serial release image rows after → length after < length rest → ((others : List (ℕ × Offered)) → F (entry_in serial release image rows ∷ others) ≡ true) → Left v F list rest → F list ≡ true
left_found v F list image rows after rest serial release skims shorter hits h =
    let first = first_skimmed v rest image rows after serial release h.left skims shorter h.are in
    h.same ∙ ap F first.1 ∙ hits first.0

pub left_end : (v : Version) (F : List (ℕ × Offered) → Bool) (list : List (ℕ × Offered)) (rest : List ℕ) → NoEntry v rest → F [] ≡ false → Left v F list rest → F list ≡ false
left_end v F list rest none empty h = h.same ∙ ap F (none_left v rest h.left none h.are) ∙ empty
