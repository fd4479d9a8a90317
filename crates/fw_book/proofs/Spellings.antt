-- That what spells a part of a book spells one alone, whatever follows it.
use Rattle.std.proofs.Common.{◌≡◌, ℕ, zero, suc, ◌<◌, ◌≤◌, ◌^◌, inl, inr, List, [], ◌∷◌, ◌++◌, length, get_or, take, drop, refl, sym, ap, subst, ◌∙◌, arith, append_assoc, length-append}
use Rattle.std.proofs.lemmas.List.{take_at, drop_at}
use Rattle.std.specs.Int.{w16, w32, to_be_bytes, from_be_bytes}
use Rattle.std.specs.List.{AllByRecursion}
use Rattle.std.proofs.lemmas.Nat.{from_be_bytes-to_be_bytes_2, from_be_bytes-to_be_bytes_4}
use Rattle.fw_book.specs.declared.row.Row.{Row}
use Rattle.fw_book.specs.declared.row.RowState.{RowState}
use Rattle.fw_book.specs.declared.row.RowState.TheVariants.{Live, Done, Failed, Cancelled}
use Rattle.fw_book.specs.declared.version.Version.{Version}
use Rattle.fw_book.specs.declared.version.Version.TheVariants.{First, Second}
use Rattle.fw_book.specs.Contents.{Offered, Contents, IsEntry, IsBook}
use Rattle.fw_book.specs.Format.{state_number, row_bytes, rows_bytes, counted_bytes, image_bytes, numbers_bytes, entry_bytes, entries_bytes, head_bytes, book_bytes, SpellsBook, IsReadAs}
use Rattle.fw_book.specs.Private.{MetersFit, AreNumbers, IsEntryIn, TellsAll}
use Rattle.std.proofs.lemmas.List.{append-nil}

pub split_unique : (n : ℕ) (p q s t : List ℕ) → length p ≡ n → length q ≡ n → p ++ s ≡ q ++ t → (p ≡ q) × (s ≡ t)
split_unique n p q s t hp hq e = (
  sym (take_at p s n hp) ∙ ap (λ (l : List ℕ). take n l) e ∙ take_at q t n hq,
  sym (drop_at p s n hp) ∙ ap (λ (l : List ℕ). drop n l) e ∙ drop_at q t n hq,
)

pub four_unique : (a b : ℕ) (s t : List ℕ) → a < 2 ^ 32 → b < 2 ^ 32 → to_be_bytes w32 a ++ s ≡ to_be_bytes w32 b ++ t → (a ≡ b) × (s ≡ t)
four_unique a b s t ha hb e =
    let parts = split_unique 4 (to_be_bytes w32 a) (to_be_bytes w32 b) s t refl refl e in
    (sym (from_be_bytes-to_be_bytes_4 a ha) ∙ ap (λ (l : List ℕ). from_be_bytes w32 l) parts.0 ∙ from_be_bytes-to_be_bytes_4 b hb, parts.1)

pub two_unique : (a b : ℕ) (s t : List ℕ) → a < 2 ^ 16 → b < 2 ^ 16 → to_be_bytes w16 a ++ s ≡ to_be_bytes w16 b ++ t → (a ≡ b) × (s ≡ t)
two_unique a b s t ha hb e =
    let parts = split_unique 2 (to_be_bytes w16 a) (to_be_bytes w16 b) s t refl refl e in
    (sym (from_be_bytes-to_be_bytes_2 a ha) ∙ ap (λ (l : List ℕ). from_be_bytes w16 l) parts.0 ∙ from_be_bytes-to_be_bytes_2 b hb, parts.1)

-- the state that a number stands for
state_at : ℕ → RowState
state_at zero = Live
state_at (suc zero) = Done
state_at (suc (suc zero)) = Failed
state_at (suc (suc (suc n))) = Cancelled

state_back : (s : RowState) → state_at (state_number s) ≡ s
unfolding state_at
state_back Live = refl
state_back Done = refl
state_back Failed = refl
state_back Cancelled = refl

pub row_unique : (a b : Row) (s t : List ℕ) → a.meter < 2 ^ 32 → b.meter < 2 ^ 32 → row_bytes a ++ s ≡ row_bytes b ++ t → (a ≡ b) × (s ≡ t)
row_unique a b s t ha hb e =
    let e' : to_be_bytes w32 a.meter ++ (state_number a.state ∷ s) ≡ to_be_bytes w32 b.meter ++ (state_number b.state ∷ t) =
    sym (append_assoc (to_be_bytes w32 a.meter) (state_number a.state ∷ []) s) ∙ e ∙ append_assoc (to_be_bytes w32 b.meter) (state_number b.state ∷ []) t in
    let parts = four_unique a.meter b.meter (state_number a.state ∷ s) (state_number b.state ∷ t) ha hb e' in
    let heads : state_number a.state ≡ state_number b.state = cc in
    let tails : s ≡ t = cc in
    let states : a.state ≡ b.state = sym (state_back a.state) ∙ ap state_at heads ∙ state_back b.state in
    let at_meter : ℕ → Row = λ n. record { meter = n; state = a.state } in
    let at_state : RowState → Row = λ r. record { meter = b.meter; state = r } in
    (ap at_meter parts.0 ∙ ap at_state states, tails)

pub rows_unique : (xs ys : List Row) (s t : List ℕ) → length xs ≡ length ys → MetersFit xs → MetersFit ys → rows_bytes xs ++ s ≡ rows_bytes ys ++ t → (xs ≡ ys) × (s ≡ t)
rows_unique [] [] s t n ha hb e = (refl, e)
rows_unique [] (b ∷ ys) s t n ha hb e = absurd (omega (arith, n))
rows_unique (a ∷ xs) [] s t n ha hb e = absurd (omega (arith, n))
rows_unique (a ∷ xs) (b ∷ ys) s t n ha hb e =
    let e' : row_bytes a ++ (rows_bytes xs ++ s) ≡ row_bytes b ++ (rows_bytes ys ++ t) =
    sym (append_assoc (row_bytes a) (rows_bytes xs) s) ∙ e ∙ append_assoc (row_bytes b) (rows_bytes ys) t in
    let first = row_unique a b (rows_bytes xs ++ s) (rows_bytes ys ++ t) ha.0 hb.0 e' in
    let rest = rows_unique xs ys s t (omega (arith, n)) ha.1 hb.1 first.1 in
    (ap (λ r. r ∷ xs) first.0 ∙ ap (λ rs. b ∷ rs) rest.0, rest.1)

-- if more rows stand than these, a row stands after these
pub rows_next : (rows target : List Row) (s t : List ℕ) → length rows < length target → MetersFit rows → MetersFit target → rows_bytes rows ++ s ≡ rows_bytes target ++ t → (row : Row) × (rest : List ℕ) × (row.meter < 2 ^ 32) × (s ≡ row_bytes row ++ rest)
rows_next rows [] s t n ha hb e = absurd (omega (arith, n))
rows_next [] (b ∷ ys) s t n ha hb e = (b, rows_bytes ys ++ t, hb.0, e ∙ append_assoc (row_bytes b) (rows_bytes ys) t)
rows_next (a ∷ xs) (b ∷ ys) s t n ha hb e =
    let e' : row_bytes a ++ (rows_bytes xs ++ s) ≡ row_bytes b ++ (rows_bytes ys ++ t) =
    sym (append_assoc (row_bytes a) (rows_bytes xs) s) ∙ e ∙ append_assoc (row_bytes b) (rows_bytes ys) t in
    rows_next xs ys s t (omega (arith, n)) ha.1 hb.1 (row_unique a b (rows_bytes xs ++ s) (rows_bytes ys ++ t) ha.0 hb.0 e').1

pub image_unique : (a b s t : List ℕ) → length a < 2 ^ 32 → length b < 2 ^ 32 → image_bytes a ++ s ≡ image_bytes b ++ t → (a ≡ b) × (s ≡ t)
image_unique a b s t ha hb e =
    let e' : to_be_bytes w32 (length a) ++ (a ++ s) ≡ to_be_bytes w32 (length b) ++ (b ++ t) =
    sym (append_assoc (to_be_bytes w32 (length a)) a s) ∙ e ∙ append_assoc (to_be_bytes w32 (length b)) b t in
    let parts = four_unique (length a) (length b) (a ++ s) (b ++ t) ha hb e' in
    split_unique (length b) a b s t parts.0 refl parts.1

pub counted_unique : (xs ys : List Row) (s t : List ℕ) → length xs < 2 ^ 16 → length ys < 2 ^ 16 → MetersFit xs → MetersFit ys → counted_bytes xs ++ s ≡ counted_bytes ys ++ t → (xs ≡ ys) × (s ≡ t)
counted_unique xs ys s t na nb ha hb e =
    let e' : to_be_bytes w16 (length xs) ++ (rows_bytes xs ++ s) ≡ to_be_bytes w16 (length ys) ++ (rows_bytes ys ++ t) =
    sym (append_assoc (to_be_bytes w16 (length xs)) (rows_bytes xs) s) ∙ e ∙ append_assoc (to_be_bytes w16 (length ys)) (rows_bytes ys) t in
    let parts = two_unique (length xs) (length ys) (rows_bytes xs ++ s) (rows_bytes ys ++ t) na nb e' in
    rows_unique xs ys s t parts.0 ha hb parts.1

pub numbers_unique : (v : Version) (a b p q : ℕ) (s t : List ℕ) → AreNumbers v a p → AreNumbers v b q → numbers_bytes v a p ++ s ≡ numbers_bytes v b q ++ t → (a ≡ b) × (p ≡ q) × (s ≡ t)
numbers_unique First a b p q s t ha hb e =
    let serials = four_unique a b s t ha.serial_fits hb.serial_fits e in
    (serials.0, ha.tells ∙ sym hb.tells, serials.1)
numbers_unique Second a b p q s t ha hb e =
    let e' : to_be_bytes w32 a ++ (to_be_bytes w32 p ++ s) ≡ to_be_bytes w32 b ++ (to_be_bytes w32 q ++ t) =
    sym (append_assoc (to_be_bytes w32 a) (to_be_bytes w32 p) s) ∙ e ∙ append_assoc (to_be_bytes w32 b) (to_be_bytes w32 q) t in
    let serials = four_unique a b (to_be_bytes w32 p ++ s) (to_be_bytes w32 q ++ t) ha.serial_fits hb.serial_fits e' in
    let releases = four_unique p q s t ha.release_fits hb.release_fits serials.1 in
    (serials.0, releases.0, releases.1)

pub numbers_some : (v : Version) (serial release : ℕ) → 4 ≤ length (numbers_bytes v serial release)
numbers_some First serial release =
    let n : length (to_be_bytes w32 serial) ≡ 4 = refl in
    omega (arith, n)
numbers_some Second serial release =
    let n : length (to_be_bytes w32 serial) ≡ 4 = refl in
    omega (arith, n, length-append (to_be_bytes w32 serial) (to_be_bytes w32 release))

pub numbers_of : (v : Version) (entry : ℕ × Offered) → IsEntryIn v entry → AreNumbers v entry.0 entry.1.release
numbers_of v entry is = record { serial_fits = is.is_entry.serial_fits; release_fits = is.is_entry.release_fits; tells = is.tells }

-- the parts of a campaign's bytes, one after the other
pub entry_parts : (v : Version) (entry : ℕ × Offered) (s : List ℕ) → entry_bytes v entry ++ s ≡ numbers_bytes v entry.0 entry.1.release ++ (image_bytes entry.1.image ++ (counted_bytes entry.1.rows ++ s))
entry_parts v entry s =
    append_assoc (numbers_bytes v entry.0 entry.1.release) (image_bytes entry.1.image ++ counted_bytes entry.1.rows) s
    ∙ ap (λ (l : List ℕ). numbers_bytes v entry.0 entry.1.release ++ l) (append_assoc (image_bytes entry.1.image) (counted_bytes entry.1.rows) s)

pub entry_unique : (v : Version) (a b : ℕ × Offered) (s t : List ℕ) → IsEntryIn v a → IsEntryIn v b → entry_bytes v a ++ s ≡ entry_bytes v b ++ t → (a ≡ b) × (s ≡ t)
entry_unique v a b s t ia ib e =
    let ha : IsEntry a = ia.is_entry in
    let hb : IsEntry b = ib.is_entry in
    let e' = sym (entry_parts v a s) ∙ e ∙ entry_parts v b t in
    let numbers = numbers_unique v a.0 b.0 a.1.release b.1.release (image_bytes a.1.image ++ (counted_bytes a.1.rows ++ s)) (image_bytes b.1.image ++ (counted_bytes b.1.rows ++ t)) (numbers_of v a ia) (numbers_of v b ib) e' in
    let images = image_unique a.1.image b.1.image (counted_bytes a.1.rows ++ s) (counted_bytes b.1.rows ++ t) (omega (arith, ha.image_ends)) (omega (arith, hb.image_ends)) numbers.2 in
    let rows = counted_unique a.1.rows b.1.rows s t (omega (arith, ha.meters_end)) (omega (arith, hb.meters_end)) ha.meters_fit hb.meters_fit images.1 in
    let at_serial : ℕ → ℕ × Offered = λ n. (n, a.1) in
    let at_release : ℕ → ℕ × Offered = λ n. (b.0, record { release = n; image = a.1.image; rows = a.1.rows }) in
    let at_image : List ℕ → ℕ × Offered = λ i. (b.0, record { release = b.1.release; image = i; rows = a.1.rows }) in
    let at_rows : List Row → ℕ × Offered = λ r. (b.0, record { release = b.1.release; image = b.1.image; rows = r }) in
    (ap at_serial numbers.0 ∙ ap at_release numbers.1 ∙ ap at_image images.0 ∙ ap at_rows rows.0, rows.1)

pub entry_some : (v : Version) (entry : ℕ × Offered) (s : List ℕ) → entry_bytes v entry ++ s ≡ [] → ⊥
entry_some v entry s e =
    let n = numbers_some v entry.0 entry.1.release in
    absurd (omega (arith, ap length (sym (entry_parts v entry s) ∙ e), length-append (numbers_bytes v entry.0 entry.1.release) (image_bytes entry.1.image ++ (counted_bytes entry.1.rows ++ s)), n))

-- a book's campaigns begin with those that were read, and the rest spells the others
pub entries_next : (v : Version) (entries target : List (ℕ × Offered)) (s : List ℕ) → AllByRecursion (λ (entry : ℕ × Offered). IsEntryIn v entry) entries → AllByRecursion (λ (entry : ℕ × Offered). IsEntryIn v entry) target → entries_bytes v entries ++ s ≡ entries_bytes v target → (rest : List (ℕ × Offered)) × (target ≡ entries ++ rest) × (s ≡ entries_bytes v rest)
entries_next v [] target s ha hb e = (target, refl, e)
entries_next v (a ∷ xs) [] s ha hb e = absurd (entry_some v a (entries_bytes v xs ++ s) (sym (append_assoc (entry_bytes v a) (entries_bytes v xs) s) ∙ e))
entries_next v (a ∷ xs) (b ∷ ys) s ha hb e =
    let e' : entry_bytes v a ++ (entries_bytes v xs ++ s) ≡ entry_bytes v b ++ entries_bytes v ys =
    sym (append_assoc (entry_bytes v a) (entries_bytes v xs) s) ∙ e in
    let first = entry_unique v a b (entries_bytes v xs ++ s) (entries_bytes v ys) ha.0 hb.0 e' in
    let rest = entries_next v xs ys s ha.1 hb.1 first.1 in
    (rest.0, ap (λ x. x ∷ ys) (sym first.0) ∙ ap (λ xs. a ∷ xs) rest.1, rest.2)

pub head_unique : (v : Version) (a b : ℕ) (s t : List ℕ) → a < 2 ^ 32 → b < 2 ^ 32 → head_bytes v a ++ s ≡ head_bytes v b ++ t → (a ≡ b) × (s ≡ t)
head_unique First a b s t ha hb e = four_unique a b s t ha hb (ap (λ (l : List ℕ). drop 4 l) e)
head_unique Second a b s t ha hb e = four_unique a b s t ha hb (ap (λ (l : List ℕ). drop 4 l) e)

-- the form says the version
pub same_version : (v w : Version) (a b : ℕ) (s t : List ℕ) → head_bytes v a ++ s ≡ head_bytes w b ++ t → v ≡ w
same_version First First a b s t e = refl
same_version First Second a b s t e = absurd (omega (arith, ap (λ (l : List ℕ). get_or l 3 0) e))
same_version Second First a b s t e = absurd (omega (arith, ap (λ (l : List ℕ). get_or l 3 0) e))
same_version Second Second a b s t e = refl

none_left : (v : Version) (entries : List (ℕ × Offered)) → [] ≡ entries_bytes v entries → entries ≡ []
none_left v [] e = refl
none_left v (entry ∷ entries) e = absurd (entry_some v entry (entries_bytes v entries) (sym e))

pub entries_told : (v : Version) (entries : List (ℕ × Offered)) → AllByRecursion (λ (entry : ℕ × Offered). IsEntry entry) entries → TellsAll v entries → AllByRecursion (λ (entry : ℕ × Offered). IsEntryIn v entry) entries
entries_told v [] is tells = tt
entries_told v (entry ∷ entries) is tells = (record { is_entry = is.0; tells = tells.0 }, entries_told v entries is.1 tells.1)

-- the bytes are the spelling of this book in a version
pub record SpellsIn (version : Version) (bytes : List ℕ) (book : Contents) : Type 0 where
  pub is_book : IsBook book
  pub tells : TellsAll version book.campaigns
  pub spelled : bytes ≡ book_bytes version book

-- in a version a byte string spells at most one book
same_in : (v : Version) (bytes : List ℕ) (a b : Contents) → SpellsIn v bytes a → SpellsIn v bytes b → a ≡ b
same_in v bytes a b sa sb =
    let e = sym sa.spelled ∙ sb.spelled in
    let head = head_unique v a.head b.head (entries_bytes v a.campaigns) (entries_bytes v b.campaigns) sa.is_book.head_fits sb.is_book.head_fits e in
    let rest = entries_next v a.campaigns b.campaigns [] (entries_told v a.campaigns sa.is_book.entries sa.tells) (entries_told v b.campaigns sb.is_book.entries sb.tells) (append-nil (entries_bytes v a.campaigns) ∙ head.1) in
    let none = none_left v rest.0 rest.2 in
    let same : a.campaigns ≡ b.campaigns = sym (rest.1 ∙ ap (λ es. a.campaigns ++ es) none ∙ append-nil a.campaigns) in
    let at_head : ℕ → Contents = λ n. record { head = n; campaigns = a.campaigns } in
    let at_entries : List (ℕ × Offered) → Contents = λ es. record { head = b.head; campaigns = es } in
    ap at_head head.0 ∙ ap at_entries same

-- and in both versions
same_spelled : (v w : Version) (bytes : List ℕ) (a b : Contents) → SpellsIn v bytes a → SpellsIn w bytes b → a ≡ b
same_spelled v w bytes a b sa sb =
    let version : v ≡ w = same_version v w a.head b.head (entries_bytes v a.campaigns) (entries_bytes w b.campaigns) (sym sa.spelled ∙ sb.spelled) in
    same_in v bytes a b sa (subst (λ (x : Version). SpellsIn x bytes b) (sym version) sb)

all_told : (entries : List (ℕ × Offered)) → TellsAll Second entries
all_told [] = tt
all_told (entry ∷ entries) = (tt, all_told entries)

-- what is read is spelled in a version
pub in_version : (bytes : List ℕ) (book : Contents) → IsReadAs bytes book → (v : Version) × SpellsIn v bytes book
in_version bytes book (inl spells) = (Second, record { is_book = spells.is_book; tells = all_told book.campaigns; spelled = spells.spelled })
in_version bytes book (inr spells) = (First, record { is_book = spells.is_book; tells = spells.unreleased; spelled = spells.spelled })

-- and what is spelled in a version is read
pub read_in : (v : Version) (bytes : List ℕ) (book : Contents) → SpellsIn v bytes book → IsReadAs bytes book
read_in First bytes book spells = inr (record { is_book = spells.is_book; unreleased = spells.tells; spelled = spells.spelled })
read_in Second bytes book spells = inl (record { is_book = spells.is_book; spelled = spells.spelled })

-- a byte string is read as at most one book
pub same_read : (bytes : List ℕ) (a b : Contents) → IsReadAs bytes a → IsReadAs bytes b → a ≡ b
same_read bytes a b ra rb =
    let sa = in_version bytes a ra in
    let sb = in_version bytes b rb in
    same_spelled sa.0 sb.0 bytes a b sa.1 sb.1

-- and spells at most one
pub same_book : (bytes : List ℕ) (a b : Contents) → SpellsBook bytes a → SpellsBook bytes b → a ≡ b
same_book bytes a b sa sb = same_read bytes a b (inl sa) (inl sb)
