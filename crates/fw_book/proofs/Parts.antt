-- What the parts of the reader say, put together.
use Rattle.std.proofs.Common.{◌≡◌, ℕ, ◌+◌, ◌<◌, ◌≤◌, ◌^◌, true, false, nat_eq, cond, ◌||◌, is_some, List, [], ◌∷◌, ◌++◌, take, get_or, length, Some, refl, sym, ap, subst, ◌∙◌, ⊎_elim, arith, append_assoc, length-append}
use Rattle.std.specs.Int.{w16, to_be_bytes}
use Rattle.std.specs.List.{AllByRecursion}
use Rattle.std.specs.Map.{lookup}
use Rattle.std.proofs.lemmas.List.{append-nil, take_more}
use Rattle.std.proofs.lemmas.List.Concat.{flat_map-append}
use Rattle.std.proofs.lemmas.Bool.{false≢true, cases_Bool, or_left, or_right, or_from, and_left, and_right, and_from, false_from_ne_true}
use Rattle.std.proofs.lemmas.Bool.Decides.{Decides-eqb}
use Rattle.fw_book.specs.declared.row.Row.{Row}
use Rattle.fw_book.specs.Rows.{is_live, is_live_in, meters_of, repeats}
use Rattle.fw_book.specs.declared.version.Version.{Version}
use Rattle.fw_book.specs.Contents.{Offered, Contents, has_serial, is_busy, IsEntry, Apart, AllApart, IsBook}
use Rattle.fw_book.specs.Private.{clashes, Admits, IsImage, IsRows, MetersFit, AreNumbers, IsEntryIn, TellsAll, NoNumbers, NoRows, NoCounted, NoEntry, Campaigns, NoCampaigns, Parts}
use Rattle.fw_book.specs.Format.{row_bytes, rows_bytes, counted_bytes, image_bytes, numbers_bytes, entry_bytes, entries_bytes, head_bytes, book_bytes, IsReadAs}
use Rattle.fw_book.proofs.Books.{same_contents}
use Rattle.fw_book.proofs.Spellings.{two_unique, rows_next, image_unique, counted_unique, numbers_unique, numbers_of, entry_parts, entry_unique, entries_next, entries_told, head_unique, same_version, SpellsIn, in_version, read_in}

-- one row more is read
pub rows_push : (bytes rest after : List ℕ) (rows : List Row) (row : Row) → bytes ≡ rows_bytes rows ++ rest → rest ≡ row_bytes row ++ after → bytes ≡ rows_bytes (rows ++ row ∷ []) ++ after
rows_push bytes rest after rows row e h =
    e ∙ ap (λ (l : List ℕ). rows_bytes rows ++ l) h ∙ sym (append_assoc (rows_bytes rows) (row_bytes row) after)
    ∙ ap (λ (l : List ℕ). l ++ after) (ap (λ (l : List ℕ). rows_bytes rows ++ l) (sym (append-nil (row_bytes row))) ∙ sym (flat_map-append (λ (r : Row). row_bytes r) rows (row ∷ [])))

pub meters_push : (rows : List Row) (row : Row) → MetersFit rows → row.meter < 2 ^ 32 → MetersFit (rows ++ row ∷ [])
meters_push [] row h fits = (fits, tt)
meters_push (r ∷ rows) row h fits = (h.0, meters_push rows row h.1 fits)

-- one row more is written
pub rows_written : (rows : List Row) (i : ℕ) (row : Row) (s : List ℕ) → i < length rows → row ≡ get_or rows i row → (s ++ rows_bytes (take i rows)) ++ row_bytes row ≡ s ++ rows_bytes (take (i + 1) rows)
rows_written rows i row s within is =
    append_assoc s (rows_bytes (take i rows)) (row_bytes row)
    ∙ ap (λ (l : List ℕ). s ++ l)
    (ap (λ (l : List ℕ). rows_bytes (take i rows) ++ l) (sym (append-nil (row_bytes row)))
    ∙ sym (flat_map-append (λ (r : Row). row_bytes r) (take i rows) (row ∷ []))
    ∙ ap (λ (rs : List Row). rows_bytes rs) (ap (λ (r : Row). take i rows ++ r ∷ []) is ∙ sym (take_more rows i row within)))

pub rows_refused : (count i : ℕ) (bytes s : List ℕ) (rows : List Row) → bytes ≡ rows_bytes rows ++ s → length rows ≡ i → i < count → MetersFit rows → ((row : Row) (rest : List ℕ) → row.meter < 2 ^ 32 → s ≡ row_bytes row ++ rest → ⊥) → NoRows count bytes
rows_refused count i bytes s rows e n more fit none = λ target rest many fits spelled.
    let next = rows_next rows target s rest (omega arith) fit fits (sym e ∙ spelled) in
    none next.0 next.1 next.2 next.3

pub counted_short : (bytes : List ℕ) → length bytes < 2 → NoCounted bytes
counted_short bytes short = λ rows rest is spelled.
    let n : length (to_be_bytes w16 (length rows)) ≡ 2 = refl in
    omega (arith, ap length spelled, length-append (counted_bytes rows) rest, length-append (to_be_bytes w16 (length rows)) (rows_bytes rows), n)

pub counted_bad : (bytes rest : List ℕ) (count : ℕ) → bytes ≡ to_be_bytes w16 count ++ rest → count < 2 ^ 16 → ((rows : List Row) → IsRows rows → length rows ≡ count → (more : List ℕ) → rest ≡ rows_bytes rows ++ more → ⊥) → NoCounted bytes
counted_bad bytes rest count e fits none = λ rows more is spelled.
    let parts = two_unique count (length rows) rest (rows_bytes rows ++ more) fits (omega (arith, is.ends))
    (sym e ∙ spelled ∙ append_assoc (to_be_bytes w16 (length rows)) (rows_bytes rows) more) in
    none rows is (sym parts.0) more parts.1

pub counted_twice : (bytes rest : List ℕ) (rows : List Row) → bytes ≡ counted_bytes rows ++ rest → length rows < 2 ^ 16 → MetersFit rows → repeats (meters_of rows) ≡ true → NoCounted bytes
counted_twice bytes rest rows e fits meters twice = λ target more is spelled.
    let same = (counted_unique rows target rest more fits (omega (arith, is.ends)) meters is.fit (sym e ∙ spelled)).0 in
    false≢true (sym is.once ∙ ap (λ (rs : List Row). repeats (meters_of rs)) (sym same) ∙ twice)

pub counted_found : (bytes mid rest : List ℕ) (count : ℕ) (rows : List Row) → bytes ≡ to_be_bytes w16 count ++ mid → mid ≡ rows_bytes rows ++ rest → length rows ≡ count → bytes ≡ counted_bytes rows ++ rest
counted_found bytes mid rest count rows e h n =
    e ∙ ap (λ (l : List ℕ). to_be_bytes w16 count ++ l) h ∙ ap (λ (k : ℕ). to_be_bytes w16 k ++ (rows_bytes rows ++ rest)) (sym n)
    ∙ sym (append_assoc (to_be_bytes w16 (length rows)) (rows_bytes rows) rest)

-- no numbers of a campaign stand there
pub entry_no_numbers : (v : Version) (bytes : List ℕ) → NoNumbers v bytes → NoEntry v bytes
entry_no_numbers v bytes none = λ entry rest is spelled.
    none entry.0 entry.1.release (image_bytes entry.1.image ++ (counted_bytes entry.1.rows ++ rest)) (spelled ∙ entry_parts v entry rest)

-- after the numbers nothing of a campaign stands
pub entry_bad : (v : Version) (bytes rest : List ℕ) (serial release : ℕ) → bytes ≡ numbers_bytes v serial release ++ rest → AreNumbers v serial release → ((entry : ℕ × Offered) (more : List ℕ) → IsEntry entry → serial ≡ entry.0 → rest ≡ image_bytes entry.1.image ++ (counted_bytes entry.1.rows ++ more) → ⊥) → NoEntry v bytes
entry_bad v bytes rest serial release e are none = λ entry more is spelled.
    let parts = numbers_unique v serial entry.0 release entry.1.release rest (image_bytes entry.1.image ++ (counted_bytes entry.1.rows ++ more)) are (numbers_of v entry is) (sym e ∙ spelled ∙ entry_parts v entry more) in
    none entry more is.is_entry parts.0 parts.2

pub image_is : (entry : ℕ × Offered) → IsEntry entry → IsImage entry.1.image
image_is entry is = record { begins = is.image_begins; ends = is.image_ends }

pub rows_are : (entry : ℕ × Offered) → IsEntry entry → IsRows entry.1.rows
rows_are entry is = record { begins = is.meters_begin; ends = is.meters_end; fit = is.meters_fit; once = is.meters_once }

-- after the image no rows stand
pub entry_no_rows : (v : Version) (bytes mid rest image : List ℕ) (serial release : ℕ) → bytes ≡ numbers_bytes v serial release ++ mid → AreNumbers v serial release → mid ≡ image_bytes image ++ rest → IsImage image → NoCounted rest → NoEntry v bytes
entry_no_rows v bytes mid rest image serial release e are h is none =
    entry_bad v bytes mid serial release e are (λ entry more entry_is same spelled.
    none entry.1.rows more (rows_are entry entry_is)
    (image_unique image entry.1.image rest (counted_bytes entry.1.rows ++ more) (omega (arith, is.ends)) (omega (arith, entry_is.image_ends)) (sym h ∙ spelled)).1)

pub entry_no_image : (v : Version) (bytes rest : List ℕ) (serial release : ℕ) → bytes ≡ numbers_bytes v serial release ++ rest → AreNumbers v serial release → ((image more : List ℕ) → IsImage image → rest ≡ image_bytes image ++ more → ⊥) → NoEntry v bytes
entry_no_image v bytes rest serial release e are none =
    entry_bad v bytes rest serial release e are (λ entry more is same spelled. none entry.1.image (counted_bytes entry.1.rows ++ more) (image_is entry is) spelled)

pub entry_no_serial : (v : Version) (bytes rest : List ℕ) (serial release : ℕ) → bytes ≡ numbers_bytes v serial release ++ rest → AreNumbers v serial release → (1 ≤ serial → ⊥) → NoEntry v bytes
entry_no_serial v bytes rest serial release e are none =
    entry_bad v bytes rest serial release e are (λ entry more is same spelled. none (omega (arith, is.serial_begins)))

pub entry_found : (v : Version) (bytes s t u : List ℕ) (serial : ℕ) (offer : Offered) → bytes ≡ numbers_bytes v serial offer.release ++ s → s ≡ image_bytes offer.image ++ t → t ≡ counted_bytes offer.rows ++ u → bytes ≡ entry_bytes v (serial, offer) ++ u
entry_found v bytes s t u serial offer a b c =
    a ∙ ap (λ (l : List ℕ). numbers_bytes v serial offer.release ++ l) (b ∙ ap (λ (l : List ℕ). image_bytes offer.image ++ l) c) ∙ sym (entry_parts v (serial, offer) u)

pub entry_written : (v : Version) (a b c d : List ℕ) (serial : ℕ) (offer : Offered) → b ≡ a ++ numbers_bytes v serial offer.release → c ≡ b ++ image_bytes offer.image → d ≡ c ++ counted_bytes offer.rows → d ≡ a ++ entry_bytes v (serial, offer)
entry_written v a b c d serial offer numbers image rows =
    let behind : List ℕ = image_bytes offer.image ++ counted_bytes offer.rows in
    rows ∙ ap (λ (l : List ℕ). l ++ counted_bytes offer.rows) image ∙ append_assoc b (image_bytes offer.image) (counted_bytes offer.rows)
    ∙ ap (λ (l : List ℕ). l ++ behind) numbers ∙ append_assoc a (numbers_bytes v serial offer.release) behind

-- what holds of each element holds of one in the middle
all_at : {X : Type 0} (P : X → Type 0) (before : List X) (x : X) (after : List X) → AllByRecursion P (before ++ x ∷ after) → P x
all_at P [] x after h = h.0
all_at P (b ∷ before) x after h = all_at P before x after h.1

entry_of : (before : List (ℕ × Offered)) (entry : ℕ × Offered) (after : List (ℕ × Offered)) → AllByRecursion (λ (e : ℕ × Offered). IsEntry e) (before ++ entry ∷ after) → IsEntry entry
entry_of before entry after h = all_at (λ (e : ℕ × Offered). IsEntry e) before entry after h

apart_at : (before : List (ℕ × Offered)) (entry : ℕ × Offered) (after : List (ℕ × Offered)) (b : ℕ × Offered) → AllByRecursion (λ (other : ℕ × Offered). Apart b other) (before ++ entry ∷ after) → Apart b entry
apart_at before entry after b h = all_at (λ (other : ℕ × Offered). Apart b other) before entry after h

-- campaigns that stand before another in a book have another serial number
serial_apart : (before : List (ℕ × Offered)) (entry : ℕ × Offered) (after : List (ℕ × Offered)) → AllApart (before ++ entry ∷ after) → is_some (lookup (nat_eq entry.0) before) ≡ false
serial_apart [] entry after h = refl
serial_apart (b ∷ before) entry after h =
    let first = apart_at before entry after b h.0 in
    let other : nat_eq entry.0 b.0 ≡ false = false_from_ne_true _ (λ same. first.serials (sym ((Decides-eqb entry.0 b.0).0 same))) in
    ap (λ c. is_some (cond c (Some b.1) (lookup (nat_eq entry.0) before))) other ∙ serial_apart before entry after h.1

-- a meter that is live in it is live in none before it
busy_apart : (before : List (ℕ × Offered)) (entry : ℕ × Offered) (after : List (ℕ × Offered)) (meter : ℕ) → AllApart (before ++ entry ∷ after) → is_live_in entry.1.rows meter ≡ true → is_busy before meter ≡ false
busy_apart [] entry after meter h live = refl
busy_apart (b ∷ before) entry after meter h live =
    let first = apart_at before entry after b h.0 in
    or_from _ _ (false_from_ne_true _ (λ there. false≢true (sym (first.live meter there) ∙ live))) (busy_apart before entry after meter h.1 live)

clashes_apart : (campaigns : List (ℕ × Offered)) (rows : List Row) → ((meter : ℕ) → is_live_in rows meter ≡ true → is_busy campaigns meter ≡ false) → clashes campaigns rows ≡ false
clashes_apart campaigns [] free = refl
clashes_apart campaigns (row ∷ rows) free =
    or_from _ _
    (⊎_elim
    (λ live. and_right _ _ (free row.meter (or_left _ _ (and_from _ _ ((Decides-eqb row.meter row.meter).1 refl) live))))
    (λ ended. and_left _ _ ended)
    (cases_Bool (is_live row.state)))
    (clashes_apart campaigns rows (λ meter live. free meter (or_right _ _ live)))

-- what a book's next campaign needs of those before it
pub next_admitted : (book : Contents) (serial : ℕ) (offer : Offered) (after : List (ℕ × Offered)) → IsBook (record { head = book.head; campaigns = book.campaigns ++ (serial, offer) ∷ after }) → Admits book serial offer
next_admitted book serial offer after whole = record {
  is_entry = entry_of book.campaigns (serial, offer) after whole.entries;
  serial_new = serial_apart book.campaigns (serial, offer) after whole.apart;
  meters_free = clashes_apart book.campaigns offer.rows (λ meter. busy_apart book.campaigns (serial, offer) after meter whole.apart);
}

-- no book goes on so after the campaigns of this one
abbrev pub NoMore : Version → Contents → List ℕ → Type 0
NoMore v book bytes = (entry : ℕ × Offered) (after : List (ℕ × Offered)) → IsBook (record { head = book.head; campaigns = book.campaigns ++ entry ∷ after }) → IsEntryIn v entry → bytes ≡ entry_bytes v entry ++ entries_bytes v after → ⊥

pub no_entry : (v : Version) (book : Contents) (bytes : List ℕ) → NoEntry v bytes → NoMore v book bytes
no_entry v book bytes none = λ entry after is entry_is spelled. none entry (entries_bytes v after) entry_is spelled

-- a campaign that clashes with those before it is none of a book's
pub no_room : (v : Version) (book : Contents) (bytes rest : List ℕ) (serial : ℕ) (offer : Offered) → bytes ≡ entry_bytes v (serial, offer) ++ rest → IsEntryIn v (serial, offer) → (has_serial book serial || clashes book.campaigns offer.rows) ≡ true → NoMore v book bytes
no_room v book bytes rest serial offer e is taken = λ entry after whole entry_is spelled.
    let same = (entry_unique v (serial, offer) entry rest (entries_bytes v after) is entry_is (sym e ∙ spelled)).0 in
    let admits = next_admitted book serial offer after (subst (λ (x : ℕ × Offered). IsBook (record { head = book.head; campaigns = book.campaigns ++ x ∷ after })) (sym same) whole) in
    false≢true (sym (or_from _ _ admits.serial_new admits.meters_free) ∙ taken)

-- one campaign more stands before the rest
pub entries_push : (v : Version) (entries rest after : List ℕ) (before : List (ℕ × Offered)) (entry : ℕ × Offered) → entries ≡ entries_bytes v before ++ rest → rest ≡ entry_bytes v entry ++ after → entries ≡ entries_bytes v (before ++ entry ∷ []) ++ after
entries_push v entries rest after before entry e h =
    let one : entries_bytes v (before ++ entry ∷ []) ≡ entries_bytes v before ++ entry_bytes v entry =
    flat_map-append (λ (x : ℕ × Offered). entry_bytes v x) before (entry ∷ [])
    ∙ ap (λ (l : List ℕ). entries_bytes v before ++ l) (append-nil (entry_bytes v entry)) in
    e ∙ ap (λ (l : List ℕ). entries_bytes v before ++ l) h ∙ sym (append_assoc (entries_bytes v before) (entry_bytes v entry) after)
    ∙ ap (λ (l : List ℕ). l ++ after) (sym one)

pub tells_push : (v : Version) (before : List (ℕ × Offered)) (entry : ℕ × Offered) → TellsAll v before → IsEntryIn v entry → TellsAll v (before ++ entry ∷ [])
tells_push v [] entry tells is = (is.tells, tt)
tells_push v (b ∷ before) entry tells is = (tells.0, tells_push v before entry tells.1 is)

-- the bytes of a book's head end and campaigns, and what follows
pub book_found : (v : Version) (bytes entries rest : List ℕ) (head : ℕ) (book : Contents) → bytes ≡ head_bytes v head ++ entries → book.head ≡ head → entries ≡ entries_bytes v book.campaigns ++ rest → bytes ≡ book_bytes v book ++ rest
book_found v bytes entries rest head book e of_head before =
    e ∙ ap (λ (l : List ℕ). head_bytes v head ++ l) before ∙ sym (append_assoc (head_bytes v head) (entries_bytes v book.campaigns) rest)
    ∙ ap (λ (n : ℕ). (head_bytes v n ++ entries_bytes v book.campaigns) ++ rest) (sym of_head)

-- if no book goes on so, no book is spelled
pub book_refused : (v : Version) (bytes rest : List ℕ) (book : Contents) → bytes ≡ book_bytes v book ++ rest → IsBook book → TellsAll v book.campaigns → (rest ≡ [] → ⊥) → NoMore v book rest → (target : Contents) → SpellsIn v bytes target → ⊥
book_refused v bytes rest book e is tells some none target spells =
    let e' : head_bytes v book.head ++ (entries_bytes v book.campaigns ++ rest) ≡ head_bytes v target.head ++ entries_bytes v target.campaigns =
    sym (append_assoc (head_bytes v book.head) (entries_bytes v book.campaigns) rest) ∙ sym e ∙ spells.spelled in
    let head = head_unique v book.head target.head (entries_bytes v book.campaigns ++ rest) (entries_bytes v target.campaigns) is.head_fits spells.is_book.head_fits e' in
    let told = entries_told v target.campaigns spells.is_book.entries spells.tells in
    let next = entries_next v book.campaigns target.campaigns rest (entries_told v book.campaigns is.entries tells) told head.1 in
    go next.0 next.1 next.2 head.0 told where
      go : (others : List (ℕ × Offered)) → target.campaigns ≡ book.campaigns ++ others → rest ≡ entries_bytes v others → book.head ≡ target.head → AllByRecursion (λ (x : ℕ × Offered). IsEntryIn v x) target.campaigns → ⊥
      go [] t r h told = some r
      go (entry ∷ entries) t r h told =
          let whole : target ≡ record { head = book.head; campaigns = book.campaigns ++ entry ∷ entries } =
          same_contents target.head book.head target.campaigns (book.campaigns ++ entry ∷ entries) (sym h) t in
          let entry_is = all_at (λ (x : ℕ × Offered). IsEntryIn v x) book.campaigns entry entries (subst (λ (xs : List (ℕ × Offered)). AllByRecursion (λ (x : ℕ × Offered). IsEntryIn v x) xs) t told) in
          none entry entries (subst (λ (b : Contents). IsBook b) whole spells.is_book) entry_is r

-- if no book goes on so, its campaigns are none of a book's
pub campaigns_refused : (v : Version) (entries rest : List ℕ) (book : Contents) → IsBook book → TellsAll v book.campaigns → entries ≡ entries_bytes v book.campaigns ++ rest → (rest ≡ [] → ⊥) → NoMore v book rest → (campaigns : List (ℕ × Offered)) → IsBook (record { head = book.head; campaigns = campaigns }) → TellsAll v campaigns → entries ≡ entries_bytes v campaigns → ⊥
campaigns_refused v entries rest book is tells before some none campaigns is' tells' e =
    let bytes : List ℕ = head_bytes v book.head ++ entries in
    let target : Contents = record { head = book.head; campaigns = campaigns } in
    book_refused v bytes rest book (book_found v bytes entries rest book.head book refl refl before) is tells some none target
    (record { is_book = is'; tells = tells'; spelled = ap (λ (l : List ℕ). head_bytes v book.head ++ l) e })

-- if no form and head end stand there, no book is read
pub headless : (bytes : List ℕ) → ((v : Version) (head : ℕ) (rest : List ℕ) → 1 ≤ head → head < 2 ^ 32 → bytes ≡ head_bytes v head ++ rest → ⊥) → (book : Contents) → IsReadAs bytes book → ⊥
headless bytes none book read =
    let spells = in_version bytes book read in
    none spells.0 book.head (entries_bytes spells.0 book.campaigns) spells.1.is_book.head_begins spells.1.is_book.head_fits spells.1.spelled

-- nor if no campaigns of the head end stand after them
pub other_campaigns : (v : Version) (bytes entries : List ℕ) (head : ℕ) → bytes ≡ head_bytes v head ++ entries → head < 2 ^ 32 → NoCampaigns v head entries → (book : Contents) → IsReadAs bytes book → ⊥
other_campaigns v bytes entries head e fits none book read =
    let spelled = in_version bytes book read in
    let version : v ≡ spelled.0 = same_version v spelled.0 head book.head entries (entries_bytes spelled.0 book.campaigns) (sym e ∙ spelled.1.spelled) in
    let spells = subst (λ (x : Version). SpellsIn x bytes book) (sym version) spelled.1 in
    let parts = head_unique v head book.head entries (entries_bytes v book.campaigns) fits spells.is_book.head_fits (sym e ∙ spells.spelled) in
    let same : book ≡ record { head = head; campaigns = book.campaigns } = same_contents book.head head book.campaigns book.campaigns (sym parts.0) refl in
    none book.campaigns (subst (λ (b : Contents). IsBook b) same spells.is_book) spells.tells parts.1

-- and the book whose campaigns stand there is read
pub parts_found : (v : Version) (bytes entries : List ℕ) (head : ℕ) → bytes ≡ head_bytes v head ++ entries → Campaigns v head entries → Parts v bytes head entries
parts_found v bytes entries head e found =
    let book : Contents = record { head = head; campaigns = found.campaigns } in
    let spells : SpellsIn v bytes book = record { is_book = found.is_book; tells = found.tells; spelled = e ∙ ap (λ (l : List ℕ). head_bytes v head ++ l) found.spelled } in
    record {
      book = book;
      is_book = found.is_book;
      is_read = read_in v bytes book spells;
      of_head = refl;
      of_entries = record { spelled = found.spelled; fit = entries_told v found.campaigns found.is_book.entries found.tells };
    }
