-- That the records of its campaigns make a book again, where some records made it.
use Rattle.std.proofs.Common.{◌≡◌, ◌⊎◌, ⊎_elim, ℕ, ◌<◌, ◌≤◌, ◌^◌, Bool, true, false, cond, eqb, nat_eq, nat_lt, ◌==◌, ◌&&◌, ◌||◌, not, is_none, is_some, List, [], ◌∷◌, ◌++◌, map, find, length, Option, Some, None, option_map, arith, refl, sym, ap, subst, ◌∙◌, ◌*◌, ◌+◌, Vec, inl, inr, append_assoc, length-append}
use Rattle.std.specs.List.{list_any, list_all, AllByRecursion}
use Rattle.std.specs.Map.{lookup}
use Rattle.std.specs.Option.{option_map_or, option_and_then}
use Rattle.std.proofs.lemmas.Bool.{false≢true, or_parts, or_from, false_from_ne_true, cases_Bool, cond_both, cond-true, cond-false}
use Rattle.std.proofs.lemmas.Bool.Decides.{Decides-eqb}
use Rattle.std.proofs.lemmas.List.{length-map, append-nil}
use Rattle.std.specs.Int.{w32, to_be_bytes}
use Rattle.std.specs.declared.alloc.Global.{Global}
use Rattle.fw_blocks.specs.Cuts.{max_image}
use Rattle.fw_names.specs.Name.{Campaign, campaign_bytes}
use Rattle.fw_wrapper.specs.Refusals.{first_applying}
use Rattle.fw_book.specs.declared.row.Row.{Row}
use Rattle.fw_book.specs.declared.row.RowState.{RowState}
use Rattle.fw_book.specs.declared.row.RowState.TheVariants.{Live, Done, Failed, Cancelled}
use Rattle.fw_book.specs.declared.error.BookError.TheVariants.{NoSuchCampaign, NotLive}
use Rattle.fw_book.specs.Rows.{is_live, live_row, meters_of, repeats, state_of, is_live_in, has_live, marked_row, with_state, cancelled_row, cancelled_rows}
use Rattle.fw_book.specs.Contents.{Offered, Contents, max_meters, offered_in, state_in, is_busy, IsBook}
use Rattle.fw_book.specs.Changes.{empty_book, at_serial, opened, cancelled, mark_refusal, Opens}
use Rattle.fw_book.specs.Private.{Admits}
use Rattle.fw_book.specs.Laws.{AdmittedOpens}
use Rattle.fw_book.proofs.Books.{Keeps, Keeps-with_state, Keeps-cancelled, all_push}
use Rattle.fw_book.proofs.Images.{found_last}
use Rattle.fw_book.proofs.Parts.{next_admitted}
use Rattle.fw_ledger.specs.declared.record.Ending.{Ending}
use Rattle.fw_ledger.specs.declared.record.Ending.TheVariants as ending
use Rattle.fw_ledger.specs.Entry.{Source, whole, earlier, Entry, opening, mark, cancelling, endings, note, AreEndings, Spells, SpellAll, entry_bytes, source_bytes, meters_bytes, opening_front}
use Rattle.fw_ledger.specs.Note.{note_bytes}
use Rattle.fw_ledger.proofs.NoteSpellings.{note_short}
use Rattle.fw_ledger.specs.Replay as replay
use Rattle.fw_ledger.specs.Replay.{IsImage, MakesMarked, MakesNumbered, MakesEach, Makes, AddsAll, IsBookOf, records_of}
use Rattle.fw_ledger.specs.Remade.{is_cancelled, state_number, numbers_of, rows_entries, has_cancelled, ending_entries, campaign_entries, Puts, HaveSerials}

-- ---- what holds of each

pub all_map : {X : Type 0} (P Q : X → Type 0) → ((x : X) → P x → Q x) → (xs : List X) → AllByRecursion P xs → AllByRecursion Q xs
all_map P Q step [] h = tt
all_map P Q step (x ∷ xs) h = (step x h.0, all_map P Q step xs h.1)

pub all_both : {X : Type 0} (P Q R : X → Type 0) → ((x : X) → P x → Q x → R x) → (xs : List X) → AllByRecursion P xs → AllByRecursion Q xs → AllByRecursion R xs
all_both P Q R step [] p q = tt
all_both P Q R step (x ∷ xs) p q = (step x p.0 q.0, all_both P Q R step xs p.1 q.1)

all_of : {X : Type 0} (P : X → Type 0) → ((x : X) → P x) → (xs : List X) → AllByRecursion P xs
all_of P is [] = tt
all_of P is (x ∷ xs) = (is x, all_of P is xs)

none_any : {X : Type 0} (test : X → Bool) (xs : List X) → AllByRecursion (λ (x : X). test x ≡ false) xs → list_any test xs ≡ false
none_any test [] h = refl
none_any test (x ∷ xs) h = or_from (test x) (list_any test xs) h.0 (none_any test xs h.1)

any_none : {X : Type 0} (test : X → Bool) (xs : List X) → list_any test xs ≡ false → AllByRecursion (λ (x : X). test x ≡ false) xs
any_none test [] h = tt
any_none test (x ∷ xs) h = let parts = or_parts (test x) (list_any test xs) h in (parts.0, any_none test xs parts.1)

-- a test that no changed row passes where the row didn't
any_changed : (test : Row → Bool) (change : Row → Row) → ((row : Row) → test row ≡ false → test (change row) ≡ false) → (rows : List Row) → list_any test rows ≡ false → list_any test (map change rows) ≡ false
any_changed test change step [] h = refl
any_changed test change step (row ∷ rows) h =
    let parts = or_parts (test row) (list_any test rows) h in
    or_from (test (change row)) (list_any test (map change rows)) (step row parts.0) (any_changed test change step rows parts.1)

-- ---- campaigns in the order in which they were opened

-- if a row was cancelled, none is live
abbrev pub EndsWhole : List Row → Type 0
EndsWhole rows = (has_cancelled rows ≡ false) ⊎ (has_live rows ≡ false)

-- no meter of the second campaign is live in the first
abbrev pub IsFree : ℕ × Offered → ℕ × Offered → Type 0
IsFree a b = AllByRecursion (λ meter. is_live_in a.1.rows meter ≡ false) (meters_of b.1.rows)

-- nor in any that was opened before it
abbrev pub InOrder : List (ℕ × Offered) → Type 0
InOrder [] = Unit {0}
InOrder (entry ∷ entries) = EndsWhole entry.1.rows × AllByRecursion (λ (later : ℕ × Offered). IsFree entry later) entries × InOrder entries

order_push : (entries : List (ℕ × Offered)) (entry : ℕ × Offered) → InOrder entries → EndsWhole entry.1.rows → AllByRecursion (λ (a : ℕ × Offered). IsFree a entry) entries → InOrder (entries ++ entry ∷ [])
order_push [] entry order ends free = (ends, tt, tt)
order_push (a ∷ entries) entry order ends free =
    (order.0, all_push (λ (later : ℕ × Offered). IsFree a later) entries entry order.1 free.0, order_push entries entry order.2 ends free.1)

abbrev changed : (List Row → List Row) → ℕ × Offered → ℕ × Offered
changed change entry = (entry.0, record { release = entry.1.release; image = entry.1.image; rows = change entry.1.rows })

-- a change of rows that ends some of them, or all
module _ (change : List Row → List Row) (keeps : Keeps change) (ends : (rows : List Row) → EndsWhole rows → EndsWhole (change rows)) where
  free_before : (a b : ℕ × Offered) → IsFree a b → IsFree (changed change a) b
  free_before a b free =
      all_map (λ meter. is_live_in a.1.rows meter ≡ false) (λ meter. is_live_in (change a.1.rows) meter ≡ false)
      (λ meter was. false_from_ne_true _ (λ live. false≢true (sym was ∙ keeps.ends a.1.rows meter live))) (meters_of b.1.rows) free

  free_after : (a b : ℕ × Offered) → IsFree a b → IsFree a (changed change b)
  free_after a b free = subst (λ (ms : List ℕ). AllByRecursion (λ meter. is_live_in a.1.rows meter ≡ false) ms) (sym (keeps.meters b.1.rows)) free

  all_after : (serial : ℕ) (a : ℕ × Offered) (entries : List (ℕ × Offered)) → AllByRecursion (λ (later : ℕ × Offered). IsFree a later) entries → AllByRecursion (λ (later : ℕ × Offered). IsFree a later) (at_serial serial change entries)
  all_after serial a [] free = tt
  all_after serial a (entry ∷ entries) free =
      cond_both (eqb serial entry.0) (changed change entry ∷ entries) (entry ∷ at_serial serial change entries) (AllByRecursion (λ (later : ℕ × Offered). IsFree a later))
      (λ _. (free_after a entry free.0, free.1))
      (λ _. (free.0, all_after serial a entries free.1))

  pub order_changed : (serial : ℕ) (entries : List (ℕ × Offered)) → InOrder entries → InOrder (at_serial serial change entries)
  order_changed serial [] order = tt
  order_changed serial (entry ∷ entries) order =
      cond_both (eqb serial entry.0) (changed change entry ∷ entries) (entry ∷ at_serial serial change entries) InOrder
      (λ _. (
        ends entry.1.rows order.0,
        all_map (λ (later : ℕ × Offered). IsFree entry later) (λ (later : ℕ × Offered). IsFree (changed change entry) later) (λ later free. free_before entry later free) entries order.1,
        order.2,
      ))
      (λ _. (order.0, all_after serial entry entries order.1, order_changed serial entries order.2))

-- ---- what each record keeps of that

mark_ends : (meter : ℕ) (state : RowState) → is_live state ≡ false → is_cancelled state ≡ false → (rows : List Row) → EndsWhole rows → EndsWhole (with_state meter state rows)
mark_ends meter state ended other rows entire =
    let new : Row → Row = λ row. record { meter = row.meter; state = state } in
    ⊎_elim
    (λ none. inl (any_changed (λ (row : Row). is_cancelled row.state) (λ (row : Row). marked_row meter state row)
    (λ row was. cond_both (eqb row.meter meter) (new row) row (λ (r : Row). is_cancelled r.state ≡ false) (λ _. other) (λ _. was)) rows none))
    (λ none. inr (any_changed (λ (row : Row). is_live row.state) (λ (row : Row). marked_row meter state row)
    (λ row was. cond_both (eqb row.meter meter) (new row) row (λ (r : Row). is_live r.state ≡ false) (λ _. ended) (λ _. was)) rows none)) entire

no_live : (rows : List Row) → has_live (cancelled_rows rows) ≡ false
no_live [] = refl
no_live (row ∷ rows) =
    or_from (is_live (cancelled_row row).state) (has_live (cancelled_rows rows))
    (cond_both (is_live row.state) (record { meter = row.meter; state = Cancelled }) row (λ (r : Row). is_live r.state ≡ false) (λ _. refl) (λ ended. ended)) (no_live rows)

fresh_rows : (meters : List ℕ) → has_cancelled (map live_row meters) ≡ false
fresh_rows [] = refl
fresh_rows (meter ∷ meters) = fresh_rows meters

fresh_meters : (meters : List ℕ) → meters_of (map live_row meters) ≡ meters
fresh_meters [] = refl
fresh_meters (meter ∷ meters) = ap (λ (ms : List ℕ). meter ∷ ms) (fresh_meters meters)

-- meters that are busy in no campaign are free in each
each_free : (entries : List (ℕ × Offered)) (entry : ℕ × Offered) → AllByRecursion (λ meter. is_busy entries meter ≡ false) (meters_of entry.1.rows) → AllByRecursion (λ (a : ℕ × Offered). IsFree a entry) entries
each_free [] entry free = tt
each_free (a ∷ entries) entry free = (
  all_map (λ meter. is_busy (a ∷ entries) meter ≡ false) (λ meter. is_live_in a.1.rows meter ≡ false) (λ meter none. (or_parts (is_live_in a.1.rows meter) (is_busy entries meter) none).0) (meters_of entry.1.rows) free,
  each_free entries entry (all_map (λ meter. is_busy (a ∷ entries) meter ≡ false) (λ meter. is_busy entries meter ≡ false) (λ meter none. (or_parts (is_live_in a.1.rows meter) (is_busy entries meter) none).1) (meters_of entry.1.rows) free),
)

-- and the other way round
none_busy : (entries : List (ℕ × Offered)) (entry : ℕ × Offered) → AllByRecursion (λ (a : ℕ × Offered). IsFree a entry) entries → AllByRecursion (λ meter. is_busy entries meter ≡ false) (meters_of entry.1.rows)
none_busy [] entry free = all_of (λ meter. is_busy [] meter ≡ false) (λ meter. refl) (meters_of entry.1.rows)
none_busy (a ∷ entries) entry free =
    all_both (λ meter. is_live_in a.1.rows meter ≡ false) (λ meter. is_busy entries meter ≡ false) (λ meter. is_busy (a ∷ entries) meter ≡ false)
    (λ meter here later. or_from (is_live_in a.1.rows meter) (is_busy entries meter) here later) (meters_of entry.1.rows) free.0 (none_busy entries entry free.1)

state_ends : (e : Ending) → (is_live (replay.state_of e) ≡ false) × (is_cancelled (replay.state_of e) ≡ false)
state_ends ending.Done = (refl, refl)
state_ends ending.Failed = (refl, refl)

marked_order : (book : Contents) (campaign : Campaign) (meter : ℕ) (e : Ending) (next : Contents) → MakesMarked book campaign meter e next → InOrder book.campaigns → InOrder next.campaigns
marked_order book campaign meter e next makes order =
    let state = replay.state_of e in
    let ended = state_ends e in
    subst (λ (c : Contents). InOrder c.campaigns) (sym makes.1)
    (order_changed (with_state meter state) (Keeps-with_state meter state ended.0) (mark_ends meter state ended.0 ended.1) campaign.serial book.campaigns order)

each_order : (meters numbers : List ℕ) (book : Contents) (campaign : Campaign) (next : Contents) → MakesEach book campaign meters numbers next → InOrder book.campaigns → InOrder next.campaigns
each_order [] [] book campaign next each order = subst (λ (c : Contents). InOrder c.campaigns) (sym each) order
each_order [] (number ∷ numbers) book campaign next each order = absurd each
each_order (meter ∷ meters) [] book campaign next each order = absurd each
each_order (meter ∷ meters) (number ∷ numbers) book campaign next each order =
    each_order meters numbers each.0 campaign next each.2
    (⊎_elim (λ none. subst (λ (c : Contents). InOrder c.campaigns) (sym none.1) order) (λ some. marked_order book campaign meter some.0 each.0 some.2 order) each.1)

makes_order : AdmittedOpens → (entry : Entry) (book next : Contents) → Makes entry book next → InOrder book.campaigns → InOrder next.campaigns
makes_order admitted (opening campaign release source meters) book next makes order =
    let opens = (admitted book campaign makes.image meters).0 makes.admitted in
    let added : ℕ × Offered = (campaign.serial, record { release = release; image = makes.image; rows = map live_row meters }) in
    let free : AllByRecursion (λ meter. is_busy book.campaigns meter ≡ false) (meters_of added.1.rows) =
    subst (λ (ms : List ℕ). AllByRecursion (λ meter. is_busy book.campaigns meter ≡ false) ms) (sym (fresh_meters meters)) (any_none (λ meter. is_busy book.campaigns meter) meters opens.meters_free) in
    subst (λ (c : Contents). InOrder c.campaigns) (sym makes.next_is) (order_push book.campaigns added order (inl (fresh_rows meters)) (each_free book.campaigns added free))
makes_order admitted (mark campaign meter e) book next makes order = marked_order book campaign meter e next makes order
makes_order admitted (cancelling campaign) book next makes order =
    subst (λ (c : Contents). InOrder c.campaigns) (sym makes.1) (order_changed cancelled_rows Keeps-cancelled (λ rows entire. inr (no_live rows)) campaign.serial book.campaigns order)
makes_order admitted (endings campaign numbers) book next makes order = each_order (meters_of makes.offer.rows) numbers book campaign next makes.each order
makes_order admitted (note campaign told) book next makes order = subst (λ (c : Contents). InOrder c.campaigns) (sym makes.1) order

all_order : AdmittedOpens → (records : List (List ℕ)) (book next : Contents) → AddsAll records book next → InOrder book.campaigns → InOrder next.campaigns
all_order admitted [] book next all order = subst (λ (c : Contents). InOrder c.campaigns) (sym all) order
all_order admitted (bytes ∷ records) book next all order = all_order admitted records all.0 next all.2 (makes_order admitted all.1.entry book all.0 all.1.makes order)

pub made_order : AdmittedOpens → (head : ℕ) (records : List (List ℕ)) (book : Contents) → IsBookOf head records book → InOrder book.campaigns
made_order admitted head records book made = all_order admitted records (empty_book head) book made tt

-- what that says of one in the middle
order_at : (front : List (ℕ × Offered)) (entry : ℕ × Offered) (rest : List (ℕ × Offered)) → InOrder (front ++ entry ∷ rest) → EndsWhole entry.1.rows × AllByRecursion (λ (a : ℕ × Offered). IsFree a entry) front
order_at [] entry rest order = (order.0, tt)
order_at (a ∷ front) entry rest order =
    let later = order_at front entry rest order.2 in
    (later.0, (free_at front order.1, later.1))
  where
    free_at : (before : List (ℕ × Offered)) → AllByRecursion (λ (later : ℕ × Offered). IsFree a later) (before ++ entry ∷ rest) → IsFree a entry
    free_at [] h = h.0
    free_at (b ∷ before) h = free_at before h.1

-- ---- the last campaign of a book

abbrev pub ending_in : ℕ → List (ℕ × Offered) → ℕ → Offered → List Row → Contents
ending_in head front serial offer rows = record { head = head; campaigns = front ++ (serial, record { release = offer.release; image = offer.image; rows = rows }) ∷ [] }

changed_last : (serial : ℕ) (change : List Row → List Row) (front : List (ℕ × Offered)) (offer : Offered) (rows : List Row) → is_some (lookup (nat_eq serial) front) ≡ false
    → at_serial serial change (front ++ (serial, record { release = offer.release; image = offer.image; rows = rows }) ∷ []) ≡ front ++ (serial, record { release = offer.release; image = offer.image; rows = change rows }) ∷ []
changed_last serial change [] offer rows new = cond-true (eqb serial serial) _ _ ((Decides-eqb serial serial).1 refl)
changed_last serial change (x ∷ front) offer rows new =
    let last : List Row → List (ℕ × Offered) = λ rs. (serial, record { release = offer.release; image = offer.image; rows = rs }) ∷ [] in
    let away = other_serial x front new in
    cond-false (eqb serial x.0) (changed change x ∷ (front ++ last rows)) (x ∷ at_serial serial change (front ++ last rows)) away.0 ∙ ap (λ (l : List (ℕ × Offered)). x ∷ l) (changed_last serial change front offer rows away.1)
  where
    other_serial : (entry : ℕ × Offered) (entries : List (ℕ × Offered)) → is_some (lookup (nat_eq serial) (entry ∷ entries)) ≡ false → (nat_eq serial entry.0 ≡ false) × (is_some (lookup (nat_eq serial) entries) ≡ false)
    other_serial entry entries h =
        ⊎_elim
        (λ same. absurd (false≢true (sym h ∙ ap (λ b. is_some (cond b (Some entry.1) (lookup (nat_eq serial) entries))) same)))
        (λ other. (other, ap (λ b. is_some (cond b (Some entry.1) (lookup (nat_eq serial) entries))) (sym other) ∙ h))
        (cases_Bool (nat_eq serial entry.0))

pub offered_last : (head : ℕ) (front : List (ℕ × Offered)) (serial : ℕ) (offer : Offered) (rows : List Row) → is_some (lookup (nat_eq serial) front) ≡ false
    → offered_in (ending_in head front serial offer rows) (record { head = head; serial = serial }) ≡ Some (record { release = offer.release; image = offer.image; rows = rows })
offered_last head front serial offer rows new =
    cond-true (eqb head head) _ _ ((Decides-eqb head head).1 refl) ∙ found_last serial front (record { release = offer.release; image = offer.image; rows = rows }) new

-- ---- the marks of rows

abbrev settle : RowState → RowState
settle Live = Live
settle Done = Done
settle Failed = Failed
settle Cancelled = Live

-- a row before its campaign is cancelled
abbrev settled : Row → Row
settled row = record { meter = row.meter; state = settle row.state }

abbrev pub has_meter : ℕ → List Row → Bool
has_meter meter rows = list_any (λ other. other == meter) (meters_of rows)

map-join : (change : Row → Row) (xs ys : List Row) → map change (xs ++ ys) ≡ map change xs ++ map change ys
map-join change [] ys = refl
map-join change (x ∷ xs) ys = ap (λ (l : List Row). change x ∷ l) (map-join change xs ys)

untouched : (meter : ℕ) (state : RowState) (rows : List Row) → has_meter meter rows ≡ false → with_state meter state rows ≡ rows
untouched meter state [] away = refl
untouched meter state (row ∷ rows) away =
    let parts = or_parts (eqb row.meter meter) (has_meter meter rows) away in
    ap (λ (r : Row). r ∷ with_state meter state rows) (cond-false (eqb row.meter meter) (record { meter = row.meter; state = state }) row parts.0) ∙ ap (λ (l : List Row). row ∷ l) (untouched meter state rows parts.1)

marked_at : (meter : ℕ) (was state : RowState) (front rest : List Row) → has_meter meter front ≡ false → has_meter meter rest ≡ false
    → with_state meter state (front ++ record { meter = meter; state = was } ∷ rest) ≡ front ++ record { meter = meter; state = state } ∷ rest
marked_at meter was state front rest before after =
    let here : Row = record { meter = meter; state = was } in
    let there : Row = record { meter = meter; state = state } in
    map-join (λ (row : Row). marked_row meter state row) front (here ∷ rest)
    ∙ ap (λ (l : List Row). l ++ with_state meter state (here ∷ rest)) (untouched meter state front before)
    ∙ ap (λ (r : Row). front ++ r ∷ with_state meter state rest) (cond-true (eqb meter meter) there here ((Decides-eqb meter meter).1 refl))
    ∙ ap (λ (l : List Row). front ++ there ∷ l) (untouched meter state rest after)

state_at : (meter : ℕ) (state : RowState) (front rest : List Row) → has_meter meter front ≡ false → state_of (front ++ record { meter = meter; state = state } ∷ rest) meter ≡ Some state
state_at meter state [] rest before =
    ap (λ (o : Option Row). option_map (λ (r : Row). r.state) o) (cond-true (meter == meter) (Some (let r : Row = record { meter = meter; state = state } in r)) (find (λ (r : Row). r.meter == meter) rest) ((Decides-eqb meter meter).1 refl))
state_at meter state (row ∷ front) rest before =
    let here : Row = record { meter = meter; state = state } in
    let parts = or_parts (eqb row.meter meter) (has_meter meter front) before in
    ap (λ (o : Option Row). option_map (λ (r : Row). r.state) o) (cond-false (row.meter == meter) (Some row) (find (λ (r : Row). r.meter == meter) (front ++ here ∷ rest)) parts.0) ∙ state_at meter state front rest parts.1

live_admits : (book : Contents) (campaign : Campaign) (meter : ℕ) → state_in book campaign meter ≡ Some Live → mark_refusal book campaign meter ≡ None
live_admits book campaign meter live =
    ap (λ (s : Option RowState). first_applying ((is_none s, NoSuchCampaign) ∷ (not (option_map_or is_live s false), NotLive) ∷ [])) live

-- rows of which each has a meter of its own, which isn't one of those in front
abbrev Apart : List Row → List Row → Type 0
Apart front [] = Unit {0}
Apart front (row ∷ rows) = (has_meter row.meter front ≡ false) × (has_meter row.meter rows ≡ false) × Apart front rows

has-join : (meter : ℕ) (xs ys : List Row) → has_meter meter xs ≡ false → has_meter meter ys ≡ false → has_meter meter (xs ++ ys) ≡ false
has-join meter [] ys first second = second
has-join meter (x ∷ xs) ys first second =
    let parts = or_parts (eqb x.meter meter) (has_meter meter xs) first in
    or_from (eqb x.meter meter) (has_meter meter (xs ++ ys)) parts.0 (has-join meter xs ys parts.1 second)

pub other_way : (a b : ℕ) → eqb a b ≡ false → eqb b a ≡ false
other_way a b differ = false_from_ne_true _ (λ same. false≢true (sym differ ∙ (Decides-eqb a b).1 (sym ((Decides-eqb b a).0 same))))

apart_push : (front rows : List Row) (row : Row) → has_meter row.meter rows ≡ false → Apart front rows → Apart (front ++ settled row ∷ []) rows
apart_push front [] row away apart = tt
apart_push front (r ∷ rows) row away apart =
    let parts = or_parts (eqb r.meter row.meter) (has_meter row.meter rows) away in
    (has-join r.meter front (settled row ∷ []) apart.0 (or_from (eqb row.meter r.meter) false (other_way r.meter row.meter parts.0) refl), apart.1, apart_push front rows row parts.1 apart.2)

apart_none : (rows : List Row) → repeats (meters_of rows) ≡ false → Apart [] rows
apart_none [] once = tt
apart_none (row ∷ rows) once =
    let parts = or_parts (has_meter row.meter rows) (repeats (meters_of rows)) once in
    (refl, parts.0, apart_none rows parts.1)

live_away : (meter : ℕ) (rows : List Row) → has_meter meter rows ≡ false → has_meter meter (map live_row (meters_of rows)) ≡ false
live_away meter rows away = ap (λ (ms : List ℕ). list_any (λ other. other == meter) ms) (fresh_meters (meters_of rows)) ∙ away

settled_case : (state : RowState) (b c : Bool) → (b ≡ true → c ≡ true) → (is_cancelled state || b) ≡ true → (is_live (settle state) || c) ≡ true
settled_case Live b c step some = refl
settled_case Done b c step some = step some
settled_case Failed b c step some = step some
settled_case Cancelled b c step some = refl

-- a row that is cancelled was live before
some_settled : (rows : List Row) → has_cancelled rows ≡ true → has_live (map settled rows) ≡ true
some_settled [] some = absurd (false≢true some)
some_settled (row ∷ rows) some = settled_case row.state (has_cancelled rows) (has_live (map settled rows)) (some_settled rows) some

ended_case : (meter : ℕ) (state : RowState) → is_live state ≡ false → cancelled_row (record { meter = meter; state = settle state }) ≡ record { meter = meter; state = state }
ended_case meter Live is = absurd (false≢true (sym is))
ended_case meter Done is = refl
ended_case meter Failed is = refl
ended_case meter Cancelled is = refl

all_ended : (rows : List Row) → has_live rows ≡ false → cancelled_rows (map settled rows) ≡ rows
all_ended [] none = refl
all_ended (row ∷ rows) none =
    let parts = or_parts (is_live row.state) (has_live rows) none in
    ap (λ (r : Row). r ∷ cancelled_rows (map settled rows)) (ended_case row.meter row.state parts.0) ∙ ap (λ (l : List Row). row ∷ l) (all_ended rows parts.1)

none_case : (meter : ℕ) (state : RowState) → is_cancelled state ≡ false → (let r : Row = record { meter = meter; state = settle state } in r) ≡ record { meter = meter; state = state }
none_case meter Live is = refl
none_case meter Done is = refl
none_case meter Failed is = refl
none_case meter Cancelled is = absurd (false≢true (sym is))

none_settled : (rows : List Row) → has_cancelled rows ≡ false → map settled rows ≡ rows
none_settled [] none = refl
none_settled (row ∷ rows) none =
    let parts = or_parts (is_cancelled row.state) (has_cancelled rows) none in
    ap (λ (r : Row). r ∷ map settled rows) (none_case row.meter row.state parts.0) ∙ ap (λ (l : List Row). row ∷ l) (none_settled rows parts.1)

still_case : (meter : ℕ) (state : RowState) → nat_lt 0 (state_number state) ≡ false → (let r : Row = record { meter = meter; state = settle state } in r) ≡ live_row meter
still_case meter Live is = refl
still_case meter Done is = absurd (false≢true (sym is))
still_case meter Failed is = absurd (false≢true (sym is))
still_case meter Cancelled is = refl

-- rows of which none is done or failed
none_ended : (rows : List Row) → list_any (λ number. nat_lt 0 number) (numbers_of rows) ≡ false → map settled rows ≡ map live_row (meters_of rows)
none_ended [] none = refl
none_ended (row ∷ rows) none =
    let parts = or_parts (nat_lt 0 (state_number row.state)) (list_any (λ number. nat_lt 0 number) (numbers_of rows)) none in
    ap (λ (r : Row). r ∷ map settled rows) (still_case row.meter row.state parts.0) ∙ ap (λ (l : List Row). live_row row.meter ∷ l) (none_ended rows parts.1)

-- the numbers of rows are those of endings, where one of them is done or failed
numbers_end : (rows : List Row) → list_all (λ number. nat_lt number 3) (numbers_of rows) ≡ true
numbers_end [] = refl
numbers_end (row ∷ rows) = number_ends row.state (list_all (λ number. nat_lt number 3) (numbers_of rows)) (numbers_end rows)
  where
    number_ends : (state : RowState) (others : Bool) → others ≡ true → (nat_lt (state_number state) 3 && others) ≡ true
    number_ends Live others all = all
    number_ends Done others all = all
    number_ends Failed others all = all
    number_ends Cancelled others all = all

pub ended_entries : (campaign : Campaign) (rows : List Row) → AreEndings (numbers_of rows) → endings campaign (numbers_of rows) ∷ [] ≡ rows_entries campaign rows
ended_entries campaign rows are = sym (cond-true (list_any (λ number. nat_lt 0 number) (numbers_of rows)) (endings campaign (numbers_of rows) ∷ []) [] are.1)

pub no_entries : (campaign : Campaign) (rows : List Row) → ¬ AreEndings (numbers_of rows) → [] ≡ rows_entries campaign rows
no_entries campaign rows none =
    sym (cond-false (list_any (λ number. nat_lt 0 number) (numbers_of rows)) (endings campaign (numbers_of rows) ∷ []) [] (false_from_ne_true _ (λ some. none (numbers_end rows, some))))

-- a mark of a live row of the last campaign
module _ (head : ℕ) (front : List (ℕ × Offered)) (serial : ℕ) (offer : Offered) (new : is_some (lookup (nat_eq serial) front) ≡ false) where
  abbrev own : Campaign
  own = record { head = head; serial = serial }

  abbrev book_with : List Row → Contents
  book_with rows = ending_in head front serial offer rows

  marks_one : (e : Ending) (meter : ℕ) (before after : List Row) → has_meter meter before ≡ false → has_meter meter after ≡ false
      → Makes (mark own meter e) (book_with (before ++ live_row meter ∷ after)) (book_with (before ++ record { meter = meter; state = replay.state_of e } ∷ after))
  marks_one e meter before after first second =
      let rows = before ++ live_row meter ∷ after in
      let found = ap (λ (o : Option Offered). option_and_then (λ (f : Offered). state_of f.rows meter) o) (offered_last head front serial offer rows new) ∙ state_at meter Live before after first in (
        live_admits (book_with rows) own meter found,
        sym (
            ap (λ (l : List (ℕ × Offered)). (let c : Contents = record { head = head; campaigns = l } in c)) (changed_last serial (with_state meter (replay.state_of e)) front offer rows new)
            ∙ ap (λ (l : List Row). book_with l) (marked_at meter Live (replay.state_of e) before after first second)),
      )

  -- what a number makes of a live row
  numbered_one : (meter : ℕ) (state : RowState) (before after : List Row) → has_meter meter before ≡ false → has_meter meter after ≡ false
      → MakesNumbered (book_with (before ++ live_row meter ∷ after)) own meter (state_number state) (book_with (before ++ record { meter = meter; state = settle state } ∷ after))
  numbered_one meter Live before after first second = inl (refl, refl)
  numbered_one meter Done before after first second = inr (ending.Done, refl, marks_one ending.Done meter before after first second)
  numbered_one meter Failed before after first second = inr (ending.Failed, refl, marks_one ending.Failed meter before after first second)
  numbered_one meter Cancelled before after first second = inl (refl, refl)

  -- what the numbers of these rows make, after rows that are as they will be; each has a meter of its own
  each_add : (todo before : List Row) → Apart before todo → MakesEach (book_with (before ++ map live_row (meters_of todo))) own (meters_of todo) (numbers_of todo) (book_with (before ++ map settled todo))
  each_add [] before apart = refl
  each_add (row ∷ todo) before apart =
      let live = map live_row (meters_of todo) in (
        book_with (before ++ settled row ∷ live),
        numbered_one row.meter row.state before live apart.0 (live_away row.meter todo apart.1),
        subst (λ (l : List Row). MakesEach (book_with l) own (meters_of todo) (numbers_of todo) (book_with (before ++ map settled (row ∷ todo)))) (append_assoc before (settled row ∷ []) live)
            (subst (λ (l : List Row). MakesEach (book_with ((before ++ settled row ∷ []) ++ live)) own (meters_of todo) (numbers_of todo) (book_with l)) (append_assoc before (settled row ∷ []) (map settled todo))
            (each_add todo (before ++ settled row ∷ []) (apart_push before todo row apart.1 apart.2))),
      )

  rows_add : (records : List (List ℕ)) → repeats (meters_of offer.rows) ≡ false → SpellAll records (rows_entries own offer.rows) → AddsAll records (book_with (map live_row (meters_of offer.rows))) (book_with (map settled offer.rows))
  rows_add records once spell =
      let some_ended = list_any (λ number. nat_lt 0 number) (numbers_of offer.rows) in
      ⊎_elim
      (λ some. one records (subst (λ (l : List Entry). SpellAll records l) (cond-true some_ended (endings own (numbers_of offer.rows) ∷ []) [] some) spell))
      (λ none. nothing records (subst (λ (l : List Entry). SpellAll records l) (cond-false some_ended (endings own (numbers_of offer.rows) ∷ []) [] none) spell) (ap (λ (l : List Row). book_with l) (none_ended offer.rows none)))
      (cases_Bool some_ended)
    where
      one : (all : List (List ℕ)) → SpellAll all (endings own (numbers_of offer.rows) ∷ []) → AddsAll all (book_with (map live_row (meters_of offer.rows))) (book_with (map settled offer.rows))
      one [] spelled = absurd spelled
      one (bytes ∷ []) spelled = (
        book_with (map settled offer.rows),
        record {
          entry = endings own (numbers_of offer.rows);
          spells = spelled.0;
          makes = record {
            offer = record { release = offer.release; image = offer.image; rows = map live_row (meters_of offer.rows) };
            offered = offered_last head front serial offer (map live_row (meters_of offer.rows)) new;
            each = subst (λ (ms : List ℕ). MakesEach (book_with (map live_row (meters_of offer.rows))) own ms (numbers_of offer.rows) (book_with (map settled offer.rows))) (sym (fresh_meters (meters_of offer.rows))) (each_add offer.rows [] (apart_none offer.rows once));
          };
        },
        refl,
      )
      one (bytes ∷ more ∷ others) spelled = absurd spelled.1

      nothing : (all : List (List ℕ)) → SpellAll all [] → book_with (map settled offer.rows) ≡ book_with (map live_row (meters_of offer.rows)) → AddsAll all (book_with (map live_row (meters_of offer.rows))) (book_with (map settled offer.rows))
      nothing [] spelled is = is
      nothing (bytes ∷ all) spelled is = absurd spelled

  -- ---- its cancelling

  cancel_one : (rows : List Row) → has_live rows ≡ true → Makes (cancelling own) (book_with rows) (book_with (cancelled_rows rows))
  cancel_one rows some = (
    ap (λ (o : Option Offered). first_applying ((is_none o, NoSuchCampaign) ∷ (not (option_map_or (λ (f : Offered). has_live f.rows) o false), NotLive) ∷ [])) (offered_last head front serial offer rows new)
        ∙ ap (λ b. first_applying ((false, NoSuchCampaign) ∷ (not b, NotLive) ∷ [])) some,
    sym (ap (λ (l : List (ℕ × Offered)). (let c : Contents = record { head = head; campaigns = l } in c)) (changed_last serial cancelled_rows front offer rows new)),
  )

  ends_add : (records : List (List ℕ)) → EndsWhole offer.rows → SpellAll records (ending_entries own offer.rows) → AddsAll records (book_with (map settled offer.rows)) (book_with offer.rows)
  ends_add records entire spell =
      ⊎_elim
      (λ some.
      let spelled : SpellAll records (cancelling own ∷ []) = subst (λ (l : List Entry). SpellAll records l) (cond-true (has_cancelled offer.rows) (cancelling own ∷ []) [] some) spell in
      let ended : has_live offer.rows ≡ false = ⊎_elim (λ none. absurd (false≢true (sym none ∙ some))) (λ ended. ended) entire in
      one records spelled (some_settled offer.rows some) (ap (λ (l : List Row). book_with l) (all_ended offer.rows ended)))
      (λ none.
      let spelled : SpellAll records [] = subst (λ (l : List Entry). SpellAll records l) (cond-false (has_cancelled offer.rows) (cancelling own ∷ []) [] none) spell in
      nothing records spelled (ap (λ (l : List Row). book_with l) (none_settled offer.rows none)))
      (cases_Bool (has_cancelled offer.rows))
    where
      one : (all : List (List ℕ)) → SpellAll all (cancelling own ∷ []) → has_live (map settled offer.rows) ≡ true → book_with (cancelled_rows (map settled offer.rows)) ≡ book_with offer.rows → AddsAll all (book_with (map settled offer.rows)) (book_with offer.rows)
      one [] spelled live is = absurd spelled
      one (bytes ∷ []) spelled live is = (book_with offer.rows, record { entry = cancelling own; spells = spelled.0; makes = subst (λ (c : Contents). Makes (cancelling own) (book_with (map settled offer.rows)) c) is (cancel_one (map settled offer.rows) live) }, refl)
      one (bytes ∷ more ∷ others) spelled live is = absurd spelled.1

      nothing : (all : List (List ℕ)) → SpellAll all [] → book_with (map settled offer.rows) ≡ book_with offer.rows → AddsAll all (book_with (map settled offer.rows)) (book_with offer.rows)
      nothing [] spelled is = sym is
      nothing (bytes ∷ all) spelled is = absurd spelled

-- ---- a campaign

pub all_join : (front rest : List (List ℕ)) (book between next : Contents) → AddsAll front book between → AddsAll rest between next → AddsAll (front ++ rest) book next
all_join [] rest book between next first second = subst (λ (c : Contents). AddsAll rest c next) first second
all_join (bytes ∷ front) rest book between next first second = (first.0, first.1, all_join front rest first.0 between next first.2 second)

record Parted (records : List (List ℕ)) (xs ys : List Entry) : Type 0 where
  pub first : List (List ℕ)
  pub rest : List (List ℕ)
  pub split : records ≡ first ++ rest
  pub spell_first : SpellAll first xs
  pub spell_rest : SpellAll rest ys

spell_part : (records : List (List ℕ)) (xs ys : List Entry) → SpellAll records (xs ++ ys) → Parted records xs ys
spell_part records [] ys spell = record { first = []; rest = records; split = refl; spell_first = tt; spell_rest = spell }
spell_part [] (x ∷ xs) ys spell = absurd spell
spell_part (bytes ∷ records) (x ∷ xs) ys spell =
    let later = spell_part records xs ys spell.1 in
    record { first = bytes ∷ later.first; rest = later.rest; split = ap (λ (l : List (List ℕ)). bytes ∷ l) later.split; spell_first = (spell.0, later.spell_first); spell_rest = later.spell_rest }

-- the records of a campaign make it, after those before it
campaign_adds : AdmittedOpens → (head : ℕ) (front : List (ℕ × Offered)) (serial : ℕ) (offer : Offered) (source : Source) → Admits (record { head = head; campaigns = front }) serial offer → EndsWhole offer.rows
    → AllByRecursion (λ (a : ℕ × Offered). IsFree a (serial, offer)) front → IsImage (record { head = head; campaigns = front }) source offer.image
    → (records : List (List ℕ)) → SpellAll records (campaign_entries (record { head = head; serial = serial }) offer source) → AddsAll records (record { head = head; campaigns = front }) (record { head = head; campaigns = front ++ (serial, offer) ∷ [] })
campaign_adds admitted head front serial offer source admits entire free image [] spell = absurd spell
campaign_adds admitted head front serial offer source admits entire free image (bytes ∷ records) spell =
    let own : Campaign = record { head = head; serial = serial } in
    let book : Contents = record { head = head; campaigns = front } in
    let meters = meters_of offer.rows in
    let many : length meters ≡ length offer.rows = length-map offer.rows (λ (row : Row). row.meter) in
    let is = admits.is_entry in
    let opens : Opens book own offer.image meters = record {
      own = refl;
      serial_new = admits.serial_new;
      image_begins = is.image_begins;
      image_ends = is.image_ends;
      meters_begin = omega (arith, many, is.meters_begin);
      meters_end = omega (arith, many, is.meters_end);
      meters_once = is.meters_once;
      meters_free = none_any (λ meter. is_busy front meter) meters (none_busy front (serial, offer) free);
    } in
    let parts = spell_part records (rows_entries own offer.rows) (ending_entries own offer.rows) spell.1 in
    let opened_book = ending_in head front serial offer (map live_row meters) in
    let settled_book = ending_in head front serial offer (map settled offer.rows) in
    let last = ending_in head front serial offer offer.rows in
    let marks = rows_add head front serial offer admits.serial_new parts.first is.meters_once parts.spell_first in
    let ends = ends_add head front serial offer admits.serial_new parts.rest entire parts.spell_rest in (
      opened_book,
      record { entry = opening own offer.release source meters; spells = spell.0; makes = record { image = offer.image; is_image = image; admitted = (admitted book own offer.image meters).1 opens; next_is = refl } },
      subst (λ (l : List (List ℕ)). AddsAll l opened_book last) (sym parts.split) (all_join parts.first parts.rest opened_book settled_book last marks ends),
    )

-- what records of a book's first campaigns and those of the next one make
pub book_step : AdmittedOpens → (book : Contents) (front rest : List (ℕ × Offered)) (serial : ℕ) (offer : Offered) (source : Source) → replay.IsMade book → IsBook book → book.campaigns ≡ front ++ (serial, offer) ∷ rest
    → IsImage (record { head = book.head; campaigns = front }) source offer.image → (records more : List (List ℕ)) → IsBookOf book.head records (record { head = book.head; campaigns = front })
    → SpellAll more (campaign_entries (record { head = book.head; serial = serial }) offer source) → IsBookOf book.head (records ++ more) (record { head = book.head; campaigns = front ++ (serial, offer) ∷ [] })
book_step admitted book front rest serial offer source made is split image records more before spell =
    let order = order_at front (serial, offer) rest (subst (λ (l : List (ℕ × Offered)). InOrder l) split (made_order admitted book.head made.0 book made.1)) in
    let begun : Contents = record { head = book.head; campaigns = front } in
    let entire : IsBook (record { head = book.head; campaigns = front ++ (serial, offer) ∷ rest }) = subst (λ (l : List (ℕ × Offered)). IsBook (record { head = book.head; campaigns = l })) split is in
    all_join records more (empty_book book.head) begun (record { head = book.head; campaigns = front ++ (serial, offer) ∷ [] }) before
    (campaign_adds admitted book.head front serial offer source (next_admitted begun serial offer rest entire) order.0 order.1 image more spell)

-- ---- sizes

abbrev pub IsShort : List ℕ → Type 0
IsShort bytes = length bytes < 2 ^ 32

-- marks, cancellings, notes, and the endings of as many rows as a campaign can have
abbrev pub IsSmall : Entry → Type 0
IsSmall (opening campaign release source meters) = ⊥
IsSmall (mark campaign meter e) = Unit {0}
IsSmall (cancelling campaign) = Unit {0}
IsSmall (endings campaign numbers) = length numbers ≤ max_meters
IsSmall (note campaign told) = Unit {0}

small_short : (bytes : List ℕ) (entry : Entry) → Spells bytes entry → IsSmall entry → IsShort bytes
small_short bytes (opening campaign release source meters) spells small = absurd small
small_short bytes (mark campaign meter e) spells small =
    let size : length (entry_bytes (mark campaign meter e)) ≡ 14 = refl in
    omega (arith, ap (λ (l : List ℕ). length l) spells.spelled, size)
small_short bytes (cancelling campaign) spells small =
    let size : length (entry_bytes (cancelling campaign)) ≡ 9 = refl in
    omega (arith, ap (λ (l : List ℕ). length l) spells.spelled, size)
small_short bytes (endings campaign numbers) spells small =
    let eight : length (campaign_bytes campaign) ≡ 8 = refl in
    omega (arith, ap (λ (l : List ℕ). length l) spells.spelled, small, eight, length-append (campaign_bytes campaign) numbers)
small_short bytes (note campaign told) spells small =
    let eight : length (campaign_bytes campaign) ≡ 8 = refl in
    omega (arith, ap (λ (l : List ℕ). length l) spells.spelled, note_short told, eight, length-append (campaign_bytes campaign) (note_bytes told))

pub all_short : (records : List (List ℕ)) (entries : List Entry) → SpellAll records entries → AllByRecursion IsSmall entries → AllByRecursion IsShort records
all_short [] entries spell small = tt
all_short (bytes ∷ records) [] spell small = absurd spell
all_short (bytes ∷ records) (entry ∷ entries) spell small = (small_short bytes entry spell.0 small.0, all_short records entries spell.1 small.1)

pub all_append : {X : Type 0} (P : X → Type 0) (xs ys : List X) → AllByRecursion P xs → AllByRecursion P ys → AllByRecursion P (xs ++ ys)
all_append P [] ys first second = second
all_append P (x ∷ xs) ys first second = (first.0, all_append P xs ys first.1 second)

small_rows : (campaign : Campaign) (rows : List Row) → length rows ≤ max_meters → AllByRecursion IsSmall (rows_entries campaign rows)
small_rows campaign rows few =
    let many : length (numbers_of rows) ≡ length rows = length-map rows (λ (row : Row). state_number row.state) in
    cond_both (list_any (λ number. nat_lt 0 number) (numbers_of rows)) (endings campaign (numbers_of rows) ∷ []) [] (λ (l : List Entry). AllByRecursion IsSmall l) (λ _. (omega (arith, many, few), tt)) (λ _. tt)

small_ending : (campaign : Campaign) (rows : List Row) → AllByRecursion IsSmall (ending_entries campaign rows)
small_ending campaign rows = cond_both (has_cancelled rows) (cancelling campaign ∷ []) [] (λ (l : List Entry). AllByRecursion IsSmall l) (λ _. (tt, tt)) (λ _. tt)

length-numbers : (meters : List ℕ) → length (meters_bytes meters) ≡ 4 * length meters
length-numbers [] = refl
length-numbers (meter ∷ meters) =
    let four : length (to_be_bytes w32 meter) ≡ 4 = refl in
    omega (arith, four, length-append (to_be_bytes w32 meter) (meters_bytes meters), length-numbers meters)

source_short : (book : Contents) (source : Source) (image : List ℕ) → IsImage book source image → length (source_bytes source) ≤ length image + 5
source_short book (whole bytes) image is =
    let four : length (to_be_bytes w32 (length bytes)) ≡ 4 = refl in
    omega (arith, four, length-append (to_be_bytes w32 (length bytes)) bytes, ap (λ (l : List ℕ). length l) is)
source_short book (earlier serial) image is =
    let four : length (to_be_bytes w32 serial) ≡ 4 = refl in
    omega (arith, four)

opening_short : (campaign : Campaign) (release : ℕ) (source : Source) (image meters : List ℕ) → length (source_bytes source) ≤ length image + 5 → length image ≤ max_image → length meters ≤ max_meters
    → length (entry_bytes (opening campaign release source meters)) < 2 ^ 32
opening_short campaign release source image meters short image_ends meters_end =
    let eight : length (campaign_bytes campaign) ≡ 8 = refl in
    let four : length (to_be_bytes w32 release) ≡ 4 = refl in
    omega (
      arith,
      eight,
      four,
      short,
      image_ends,
      meters_end,
      length-numbers meters,
      length-append (opening_front campaign release source) (meters_bytes meters),
      length-append (campaign_bytes campaign) (to_be_bytes w32 release ++ source_bytes source),
      length-append (to_be_bytes w32 release) (source_bytes source),
    )

campaign_short : (book : Contents) (campaign : Campaign) (offer : Offered) (source : Source) → IsImage book source offer.image → length offer.image ≤ max_image → length offer.rows ≤ max_meters
    → (records : List (List ℕ)) → SpellAll records (campaign_entries campaign offer source) → AllByRecursion IsShort records
campaign_short book campaign offer source image image_ends rows_end [] spell = tt
campaign_short book campaign offer source image image_ends rows_end (bytes ∷ records) spell =
    let meters = meters_of offer.rows in
    let many : length meters ≡ length offer.rows = length-map offer.rows (λ (row : Row). row.meter) in
    let size = opening_short campaign offer.release source offer.image meters (source_short book source offer.image image) image_ends (omega (arith, many, rows_end)) in (
      omega (arith, size, ap (λ (l : List ℕ). length l) spell.0.spelled),
      all_short records (rows_entries campaign offer.rows ++ ending_entries campaign offer.rows) spell.1
          (all_append IsSmall (rows_entries campaign offer.rows) (ending_entries campaign offer.rows) (small_rows campaign offer.rows rows_end) (small_ending campaign offer.rows)),
    )

-- ---- where images stand whole

lookup_in_front : (k : ℕ) (front rest : List (ℕ × Offered)) → is_some (lookup (nat_eq k) front) ≡ true → lookup (nat_eq k) (front ++ rest) ≡ lookup (nat_eq k) front
lookup_in_front k [] rest has = absurd (false≢true has)
lookup_in_front k (x ∷ front) rest has =
    ⊎_elim
    (λ here. cond-true (nat_eq k x.0) (Some x.1) (lookup (nat_eq k) (front ++ rest)) here ∙ sym (cond-true (nat_eq k x.0) (Some x.1) (lookup (nat_eq k) front) here))
    (λ away.
    cond-false (nat_eq k x.0) (Some x.1) (lookup (nat_eq k) (front ++ rest)) away
    ∙ lookup_in_front k front rest (ap (λ (o : Option Offered). is_some o) (sym (cond-false (nat_eq k x.0) (Some x.1) (lookup (nat_eq k) front) away)) ∙ has)
    ∙ sym (cond-false (nat_eq k x.0) (Some x.1) (lookup (nat_eq k) front) away))
    (cases_Bool (nat_eq k x.0))

-- an earlier campaign's image is that of the book
pub image_in_front : (book : Contents) (front rest : List (ℕ × Offered)) (serial : ℕ) (image : List ℕ) → book.campaigns ≡ front ++ rest → is_some (lookup (nat_eq serial) front) ≡ true → IsImage book (earlier serial) image
    → IsImage (record { head = book.head; campaigns = front }) (earlier serial) image
image_in_front book front rest serial image split has is = (
  is.0,
  ap (λ (o : Option Offered). option_map (λ (offer : Offered). offer.image) (cond (eqb book.head book.head) o None)) (sym (lookup_in_front serial front rest has) ∙ ap (λ (l : List (ℕ × Offered)). lookup (nat_eq serial) l) (sym split)) ∙ is.1,
)

still_has : (k : ℕ) (front : List (ℕ × Offered)) (entry : ℕ × Offered) → is_some (lookup (nat_eq k) front) ≡ true → is_some (lookup (nat_eq k) (front ++ entry ∷ [])) ≡ true
still_has k front entry has = ap (λ (o : Option Offered). is_some o) (lookup_in_front k front (entry ∷ []) has) ∙ has

pub have_more : (front : List (ℕ × Offered)) (entry : ℕ × Offered) (shown later : List ℕ) → is_some (lookup (nat_eq entry.0) front) ≡ false → HaveSerials front shown → (later ≡ shown) ⊎ (later ≡ shown ++ entry.0 ∷ []) → HaveSerials (front ++ entry ∷ []) later
have_more front entry shown later new have noted =
    let stay : HaveSerials (front ++ entry ∷ []) shown = all_map (λ serial. is_some (lookup (nat_eq serial) front) ≡ true) (λ serial. is_some (lookup (nat_eq serial) (front ++ entry ∷ [])) ≡ true) (λ serial has. still_has serial front entry has) shown have in
    let own : is_some (lookup (nat_eq entry.0) (front ++ entry ∷ [])) ≡ true = ap (λ (o : Option Offered). is_some o) (found_last entry.0 front entry.1 new) in
    ⊎_elim (λ same. subst (λ (l : List ℕ). HaveSerials (front ++ entry ∷ []) l) (sym same) stay)
    (λ pushed. subst (λ (l : List ℕ). HaveSerials (front ++ entry ∷ []) l) (sym pushed) (all_push (λ serial. is_some (lookup (nat_eq serial) (front ++ entry ∷ [])) ≡ true) shown entry.0 stay own)) noted

-- ---- what is put

abbrev pub Vecs : Type 0
Vecs = List (Vec ℕ Global)

pub records-join : (vs more : Vecs) → records_of (vs ++ more) ≡ records_of vs ++ records_of more
records-join [] more = refl
records-join (v ∷ vs) more = ap (λ (l : List (List ℕ)). v.items ∷ l) (records-join vs more)

pub spell_join : (records more : List (List ℕ)) (xs ys : List Entry) → SpellAll records xs → SpellAll more ys → SpellAll (records ++ more) (xs ++ ys)
spell_join [] more [] ys first second = second
spell_join [] more (x ∷ xs) ys first second = absurd first
spell_join (bytes ∷ records) more [] ys first second = absurd first
spell_join (bytes ∷ records) more (x ∷ xs) ys first second = (first.0, spell_join records more xs ys first.1 second)

pub puts_nothing : (vs : Vecs) → Puts vs vs []
puts_nothing vs = record { more = []; put = sym (append-nil vs); spelled = tt }

pub puts_join : (old mid new : Vecs) (xs ys : List Entry) → Puts old mid xs → Puts mid new ys → Puts old new (xs ++ ys)
puts_join old mid new xs ys first second = record {
  more = first.more ++ second.more;
  put = second.put ∙ ap (λ (l : Vecs). l ++ second.more) first.put ∙ append_assoc old first.more second.more;
  spelled = subst (λ (l : List (List ℕ)). SpellAll l (xs ++ ys)) (sym (records-join first.more second.more)) (spell_join (records_of first.more) (records_of second.more) xs ys first.spelled second.spelled);
}

pub puts_one : (old new : Vecs) (v : Vec ℕ Global) (entry : Entry) → new ≡ old ++ v ∷ [] → Spells v.items entry → Puts old new (entry ∷ [])
puts_one old new v entry pushed spells = record { more = v ∷ []; put = pushed; spelled = (spells, tt) }

-- the records of one campaign more
pub record Goes (book : Contents) (front : List (ℕ × Offered)) (records : Vecs) (shown : List ℕ) : Type 0 where
  pub made : replay.IsMade book → IsBookOf book.head (records_of records) (record { head = book.head; campaigns = front })
  pub short : AllByRecursion IsShort (records_of records)
  pub have : HaveSerials front shown

pub goes_on : AdmittedOpens → (book : Contents) (front rest : List (ℕ × Offered)) (serial : ℕ) (offer : Offered) (source : Source) (records later : Vecs) (shown noted : List ℕ) → IsBook book → book.campaigns ≡ front ++ (serial, offer) ∷ rest
    → Goes book front records shown → IsImage (record { head = book.head; campaigns = front }) source offer.image → Puts records later (campaign_entries (record { head = book.head; serial = serial }) offer source)
    → (noted ≡ shown) ⊎ (noted ≡ shown ++ serial ∷ []) → Goes book (front ++ (serial, offer) ∷ []) later noted
goes_on admitted book front rest serial offer source records later shown noted is split goes image puts told =
    let entire : IsBook (record { head = book.head; campaigns = front ++ (serial, offer) ∷ rest }) = subst (λ (l : List (ℕ × Offered)). IsBook (record { head = book.head; campaigns = l })) split is in
    let admits = next_admitted (record { head = book.head; campaigns = front }) serial offer rest entire in
    let all : records_of later ≡ records_of records ++ records_of puts.more = ap (λ (l : Vecs). records_of l) puts.put ∙ records-join records puts.more in
    record {
      made = λ made.
          subst (λ (l : List (List ℕ)). IsBookOf book.head l (record { head = book.head; campaigns = front ++ (serial, offer) ∷ [] })) (sym all)
          (book_step admitted book front rest serial offer source made is split image (records_of records) (records_of puts.more) (goes.made made) puts.spelled);
      short = subst (λ (l : List (List ℕ)). AllByRecursion IsShort l) (sym all)
          (all_append IsShort (records_of records) (records_of puts.more) goes.short
          (campaign_short (record { head = book.head; campaigns = front }) (record { head = book.head; serial = serial }) offer source image admits.is_entry.image_ends admits.is_entry.meters_end (records_of puts.more) puts.spelled));
      have = have_more front (serial, offer) shown noted admits.serial_new goes.have told;
    }

-- what a book says of a campaign in its middle
pub entry_in : (book : Contents) (front rest : List (ℕ × Offered)) (serial : ℕ) (offer : Offered) → IsBook book → book.campaigns ≡ front ++ (serial, offer) ∷ rest → Admits (record { head = book.head; campaigns = front }) serial offer
entry_in book front rest serial offer is split =
    next_admitted (record { head = book.head; campaigns = front }) serial offer rest (subst (λ (l : List (ℕ × Offered)). IsBook (record { head = book.head; campaigns = l })) split is)

pub puts_campaign : (a b c d : Vecs) (first : Entry) (marks ends : List Entry) → Puts a b (first ∷ []) → Puts b c marks → Puts c d ends → Puts a d (first ∷ (marks ++ ends))
puts_campaign a b c d first marks ends one two three = puts_join a b d (first ∷ []) (marks ++ ends) one (puts_join b c d marks ends two three)

pub no_rows : (rows : List Row) → length rows ≡ 0 → rows ≡ []
no_rows [] none = refl
no_rows (row ∷ rows) none = absurd (omega (arith, none))
