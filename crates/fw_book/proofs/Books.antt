-- That the calls of a book keep what every book keeps.
use Rattle.std.proofs.Common.{◌≡◌, ℕ, true, false, eqb, nat_eq, cond, ◌&&◌, is_some, List, [], ◌∷◌, ◌++◌, map, length, Option, Some, None, refl, sym, ap, ◌∙◌, ⊎_elim}
use Rattle.std.specs.List.{AllByRecursion}
use Rattle.std.specs.Map.{lookup, set_value}
use Rattle.std.proofs.lemmas.Bool.{false≢true, or_parts, or_cases, and_parts, cases_Bool, or_left, or_right, and_from, false_from_ne_true, cond_both, cond-true, cond-false}
use Rattle.std.proofs.lemmas.Bool.Decides.{Decides-eqb}
use Rattle.std.proofs.lemmas.List.{length-map}
use Rattle.fw_book.specs.declared.row.Row.{Row}
use Rattle.fw_book.specs.declared.row.RowState.{RowState}
use Rattle.fw_book.specs.declared.row.RowState.TheVariants.{Cancelled}
use Rattle.fw_book.specs.Rows.{is_live, meters_of, is_live_in, marked_row, with_state, cancelled_row, cancelled_rows}
use Rattle.fw_book.specs.Contents.{Offered, Contents, is_busy, IsEntry, Apart, AllApart, IsBook}
use Rattle.fw_book.specs.Changes.{added, at_serial}
use Rattle.fw_book.specs.Private.{clashes, Admits}

pub all_push : {X : Type 0} (P : X → Type 0) (xs : List X) (y : X) → AllByRecursion P xs → P y → AllByRecursion P (xs ++ y ∷ [])
all_push P [] y h p = (p, tt)
all_push P (x ∷ xs) y h p = (h.0, all_push P xs y h.1 p)

apart_push : (xs : List (ℕ × Offered)) (y : ℕ × Offered) → AllApart xs → AllByRecursion (λ (x : ℕ × Offered). Apart x y) xs → AllApart (xs ++ y ∷ [])
apart_push [] y h p = (tt, tt)
apart_push (x ∷ xs) y h p = (all_push (λ (other : ℕ × Offered). Apart x other) xs y h.0 p.0, apart_push xs y h.1 p.1)

-- a meter that is live in the new rows is live in no campaign
free_meters : (campaigns : List (ℕ × Offered)) (rows : List Row) (meter : ℕ) → clashes campaigns rows ≡ false → is_live_in rows meter ≡ true → is_busy campaigns meter ≡ false
free_meters campaigns [] meter free live = absurd (false≢true live)
free_meters campaigns (row ∷ rows) meter free live =
    let parts = or_parts (is_live row.state && is_busy campaigns row.meter) (clashes campaigns rows) free in
    ⊎_elim
    (λ here.
    let both = and_parts (eqb row.meter meter) (is_live row.state) here in
    let same : row.meter ≡ meter = (Decides-eqb row.meter meter).0 both.0 in
    false_from_ne_true _ (λ busy. false≢true (sym parts.0 ∙ and_from _ _ both.1 (ap (λ m. is_busy campaigns m) same ∙ busy))))
    (λ later. free_meters campaigns rows meter parts.1 later)
    (or_cases (eqb row.meter meter && is_live row.state) (is_live_in rows meter) live)

new_serial : (serial : ℕ) (entry : ℕ × Offered) (entries : List (ℕ × Offered)) → is_some (lookup (nat_eq serial) (entry ∷ entries)) ≡ false → (nat_eq serial entry.0 ≡ false) × (is_some (lookup (nat_eq serial) entries) ≡ false)
new_serial serial entry entries h =
    ⊎_elim
    (λ same. absurd (false≢true (sym h ∙ ap (λ b. is_some (cond b (Some entry.1) (lookup (nat_eq serial) entries))) same)))
    (λ other. (other, ap (λ b. is_some (cond b (Some entry.1) (lookup (nat_eq serial) entries))) (sym other) ∙ h))
    (cases_Bool (nat_eq serial entry.0))

apart_from : (serial : ℕ) (offer : Offered) (xs : List (ℕ × Offered)) → is_some (lookup (nat_eq serial) xs) ≡ false → ((meter : ℕ) → is_live_in offer.rows meter ≡ true → is_busy xs meter ≡ false) → AllByRecursion (λ (x : ℕ × Offered). Apart x (serial, offer)) xs
apart_from serial offer [] new free = tt
apart_from serial offer (x ∷ xs) new free =
    let fresh = new_serial serial x xs new in (
      record {
        serials = λ same. false≢true (sym fresh.0 ∙ (Decides-eqb serial x.0).1 (sym same));
        live = λ meter here. false_from_ne_true _ (λ there. false≢true (sym (or_parts _ _ (free meter there)).0 ∙ here));
      },
      apart_from serial offer xs fresh.1 (λ meter there. (or_parts _ _ (free meter there)).1),
    )

pub IsBook-added : (book : Contents) (serial : ℕ) (offer : Offered) → IsBook book → Admits book serial offer → IsBook (added book serial offer)
IsBook-added book serial offer kept admits = record {
  head_begins = kept.head_begins;
  head_fits = kept.head_fits;
  entries = all_push (λ (entry : ℕ × Offered). IsEntry entry) book.campaigns (serial, offer) kept.entries admits.is_entry;
  apart = apart_push book.campaigns (serial, offer) kept.apart (apart_from serial offer book.campaigns admits.serial_new (λ meter. free_meters book.campaigns offer.rows meter admits.meters_free));
}

-- what a change of rows leaves as it is: the meters; and it makes none live
pub record Keeps (change : List Row → List Row) : Type 0 where
  pub meters : (rows : List Row) → meters_of (change rows) ≡ meters_of rows
  pub ends : (rows : List Row) (meter : ℕ) → is_live_in (change rows) meter ≡ true → is_live_in rows meter ≡ true

abbrev changed : (List Row → List Row) → ℕ × Offered → ℕ × Offered
changed change entry = (entry.0, record { release = entry.1.release; image = entry.1.image; rows = change entry.1.rows })

live_changed : (change : List Row → List Row) → Keeps change → (a b : ℕ × Offered) → Apart a b → Apart (changed change a) b
live_changed change keeps a b apart = record {
  serials = apart.serials;
  live = λ meter here. apart.live meter (keeps.ends a.1.rows meter here);
}

others_changed : (change : List Row → List Row) → Keeps change → (a b : ℕ × Offered) → Apart a b → Apart a (changed change b)
others_changed change keeps a b apart = record {
  serials = apart.serials;
  live = λ meter here. false_from_ne_true _ (λ there. false≢true (sym (apart.live meter here) ∙ keeps.ends b.1.rows meter there));
}

all_map : {X : Type 0} (P Q : X → Type 0) → ((x : X) → P x → Q x) → (xs : List X) → AllByRecursion P xs → AllByRecursion Q xs
all_map P Q step [] h = tt
all_map P Q step (x ∷ xs) h = (step x h.0, all_map P Q step xs h.1)

-- what holds of each campaign, and of each that is changed, holds after the change of one
at_all : (P : ℕ × Offered → Type 0) (serial : ℕ) (change : List Row → List Row) → ((entry : ℕ × Offered) → P entry → P (changed change entry)) → (entries : List (ℕ × Offered)) → AllByRecursion P entries → AllByRecursion P (at_serial serial change entries)
at_all P serial change step [] h = tt
at_all P serial change step (entry ∷ entries) h =
    cond_both (eqb serial entry.0) (changed change entry ∷ entries) (entry ∷ at_serial serial change entries) (AllByRecursion P)
    (λ _. (step entry h.0, h.1))
    (λ _. (h.0, at_all P serial change step entries h.1))

at_apart : (serial : ℕ) (change : List Row → List Row) → Keeps change → (entries : List (ℕ × Offered)) → AllApart entries → AllApart (at_serial serial change entries)
at_apart serial change keeps [] h = tt
at_apart serial change keeps (entry ∷ entries) h =
    cond_both (eqb serial entry.0) (changed change entry ∷ entries) (entry ∷ at_serial serial change entries) AllApart
    (λ _. (all_map (λ (other : ℕ × Offered). Apart entry other) (λ (other : ℕ × Offered). Apart (changed change entry) other) (λ other apart. live_changed change keeps entry other apart) entries h.0, h.1))
    (λ _. (at_all (λ (other : ℕ × Offered). Apart entry other) serial change (λ other apart. others_changed change keeps entry other apart) entries h.0, at_apart serial change keeps entries h.1))

length-meters : (rows : List Row) → length (meters_of rows) ≡ length rows
length-meters rows = length-map rows (λ (row : Row). row.meter)

same_length : (change : List Row → List Row) → Keeps change → (rows : List Row) → length (change rows) ≡ length rows
same_length change keeps rows = sym (length-meters (change rows)) ∙ ap length (keeps.meters rows) ∙ length-meters rows

entry_changed : (change : List Row → List Row) → Keeps change → (entry : ℕ × Offered) → IsEntry entry → IsEntry (changed change entry)
entry_changed change keeps entry is = record {
  serial_begins = is.serial_begins;
  serial_fits = is.serial_fits;
  release_fits = is.release_fits;
  image_begins = is.image_begins;
  image_ends = is.image_ends;
  meters_begin = rw (same_length change keeps entry.1.rows) is.meters_begin;
  meters_end = rw (same_length change keeps entry.1.rows) is.meters_end;
  meters_fit = rw (keeps.meters entry.1.rows) is.meters_fit;
  meters_once = rw (keeps.meters entry.1.rows) is.meters_once;
}

pub IsBook-changed : (book : Contents) (serial : ℕ) (change : List Row → List Row) → Keeps change → IsBook book → IsBook (record { head = book.head; campaigns = at_serial serial change book.campaigns })
IsBook-changed book serial change keeps kept = record {
  head_begins = kept.head_begins;
  head_fits = kept.head_fits;
  entries = at_all (λ (entry : ℕ × Offered). IsEntry entry) serial change (entry_changed change keeps) book.campaigns kept.entries;
  apart = at_apart serial change keeps book.campaigns kept.apart;
}

-- a change of each row, which keeps its meter and makes it live only if it was
pub record KeepsRow (change : Row → Row) : Type 0 where
  pub meter : (row : Row) → (change row).meter ≡ row.meter
  pub ends : (row : Row) → is_live (change row).state ≡ true → is_live row.state ≡ true

pub Keeps-map : (change : Row → Row) → KeepsRow change → Keeps (λ rows. map change rows)
Keeps-map change keeps = record { meters = meters; ends = ends } where
  meters : (rows : List Row) → meters_of (map change rows) ≡ meters_of rows
  meters [] = refl
  meters (row ∷ rows) = ap (λ m. m ∷ meters_of (map change rows)) (keeps.meter row) ∙ ap (λ ms. row.meter ∷ ms) (meters rows)

  ends : (rows : List Row) (meter : ℕ) → is_live_in (map change rows) meter ≡ true → is_live_in rows meter ≡ true
  ends [] meter h = h
  ends (row ∷ rows) meter h =
      ⊎_elim
      (λ here.
      let both = and_parts (eqb (change row).meter meter) (is_live (change row).state) here in
      or_left _ _ (and_from _ _ (ap (λ m. eqb m meter) (sym (keeps.meter row)) ∙ both.0) (keeps.ends row both.1)))
      (λ later. or_right _ _ (ends rows meter later))
      (or_cases (eqb (change row).meter meter && is_live (change row).state) (is_live_in (map change rows) meter) h)

pub Keeps-with_state : (meter : ℕ) (state : RowState) → is_live state ≡ false → Keeps (with_state meter state)
Keeps-with_state meter state ended =
    Keeps-map (λ (row : Row). marked_row meter state row) (record {
      meter = λ row. cond_both (eqb row.meter meter) (record { meter = row.meter; state = state }) row (λ (r : Row). r.meter ≡ row.meter) (λ _. refl) (λ _. refl);
      ends = λ row. cond_both (eqb row.meter meter) (record { meter = row.meter; state = state }) row (λ (r : Row). is_live r.state ≡ true → is_live row.state ≡ true) (λ _ live. absurd (false≢true (sym ended ∙ live))) (λ _ live. live);
    })

pub Keeps-cancelled : Keeps cancelled_rows
Keeps-cancelled =
    Keeps-map (λ (row : Row). cancelled_row row) (record {
      meter = λ row. cond_both (is_live row.state) (record { meter = row.meter; state = Cancelled }) row (λ (r : Row). r.meter ≡ row.meter) (λ _. refl) (λ _. refl);
      ends = λ row. cond_both (is_live row.state) (record { meter = row.meter; state = Cancelled }) row (λ (r : Row). is_live r.state ≡ true → is_live row.state ≡ true) (λ _ live. absurd (false≢true live)) (λ _ live. live);
    })

-- the change of one campaign, as a map's value is written
pub at_serial-set_value : (serial : ℕ) (change : List Row → List Row) (entries : List (ℕ × Offered)) (offer : Offered) → lookup (nat_eq serial) entries ≡ Some offer → set_value (nat_eq serial) entries (record { release = offer.release; image = offer.image; rows = change offer.rows }) ≡ at_serial serial change entries
at_serial-set_value serial change [] offer h = refl
at_serial-set_value serial change (entry ∷ entries) offer h =
    let new : Offered = record { release = offer.release; image = offer.image; rows = change offer.rows } in
    let one : List (ℕ × Offered) = (entry.0, record { release = entry.1.release; image = entry.1.image; rows = change entry.1.rows }) ∷ entries in
    ⊎_elim
    (λ here.
    let same : Some entry.1 ≡ Some offer = sym (cond-true (nat_eq serial entry.0) (Some entry.1) (lookup (nat_eq serial) entries) here) ∙ h in
    let same' : entry.1 ≡ offer = cc in
    cond-true (nat_eq serial entry.0) ((entry.0, new) ∷ entries) (entry ∷ set_value (nat_eq serial) entries new) here
    ∙ ap (λ (o : Offered). (entry.0, record { release = o.release; image = o.image; rows = change o.rows }) ∷ entries) (sym same')
    ∙ sym (cond-true (nat_eq serial entry.0) one (entry ∷ at_serial serial change entries) here))
    (λ other.
    let later : lookup (nat_eq serial) entries ≡ Some offer = sym (cond-false (nat_eq serial entry.0) (Some entry.1) (lookup (nat_eq serial) entries) other) ∙ h in
    cond-false (nat_eq serial entry.0) ((entry.0, new) ∷ entries) (entry ∷ set_value (nat_eq serial) entries new) other
    ∙ ap (λ es. entry ∷ es) (at_serial-set_value serial change entries offer later)
    ∙ sym (cond-false (nat_eq serial entry.0) one (entry ∷ at_serial serial change entries) other))
    (cases_Bool (nat_eq serial entry.0))

pub none_from : {X : Type 0} (o : Option X) → is_some o ≡ false → o ≡ None
none_from None h = refl
none_from (Some x) h = absurd (false≢true (sym h))

-- a campaign that isn't there is not changed
pub at_serial-none : (serial : ℕ) (change : List Row → List Row) (entries : List (ℕ × Offered)) → lookup (nat_eq serial) entries ≡ None → at_serial serial change entries ≡ entries
at_serial-none serial change [] h = refl
at_serial-none serial change (entry ∷ entries) h =
    let one : List (ℕ × Offered) = (entry.0, record { release = entry.1.release; image = entry.1.image; rows = change entry.1.rows }) ∷ entries in
    ⊎_elim
    (λ here.
    let same : Some entry.1 ≡ None = sym (cond-true (nat_eq serial entry.0) (Some entry.1) (lookup (nat_eq serial) entries) here) ∙ h in
    cc)
    (λ other.
    let later : lookup (nat_eq serial) entries ≡ None = sym (cond-false (nat_eq serial entry.0) (Some entry.1) (lookup (nat_eq serial) entries) other) ∙ h in
    cond-false (nat_eq serial entry.0) one (entry ∷ at_serial serial change entries) other
    ∙ ap (λ es. entry ∷ es) (at_serial-none serial change entries later))
    (cases_Bool (nat_eq serial entry.0))

pub changed_entries : (serial : ℕ) (change : List Row → List Row) (old new : List (ℕ × Offered)) (offer written : Offered) → lookup (nat_eq serial) old ≡ Some offer → written ≡ record { release = offer.release; image = offer.image; rows = change offer.rows } → new ≡ set_value (nat_eq serial) old written → new ≡ at_serial serial change old
changed_entries serial change old new offer written found write set =
    set ∙ ap (λ (o : Offered). set_value (nat_eq serial) old o) write ∙ at_serial-set_value serial change old offer found

pub same_contents : (h h' : ℕ) (es es' : List (ℕ × Offered)) → h ≡ h' → es ≡ es' → (let b : Contents = record { head = h; campaigns = es } in b) ≡ record { head = h'; campaigns = es' }
same_contents h h' es es' p q =
    let at_head : ℕ → Contents = λ n. record { head = n; campaigns = es } in
    let at_entries : List (ℕ × Offered) → Contents = λ xs. record { head = h'; campaigns = xs } in
    ap at_head p ∙ ap at_entries q
