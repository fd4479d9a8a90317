-- The new rows of the meters that are live in a book, each of which asks first: they make a head end of it, the one that starts again.
use Rattle.std.proofs.Common.{◌≡◌, ℕ, ◌==◌, nat_eq, Bool, true, false, cond, ◌||◌, ◌&&◌, List, [], ◌∷◌, ◌++◌, length, Option, Some, None, option_map, refl, sym, ap, subst, ◌∙◌, ⊎_elim, append_assoc}
use Rattle.std.specs.List.{IsDistinct, AllByRecursion}
use Rattle.std.specs.Map.{lookup, keys_of}
use Rattle.std.proofs.lemmas.List.{map-append}
use Rattle.std.proofs.lemmas.Map.Keys.{IsDistinct-head, IsDistinct-tail, IsDistinct-cons}
use Rattle.std.proofs.lemmas.Bool.{cases_Bool, cond-true, cond-false, false_from_ne_true, false≢true, or_parts, or_left, or_right}
use Rattle.std.proofs.lemmas.Bool.Decides.{Decides-eqb}
use Rattle.fw_names.specs.Name.{Name, Campaign, name_of}
use Rattle.fw_book.specs.declared.row.Row as book_row
use Rattle.fw_book.specs.declared.row.RowState.{RowState}
use Rattle.fw_book.specs.declared.row.RowState.TheVariants.{Live, Done, Failed, Cancelled}
use Rattle.fw_book.specs.Rows.{is_live, meters_of, repeats, state_of, is_live_in}
use Rattle.fw_book.specs.Contents.{Contents, Offered, IsEntry, Apart, AllApart, IsBook, image_in, name_in}
use Rattle.fw_head.specs.Row.{Row, reopened_row}
use Rattle.fw_head.specs.Head.{Rows, row_of, reopened_rows, renewed, asking, IsRowOf, AreRowsOf}
use Rattle.fw_head.specs.Private.{live_meters, rows_in, live_rows}
use Rattle.fw_head.specs.Laws.{BeginsRestarted}
use Rattle.fw_head.proofs.LiveRows.{some_row}
use Rattle.fw_head.proofs.ByMeter.{renew, made_from, made_to, renewed_from, renewed_to}
use Rattle.fw_head.proofs.Openings.{among, either, found_before, found_behind, each_found, each_there, none_row, all_among, all_append, once_behind, keys_each, first, skipped, live_in, state_at, offer_at}

-- ---- the meters that are live in the rows of a campaign

among_live : (rows : List book_row.Row) (m : ℕ) → among (live_meters rows) m ≡ is_live_in rows m
among_live [] m = refl
among_live (row ∷ rows) m = step (is_live row.state) row.meter (live_meters rows) (is_live_in rows m) (among_live rows m)
  where
    step : (l : Bool) (meter : ℕ) (ms : List ℕ) (x : Bool) → among ms m ≡ x → among (cond l (meter ∷ ms) ms) m ≡ (((meter == m) && l) || x)
    step true meter ms x e = go (meter == m)
      where
        go : (b : Bool) → (b || among ms m) ≡ ((b && true) || x)
        go true = refl
        go false = e
    step false meter ms x e = go (meter == m)
      where
        go : (b : Bool) → among ms m ≡ ((b && false) || x)
        go true = e
        go false = e

not_live : (rows : List book_row.Row) (m : ℕ) → among (meters_of rows) m ≡ false → is_live_in rows m ≡ false
not_live [] m h = refl
not_live (row ∷ rows) m h =
    let parts = or_parts (row.meter == m) (among (meters_of rows) m) h in
    ap (λ b. (b && is_live row.state) || is_live_in rows m) parts.0 ∙ not_live rows m parts.1

live_once : (rows : List book_row.Row) → repeats (meters_of rows) ≡ false → IsDistinct nat_eq (live_meters rows)
unfolding IsDistinct
live_once [] once = tt
live_once (row ∷ rows) once =
    let parts = or_parts (among (meters_of rows) row.meter) (repeats (meters_of rows)) once in
    let rest = live_once rows parts.1 in
    let whole : List ℕ = row.meter ∷ live_meters rows in
    let P : List ℕ → Type 0 = λ ms. IsDistinct nat_eq ms in
    ⊎_elim
    (λ live.
    subst P (sym (cond-true (is_live row.state) whole (live_meters rows) live))
    (IsDistinct-cons nat_eq row.meter (live_meters rows) (all_among row.meter (live_meters rows) (among_live rows row.meter ∙ not_live rows row.meter parts.0)) rest))
    (λ ended. subst P (sym (cond-false (is_live row.state) whole (live_meters rows) ended)) rest)
    (cases_Bool (is_live row.state))

is_live_row : (s : RowState) → is_live s ≡ true → s ≡ Live
is_live_row Live e = refl
is_live_row Done e = absurd (false≢true e)
is_live_row Failed e = absurd (false≢true e)
is_live_row Cancelled e = absurd (false≢true e)

-- if no meter stands twice, one that is live has the state
live_state : (rows : List book_row.Row) (m : ℕ) → repeats (meters_of rows) ≡ false → is_live_in rows m ≡ true → state_of rows m ≡ Some Live
live_state [] m once live = absurd (false≢true live)
live_state (row ∷ rows) m once live =
    let parts = or_parts (among (meters_of rows) row.meter) (repeats (meters_of rows)) once in
    ⊎_elim
    (λ here.
    let same : row.meter ≡ m = (Decides-eqb row.meter m).0 here in
    let others : is_live_in rows m ≡ false = not_live rows m (ap (λ k. among (meters_of rows) k) (sym same) ∙ parts.0) in
    ⊎_elim
    (λ is. first row rows m here ∙ ap (λ (s : RowState). (let o : Option RowState = Some s in o)) (is_live_row row.state is))
    (λ ended. absurd (false≢true (sym (ap (λ b. (b && is_live row.state) || is_live_in rows m) here ∙ ap (λ b. b || is_live_in rows m) ended ∙ others) ∙ live)))
    (cases_Bool (is_live row.state)))
    (λ away. skipped row rows m away ∙ live_state rows m parts.1 (ap (λ b. (b && is_live row.state) || is_live_in rows m) (sym away) ∙ live))
    (cases_Bool (row.meter == m))

-- ---- the rows of a campaign

abbrev row_in : ℕ → ℕ → Offered → ℕ → Row
row_in head serial offer m =
    let campaign : Campaign = record { head = head; serial = serial } in
    reopened_row m (name_of campaign offer.release offer.image) (length offer.image)

-- the row that asks first
abbrev ask : Row → Row
ask row = record row { asks_first = true }

-- and is new
abbrev reopen : Row → Row
reopen row = reopened_row row.client.meter row.name row.size

some_offer : (a b : Offered) → (let o : Option Offered = Some a in o ≡ Some b) → a ≡ b
some_offer a b e = cc

none_offer : (offer : Offered) → (let o : Option Offered = None in o ≡ Some offer) → ⊥
none_offer offer e = cc

at_lookup : (P : ℕ × Offered → Type 0) (k : ℕ) (entries : List (ℕ × Offered)) (offer : Offered) → AllByRecursion P entries → lookup (nat_eq k) entries ≡ Some offer → P (k, offer)
at_lookup P k [] offer all found = absurd (none_offer offer found)
at_lookup P k (entry ∷ entries) offer all found =
    ⊎_elim
    (λ here.
    let same : entry.1 ≡ offer = some_offer entry.1 offer (sym (cond-true (nat_eq k entry.0) (Some entry.1) (lookup (nat_eq k) entries) here) ∙ found) in
    let at : k ≡ entry.0 = (Decides-eqb k entry.0).0 here in
    let Q : ℕ → Type 0 = λ n. P (n, entry.1) in
    let R : Offered → Type 0 = λ o. P (k, o) in
    subst R same (subst Q (sym at) all.0))
    (λ away. at_lookup P k entries offer all.1 (sym (cond-false (nat_eq k entry.0) (Some entry.1) (lookup (nat_eq k) entries) away) ∙ found))
    (cases_Bool (nat_eq k entry.0))

-- a meter that isn't live in a campaign has no row there
none_in : (head : ℕ) (entry : ℕ × Offered) (m : ℕ) → is_live_in entry.1.rows m ≡ false → row_of (rows_in head entry) m ≡ None
none_in head entry m ended =
    ⊎_elim
    (λ none. none)
    (λ found. absurd (false≢true (sym (among_live entry.1.rows m ∙ ended) ∙ (each_found (row_in head entry.0 entry.1) (live_meters entry.1.rows) m found.0 found.1).1)))
    (either (row_of (rows_in head entry) m))

-- a campaign beside another: who is live there isn't live here
ended_beside : (entry other : ℕ × Offered) (m : ℕ) → Apart entry other → is_live_in other.1.rows m ≡ true → is_live_in entry.1.rows m ≡ false
ended_beside entry other m apart live =
    false_from_ne_true (is_live_in entry.1.rows m) (λ also. false≢true (sym (apart.live m also) ∙ live))

-- ---- the rows of all campaigns

there : (head : ℕ) (entries : List (ℕ × Offered)) → AllApart entries → (serial : ℕ) (offer : Offered) (m : ℕ) → lookup (nat_eq serial) entries ≡ Some offer → is_live_in offer.rows m ≡ true
    → row_of (live_rows head entries) m ≡ Some (row_in head serial offer m)
there head [] apart serial offer m found live = absurd (none_offer offer found)
there head (entry ∷ entries) apart serial offer m found live =
    let rest = live_rows head entries in
    ⊎_elim
    (λ here.
    let same : entry.1 ≡ offer = some_offer entry.1 offer (sym (cond-true (nat_eq serial entry.0) (Some entry.1) (lookup (nat_eq serial) entries) here) ∙ found) in
    let at : serial ≡ entry.0 = (Decides-eqb serial entry.0).0 here in
    let among_them : among (live_meters entry.1.rows) m ≡ true = among_live entry.1.rows m ∙ ap (λ (o : Offered). is_live_in o.rows m) same ∙ live in
    found_before m (rows_in head entry) rest (row_in head entry.0 entry.1 m) (each_there (row_in head entry.0 entry.1) (live_meters entry.1.rows) m among_them)
    ∙ ap (λ n. (let o : Option Row = Some (row_in head n entry.1 m) in o)) (sym at)
    ∙ ap (λ (x : Offered). (let o : Option Row = Some (row_in head serial x m) in o)) same)
    (λ away.
    let later : lookup (nat_eq serial) entries ≡ Some offer = sym (cond-false (nat_eq serial entry.0) (Some entry.1) (lookup (nat_eq serial) entries) away) ∙ found in
    let beside : Apart entry (serial, offer) = at_lookup (λ other. Apart entry other) serial entries offer apart.0 later in
    found_behind m (rows_in head entry) rest (none_in head entry m (ended_beside entry (serial, offer) m beside live)) ∙ there head entries apart.1 serial offer m later live)
    (cases_Bool (nat_eq serial entry.0))

-- the campaign of a row that is found
record Of (head : ℕ) (entries : List (ℕ × Offered)) (m : ℕ) (row : Row) : Type 0 where
  pub serial : ℕ
  pub offer : Offered
  pub found : lookup (nat_eq serial) entries ≡ Some offer
  pub live : is_live_in offer.rows m ≡ true
  pub is : row ≡ row_in head serial offer m

back : (head : ℕ) (entries : List (ℕ × Offered)) → AllApart entries → (m : ℕ) (row : Row) → row_of (live_rows head entries) m ≡ Some row → Of head entries m row
back head [] apart m row found = absurd (none_row row found)
back head (entry ∷ entries) apart m row found =
    let rest = live_rows head entries in
    ⊎_elim
    (λ none.
    let later = back head entries apart.1 m row (sym (found_behind m (rows_in head entry) rest none) ∙ found) in
    let beside : Apart entry (later.serial, later.offer) = at_lookup (λ other. Apart entry other) later.serial entries later.offer apart.0 later.found in
    let away : nat_eq later.serial entry.0 ≡ false = false_from_ne_true (nat_eq later.serial entry.0) (λ same. beside.serials (sym ((Decides-eqb later.serial entry.0).0 same))) in
    record {
      serial = later.serial;
      offer = later.offer;
      found = cond-false (nat_eq later.serial entry.0) (Some entry.1) (lookup (nat_eq later.serial) entries) away ∙ later.found;
      live = later.live;
      is = later.is;
    })
    (λ here.
    let same : here.0 ≡ row = some_row here.0 row (sym (found_before m (rows_in head entry) rest here.0 here.1) ∙ found) in
    let new = each_found (row_in head entry.0 entry.1) (live_meters entry.1.rows) m here.0 here.1 in
    record {
      serial = entry.0;
      offer = entry.1;
      found = cond-true (nat_eq entry.0 entry.0) (Some entry.1) (lookup (nat_eq entry.0) entries) ((Decides-eqb entry.0 entry.0).1 refl);
      live = sym (among_live entry.1.rows m) ∙ new.1;
      is = sym same ∙ new.0;
    })
    (either (row_of (rows_in head entry) m))

-- ---- no meter has two

all_of : (P : ℕ → Type 0) (ms : List ℕ) → ((m : ℕ) → among ms m ≡ true → P m) → AllByRecursion P ms
all_of P [] f = tt
all_of P (m ∷ ms) f =
    (f m (or_left (m == m) (among ms m) ((Decides-eqb m m).1 refl)), all_of P ms (λ n h. f n (or_right (m == n) (among ms n) h)))

keys_in : (head : ℕ) (entry : ℕ × Offered) → keys_of (rows_in head entry) ≡ live_meters entry.1.rows
keys_in head entry = keys_each (row_in head entry.0 entry.1) (live_meters entry.1.rows)

keys_more : (head : ℕ) (entry : ℕ × Offered) (rest : Rows) → keys_of (rows_in head entry ++ rest) ≡ keys_of (rows_in head entry) ++ keys_of rest
keys_more head entry rest = map-append (λ (e : ℕ × Row). e.0) (rows_in head entry) rest

none_beside : (head : ℕ) (entry : ℕ × Offered) (entries : List (ℕ × Offered)) → AllByRecursion (λ (other : ℕ × Offered). Apart entry other) entries
    → AllByRecursion (λ m. row_of (rows_in head entry) m ≡ None) (keys_of (live_rows head entries))
none_beside head entry [] apart = tt
none_beside head entry (other ∷ others) apart =
    let N : ℕ → Type 0 = λ m. row_of (rows_in head entry) m ≡ None in
    let P : List ℕ → Type 0 = λ ks. AllByRecursion N ks in
    let here : P (live_meters other.1.rows) =
    all_of N (live_meters other.1.rows) (λ m is. none_in head entry m (ended_beside entry other m apart.0 (sym (among_live other.1.rows m) ∙ is))) in
    subst P (sym (keys_more head other (live_rows head others)))
    (all_append N (keys_of (rows_in head other)) (keys_of (live_rows head others)) (subst P (sym (keys_in head other)) here) (none_beside head entry others apart.1))

once : (head : ℕ) (entries : List (ℕ × Offered)) → AllByRecursion (λ (entry : ℕ × Offered). IsEntry entry) entries → AllApart entries → IsDistinct nat_eq (keys_of (live_rows head entries))
unfolding IsDistinct
once head [] are apart = tt
once head (entry ∷ entries) are apart =
    let P : List ℕ → Type 0 = λ ks. IsDistinct nat_eq ks in
    subst P (sym (keys_more head entry (live_rows head entries)))
    (once_behind (rows_in head entry) (keys_of (live_rows head entries)) (subst P (sym (keys_in head entry)) (live_once entry.1.rows are.0.meters_once)) (once head entries are.1 apart.1) (none_beside head entry entries apart.0))

-- ---- the head end

row_live : (book : Contents) (m : ℕ) (row : Row) → IsBook book → Of book.head book.campaigns m row → IsRowOf book m row
row_live book m row is of =
    let c : Campaign = record { head = book.head; serial = of.serial } in
    let own : (c.head == book.head) ≡ true = (Decides-eqb book.head book.head).1 refl in
    let offered : cond (c.head == book.head) (lookup (nat_eq c.serial) book.campaigns) None ≡ Some of.offer =
    cond-true (c.head == book.head) (lookup (nat_eq c.serial) book.campaigns) None own ∙ of.found in
    let entry : IsEntry (of.serial, of.offer) = at_lookup (λ e. IsEntry e) of.serial book.campaigns of.offer is.entries of.found in
    let P : Row → Type 0 = λ r. IsRowOf book m r in
    subst P (sym of.is)
    (record {
      asks = refl;
      live = ap (λ (o : Option Offered). state_at m o) offered ∙ live_state of.offer.rows m entry.meters_once of.live;
      named = ap (λ (o : Option Offered). option_map (λ (offer : Offered). name_of c offer.release offer.image) o) offered;
      sized = ap (λ (o : Option Offered). option_map length (option_map (λ (offer : Offered). offer.image) o)) offered;
      going = tt;
    })

pub are_rows : (book : Contents) → IsBook book → AreRowsOf book (live_rows book.head book.campaigns)
are_rows book is =
    record {
      of_book = λ m row found. row_live book m row is (back book.head book.campaigns is.apart m row found);
      of_rows = λ c m live.
          let at = offer_at m Live (c.head == book.head) (lookup (nat_eq c.serial) book.campaigns) live in
          let own : c.head ≡ book.head = (Decides-eqb c.head book.head).0 at.0 in (
            row_in book.head c.serial at.1.0 m,
            there book.head book.campaigns is.apart c.serial at.1.0 m at.1.1 (live_in at.1.0.rows m at.1.2),
            ap (λ n. (let x : Campaign = record { head = n; serial = c.serial } in x)) (sym own),
          );
      once = once book.head book.campaigns is.entries is.apart;
    }

-- each of them is new, except that it asks first

reopened_append : (es fs : Rows) → asking (renewed (es ++ fs)) ≡ asking (renewed es) ++ asking (renewed fs)
reopened_append es fs =
    ap (λ (rs : Rows). asking rs) (map-append (λ (entry : ℕ × Row). (entry.0, renew entry.1)) es fs)
    ∙ map-append (λ (entry : ℕ × Row). (entry.0, ask entry.1)) (renewed es) (renewed fs)

reopened_new : (name : Name) (size : ℕ) (ms : List ℕ) → asking (renewed (reopened_rows name size ms)) ≡ reopened_rows name size ms
reopened_new name size [] = refl
reopened_new name size (m ∷ ms) = ap (λ (es : Rows). (let all : Rows = (m, reopened_row m name size) ∷ es in all)) (reopened_new name size ms)

pub all_new : (head : ℕ) (entries : List (ℕ × Offered)) → asking (renewed (live_rows head entries)) ≡ live_rows head entries
all_new head [] = refl
all_new head (entry ∷ entries) =
    reopened_append (rows_in head entry) (live_rows head entries)
    ∙ ap (λ (es : Rows). es ++ asking (renewed (live_rows head entries))) (reopened_new (row_in head entry.0 entry.1 0).name (length entry.1.image) (live_meters entry.1.rows))
    ∙ ap (λ (es : Rows). rows_in head entry ++ es) (all_new head entries)

-- ---- it is the one that starts again

some_name : (a b : Name) → (let o : Option Name = Some a in o ≡ Some b) → a ≡ b
some_name a b e = cc

some_size : (a b : ℕ) → (let o : Option ℕ = Some a in o ≡ Some b) → a ≡ b
some_size a b e = cc

-- a row that asks first, where the meter has one, is made of that
reopened_from : (es : Rows) (m : ℕ) (x : Row) → row_of (asking (renewed es)) m ≡ Some x → (row : Row) × (row_of es m ≡ Some row) × (x ≡ reopen row)
reopened_from es m x found =
    let asks = made_from ask (renewed es) m x found in
    let was = renewed_from es m asks.0 asks.1 in
    (was.0, was.1, asks.2 ∙ ap ask was.2)

reopened_to : (es : Rows) (m : ℕ) (row : Row) → row_of es m ≡ Some row → row_of (asking (renewed es)) m ≡ Some (reopen row)
reopened_to es m row found = made_to ask (renewed es) m (renew row) (renewed_to es m row found)

pub begins_restarted : BeginsRestarted
begins_restarted head begun is begins =
    record { book = begins.book_is; width = begins.width_is; rows = same }
  where
    -- a row of the one is that of the other
    alike : (m : ℕ) (row was : Row) → IsRowOf head.book m row → IsRowOf head.book m was → row.name.campaign ≡ was.name.campaign → reopen row ≡ reopen was
    alike m row was a b same_of =
        let names : row.name ≡ was.name = some_name row.name was.name (sym a.named ∙ ap (λ c. name_in head.book c) same_of ∙ b.named) in
        let sizes : row.size ≡ was.size = some_size row.size was.size (sym a.sized ∙ ap (λ c. option_map length (image_in head.book c)) same_of ∙ b.sized) in
        ap (λ k. reopened_row k row.name row.size) (a.asks ∙ sym b.asks)
        ∙ ap (λ n. reopened_row was.client.meter n row.size) names
        ∙ ap (λ k. reopened_row was.client.meter was.name k) sizes

    same : (m : ℕ) → row_of begun.rows m ≡ row_of (asking (renewed head.rows)) m
    same m =
        ⊎_elim
        (λ none.
        none ∙ ⊎_elim
        (λ none_either. sym none_either)
        (λ found.
        let was = reopened_from head.rows m found.0 found.1 in
        let there_is = begins.live.of_rows was.0.name.campaign m (is.of_book m was.0 was.1).live in
        absurd (none_row there_is.0 (sym none ∙ there_is.1)))
        (either (row_of (asking (renewed head.rows)) m)))
        (λ found.
        let new = reopened_from begun.rows m found.0 (ap (λ (es : Rows). row_of es m) begins.new ∙ found.1) in
        let row = begins.live.of_book m new.0 new.1 in
        let was = is.of_rows new.0.name.campaign m row.live in
        found.1
        ∙ ap (λ (r : Row). (let o : Option Row = Some r in o)) (new.2 ∙ alike m new.0 was.0 row (is.of_book m was.0 was.1) (sym was.2))
        ∙ sym (reopened_to head.rows m was.0 was.1))
        (either (row_of begun.rows m))

-- ---- one campaign after the other, and one row after the other

pub meters_live : (row : book_row.Row) (rows : List book_row.Row) → is_live row.state ≡ true → live_meters (row ∷ rows) ≡ row.meter ∷ live_meters rows
meters_live row rows live = cond-true (is_live row.state) (row.meter ∷ live_meters rows) (live_meters rows) live

pub meters_ended : (row : book_row.Row) (rows : List book_row.Row) → is_live row.state ≡ false → live_meters (row ∷ rows) ≡ live_meters rows
meters_ended row rows ended = cond-false (is_live row.state) (row.meter ∷ live_meters rows) (live_meters rows) ended

front_all : (P : ℕ → Type 0) (xs ys : List ℕ) → AllByRecursion P (xs ++ ys) → AllByRecursion P xs
front_all P [] ys all = tt
front_all P (x ∷ xs) ys all = (all.0, front_all P xs ys all.1)

front_once : (xs ys : List ℕ) → IsDistinct nat_eq (xs ++ ys) → IsDistinct nat_eq xs
unfolding IsDistinct
front_once [] ys h = tt
front_once (x ∷ xs) ys h =
    IsDistinct-cons nat_eq x xs (front_all (λ y. nat_eq x y ≡ false) xs ys (IsDistinct-head nat_eq x (xs ++ ys) h)) (front_once xs ys (IsDistinct-tail nat_eq x (xs ++ ys) h))

-- the meters of the next campaign have no row yet
pub next_once : (book : Contents) (es : Rows) (entry : ℕ × Offered) (entries : List (ℕ × Offered)) → IsBook book
    → es ++ live_rows book.head (entry ∷ entries) ≡ live_rows book.head book.campaigns → IsDistinct nat_eq (keys_of es ++ live_meters entry.1.rows)
next_once book es entry entries is whole =
    let key : ℕ × Row → ℕ = λ e. e.0 in
    let P : List ℕ → Type 0 = λ ks. IsDistinct nat_eq ks in
    let these = rows_in book.head entry in
    let rest = live_rows book.head entries in
    let split : keys_of (live_rows book.head book.campaigns) ≡ (keys_of es ++ live_meters entry.1.rows) ++ keys_of rest =
    ap (λ (rs : Rows). keys_of rs) (sym whole)
    ∙ map-append key es (these ++ rest)
    ∙ ap (λ (ks : List ℕ). keys_of es ++ ks) (keys_more book.head entry rest ∙ ap (λ (ks : List ℕ). ks ++ keys_of rest) (keys_in book.head entry))
    ∙ sym (append_assoc (keys_of es) (live_meters entry.1.rows) (keys_of rest)) in
    front_once (keys_of es ++ live_meters entry.1.rows) (keys_of rest) (subst P split (once book.head book.campaigns is.entries is.apart))
