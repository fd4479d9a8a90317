-- Rows in any order: when they are the live ones of a book.
use Rattle.std.proofs.Common.{◌≡◌, ℕ, ◌==◌, nat_eq, not, Bool, true, false, cond, ◌||◌, ◌&&◌, find, List, [], ◌∷◌, ◌++◌, append_assoc, map, Option, Some, None, option_map, MatchBool, refl, sym, ap, subst, ◌∙◌, ⊎_elim}
use Rattle.std.specs.List.{IsDistinct, AllByRecursion, list_any, list_all}
use Rattle.std.specs.Map.{lookup, keys_of, values_of}
use Rattle.std.specs.Option.{option_and_then}
use Rattle.std.proofs.lemmas.List.{map-append}
use Rattle.std.proofs.lemmas.Map.Keys.{IsDistinct-head, IsDistinct-tail, IsDistinct-cons}
use Rattle.std.proofs.lemmas.Bool.{cases_Bool, cond-true, cond-false, false≢true, or_parts, and_from, false_from_ne_true}
use Rattle.std.proofs.lemmas.Bool.Decides.{Decides-eqb}
use Rattle.fw_names.specs.Name.{Campaign}
use Rattle.fw_book.specs.declared.row.Row as book_row
use Rattle.fw_book.specs.declared.row.RowState.{RowState}
use Rattle.fw_book.specs.declared.row.RowState.TheVariants.{Live}
use Rattle.fw_book.specs.Rows.{is_live, state_of, meters_of, repeats as book_repeats}
use Rattle.fw_book.specs.Contents.{Contents, Offered, state_in, IsEntry, Apart, AllApart, IsBook}
use Rattle.fw_head.specs.Row.{Row, new_row}
use Rattle.fw_head.specs.Head.{Rows, row_of, renewed, IsRowOf, AreRowsOf}
use Rattle.fw_head.specs.Parts.{by_meter, AreLiveRows}
use Rattle.fw_head.specs.Private.{IsOfBook, repeats, is_row_in, has_rows, has_each}
use Rattle.fw_head.proofs.LiveRows.{some_row}
use Rattle.fw_head.proofs.NewRows.{flipped, absent}
use Rattle.fw_head.proofs.SameRows.{keys_renewed, agree_renewed, head_kept}
use Rattle.fw_head.proofs.States.{same_campaign, of_head}
use Rattle.fw_head.proofs.Openings.{skipped, first, offer_at}

-- ---- rows by their meters

pub first_row : (meter : ℕ) (rows : List Row) → find (λ (row : Row). meter == row.client.meter) rows ≡ row_of (by_meter rows) meter
first_row meter [] = refl
first_row meter (row ∷ rows) = ap (λ (o : Option Row). cond (nat_eq meter row.client.meter) (Some row) o) (first_row meter rows)

none_row : (row : Row) → (let o : Option Row = None in o ≡ Some row) → ⊥
none_row row e = cc

-- what holds of each row holds of the one that is found, and that is the meter's
pub all_at : (P : Row → Type 0) (rows : List Row) (m : ℕ) (row : Row) → AllByRecursion P rows → row_of (by_meter rows) m ≡ Some row → P row × (row.client.meter ≡ m)
all_at P [] m row all found = absurd (none_row row found)
all_at P (r ∷ rows) m row all found =
    ⊎_elim
    (λ here.
    let same : r ≡ row = some_row r row (sym (cond-true (nat_eq m r.client.meter) (Some r) (row_of (by_meter rows) m) here) ∙ found) in
    (subst P same all.0, ap (λ (x : Row). x.client.meter) (sym same) ∙ sym ((Decides-eqb m r.client.meter).0 here)))
    (λ away. all_at P rows m row all.1 (sym (cond-false (nat_eq m r.client.meter) (Some r) (row_of (by_meter rows) m) away) ∙ found))
    (cases_Bool (nat_eq m r.client.meter))

pub none_of : (k : ℕ) (es : Rows) → AllByRecursion (λ y. nat_eq k y ≡ false) (keys_of es) → row_of es k ≡ None
none_of k [] all = refl
none_of k (entry ∷ es) all = cond-false (nat_eq k entry.0) (Some entry.1) (lookup (nat_eq k) es) all.0 ∙ none_of k es all.1

-- if the meters differ, what is found after the first row isn't the first row's
pub behind : (entry : ℕ × Row) (es : Rows) (m : ℕ) (row : Row) → IsDistinct nat_eq (keys_of (entry ∷ es)) → row_of es m ≡ Some row → nat_eq m entry.0 ≡ false
behind entry es m row once found =
    false_from_ne_true (nat_eq m entry.0) (λ same.
    let none = none_of entry.0 es (IsDistinct-head nat_eq entry.0 (keys_of es) once) in
    none_row row (sym none ∙ ap (λ k. row_of es k) (sym ((Decides-eqb m entry.0).0 same)) ∙ found))

-- what holds of each row that is found holds of all
pub all_from : (P : Row → Type 0) (rows : List Row) → IsDistinct nat_eq (keys_of (by_meter rows)) → ((m : ℕ) (row : Row) → row_of (by_meter rows) m ≡ Some row → P row) → AllByRecursion P rows
all_from P [] once holds = tt
all_from P (r ∷ rows) once holds = (
  holds r.client.meter r (cond-true (nat_eq r.client.meter r.client.meter) (Some r) (row_of (by_meter rows) r.client.meter) ((Decides-eqb r.client.meter r.client.meter).1 refl)),
  all_from P rows (IsDistinct-tail nat_eq r.client.meter (keys_of (by_meter rows)) once)
      (λ m row found. holds m row (cond-false (nat_eq m r.client.meter) (Some r) (row_of (by_meter rows) m) (behind (r.client.meter, r) (by_meter rows) m row once found) ∙ found)),
)

abbrev pub renew : Row → Row
renew row = new_row row.client.meter row.name row.size

-- of each row this is made
abbrev pub made : (Row → Row) → Rows → Rows
made f es = map (λ (entry : ℕ × Row). (entry.0, f entry.1)) es

row_made : (f : Row → Row) (es : Rows) (m : ℕ) → row_of (made f es) m ≡ option_map f (row_of es m)
row_made f [] m = refl
row_made f (entry ∷ es) m =
    ⊎_elim
    (λ here.
    cond-true (nat_eq m entry.0) (Some (f entry.1)) (lookup (nat_eq m) (made f es)) here
    ∙ ap (λ (o : Option Row). option_map f o) (sym (cond-true (nat_eq m entry.0) (Some entry.1) (lookup (nat_eq m) es) here)))
    (λ away.
    cond-false (nat_eq m entry.0) (Some (f entry.1)) (lookup (nat_eq m) (made f es)) away
    ∙ row_made f es m
    ∙ ap (λ (o : Option Row). option_map f o) (sym (cond-false (nat_eq m entry.0) (Some entry.1) (lookup (nat_eq m) es) away)))
    (cases_Bool (nat_eq m entry.0))

mapped : (f : Row → Row) (o : Option Row) (x : Row) → option_map f o ≡ Some x → (row : Row) × (o ≡ Some row) × (x ≡ f row)
mapped f None x e = absurd (none_row x e)
mapped f (Some row) x e = (row, refl, sym (some_row (f row) x e))

-- a row that is found among them was made of one
pub made_from : (f : Row → Row) (es : Rows) (m : ℕ) (x : Row) → row_of (made f es) m ≡ Some x → (row : Row) × (row_of es m ≡ Some row) × (x ≡ f row)
made_from f es m x found = mapped f (row_of es m) x (sym (row_made f es m) ∙ found)

pub made_to : (f : Row → Row) (es : Rows) (m : ℕ) (row : Row) → row_of es m ≡ Some row → row_of (made f es) m ≡ Some (f row)
made_to f es m row found = row_made f es m ∙ ap (λ (o : Option Row). option_map f o) found

-- so it is with new ones
pub renewed_from : (es : Rows) (m : ℕ) (x : Row) → row_of (renewed es) m ≡ Some x → (row : Row) × (row_of es m ≡ Some row) × (x ≡ renew row)
renewed_from es m x found = made_from renew es m x found

pub renewed_to : (es : Rows) (m : ℕ) (row : Row) → row_of es m ≡ Some row → row_of (renewed es) m ≡ Some (renew row)
renewed_to es m row found = made_to renew es m row found

-- ---- no meter twice

apart : (row : Row) (rows : List Row) → list_any (λ (other : Row). other.client.meter == row.client.meter) rows ≡ false → AllByRecursion (λ y. nat_eq row.client.meter y ≡ false) (keys_of (by_meter rows))
apart row [] none = tt
apart row (r ∷ rows) none =
    let parts = or_parts (r.client.meter == row.client.meter) (list_any (λ (other : Row). other.client.meter == row.client.meter) rows) none in
    (flipped r.client.meter row.client.meter parts.0, apart row rows parts.1)

pub once_of : (rows : List Row) → repeats rows ≡ false → IsDistinct nat_eq (keys_of (by_meter rows))
unfolding IsDistinct
once_of [] none = tt
once_of (row ∷ rows) none =
    let parts = or_parts (list_any (λ (other : Row). other.client.meter == row.client.meter) rows) (repeats rows) none in
    IsDistinct-cons nat_eq row.client.meter (keys_of (by_meter rows)) (apart row rows parts.0) (once_of rows parts.1)

none_any : (row : Row) (rows : List Row) → AllByRecursion (λ y. nat_eq row.client.meter y ≡ false) (keys_of (by_meter rows)) → list_any (λ (other : Row). other.client.meter == row.client.meter) rows ≡ false
none_any row [] all = refl
none_any row (r ∷ rows) all =
    ap (λ b. b || list_any (λ (other : Row). other.client.meter == row.client.meter) rows) (flipped row.client.meter r.client.meter all.0)
    ∙ none_any row rows all.1

pub repeats_none : (rows : List Row) → IsDistinct nat_eq (keys_of (by_meter rows)) → repeats rows ≡ false
repeats_none [] once = refl
repeats_none (row ∷ rows) once =
    ap (λ b. b || repeats rows) (none_any row rows (IsDistinct-head nat_eq row.client.meter (keys_of (by_meter rows)) once))
    ∙ repeats_none rows (IsDistinct-tail nat_eq row.client.meter (keys_of (by_meter rows)) once)

-- ---- each live meter of a book has its row

-- each meter that is live in a campaign of the book has a row of that campaign
abbrev pub HasEach : Contents → Rows → Type 0
HasEach book es = (c : Campaign) (m : ℕ) → state_in book c m ≡ Some Live → (row : Row) × (row_of es m ≡ Some row) × (row.name.campaign ≡ c)

none_live : (let o : Option RowState = None in o ≡ Some Live) → ⊥
none_live e = cc

some_state : (a b : RowState) → (let o : Option RowState = Some a in o ≡ Some b) → a ≡ b
some_state a b e = cc

some_offer : (a b : Offered) → (let o : Option Offered = Some a in o ≡ Some b) → a ≡ b
some_offer a b e = cc

-- a live row that is there passes the test of the rows
and_parts : (a b : Bool) → a && b ≡ true → (a ≡ true) × (b ≡ true)
and_parts true true e = (refl, refl)
and_parts true false e = absurd (false≢true e)
and_parts false b e = absurd (false≢true e)

not_or : (a b : Bool) → not a || b ≡ true → a ≡ true → b ≡ true
not_or true b e is = e
not_or false b e is = absurd (false≢true is)

test_of : (a b : Bool) → (a ≡ true → b ≡ true) → not a || b ≡ true
test_of true b f = f refl
test_of false b f = refl

live_test : (s : RowState) → is_live s ≡ true → s ≡ Live
live_test Live e = refl
live_test s e = absurd (false≢true e)

abbrev has_at : Rows → ℕ → ℕ → Bool
has_at es serial m = is_row_in serial (row_of es m)

-- if each live row has its own, so does a meter whose state is live
row_there : (es : Rows) (serial : ℕ) (rows : List book_row.Row) (m : ℕ) → has_rows es serial rows ≡ true → state_of rows m ≡ Some Live → has_at es serial m ≡ true
row_there es serial [] m all live = absurd (none_live live)
row_there es serial (row ∷ rows) m all live =
    let parts = and_parts (not (is_live row.state) || has_at es serial row.meter) (has_rows es serial rows) all in
    ⊎_elim
    (λ here.
    let is : row.state ≡ Live = some_state row.state Live (sym (first row rows m here) ∙ live) in
    ap (λ k. has_at es serial k) (sym ((Decides-eqb row.meter m).0 here)) ∙ not_or (is_live row.state) (has_at es serial row.meter) parts.0 (ap is_live is))
    (λ away. row_there es serial rows m parts.1 (sym (skipped row rows m away) ∙ live))
    (cases_Bool (row.meter == m))

offer_there : (es : Rows) (campaigns : List (ℕ × Offered)) (serial : ℕ) (offer : Offered) → has_each es campaigns ≡ true → lookup (nat_eq serial) campaigns ≡ Some offer → has_rows es serial offer.rows ≡ true
offer_there es [] serial offer all found = absurd (none_offer offer found)
  where
    none_offer : (offer : Offered) → (let o : Option Offered = None in o ≡ Some offer) → ⊥
    none_offer offer e = cc
offer_there es (entry ∷ campaigns) serial offer all found =
    let parts = and_parts (has_rows es entry.0 entry.1.rows) (has_each es campaigns) all in
    ⊎_elim
    (λ here.
    let same : entry.1 ≡ offer = some_offer entry.1 offer (sym (cond-true (nat_eq serial entry.0) (Some entry.1) (lookup (nat_eq serial) campaigns) here) ∙ found) in
    ap (λ k. has_rows es k offer.rows) ((Decides-eqb serial entry.0).0 here) ∙ ap (λ (o : Offered). has_rows es entry.0 o.rows) (sym same) ∙ parts.0)
    (λ away. offer_there es campaigns serial offer parts.1 (sym (cond-false (nat_eq serial entry.0) (Some entry.1) (lookup (nat_eq serial) campaigns) away) ∙ found))
    (cases_Bool (nat_eq serial entry.0))

row_in : (serial : ℕ) (o : Option Row) → is_row_in serial o ≡ true → (row : Row) × (o ≡ Some row) × (row.name.campaign.serial ≡ serial)
row_in serial None e = absurd (false≢true e)
row_in serial (Some row) e = (row, refl, (Decides-eqb row.name.campaign.serial serial).0 e)

pub each_from : (book : Contents) (rows : List Row) → AllByRecursion (IsOfBook book) rows → has_each (by_meter rows) book.campaigns ≡ true → HasEach book (by_meter rows)
each_from book rows all has c m live =
    let at = offer_at m Live (c.head == book.head) (lookup (nat_eq c.serial) book.campaigns) live in
    let there = row_there (by_meter rows) c.serial at.1.0.rows m (offer_there (by_meter rows) book.campaigns c.serial at.1.0 has at.1.1) at.1.2 in
    let own = row_in c.serial (row_of (by_meter rows) m) there in
    let of = (all_at (IsOfBook book) rows m own.0 all own.1).0 in
    (own.0, own.1, same_campaign own.0.name.campaign c (of_head book own.0.name.campaign own.0.client.meter of.live ∙ sym (of_head book c m live)) own.2)

-- ---- and the other way round: in a book each row's state is that of its meter, and each campaign is found by its serial number

both : {X : Type 0} (P Q R : X → Type 0) (xs : List X) → ((x : X) → P x → Q x → R x) → AllByRecursion P xs → AllByRecursion Q xs → AllByRecursion R xs
both P Q R [] f h k = tt
both P Q R (x ∷ xs) f h k = (f x h.0 k.0, both P Q R xs f h.1 k.1)

others_apart : (row : book_row.Row) (rows : List book_row.Row) → list_any (λ m. m == row.meter) (meters_of rows) ≡ false → AllByRecursion (λ (r : book_row.Row). (row.meter == r.meter) ≡ false) rows
others_apart row [] none = tt
others_apart row (r ∷ rows) none =
    let parts = or_parts (r.meter == row.meter) (list_any (λ m. m == row.meter) (meters_of rows)) none in
    (flipped r.meter row.meter parts.0, others_apart row rows parts.1)

own_states : (rows : List book_row.Row) → book_repeats (meters_of rows) ≡ false → AllByRecursion (λ (r : book_row.Row). state_of rows r.meter ≡ Some r.state) rows
own_states [] once = tt
own_states (row ∷ rows) once =
    let parts = or_parts (list_any (λ m. m == row.meter) (meters_of rows)) (book_repeats (meters_of rows)) once in (
      first row rows row.meter ((Decides-eqb row.meter row.meter).1 refl),
      both (λ (r : book_row.Row). (row.meter == r.meter) ≡ false) (λ (r : book_row.Row). state_of rows r.meter ≡ Some r.state) (λ (r : book_row.Row). state_of (row ∷ rows) r.meter ≡ Some r.state) rows
          (λ r away own. skipped row rows r.meter away ∙ own)
          (others_apart row rows parts.0) (own_states rows parts.1),
    )

all_pass : {X : Type 0} (test : X → Bool) (P : X → Type 0) (xs : List X) → ((x : X) → P x → test x ≡ true) → AllByRecursion P xs → list_all test xs ≡ true
all_pass test P [] f h = refl
all_pass test P (x ∷ xs) f h = and_from (test x) (list_all test xs) (f x h.0) (all_pass test P xs f h.1)

own_offers : (campaigns : List (ℕ × Offered)) → AllApart campaigns → AllByRecursion (λ (entry : ℕ × Offered). lookup (nat_eq entry.0) campaigns ≡ Some entry.1) campaigns
own_offers [] h = tt
own_offers (entry ∷ campaigns) h = (
  cond-true (nat_eq entry.0 entry.0) (Some entry.1) (lookup (nat_eq entry.0) campaigns) ((Decides-eqb entry.0 entry.0).1 refl),
  both (λ (other : ℕ × Offered). Apart entry other) (λ (other : ℕ × Offered). lookup (nat_eq other.0) campaigns ≡ Some other.1) (λ (other : ℕ × Offered). lookup (nat_eq other.0) (entry ∷ campaigns) ≡ Some other.1) campaigns
      (λ other away own.
      cond-false (nat_eq other.0 entry.0) (Some entry.1) (lookup (nat_eq other.0) campaigns) (false_from_ne_true (nat_eq other.0 entry.0) (λ same. away.serials (sym ((Decides-eqb other.0 entry.0).0 same)))) ∙ own)
      h.0 (own_offers campaigns h.1),
)

pub has_from : (book : Contents) (es : Rows) → IsBook book → HasEach book es → has_each es book.campaigns ≡ true
has_from book es is each =
    all_pass (λ (entry : ℕ × Offered). has_rows es entry.0 entry.1.rows) (λ (entry : ℕ × Offered). (lookup (nat_eq entry.0) book.campaigns ≡ Some entry.1) × IsEntry entry) book.campaigns
    (λ entry at. all_pass (λ (row : book_row.Row). not (is_live row.state) || has_at es entry.0 row.meter) (λ (row : book_row.Row). state_of entry.1.rows row.meter ≡ Some row.state) entry.1.rows
    (λ row own. test_of (is_live row.state) (has_at es entry.0 row.meter) (λ live.
    let c : Campaign = record { head = book.head; serial = entry.0 } in
    let state : state_in book c row.meter ≡ Some Live = in_book book entry row.meter row.state at.0 own ∙ ap (λ (s : RowState). (let o : Option RowState = Some s in o)) (live_test row.state live) in
    let found = each c row.meter state in
    ap (λ (o : Option Row). is_row_in entry.0 o) found.1 ∙ (Decides-eqb found.0.name.campaign.serial entry.0).1 (ap (λ (x : Campaign). x.serial) found.2)))
    (own_states entry.1.rows at.1.meters_once))
    (both (λ (entry : ℕ × Offered). lookup (nat_eq entry.0) book.campaigns ≡ Some entry.1) (λ (entry : ℕ × Offered). IsEntry entry) (λ (entry : ℕ × Offered). (lookup (nat_eq entry.0) book.campaigns ≡ Some entry.1) × IsEntry entry) book.campaigns
    (λ entry found fits. (found, fits)) (own_offers book.campaigns is.apart) is.entries)
  where
    in_book : (book : Contents) (entry : ℕ × Offered) (m : ℕ) (s : RowState) → lookup (nat_eq entry.0) book.campaigns ≡ Some entry.1 → state_of entry.1.rows m ≡ Some s → state_in book (record { head = book.head; serial = entry.0 }) m ≡ Some s
    in_book book entry m s found own =
        ap (λ (o : Option Offered). option_and_then (λ (offer : Offered). state_of offer.rows m) o)
        (cond-true (book.head == book.head) (lookup (nat_eq entry.0) book.campaigns) None ((Decides-eqb book.head book.head).1 refl) ∙ found)
        ∙ own

-- ---- the live rows of a book

pub to_rows : (book : Contents) (rows : List Row) → AllByRecursion (IsOfBook book) rows → IsDistinct nat_eq (keys_of (by_meter rows)) → HasEach book (by_meter rows) → AreLiveRows book rows
to_rows book rows all once has = record {
  of_book = λ m x found.
      let was = renewed_from (by_meter rows) m x found in
      let own = all_at (IsOfBook book) rows m was.0 all was.1 in
      let P : Row → Type 0 = λ r. IsRowOf book was.0.client.meter r in
      let Q : ℕ → Type 0 = λ k. IsRowOf book k x in
      subst Q own.1 (subst P (sym was.2) own.0);
  of_rows = λ c m live.
      let there = has c m live in
      (renew there.0, renewed_to (by_meter rows) m there.0 there.1, there.2);
  once = (let D : List ℕ → Type 0 = λ ks. IsDistinct nat_eq ks in subst D (sym (keys_renewed (by_meter rows))) once);
}

pub once_from : (book : Contents) (rows : List Row) → AreLiveRows book rows → IsDistinct nat_eq (keys_of (by_meter rows))
once_from book rows are =
    let D : List ℕ → Type 0 = λ ks. IsDistinct nat_eq ks in
    subst D (keys_renewed (by_meter rows)) are.once

-- a row that is found is its meter's
pub own_meter : (rows : List Row) (m : ℕ) (row : Row) → row_of (by_meter rows) m ≡ Some row → row.client.meter ≡ m
own_meter rows m row found = (all_at (λ r. Unit {0}) rows m row (every rows) found).1
  where
    every : (rows : List Row) → AllByRecursion (λ (r : Row). Unit {0}) rows
    every [] = tt
    every (r ∷ rows) = (tt, every rows)

pub own_from : (book : Contents) (rows : List Row) (m : ℕ) (row : Row) → AreLiveRows book rows → row_of (by_meter rows) m ≡ Some row → IsOfBook book row
own_from book rows m row are found =
    let Q : ℕ → Type 0 = λ k. IsRowOf book k (renew row) in
    subst Q (sym (own_meter rows m row found)) (are.of_book m (renew row) (renewed_to (by_meter rows) m row found))

pub rows_from : (book : Contents) (rows : List Row) → AreLiveRows book rows → AllByRecursion (IsOfBook book) rows
rows_from book rows are = all_from (IsOfBook book) rows (once_from book rows are) (λ m row found. own_from book rows m row are found)

pub has_each_from : (book : Contents) (rows : List Row) → AreLiveRows book rows → HasEach book (by_meter rows)
has_each_from book rows are c m live =
    let at = are.of_rows c m live in
    let was = renewed_from (by_meter rows) m at.0 at.1 in
    (was.0, was.1, ap (λ (r : Row). r.name.campaign) (sym was.2) ∙ at.2)

-- ---- by what was looked at

pub by_true : (b : Bool) (P Q : Type 0) → MatchBool b P Q → b ≡ true → P
by_true true P Q h e = h
by_true false P Q h e = absurd (false≢true e)

pub by_false : (b : Bool) (P Q : Type 0) → MatchBool b P Q → b ≡ false → Q
by_false true P Q h e = absurd (false≢true (sym e))
by_false false P Q h e = h

pub never : (b : Bool) (P : Type 0) → b ≡ false → ¬ P → MatchBool b P (¬ P)
never true P e h = absurd (false≢true (sym e))
never false P e h = h

not_true : (b : Bool) → not b ≡ true → b ≡ false
not_true true e = absurd (false≢true e)
not_true false e = refl

not_false : (b : Bool) → not b ≡ false → b ≡ true
not_false true e = refl
not_false false e = absurd (false≢true (sym e))

pub live_where : (book : Contents) (rows : List Row) (twice has : Bool) → IsBook book → AllByRecursion (IsOfBook book) rows → twice ≡ repeats rows → not twice ≡ true → has ≡ has_each (by_meter rows) book.campaigns → MatchBool has (AreLiveRows book rows) (¬ AreLiveRows book rows)
live_where book rows twice true is all twice_is once has_is =
    to_rows book rows all (once_of rows (sym twice_is ∙ not_true twice once)) (each_from book rows all (sym has_is))
live_where book rows twice false is all twice_is once has_is =
    λ are. false≢true (has_is ∙ has_from book (by_meter rows) is (has_each_from book rows are))

pub not_live_twice : (book : Contents) (rows : List Row) (twice : Bool) → twice ≡ repeats rows → not twice ≡ false → ¬ AreLiveRows book rows
not_live_twice book rows twice twice_is not_once are =
    false≢true (sym (repeats_none rows (once_from book rows are)) ∙ sym twice_is ∙ not_false twice not_once)

-- ---- rows that are gathered

pub none_twice : (es : Rows) → es ≡ [] → IsDistinct nat_eq (keys_of es)
unfolding IsDistinct
none_twice es none =
    let P : Rows → Type 0 = λ rs. IsDistinct nat_eq (keys_of rs) in
    subst P (sym none) tt

-- one row more
pub gathered_more : (es new : Rows) (row : Row) (rest others : List Row) (whole : Rows) → es ++ by_meter rest ≡ whole → rest ≡ row ∷ others → new ≡ es ++ (row.client.meter, row) ∷ [] → new ++ by_meter others ≡ whole
gathered_more es new row rest others whole so_far next added =
    ap (λ (rs : Rows). rs ++ by_meter others) added
    ∙ append_assoc es ((row.client.meter, row) ∷ []) (by_meter others)
    ∙ ap (λ (rs : List Row). es ++ by_meter rs) (sym next)
    ∙ so_far

-- a row whose meter has one
pub gathered_twice : (es : Rows) (row was : Row) (rest others : List Row) (whole : Rows) → es ++ by_meter rest ≡ whole → rest ≡ row ∷ others → row_of es row.client.meter ≡ Some was → ¬ IsDistinct nat_eq (keys_of whole)
gathered_twice es row was rest others whole so_far next found once =
    let D : List ℕ → Type 0 = λ ks. IsDistinct nat_eq ks in
    let keys : keys_of whole ≡ keys_of es ++ keys_of (by_meter rest) = ap (λ (rs : Rows). keys_of rs) (sym so_far) ∙ map-append (λ (entry : ℕ × Row). entry.0) es (by_meter rest) in
    none_row was (sym (absent es row.client.meter (keys_of (by_meter rest)) (keys_of (by_meter others)) (ap (λ (rs : List Row). keys_of (by_meter rs)) next) (subst D keys once)) ∙ found)

-- ---- rows that are taken

keyed : (rows : Rows) → IsDistinct nat_eq (keys_of rows) → ((m : ℕ) (row : Row) → row_of rows m ≡ Some row → row.client.meter ≡ m) → by_meter (values_of rows) ≡ rows
keyed [] once own = refl
keyed (entry ∷ es) once own =
    let at : row_of (entry ∷ es) entry.0 ≡ Some entry.1 = cond-true (nat_eq entry.0 entry.0) (Some entry.1) (lookup (nat_eq entry.0) es) ((Decides-eqb entry.0 entry.0).1 refl) in
    ap (λ m. (let all : Rows = (m, entry.1) ∷ by_meter (values_of es) in all)) (own entry.0 entry.1 at)
    ∙ ap (λ (rs : Rows). (let all : Rows = entry ∷ rs in all)) (keyed es (IsDistinct-tail nat_eq entry.0 (keys_of es) once)
    (λ m row found. own m row (cond-false (nat_eq m entry.0) (Some entry.1) (lookup (nat_eq m) es) (behind entry es m row once found) ∙ found)))

-- the rows of a head end, under their meters again
pub same_rows : (book : Contents) (rows : Rows) → AreRowsOf book rows → by_meter (values_of rows) ≡ rows
same_rows book rows are = keyed rows are.once (λ m row found. (are.of_book m row found).asks)

pub taken_live : (book : Contents) (width : ℕ) (rows : Rows) → AreRowsOf book rows → AreLiveRows book (values_of rows)
taken_live book width rows are =
    let P : Rows → Type 0 = λ rs. AreRowsOf book (renewed rs) in
    subst P (sym (same_rows book rows are)) (head_kept book width rows (renewed rows) (keys_renewed rows) (agree_renewed rows) are)
