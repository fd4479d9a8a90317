-- A campaign is opened in the book, and each of its meters has a new row: that keeps a head end.
use Rattle.std.proofs.Common.{◌≡◌, ◌≢◌, ℕ, ◌==◌, nat_eq, Bool, true, false, cond, ◌||◌, ◌&&◌, ◌⊎◌, inl, inr, is_some, find, List, [], ◌∷◌, ◌++◌, map, length, Option, Some, None, option_map, refl, sym, ap, subst, ◌∙◌, ⊎_elim}
use Rattle.std.specs.List.{IsDistinct, AllByRecursion, list_any}
use Rattle.std.specs.Map.{lookup, keys_of}
use Rattle.std.specs.Option.{option_and_then}
use Rattle.std.proofs.lemmas.List.{map-append}
use Rattle.std.proofs.lemmas.Map.Keys.{IsDistinct-head, IsDistinct-tail, IsDistinct-cons}
use Rattle.std.proofs.lemmas.Bool.{cases_Bool, cond-true, cond-false, false≢true, or_parts, or_cases, or_left, or_right, and_from}
use Rattle.std.proofs.lemmas.Bool.Decides.{Decides-eqb}
use Rattle.fw_names.specs.Name.{Campaign, name_of}
use Rattle.fw_book.specs.declared.row.Row as book_row
use Rattle.fw_book.specs.declared.row.RowState.{RowState}
use Rattle.fw_book.specs.declared.row.RowState.TheVariants.{Live}
use Rattle.fw_book.specs.Rows.{is_live, repeats, state_of, is_live_in}
use Rattle.fw_book.specs.Contents.{Contents, Offered, state_in, has_serial, is_busy}
use Rattle.fw_book.specs.Changes.{Opens, opened}
use Rattle.fw_book.specs.Laws.{OpeningOffers, StatesFollowCalls}
use Rattle.fw_head.specs.Row.{Row, new_row}
use Rattle.fw_head.specs.Head.{Rows, row_of, new_rows, IsRowOf, IsHead}
use Rattle.fw_head.proofs.LiveRows.{some_row}
use Rattle.fw_head.proofs.Names.{old_name, new_name}
use Rattle.fw_head.proofs.States.{either_campaign, row_stays}
use Rattle.fw_head.proofs.NewRows.{flipped}

-- ---- entries after others

pub found_before : {X : Type 0} (k : ℕ) (es fs : List (ℕ × X)) (x : X) → lookup (nat_eq k) es ≡ Some x → lookup (nat_eq k) (es ++ fs) ≡ Some x
found_before k [] fs x found = absurd (none_some x found)
  where
    none_some : {X : Type 0} (x : X) → (let o : Option X = None in o ≡ Some x) → ⊥
    none_some x e = cc
found_before k (entry ∷ entries) fs x found =
    ⊎_elim
    (λ here.
    cond-true (nat_eq k entry.0) (Some entry.1) (lookup (nat_eq k) (entries ++ fs)) here
    ∙ sym (cond-true (nat_eq k entry.0) (Some entry.1) (lookup (nat_eq k) entries) here) ∙ found)
    (λ away.
    cond-false (nat_eq k entry.0) (Some entry.1) (lookup (nat_eq k) (entries ++ fs)) away
    ∙ found_before k entries fs x (sym (cond-false (nat_eq k entry.0) (Some entry.1) (lookup (nat_eq k) entries) away) ∙ found))
    (cases_Bool (nat_eq k entry.0))

-- where the first entry isn't the one that is looked for
none_first : {X : Type 0} (b : Bool) (x : X) (o : Option X) → cond b (Some x) o ≡ None → (b ≡ false) × (o ≡ None)
none_first true x o e = absurd (some_none x e)
  where
    some_none : {X : Type 0} (x : X) → (let o : Option X = Some x in o ≡ None) → ⊥
    some_none x e = cc
none_first false x o e = (refl, e)

pub found_behind : {X : Type 0} (k : ℕ) (es fs : List (ℕ × X)) → lookup (nat_eq k) es ≡ None → lookup (nat_eq k) (es ++ fs) ≡ lookup (nat_eq k) fs
found_behind k [] fs none = refl
found_behind k (entry ∷ entries) fs none =
    let parts = none_first (nat_eq k entry.0) entry.1 (lookup (nat_eq k) entries) none in
    cond-false (nat_eq k entry.0) (Some entry.1) (lookup (nat_eq k) (entries ++ fs)) parts.0 ∙ found_behind k entries fs parts.1

pub either : {X : Type 0} (o : Option X) → (o ≡ None) ⊎ ((x : X) × (o ≡ Some x))
either None = inl refl
either (Some x) = inr (x, refl)

is_none : {X : Type 0} (o : Option X) → is_some o ≡ false → o ≡ None
is_none None h = refl
is_none (Some x) h = absurd (false≢true (sym h))

pub none_row : (row : Row) → (let o : Option Row = None in o ≡ Some row) → ⊥
none_row row e = cc

none_state : (s : RowState) → (let o : Option RowState = None in o ≡ Some s) → ⊥
none_state s e = cc

-- ---- the rows of the new campaign

abbrev pub among : List ℕ → ℕ → Bool
among meters m = list_any (λ other. other == m) meters

-- a row for each meter
abbrev pub each : (ℕ → Row) → List ℕ → Rows
each make meters = map (λ meter. (meter, make meter)) meters

-- one that is found is that of the meter
pub each_found : (make : ℕ → Row) (meters : List ℕ) (m : ℕ) (row : Row) → row_of (each make meters) m ≡ Some row → (row ≡ make m) × (among meters m ≡ true)
each_found make [] m row found = absurd (none_row row found)
each_found make (meter ∷ meters) m row found =
    let new : Row = make meter in
    ⊎_elim
    (λ here.
    let same : m ≡ meter = (Decides-eqb m meter).0 here in
    let is : new ≡ row = some_row new row (sym (cond-true (nat_eq m meter) (Some new) (lookup (nat_eq m) (each make meters)) here) ∙ found) in
    (sym is ∙ ap make (sym same), ap (λ b. b || among meters m) ((Decides-eqb meter m).1 (sym same))))
    (λ away.
    let later = each_found make meters m row (sym (cond-false (nat_eq m meter) (Some new) (lookup (nat_eq m) (each make meters)) away) ∙ found) in
    (later.0, or_right (meter == m) (among meters m) later.1))
    (cases_Bool (nat_eq m meter))

-- and each of the meters has one
pub each_there : (make : ℕ → Row) (meters : List ℕ) (m : ℕ) → among meters m ≡ true → row_of (each make meters) m ≡ Some (make m)
each_there make [] m there = absurd (false≢true there)
each_there make (meter ∷ meters) m there =
    let new : Row = make meter in
    ⊎_elim
    (λ here.
    let same : m ≡ meter = (Decides-eqb m meter).0 here in
    cond-true (nat_eq m meter) (Some new) (lookup (nat_eq m) (each make meters)) here
    ∙ ap (λ n. (let o : Option Row = Some (make n) in o)) (sym same))
    (λ away.
    cond-false (nat_eq m meter) (Some new) (lookup (nat_eq m) (each make meters)) away
    ∙ each_there make meters m (ap (λ b. b || among meters m) (sym (flipped m meter away)) ∙ there))
    (cases_Bool (nat_eq m meter))

-- ---- a meter that is live in no campaign has no row

pub skipped : (row : book_row.Row) (rows : List book_row.Row) (m : ℕ) → (row.meter == m) ≡ false → state_of (row ∷ rows) m ≡ state_of rows m
skipped row rows m away = ap (λ (o : Option book_row.Row). option_map (λ (r : book_row.Row). r.state) o) (cond-false (row.meter == m) (Some row) (find (λ (r : book_row.Row). r.meter == m) rows) away)

pub first : (row : book_row.Row) (rows : List book_row.Row) (m : ℕ) → (row.meter == m) ≡ true → state_of (row ∷ rows) m ≡ Some row.state
first row rows m here = ap (λ (o : Option book_row.Row). option_map (λ (r : book_row.Row). r.state) o) (cond-true (row.meter == m) (Some row) (find (λ (r : book_row.Row). r.meter == m) rows) here)

pub live_is : (s : RowState) → (let o : Option RowState = Some s in o ≡ Some Live) → s ≡ Live
live_is s e = cc

pub none_live : (let o : Option RowState = None in o ≡ Some Live) → ⊥
none_live e = cc

abbrev pub state_at : ℕ → Option Offered → Option RowState
state_at m o = option_and_then (λ (offer : Offered). state_of offer.rows m) o

pub live_in : (rows : List book_row.Row) (m : ℕ) → state_of rows m ≡ Some Live → is_live_in rows m ≡ true
live_in [] m live = absurd (none_live live)
live_in (row ∷ rows) m live =
    ⊎_elim
    (λ here.
    let is : row.state ≡ Live = live_is row.state (sym (first row rows m here) ∙ live) in
    or_left ((row.meter == m) && is_live row.state) (is_live_in rows m) (and_from (row.meter == m) (is_live row.state) here (ap is_live is)))
    (λ other. or_right ((row.meter == m) && is_live row.state) (is_live_in rows m) (live_in rows m (sym (skipped row rows m other) ∙ live)))
    (cases_Bool (row.meter == m))

busy_at : (k m : ℕ) (entries : List (ℕ × Offered)) (offer : Offered) → lookup (nat_eq k) entries ≡ Some offer → is_live_in offer.rows m ≡ true → is_busy entries m ≡ true
busy_at k m [] offer found live = absurd (none_offer offer found)
  where
    none_offer : (offer : Offered) → (let o : Option Offered = None in o ≡ Some offer) → ⊥
    none_offer offer e = cc
busy_at k m (entry ∷ entries) offer found live =
    ⊎_elim
    (λ here.
    let same : entry.1 ≡ offer = some_offer entry.1 offer (sym (cond-true (nat_eq k entry.0) (Some entry.1) (lookup (nat_eq k) entries) here) ∙ found) in
    or_left (is_live_in entry.1.rows m) (is_busy entries m) (ap (λ (o : Offered). is_live_in o.rows m) same ∙ live))
    (λ away. or_right (is_live_in entry.1.rows m) (is_busy entries m) (busy_at k m entries offer (sym (cond-false (nat_eq k entry.0) (Some entry.1) (lookup (nat_eq k) entries) away) ∙ found) live))
    (cases_Bool (nat_eq k entry.0))
  where
    some_offer : (a b : Offered) → (let o : Option Offered = Some a in o ≡ Some b) → a ≡ b
    some_offer a b e = cc

-- the campaign of a meter that has a state in a book
pub offer_at : (m : ℕ) (s : RowState) (b : Bool) (x : Option Offered) → state_at m (cond b x None) ≡ Some s → (b ≡ true) × ((offer : Offered) × (x ≡ Some offer) × (state_of offer.rows m ≡ Some s))
offer_at m s true None e = absurd (none_state s e)
offer_at m s true (Some offer) e = (refl, (offer, refl, e))
offer_at m s false x e = absurd (none_state s e)

is_free : (book : Contents) (width : ℕ) (rows : Rows) (m : ℕ) → IsHead (record { book = book; width = width; rows = rows }) → is_busy book.campaigns m ≡ false → row_of rows m ≡ None
is_free book width rows m is free =
    ⊎_elim
    (λ none. none)
    (λ found.
    let c = found.0.name.campaign in
    let at = offer_at m Live (c.head == book.head) (lookup (nat_eq c.serial) book.campaigns) (is.of_book m found.0 found.1).live in
    absurd (false≢true (sym free ∙ busy_at c.serial m book.campaigns at.1.0 at.1.1 (live_in at.1.0.rows m at.1.2))))
    (either (row_of rows m))

all_free : (book : Contents) (width : ℕ) (rows : Rows) (meters : List ℕ) → IsHead (record { book = book; width = width; rows = rows }) → list_any (λ meter. is_busy book.campaigns meter) meters ≡ false → AllByRecursion (λ m. row_of rows m ≡ None) meters
all_free book width rows [] is free = tt
all_free book width rows (meter ∷ meters) is free =
    let parts = or_parts (is_busy book.campaigns meter) (list_any (λ m. is_busy book.campaigns m) meters) free in
    (is_free book width rows meter is parts.0, all_free book width rows meters is parts.1)

one_of : (P : ℕ → Type 0) (meters : List ℕ) (m : ℕ) → AllByRecursion P meters → among meters m ≡ true → P m
one_of P [] m all there = absurd (false≢true there)
one_of P (meter ∷ meters) m all there =
    ⊎_elim
    (λ here. subst P ((Decides-eqb meter m).0 here) all.0)
    (λ later. one_of P meters m all.1 later)
    (or_cases (meter == m) (among meters m) there)

-- ---- no meter has two rows then

pub all_among : (meter : ℕ) (meters : List ℕ) → among meters meter ≡ false → AllByRecursion (λ m. nat_eq meter m ≡ false) meters
all_among meter [] none = tt
all_among meter (other ∷ others) none =
    let parts = or_parts (other == meter) (among others meter) none in
    (flipped other meter parts.0, all_among meter others parts.1)

pub distinct_meters : (meters : List ℕ) → repeats meters ≡ false → IsDistinct nat_eq meters
unfolding IsDistinct
distinct_meters [] once = tt
distinct_meters (meter ∷ meters) once =
    let parts = or_parts (among meters meter) (repeats meters) once in
    IsDistinct-cons nat_eq meter meters (all_among meter meters parts.0) (distinct_meters meters parts.1)

all_map : (P Q : ℕ → Type 0) (ms : List ℕ) → ((m : ℕ) → P m → Q m) → AllByRecursion P ms → AllByRecursion Q ms
all_map P Q [] f h = tt
all_map P Q (m ∷ ms) f h = (f m h.0, all_map P Q ms f h.1)

pub all_append : (P : ℕ → Type 0) (xs ys : List ℕ) → AllByRecursion P xs → AllByRecursion P ys → AllByRecursion P (xs ++ ys)
all_append P [] ys h k = k
all_append P (x ∷ xs) ys h k = (h.0, all_append P xs ys h.1 k)

pub once_behind : (rows : Rows) (meters : List ℕ) → IsDistinct nat_eq (keys_of rows) → IsDistinct nat_eq meters → AllByRecursion (λ m. row_of rows m ≡ None) meters → IsDistinct nat_eq (keys_of rows ++ meters)
once_behind [] meters once apart none = apart
once_behind (entry ∷ entries) meters once apart none =
    let N : ℕ → Type 0 = λ m. row_of (entry ∷ entries) m ≡ None in
    let first_apart = all_map N (λ m. nat_eq entry.0 m ≡ false) meters (λ m e. flipped m entry.0 (none_first (nat_eq m entry.0) entry.1 (lookup (nat_eq m) entries) e).0) none in
    let others_none = all_map N (λ m. row_of entries m ≡ None) meters (λ m e. (none_first (nat_eq m entry.0) entry.1 (lookup (nat_eq m) entries) e).1) none in
    IsDistinct-cons nat_eq entry.0 (keys_of entries ++ meters)
    (all_append (λ m. nat_eq entry.0 m ≡ false) (keys_of entries) meters (IsDistinct-head nat_eq entry.0 (keys_of entries) once) first_apart)
    (once_behind entries meters (IsDistinct-tail nat_eq entry.0 (keys_of entries) once) apart others_none)

pub all_once : (book : Contents) (width : ℕ) (rows : Rows) (campaign : Campaign) (image meters : List ℕ) → IsHead (record { book = book; width = width; rows = rows }) → Opens book campaign image meters → IsDistinct nat_eq (keys_of rows ++ meters)
all_once book width rows campaign image meters is o =
    once_behind rows meters is.once (distinct_meters meters o.meters_once) (all_free book width rows meters is o.meters_free)

pub keys_each : (make : ℕ → Row) (meters : List ℕ) → keys_of (each make meters) ≡ meters
keys_each make [] = refl
keys_each make (meter ∷ meters) = ap (λ (ms : List ℕ). (let all : List ℕ = meter ∷ ms in all)) (keys_each make meters)

-- ---- the head end

-- a campaign that the book hasn't has no states in it
unknown : (book : Contents) (c : Campaign) (m : ℕ) → has_serial book c.serial ≡ false → state_in book c m ≡ None
unknown book c m new = go (c.head == book.head) (lookup (nat_eq c.serial) book.campaigns) new
  where
    go : (b : Bool) (x : Option Offered) → is_some x ≡ false → state_at m (cond b x None) ≡ None
    go true None h = refl
    go true (Some offer) h = absurd (false≢true (sym h))
    go false x h = refl

module _ (follow : StatesFollowCalls) (offers : OpeningOffers) where
  new_is : (book : Contents) (campaign : Campaign) (release : ℕ) (image meters : List ℕ) (m : ℕ) → Opens book campaign image meters → among meters m ≡ true → IsRowOf (opened book campaign.serial release image meters) m (new_row m (name_of campaign release image) (length image))
  new_is book campaign release image meters m o there =
      let adds = offers book campaign release image meters o.own o.serial_new in
      let goes = (follow book campaign o.own).at_opening release image meters o.serial_new in
      record {
        asks = refl;
        live = goes.own m ∙ cond-true (among meters m) (Some Live) None there;
        named = new_name book campaign release image meters o.own o.serial_new;
        sized = ap (λ (x : Option (List ℕ)). option_map length x) adds.own;
        going = tt;
      }

  old_is : (book : Contents) (campaign : Campaign) (release : ℕ) (image meters : List ℕ) (m : ℕ) (row : Row) → Opens book campaign image meters → IsRowOf book m row → IsRowOf (opened book campaign.serial release image meters) m row
  old_is book campaign release image meters m row o is =
      let other : row.name.campaign ≢ campaign = λ same. none_state Live (sym (ap (λ c. state_in book c m) same ∙ unknown book campaign m o.serial_new) ∙ is.live) in
      row_stays book (opened book campaign.serial release image meters) m row
      (((follow book campaign o.own).at_opening release image meters o.serial_new).others row.name.campaign m other)
      ((offers book campaign release image meters o.own o.serial_new).others row.name.campaign other)
      (old_name book campaign.serial release image meters row.name.campaign row.name is.named ∙ sym is.named) is

  -- a meter that is live then has a row
  live_has_row : (book : Contents) (width : ℕ) (rows : Rows) (campaign : Campaign) (release : ℕ) (image meters : List ℕ) (c : Campaign) (m : ℕ) → Opens book campaign image meters → IsHead (record { book = book; width = width; rows = rows }) → state_in (opened book campaign.serial release image meters) c m ≡ Some Live → (row : Row) × (row_of (rows ++ new_rows (name_of campaign release image) (length image) meters) m ≡ Some row) × (row.name.campaign ≡ c)
  live_has_row book width rows campaign release image meters c m o is live =
      let name = name_of campaign release image in
      let goes = (follow book campaign o.own).at_opening release image meters o.serial_new in
      ⊎_elim
      (λ same.
      let there : among meters m ≡ true = among_of meters m (sym (goes.own m) ∙ ap (λ x. state_in (opened book campaign.serial release image meters) x m) (sym (same ∙ whole)) ∙ live) in
      let free : row_of rows m ≡ None = one_of (λ n. row_of rows n ≡ None) meters m (all_free book width rows meters is o.meters_free) there in
      (new_row m name (length image), found_behind m rows (new_rows name (length image) meters) free ∙ each_there (λ n. new_row n name (length image)) meters m there, sym (same ∙ whole)))
      (λ other.
      let was = is.of_rows c m (sym (goes.others c m (λ same. other (same ∙ sym whole))) ∙ live) in
      (was.0, found_before m rows (new_rows name (length image) meters) was.0 was.1, was.2))
      (either_campaign c book campaign.serial)
    where
      whole : record { head = book.head; serial = campaign.serial } ≡ campaign
      whole = ap (λ n. (let x : Campaign = record { head = n; serial = campaign.serial } in x)) (sym o.own)

      among_of : (meters : List ℕ) (m : ℕ) → cond (among meters m) (Some Live) None ≡ Some Live → among meters m ≡ true
      among_of meters m e = go (among meters m) refl e
        where
          go : (b : Bool) → among meters m ≡ b → cond b (Some Live) None ≡ Some Live → among meters m ≡ true
          go true is e = is
          go false is e = absurd (none_live e)

  head_opened : (book : Contents) (width : ℕ) (rows : Rows) (campaign : Campaign) (release : ℕ) (image meters : List ℕ) → Opens book campaign image meters → IsHead (record { book = book; width = width; rows = rows }) → IsHead (record { book = opened book campaign.serial release image meters; width = width; rows = rows ++ new_rows (name_of campaign release image) (length image) meters })
  head_opened book width rows campaign release image meters o is =
      let name = name_of campaign release image in
      let added = new_rows name (length image) meters in
      let P : ℕ → Row → Type 0 = λ m r. IsRowOf (opened book campaign.serial release image meters) m r in
      let Q : List ℕ → Type 0 = λ ks. IsDistinct nat_eq ks in
      record {
        of_book = λ m r at.
            ⊎_elim
            (λ none.
            let found = each_found (λ n. new_row n name (length image)) meters m r (sym (found_behind m rows added none) ∙ at) in
            subst (P m) (sym found.0) (new_is book campaign release image meters m o found.1))
            (λ was.
            let same : was.0 ≡ r = some_row was.0 r (sym (found_before m rows added was.0 was.1) ∙ at) in
            subst (P m) same (old_is book campaign release image meters m was.0 o (is.of_book m was.0 was.1)))
            (either (row_of rows m));
        of_rows = λ c m live. live_has_row book width rows campaign release image meters c m o is live;
        once = subst Q (sym (map-append (λ (entry : ℕ × Row). entry.0) rows added ∙ ap (λ (ks : List ℕ). keys_of rows ++ ks) (keys_each (λ n. new_row n name (length image)) meters))) (all_once book width rows campaign image meters is o);
      }

  -- the same for a book and rows that equal these
  pub head_opened_by : (book new : Contents) (width : ℕ) (rows all : Rows) (campaign : Campaign) (release : ℕ) (image meters : List ℕ) → Opens book campaign image meters → new ≡ opened book campaign.serial release image meters → all ≡ rows ++ new_rows (name_of campaign release image) (length image) meters → IsHead (record { book = book; width = width; rows = rows }) → IsHead (record { book = new; width = width; rows = all })
  head_opened_by book new width rows all campaign release image meters o entered add is =
      let P : Contents → Type 0 = λ b. IsHead (record { book = b; width = width; rows = all }) in
      let Q : Rows → Type 0 = λ rs. IsHead (record { book = opened book campaign.serial release image meters; width = width; rows = rs }) in
      subst P (sym entered) (subst Q (sym add) (head_opened book width rows campaign release image meters o is))
