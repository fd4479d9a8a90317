-- What each call makes of the states of meters.
use Rattle.std.proofs.Common.{◌≡◌, ◌≢◌, ℕ, ◌==◌, nat_eq, ◌||◌, Bool, true, false, cond, find, List, [], ◌∷◌, map, Option, Some, None, option_map, refl, sym, ap, ◌∙◌, ⊎_elim}
use Rattle.std.specs.List.{list_any}
use Rattle.std.specs.Map.{lookup}
use Rattle.std.specs.Option.{option_and_then}
use Rattle.std.proofs.lemmas.Bool.{cases_Bool, cond-true, cond-false, false_from_ne_true, false≢true}
use Rattle.std.proofs.lemmas.Bool.Decides.{Decides-eqb}
use Rattle.fw_names.specs.Name.{Campaign}
use Rattle.fw_book.specs.declared.row.Row.{Row}
use Rattle.fw_book.specs.declared.row.RowState.{RowState}
use Rattle.fw_book.specs.declared.row.RowState.TheVariants.{Live, Cancelled}
use Rattle.fw_book.specs.Rows.{is_live, live_row, state_of, with_state, cancelled_row, cancelled_rows}
use Rattle.fw_book.specs.Contents.{Contents, Offered, state_in}
use Rattle.fw_book.specs.Changes.{at_serial, opened}
use Rattle.fw_book.specs.Laws.{opening_state, marked_state, cancelled_state, StatesGoOn, StatesFollowCalls}
use Rattle.fw_book.proofs.Images.{found_last, passed_over, same_campaign}

-- ---- in the rows of a campaign

skipped : (row : Row) (rows : List Row) (m : ℕ) → (row.meter == m) ≡ false → state_of (row ∷ rows) m ≡ state_of rows m
skipped row rows m away = ap (λ (o : Option Row). option_map (λ (r : Row). r.state) o) (cond-false (row.meter == m) (Some row) (find (λ (r : Row). r.meter == m) rows) away)

first : (row : Row) (rows : List Row) (m : ℕ) → (row.meter == m) ≡ true → state_of (row ∷ rows) m ≡ Some row.state
first row rows m here = ap (λ (o : Option Row). option_map (λ (r : Row). r.state) o) (cond-true (row.meter == m) (Some row) (find (λ (r : Row). r.meter == m) rows) here)

-- the meters of a new campaign are live, and no others
live_state : (meters : List ℕ) (m : ℕ) → state_of (map live_row meters) m ≡ opening_state meters m
live_state [] m = refl
live_state (meter ∷ meters) m =
    ⊎_elim
    (λ here.
    first (live_row meter) (map live_row meters) m here
    ∙ ap (λ b. cond (b || among) (Some Live) None) (sym here))
    (λ away.
    skipped (live_row meter) (map live_row meters) m away ∙ live_state meters m
    ∙ ap (λ b. cond (b || among) (Some Live) None) (sym away))
    (cases_Bool (meter == m))
  where
    among : Bool
    among = list_any (λ other. other == m) meters

-- a row of the meter has the new state
own_state : (meter : ℕ) (state : RowState) (rows : List Row) → state_of (with_state meter state rows) meter ≡ option_map (λ was. state) (state_of rows meter)
own_state meter state [] = refl
own_state meter state (row ∷ rows) =
    let rest : List Row = with_state meter state rows in
    let new : Row = record { meter = row.meter; state = state } in
    ⊎_elim
    (λ here.
    ap (λ (r : Row). state_of (r ∷ rest) meter) (cond-true (row.meter == meter) new row here)
    ∙ first new rest meter here
    ∙ ap (λ (o : Option RowState). option_map (λ was. state) o) (sym (first row rows meter here)))
    (λ other.
    ap (λ (r : Row). state_of (r ∷ rest) meter) (cond-false (row.meter == meter) new row other)
    ∙ skipped row rest meter other ∙ own_state meter state rows
    ∙ ap (λ (o : Option RowState). option_map (λ was. state) o) (sym (skipped row rows meter other)))
    (cases_Bool (row.meter == meter))

-- the row, changed or not, stands first as before
same_first : (row new : Row) (rows rest : List Row) (m : ℕ) → new.meter ≡ row.meter → new.state ≡ row.state → state_of rest m ≡ state_of rows m → state_of (new ∷ rest) m ≡ state_of (row ∷ rows) m
same_first row new rows rest m meters states later =
    ⊎_elim
    (λ here. first new rest m (ap (λ n. n == m) meters ∙ here) ∙ ap (λ s. Some s) states ∙ sym (first row rows m here))
    (λ away. skipped new rest m (ap (λ n. n == m) meters ∙ away) ∙ later ∙ sym (skipped row rows m away))
    (cases_Bool (row.meter == m))

-- and every other row its own
other_state : (meter : ℕ) (state : RowState) (rows : List Row) (m : ℕ) → m ≢ meter → state_of (with_state meter state rows) m ≡ state_of rows m
other_state meter state [] m apart = refl
other_state meter state (row ∷ rows) m apart =
    let rest : List Row = with_state meter state rows in
    let new : Row = record { meter = row.meter; state = state } in
    ⊎_elim
    (λ here.
    let away : (row.meter == m) ≡ false = false_from_ne_true (row.meter == m) (λ same. apart (sym ((Decides-eqb row.meter m).0 same) ∙ (Decides-eqb row.meter meter).0 here)) in
    ap (λ (r : Row). state_of (r ∷ rest) m) (cond-true (row.meter == meter) new row here)
    ∙ skipped new rest m away ∙ other_state meter state rows m apart ∙ sym (skipped row rows m away))
    (λ other.
    ap (λ (r : Row). state_of (r ∷ rest) m) (cond-false (row.meter == meter) new row other)
    ∙ same_first row row rows rest m refl refl (other_state meter state rows m apart))
    (cases_Bool (row.meter == meter))

abbrev ended : RowState → RowState
ended was = cond (is_live was) Cancelled was

ended_row : (row : Row) → cancelled_row row ≡ record { meter = row.meter; state = ended row.state }
ended_row row =
    let at : RowState → Row = λ s. record { meter = row.meter; state = s } in
    ⊎_elim
    (λ live. cond-true (is_live row.state) (at Cancelled) row live ∙ ap at (sym (cond-true (is_live row.state) Cancelled row.state live)))
    (λ over. cond-false (is_live row.state) (at Cancelled) row over ∙ ap at (sym (cond-false (is_live row.state) Cancelled row.state over)))
    (cases_Bool (is_live row.state))

-- a live row is cancelled
cancelled_as : (rows : List Row) (m : ℕ) → state_of (cancelled_rows rows) m ≡ option_map ended (state_of rows m)
cancelled_as [] m = refl
cancelled_as (row ∷ rows) m =
    let rest : List Row = cancelled_rows rows in
    let new : Row = record { meter = row.meter; state = ended row.state } in
    ap (λ (r : Row). state_of (r ∷ rest) m) (ended_row row) ∙
    ⊎_elim
    (λ here. first new rest m here ∙ ap (λ (o : Option RowState). option_map ended o) (sym (first row rows m here)))
    (λ away. skipped new rest m away ∙ cancelled_as rows m ∙ ap (λ (o : Option RowState). option_map ended o) (sym (skipped row rows m away)))
    (cases_Bool (row.meter == m))

-- ---- in the campaigns of a book

abbrev changed : (List Row → List Row) → Offered → Offered
changed change offer = record { release = offer.release; image = offer.image; rows = change offer.rows }

-- another campaign is not changed
at_other : (k serial : ℕ) (change : List Row → List Row) (entries : List (ℕ × Offered)) → k ≢ serial → lookup (nat_eq k) (at_serial serial change entries) ≡ lookup (nat_eq k) entries
at_other k serial change [] apart = refl
at_other k serial change (entry ∷ entries) apart =
    let new : Offered = changed change entry.1 in
    let one : List (ℕ × Offered) = (entry.0, new) ∷ entries in
    let rest : List (ℕ × Offered) = entry ∷ at_serial serial change entries in
    ⊎_elim
    (λ here.
    let away : nat_eq k entry.0 ≡ false = false_from_ne_true (nat_eq k entry.0) (λ same. apart ((Decides-eqb k entry.0).0 same ∙ sym ((Decides-eqb serial entry.0).0 here))) in
    ap (λ (es : List (ℕ × Offered)). lookup (nat_eq k) es) (cond-true (serial == entry.0) one rest here)
    ∙ cond-false (nat_eq k entry.0) (Some new) (lookup (nat_eq k) entries) away
    ∙ sym (cond-false (nat_eq k entry.0) (Some entry.1) (lookup (nat_eq k) entries) away))
    (λ other.
    ap (λ (es : List (ℕ × Offered)). lookup (nat_eq k) es) (cond-false (serial == entry.0) one rest other)
    ∙ ap (λ (o : Option Offered). cond (nat_eq k entry.0) (Some entry.1) o) (at_other k serial change entries apart))
    (cases_Bool (serial == entry.0))

-- the campaign itself is
at_same : (serial : ℕ) (change : List Row → List Row) (entries : List (ℕ × Offered)) → lookup (nat_eq serial) (at_serial serial change entries) ≡ option_map (changed change) (lookup (nat_eq serial) entries)
at_same serial change [] = refl
at_same serial change (entry ∷ entries) =
    let new : Offered = changed change entry.1 in
    let one : List (ℕ × Offered) = (entry.0, new) ∷ entries in
    let rest : List (ℕ × Offered) = entry ∷ at_serial serial change entries in
    ⊎_elim
    (λ here.
    ap (λ (es : List (ℕ × Offered)). lookup (nat_eq serial) es) (cond-true (serial == entry.0) one rest here)
    ∙ cond-true (nat_eq serial entry.0) (Some new) (lookup (nat_eq serial) entries) here
    ∙ ap (λ (o : Option Offered). option_map (changed change) o) (sym (cond-true (nat_eq serial entry.0) (Some entry.1) (lookup (nat_eq serial) entries) here)))
    (λ other.
    ap (λ (es : List (ℕ × Offered)). lookup (nat_eq serial) es) (cond-false (serial == entry.0) one rest other)
    ∙ cond-false (nat_eq serial entry.0) (Some entry.1) (lookup (nat_eq serial) (at_serial serial change entries)) other
    ∙ at_same serial change entries
    ∙ ap (λ (o : Option Offered). option_map (changed change) o) (sym (cond-false (nat_eq serial entry.0) (Some entry.1) (lookup (nat_eq serial) entries) other)))
    (cases_Bool (serial == entry.0))

-- ---- in a book

-- what is found of a campaign of the book's head end
abbrev state_at : ℕ → Option Offered → Option RowState
state_at m o = option_and_then (λ (offer : Offered). state_of offer.rows m) o

in_book : (book : Contents) (campaign : Campaign) (m : ℕ) → campaign.head ≡ book.head → state_in book campaign m ≡ state_at m (lookup (nat_eq campaign.serial) book.campaigns)
in_book book campaign m same =
    ap (λ (o : Option Offered). state_at m o) (cond-true (campaign.head == book.head) (lookup (nat_eq campaign.serial) book.campaigns) None ((Decides-eqb campaign.head book.head).1 same))

-- campaigns that stand at other serial numbers have the states that they had
others_keep : (head : ℕ) (campaign : Campaign) (before after : List (ℕ × Offered)) → campaign.head ≡ head
    → ((k : ℕ) → k ≢ campaign.serial → lookup (nat_eq k) after ≡ lookup (nat_eq k) before)
    → (other : Campaign) (m : ℕ) → other ≢ campaign → state_in (record { head = head; campaigns = after }) other m ≡ state_in (record { head = head; campaigns = before }) other m
others_keep head campaign before after same keeps other m apart =
    let was : Option Offered = lookup (nat_eq other.serial) before in
    let is : Option Offered = lookup (nat_eq other.serial) after in
    ⊎_elim
    (λ here.
    let heads : other.head ≡ campaign.head = (Decides-eqb other.head head).0 here ∙ sym same in
    ap (λ (o : Option Offered). state_at m (cond (other.head == head) o None)) (keeps other.serial (λ serials. apart (same_campaign other campaign heads serials))))
    (λ elsewhere.
    ap (λ b. state_at m (cond b is None)) elsewhere ∙ sym (ap (λ b. state_at m (cond b was None)) elsewhere))
    (cases_Bool (other.head == head))

-- a change of the rows of one campaign, which makes these states of those that were there
changes : (book : Contents) (campaign : Campaign) (change : List Row → List Row) (states : ℕ → Option RowState) → campaign.head ≡ book.head
    → ((o : Option Offered) (m : ℕ) → state_in book campaign m ≡ state_at m o → state_at m (option_map (changed change) o) ≡ states m)
    → StatesGoOn book (record { head = book.head; campaigns = at_serial campaign.serial change book.campaigns }) campaign states
changes book campaign change states same made = record {
  own = λ m.
      in_book (record { head = book.head; campaigns = at_serial campaign.serial change book.campaigns }) campaign m same
      ∙ ap (λ (o : Option Offered). state_at m o) (at_same campaign.serial change book.campaigns)
      ∙ made (lookup (nat_eq campaign.serial) book.campaigns) m (in_book book campaign m same);
  others = others_keep book.head campaign book.campaigns (at_serial campaign.serial change book.campaigns) same (λ k. at_other k campaign.serial change book.campaigns);
}

marks : (meter : ℕ) (state : RowState) (o : Option Offered) (m : ℕ)
    → state_at m (option_map (changed (with_state meter state)) o) ≡ cond (m == meter) (option_map (λ was. state) (state_at m o)) (state_at m o)
marks meter state o m =
    ⊎_elim
    (λ here.
    let is : m ≡ meter = (Decides-eqb m meter).0 here in
    ap (λ n. state_at n (option_map (changed (with_state meter state)) o)) is ∙ own o
    ∙ ap (λ n. option_map (λ was. state) (state_at n o)) (sym is)
    ∙ sym (cond-true (m == meter) (option_map (λ was. state) (state_at m o)) (state_at m o) here))
    (λ away.
    let apart : m ≢ meter = λ is. false≢true (sym away ∙ (Decides-eqb m meter).1 is) in
    another o apart
    ∙ sym (cond-false (m == meter) (option_map (λ was. state) (state_at m o)) (state_at m o) away))
    (cases_Bool (m == meter))
  where
    own : (o : Option Offered) → state_at meter (option_map (changed (with_state meter state)) o) ≡ option_map (λ was. state) (state_at meter o)
    own None = refl
    own (Some offer) = own_state meter state offer.rows

    another : (o : Option Offered) → m ≢ meter → state_at m (option_map (changed (with_state meter state)) o) ≡ state_at m o
    another None apart = refl
    another (Some offer) apart = other_state meter state offer.rows m apart

cancels : (o : Option Offered) (m : ℕ) → state_at m (option_map (changed cancelled_rows) o) ≡ option_map ended (state_at m o)
cancels None m = refl
cancels (Some offer) m = cancelled_as offer.rows m

pub states_follow : StatesFollowCalls
states_follow book campaign same = record {
  at_opening = λ release image meters new. record {
    own = λ m.
        in_book (opened book campaign.serial release image meters) campaign m same
        ∙ ap (λ (o : Option Offered). state_at m o) (found_last campaign.serial book.campaigns (record { release = release; image = image; rows = map live_row meters }) new)
        ∙ live_state meters m;
    others = others_keep book.head campaign book.campaigns (opened book campaign.serial release image meters).campaigns same
        (λ k apart. passed_over k campaign.serial book.campaigns (record { release = release; image = image; rows = map live_row meters })
        (false_from_ne_true (nat_eq k campaign.serial) (λ is. apart ((Decides-eqb k campaign.serial).0 is))));
  };
  at_mark = λ meter state.
      changes book campaign (with_state meter state) (marked_state book campaign meter state) same
      (λ o m is. marks meter state o m ∙ ap (λ (s : Option RowState). cond (m == meter) (option_map (λ was. state) s) s) (sym is));
  at_cancelling =
      changes book campaign cancelled_rows (cancelled_state book campaign) same
      (λ o m is. cancels o m ∙ ap (λ (s : Option RowState). option_map ended s) (sym is));
}
