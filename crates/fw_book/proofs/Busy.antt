-- The meters that are live in a campaign, after each change of a book.
use Rattle.std.proofs.Common.{◌≡◌, ℕ, Bool, true, false, eqb, nat_eq, cond, not, ◌&&◌, ◌||◌, List, [], ◌∷◌, ◌++◌, Option, Some, None, find, refl, sym, ap, ◌∙◌, ⊎_elim}
use Rattle.std.specs.List.{AllByRecursion}
use Rattle.std.specs.Map.{lookup}
use Rattle.std.specs.Option.{option_map, option_and_then}
use Rattle.std.proofs.lemmas.Bool.{false≢true, true≢false, and_left, and_right, and_from, or_left, or_right, or_from, not_from_true, not_from_false, cases_Bool, false_from_ne_true, cond_both, cond-true, cond-false}
use Rattle.std.proofs.lemmas.Bool.Decides.{Decides-eqb}
use Rattle.fw_names.specs.Name.{Campaign}
use Rattle.fw_book.specs.declared.row.Row.{Row}
use Rattle.fw_book.specs.declared.row.RowState.{RowState}
use Rattle.fw_book.specs.declared.row.RowState.TheVariants.{Live, Cancelled}
use Rattle.fw_book.specs.Rows.{is_live, is_live_in, state_of, marked_row, with_state, cancelled_row, cancelled_rows}
use Rattle.fw_book.specs.Contents.{Offered, Contents, state_in, is_busy, Apart, AllApart, IsBook}
use Rattle.fw_book.specs.Changes.{at_serial}

-- ---- a campaign more

or_false : (b : Bool) → (b || false) ≡ b
or_false true = refl
or_false false = refl

or_assoc : (a b c : Bool) → (a || (b || c)) ≡ ((a || b) || c)
or_assoc true b c = refl
or_assoc false b c = refl

-- the meters that are live after an opening are those that were, and those that are live in the new campaign
pub busy_added : (campaigns : List (ℕ × Offered)) (serial : ℕ) (offer : Offered) (m : ℕ) → is_busy (campaigns ++ (serial, offer) ∷ []) m ≡ (is_busy campaigns m || is_live_in offer.rows m)
busy_added [] serial offer m = or_false (is_live_in offer.rows m)
busy_added (entry ∷ entries) serial offer m =
    ap (λ b. is_live_in entry.1.rows m || b) (busy_added entries serial offer m)
    ∙ or_assoc (is_live_in entry.1.rows m) (is_busy entries m) (is_live_in offer.rows m)

-- ---- a change of one campaign

same_offer : (a b : Offered) → Some a ≡ Some b → a ≡ b
same_offer a b e = cc

no_offer : (a : Offered) → Some a ≡ None → ⊥
no_offer a e = cc

-- a meter that is live in the campaign that was found is live in a campaign
found_busy : (serial : ℕ) (offer : Offered) (m : ℕ) (entries : List (ℕ × Offered)) → lookup (nat_eq serial) entries ≡ Some offer → is_live_in offer.rows m ≡ true → is_busy entries m ≡ true
found_busy serial offer m [] found live = absurd (no_offer offer (sym found))
found_busy serial offer m (entry ∷ entries) found live =
    ⊎_elim
    (λ here.
    let same : entry.1 ≡ offer = same_offer entry.1 offer (sym (cond-true (nat_eq serial entry.0) (Some entry.1) (lookup (nat_eq serial) entries) here) ∙ found) in
    or_left _ _ (ap (λ (o : Offered). is_live_in o.rows m) same ∙ live))
    (λ other.
    let later : lookup (nat_eq serial) entries ≡ Some offer = sym (cond-false (nat_eq serial entry.0) (Some entry.1) (lookup (nat_eq serial) entries) other) ∙ found in
    or_right _ _ (found_busy serial offer m entries later live))
    (cases_Bool (nat_eq serial entry.0))

-- a meter that is live in a campaign is live in none that is apart from it
apart_free : (entry : ℕ × Offered) (m : ℕ) (entries : List (ℕ × Offered)) → AllByRecursion (λ (other : ℕ × Offered). Apart entry other) entries → is_live_in entry.1.rows m ≡ true → is_busy entries m ≡ false
apart_free entry m [] apart live = refl
apart_free entry m (other ∷ entries) apart live = or_from _ _ (apart.0.live m live) (apart_free entry m entries apart.1 live)

changed_here : (l b gone : Bool) → (gone ≡ true → l ≡ true) → (l ≡ true → b ≡ false) → ((l && not gone) || b) ≡ ((l || b) && not gone)
changed_here true b true is alone = alone refl
changed_here true b false is alone = refl
changed_here false b true is alone = absurd (false≢true (is refl))
changed_here false true false is alone = refl
changed_here false false false is alone = refl

changed_later : (l b gone : Bool) → (gone ≡ true → l ≡ false) → (l || (b && not gone)) ≡ ((l || b) && not gone)
changed_later true b true is = absurd (true≢false (is refl))
changed_later true b false is = refl
changed_later false b gone is = refl

-- A change of the rows of one campaign, in which a meter was live that isn't live in them any more: it is live in no campaign then,
-- since no meter is live in two. If it was not live, nothing changes.
pub busy_changed : (serial : ℕ) (change : List Row → List Row) (offer : Offered) (m : ℕ) (gone : Bool) → (gone ≡ true → is_live_in offer.rows m ≡ true) → is_live_in (change offer.rows) m ≡ (is_live_in offer.rows m && not gone)
    → (entries : List (ℕ × Offered)) → AllApart entries → lookup (nat_eq serial) entries ≡ Some offer → is_busy (at_serial serial change entries) m ≡ (is_busy entries m && not gone)
busy_changed serial change offer m gone is ends [] apart found = refl
busy_changed serial change offer m gone is ends (entry ∷ entries) apart found =
    let new : ℕ × Offered = (entry.0, record { release = entry.1.release; image = entry.1.image; rows = change entry.1.rows }) in
    cond_both (nat_eq serial entry.0) (new ∷ entries) (entry ∷ at_serial serial change entries) (λ (es : List (ℕ × Offered)). is_busy es m ≡ (is_busy (entry ∷ entries) m && not gone))
    (λ here.
    let same : entry.1 ≡ offer = same_offer entry.1 offer (sym (cond-true (nat_eq serial entry.0) (Some entry.1) (lookup (nat_eq serial) entries) here) ∙ found) in
    let rows : entry.1.rows ≡ offer.rows = ap (λ (o : Offered). o.rows) same in
    ap (λ (rs : List Row). is_live_in (change rs) m || is_busy entries m) rows
    ∙ ap (λ b. b || is_busy entries m) ends
    ∙ ap (λ (rs : List Row). (is_live_in rs m && not gone) || is_busy entries m) (sym rows)
    ∙ changed_here (is_live_in entry.1.rows m) (is_busy entries m) gone
    (λ g. ap (λ (rs : List Row). is_live_in rs m) rows ∙ is g)
    (apart_free entry m entries apart.0))
    (λ other.
    let later : lookup (nat_eq serial) entries ≡ Some offer = sym (cond-false (nat_eq serial entry.0) (Some entry.1) (lookup (nat_eq serial) entries) other) ∙ found in
    ap (λ b. is_live_in entry.1.rows m || b) (busy_changed serial change offer m gone is ends entries apart.1 later)
    ∙ changed_later (is_live_in entry.1.rows m) (is_busy entries m) gone
    (λ g. false_from_ne_true _ (λ live. false≢true (sym (apart_free entry m entries apart.0 live) ∙ found_busy serial offer m entries later (is g)))))

-- ---- a mark

kept_by : (a b : Bool) → b ≡ true → (a && b) ≡ a
kept_by true b h = h
kept_by false b h = refl

both_out : (h t gone : Bool) → ((h && not gone) || (t && not gone)) ≡ ((h || t) && not gone)
both_out true t true = and_right t false refl
both_out true t false = refl
both_out false t gone = refl

marked_first : (meter : ℕ) (state : RowState) (row : Row) (m : ℕ) → is_live state ≡ false
    → (eqb (marked_row meter state row).meter m && is_live (marked_row meter state row).state) ≡ ((eqb row.meter m && is_live row.state) && not (eqb meter m))
marked_first meter state row m ended =
    cond_both (eqb row.meter meter) (record { meter = row.meter; state = state }) row (λ (r : Row). (eqb r.meter m && is_live r.state) ≡ ((eqb row.meter m && is_live row.state) && not (eqb meter m)))
    (λ same.
    and_right _ _ ended
    ∙ sym (⊎_elim
    (λ of_meter. and_right _ _ (not_from_true _ of_meter))
    (λ other. and_left _ _ (and_left _ _ (ap (λ n. eqb n m) ((Decides-eqb row.meter meter).0 same) ∙ other)))
    (cases_Bool (eqb meter m))))
    (λ away.
    ⊎_elim
    (λ of_meter.
    let another : eqb row.meter m ≡ false = ap (λ n. eqb row.meter n) (sym ((Decides-eqb meter m).0 of_meter)) ∙ away in
    and_left _ _ another ∙ sym (and_left _ _ (and_left _ _ another)))
    (λ other. sym (kept_by _ _ (not_from_false _ other)))
    (cases_Bool (eqb meter m)))

-- the meters that are live in the rows after a mark
live_marked : (meter : ℕ) (state : RowState) (rows : List Row) (m : ℕ) → is_live state ≡ false → is_live_in (with_state meter state rows) m ≡ (is_live_in rows m && not (eqb meter m))
live_marked meter state [] m ended = refl
live_marked meter state (row ∷ rows) m ended =
    ap (λ b. b || is_live_in (with_state meter state rows) m) (marked_first meter state row m ended)
    ∙ ap (λ b. ((eqb row.meter m && is_live row.state) && not (eqb meter m)) || b) (live_marked meter state rows m ended)
    ∙ both_out (eqb row.meter m && is_live row.state) (is_live_in rows m) (eqb meter m)

same_state : (a b : RowState) → Some a ≡ Some b → a ≡ b
same_state a b e = cc

-- a meter whose state is live is live in the rows
state_live : (rows : List Row) (meter : ℕ) → state_of rows meter ≡ Some Live → is_live_in rows meter ≡ true
state_live [] meter h = cc
state_live (row ∷ rows) meter h =
    ⊎_elim
    (λ here.
    let live : row.state ≡ Live = same_state row.state Live (sym (ap (λ b. option_map (λ (r : Row). r.state) (cond b (Some row) (find (λ (r : Row). eqb r.meter meter) rows))) here) ∙ h) in
    or_left _ _ (and_from _ _ here (ap is_live live)))
    (λ other.
    or_right _ _ (state_live rows meter (sym (ap (λ b. option_map (λ (r : Row). r.state) (cond b (Some row) (find (λ (r : Row). eqb r.meter meter) rows))) other) ∙ h)))
    (cases_Bool (eqb row.meter meter))

abbrev state_at : Bool → Option Offered → ℕ → Option RowState
state_at own found meter = option_and_then (λ (offer : Offered). state_of offer.rows meter) (cond own found None)

-- the campaign of a live row
campaign_found : (own : Bool) (found : Option Offered) (meter : ℕ) → state_at own found meter ≡ Some Live → (offer : Offered) × (found ≡ Some offer) × (is_live_in offer.rows meter ≡ true)
campaign_found true (Some offer) meter h = (offer, refl, state_live offer.rows meter h)
campaign_found true None meter h = cc
campaign_found false found meter h = cc

-- the meters that are live in a campaign after a mark of a live row
pub busy_marked : (book : Contents) (campaign : Campaign) (meter : ℕ) (state : RowState) → IsBook book → is_live state ≡ false → state_in book campaign meter ≡ Some Live → (m : ℕ)
    → is_busy (at_serial campaign.serial (with_state meter state) book.campaigns) m ≡ (is_busy book.campaigns m && not (eqb meter m))
busy_marked book campaign meter state kept ended live m =
    let at = campaign_found (eqb campaign.head book.head) (lookup (nat_eq campaign.serial) book.campaigns) meter live in
    busy_changed campaign.serial (with_state meter state) at.0 m (eqb meter m)
    (λ same. ap (λ n. is_live_in at.0.rows n) (sym ((Decides-eqb meter m).0 same)) ∙ at.2)
    (live_marked meter state at.0.rows m ended)
    book.campaigns kept.apart at.1

-- ---- a cancelling

cancelled_first : (row : Row) (m : ℕ) → (eqb (cancelled_row row).meter m && is_live (cancelled_row row).state) ≡ false
cancelled_first row m =
    cond_both (is_live row.state) (record { meter = row.meter; state = Cancelled }) row (λ (r : Row). (eqb r.meter m && is_live r.state) ≡ false)
    (λ live. and_right _ _ refl)
    (λ ended. and_right _ _ ended)

-- no meter is live in cancelled rows
live_cancelled : (rows : List Row) (m : ℕ) → is_live_in (cancelled_rows rows) m ≡ false
live_cancelled [] m = refl
live_cancelled (row ∷ rows) m = or_from _ _ (cancelled_first row m) (live_cancelled rows m)

none_left : (b : Bool) → (b && not b) ≡ false
none_left true = refl
none_left false = refl

-- the meters that are live in a campaign after one is cancelled
pub busy_cancelled : (serial : ℕ) (offer : Offered) (entries : List (ℕ × Offered)) → AllApart entries → lookup (nat_eq serial) entries ≡ Some offer → (m : ℕ)
    → is_busy (at_serial serial cancelled_rows entries) m ≡ (is_busy entries m && not (is_live_in offer.rows m))
busy_cancelled serial offer entries apart found m =
    busy_changed serial cancelled_rows offer m (is_live_in offer.rows m) (λ live. live)
    (live_cancelled offer.rows m ∙ sym (none_left (is_live_in offer.rows m)))
    entries apart found
