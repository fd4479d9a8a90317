-- The done rows of the books of a fleet.
use Rattle.std.proofs.Common.{◌≡◌, ◌↔◌, ◌++◌, ℕ, zero, suc, Bool, true, false, cond, eqb, List, [], ◌∷◌, map, find, Option, Some, None, refl, sym, ap, subst, ◌∙◌, arith, ⊎_elim}
use Rattle.std.specs.Prelude.{Contains, filter}
use Rattle.std.specs.Option.{option_and_then, option_map}
use Rattle.std.proofs.lemmas.Bool.{cases_Bool, eqb-true}
use Rattle.std.proofs.lemmas.List.Elements.{All-contains, Contains-append_cases, Contains-append_left, Contains-append_right, filter_passes}
use Rattle.fw_names.specs.Name.{Campaign, Name, name_of}
use Rattle.fw_book.specs.Contents.{Contents, Offered, offered_in, state_in}
use Rattle.fw_book.specs.Rows.{state_of}
use Rattle.fw_book.specs.declared.row.Row.{Row}
use Rattle.fw_book.specs.declared.row.RowState.{RowState}
use Rattle.fw_book.specs.declared.row.RowState.TheVariants as states
use Rattle.fw_audit.specs.Log.{Item}
use Rattle.fw_fleet_audit.specs.Rows.{campaign_of, offered_name}
use Rattle.fw_head_audit.specs.Heads.{AreClaimed, AreRowsClaimed, HasClaimed, IsClaimedRow}
use Rattle.fw_head_audit.specs.declared.meter.AskedMeter.{AskedMeter}
use Rattle.fw_world.specs.State.{is_done}
use Rattle.fw_runs_told.specs.Fleet.{Fleet, HeadEnd}
use Rattle.fw_runs_told.specs.Runs.{IsDoneIn}
use Rattle.fw_runs_told.proofs.Books.{IsKept, is_kept}
use Rattle.fw_runs_told.proofs.Lists.{first_in, in_filter, in_rest, map_in, none_in, same_some}

-- ---- one row

-- the row that tells a meter's state
row_of_state : (rows : List Row) (meter : ℕ) (state : RowState) → state_of rows meter ≡ Some state → (row : Row) × Contains rows row × (row.meter ≡ meter) × (row.state ≡ state)
row_of_state [] meter state e = absurd cc
row_of_state (row ∷ rows) meter state e =
    ⊎_elim
    (λ (here : eqb row.meter meter ≡ true).
    let told : Some row.state ≡ Some state = sym (ap (λ b. option_map (λ (r : Row). r.state) (cond b (Some row) (find (λ (r : Row). eqb r.meter meter) rows))) here) ∙ e in
    let is : row.state ≡ state = same_some row.state state told in
    (row, first_in row rows, eqb-true row.meter meter here, is))
    (λ (other : eqb row.meter meter ≡ false).
    let later = row_of_state rows meter state (sym (ap (λ b. option_map (λ (r : Row). r.state) (cond b (Some row) (find (λ (r : Row). eqb r.meter meter) rows))) other) ∙ e) in
    (later.0, in_rest row later.0 rows later.1, later.2, later.3))
    (cases_Bool (eqb row.meter meter))

-- the row of a meter that is done in a campaign
pub record IsDoneRow (book : Contents) (campaign : Campaign) (meter : ℕ) : Type 0 where
  pub offer : Offered
  pub offered : offered_in book campaign ≡ Some offer
  pub kept : IsKept book campaign offer
  pub row : Row
  pub inside : Contains offer.rows row
  pub own : row.meter ≡ meter
  pub done : row.state ≡ states.Done

found_with : (found : Option Offered) (meter : ℕ) (state : RowState) → option_and_then (λ (offer : Offered). state_of offer.rows meter) found ≡ Some state
    → (offer : Offered) × (found ≡ Some offer) × (state_of offer.rows meter ≡ Some state)
found_with (Some offer) meter state e = (offer, refl, e)
found_with None meter state e = absurd cc

pub done_row : (book : Contents) (campaign : Campaign) (meter : ℕ) → state_in book campaign meter ≡ Some states.Done → IsDoneRow book campaign meter
done_row book campaign meter e =
    let found = found_with (offered_in book campaign) meter states.Done e in
    let row = row_of_state found.0.rows meter states.Done found.2 in
    record { offer = found.0; offered = found.1; kept = is_kept book campaign found.0 found.1; row = row.0; inside = row.1; own = row.2; done = row.3 }

-- its meter claimed the name under which the campaign offers its image
pub done_claimed : (book : Contents) (asked : List AskedMeter) (log : List Item) (campaign : Campaign) (meter : ℕ) (d : IsDoneRow book campaign meter) → AreClaimed book asked log
    → HasClaimed asked log meter (name_of campaign d.offer.release d.offer.image)
done_claimed book asked log campaign meter d are =
    let entry : ℕ × Offered = (campaign.serial, d.offer) in
    let name : Name = name_of campaign d.offer.release d.offer.image in
    let named : offered_name book.head entry ≡ name = ap (λ (k : Campaign). name_of k d.offer.release d.offer.image) d.kept.own in
    let rows = All-contains (AreRowsClaimed book asked log) book.campaigns entry are d.kept.inside in
    let has : HasClaimed asked log d.row.meter (offered_name book.head entry) = All-contains (IsClaimedRow asked log (offered_name book.head entry)) d.offer.rows d.row rows d.inside d.done in
    subst (λ (m : ℕ). HasClaimed asked log m name) d.own (subst (HasClaimed asked log d.row.meter) named has)

-- ---- all rows

abbrev pub Pairs : Type 0
Pairs = List (Campaign × ℕ)

-- the rows of a campaign, of campaigns, and of a book: each as its campaign and its meter
abbrev pairs_of : Campaign → List Row → Pairs
pairs_of campaign rows = map (λ (row : Row). (let p : Campaign × ℕ = (campaign, row.meter) in p)) rows

abbrev pairs_among : ℕ → List (ℕ × Offered) → Pairs
pairs_among head [] = []
pairs_among head (entry ∷ entries) = pairs_of (campaign_of head entry.0) entry.1.rows ++ pairs_among head entries

among : (head : ℕ) (entries : List (ℕ × Offered)) (entry : ℕ × Offered) (row : Row) → Contains entries entry → Contains entry.1.rows row
    → Contains (pairs_among head entries) (campaign_of head entry.0, row.meter)
among head [] entry row c inside = absurd (none_in entry c)
among head (first ∷ entries) entry row (zero, within, is) inside =
    Contains-append_left (pairs_of (campaign_of head first.0) first.1.rows) (pairs_among head entries) (campaign_of head entry.0, row.meter)
    (subst (λ (x : ℕ × Offered). Contains (pairs_of (campaign_of head x.0) x.1.rows) (campaign_of head entry.0, row.meter)) (sym is)
    (map_in (λ (r : Row). (let p : Campaign × ℕ = (campaign_of head entry.0, r.meter) in p)) entry.1.rows row inside))
among head (first ∷ entries) entry row (suc k, within, is) inside =
    Contains-append_right (pairs_of (campaign_of head first.0) first.1.rows) (pairs_among head entries) (campaign_of head entry.0, row.meter)
    (among head entries entry row (k, omega arith, is) inside)

abbrev is_done_in : Contents → Campaign × ℕ → Bool
is_done_in book pair = is_done (state_in book pair.0 pair.1)

-- those that are done
abbrev done_of : Contents → Pairs
done_of book = filter (is_done_in book) (pairs_among book.head book.campaigns)

abbrev pub done_among : List HeadEnd → Pairs
done_among [] = []
done_among (head ∷ heads) = done_of head.book ++ done_among heads

state_done : (o : Option RowState) → is_done o ≡ true → o ≡ Some states.Done
state_done None e = absurd cc
state_done (Some states.Live) e = absurd cc
state_done (Some states.Done) e = refl
state_done (Some states.Failed) e = absurd cc
state_done (Some states.Cancelled) e = absurd cc

in_book : (book : Contents) (campaign : Campaign) (meter : ℕ) → state_in book campaign meter ≡ Some states.Done → Contains (done_of book) (campaign, meter)
in_book book campaign meter e =
    let d = done_row book campaign meter e in
    let there : Contains (pairs_among book.head book.campaigns) (campaign_of book.head campaign.serial, d.row.meter) =
    among book.head book.campaigns (campaign.serial, d.offer) d.row d.kept.inside d.inside in
    in_filter (is_done_in book) (pairs_among book.head book.campaigns) (campaign, meter)
    (subst (λ (m : ℕ). Contains (pairs_among book.head book.campaigns) (campaign, m)) d.own
    (subst (λ (c : Campaign). Contains (pairs_among book.head book.campaigns) (c, d.row.meter)) d.kept.own there))
    (ap is_done e)

of_book : (book : Contents) (campaign : Campaign) (meter : ℕ) → Contains (done_of book) (campaign, meter) → state_in book campaign meter ≡ Some states.Done
of_book book campaign meter c =
    state_done (state_in book campaign meter)
    (All-contains (λ (p : Campaign × ℕ). is_done_in book p ≡ true) (done_of book) (campaign, meter) (filter_passes (is_done_in book) (pairs_among book.head book.campaigns)) c)

-- a head end has it as done
abbrev HasDone : List HeadEnd → Campaign → ℕ → Type 0
HasDone heads campaign meter = (head : HeadEnd) × Contains heads head × (state_in head.book campaign meter ≡ Some states.Done)

in_heads : (heads : List HeadEnd) (campaign : Campaign) (meter : ℕ) (head : HeadEnd) → Contains heads head → state_in head.book campaign meter ≡ Some states.Done
    → Contains (done_among heads) (campaign, meter)
in_heads [] campaign meter head c e = absurd (none_in head c)
in_heads (first ∷ heads) campaign meter head (zero, within, is) e =
    Contains-append_left (done_of first.book) (done_among heads) (campaign, meter)
    (in_book first.book campaign meter (ap (λ (h : HeadEnd). state_in h.book campaign meter) is ∙ e))
in_heads (first ∷ heads) campaign meter head (suc k, within, is) e =
    Contains-append_right (done_of first.book) (done_among heads) (campaign, meter) (in_heads heads campaign meter head (k, omega arith, is) e)

of_heads : (heads : List HeadEnd) (campaign : Campaign) (meter : ℕ) → Contains (done_among heads) (campaign, meter) → HasDone heads campaign meter
of_heads [] campaign meter c = absurd (none_in (campaign, meter) c)
of_heads (first ∷ heads) campaign meter c =
    ⊎_elim (λ (here : Contains (done_of first.book) (campaign, meter)). (first, first_in first heads, of_book first.book campaign meter here))
    (λ (later : Contains (done_among heads) (campaign, meter)). in_others first heads campaign meter (of_heads heads campaign meter later))
    (Contains-append_cases (done_of first.book) (done_among heads) (campaign, meter) c)
  where
    in_others : (first : HeadEnd) (heads : List HeadEnd) (campaign : Campaign) (meter : ℕ) → HasDone heads campaign meter → HasDone (first ∷ heads) campaign meter
    in_others first heads campaign meter (head, inside, e) = (head, in_rest first head heads inside, e)

-- the done rows are these
pub are_done : (fleet : Fleet) (campaign : Campaign) (meter : ℕ) → Contains (done_among fleet.heads) (campaign, meter) ↔ IsDoneIn fleet campaign meter
are_done fleet campaign meter = (
  λ (c : Contains (done_among fleet.heads) (campaign, meter)). of_heads fleet.heads campaign meter c,
  λ (h : IsDoneIn fleet campaign meter). in_heads fleet.heads campaign meter h.0 h.1 h.2,
)
