-- What a change does.
use Rattle.std.proofs.Common.{◌≡◌, ◌+◌, ◌<◌, ◌≤◌, ◌++◌, ℕ, zero, suc, Bool, true, false, eqb, nat_eq, cond, List, [], ◌∷◌, Option, Some, None, length, slice_index_or, find, refl, sym, ap, subst, ◌∙◌, arith, ⊎_elim, length-append}
use Rattle.std.specs.Prelude.{Contains}
use Rattle.std.specs.Map.{lookup}
use Rattle.std.specs.Option.{option_map, option_and_then}
use Rattle.std.proofs.lemmas.Bool.{cases_Bool, eqb-true}
use Rattle.std.proofs.lemmas.List.Elements.{All-contains}
use Rattle.std.proofs.lemmas.Map.Views.{Contains-from_lookup}
use Rattle.fw_names.specs.Name.{Campaign, Name, name_of}
use Rattle.fw_image.specs.Meter.{Image}
use Rattle.fw_book.specs.Contents.{Contents, Offered, offered_in, state_in}
use Rattle.fw_book.specs.Rows.{state_of}
use Rattle.fw_book.specs.declared.row.Row.{Row}
use Rattle.fw_book.specs.declared.row.RowState.{RowState}
use Rattle.fw_book.specs.declared.row.RowState.TheVariants.{Done}
use Rattle.fw_fleet_audit.specs.Laws.{DoneHasSwitched, EachMayStand, OneImage}
use Rattle.fw_fleet_audit.specs.Rows.{AreRowsBorneOut, HasSwitched, IsBorneOut, campaign_of, offered_name}
use Rattle.fw_fleet_audit.specs.Switches.{IsOffered, offer_in}
use Rattle.fw_fleet_audit.proofs.Departing.{same_offer}
use Rattle.fw_fleet_audit.proofs.Lists.{all_got, got_behind, in_rest}

-- ---- switches

pub one_image : OneImage
one_image books a b of_a of_b same =
    let offers : offer_in books a.name.campaign ≡ Some of_b.offer = ap (λ (k : Campaign). offer_in books k) same ∙ of_b.offers in
    let one : of_a.offer ≡ of_b.offer = same_offer (offer_in books a.name.campaign) of_a.offer of_b.offer of_a.offers offers in
    let bytes : a.bytes ≡ b.bytes = of_a.equal ∙ ap (λ (o : Offered). o.image) one ∙ sym of_b.equal in
    let name : a.name ≡ b.name = of_a.named ∙ ap (λ (k : Campaign). name_of k of_a.offer.release of_a.offer.image) same
    ∙ ap (λ (o : Offered). name_of b.name.campaign o.release o.image) one ∙ sym of_b.named in
    ap (λ (n : Name). (let i : Image = record { name = n; bytes = a.bytes } in i)) name ∙ ap (λ (l : List ℕ). (let i : Image = record { name = b.name; bytes = l } in i)) bytes

index_before : (front : List Image) (image : Image) (back : List Image) (k : ℕ) (d : Image) → k < length front → slice_index_or (front ++ image ∷ back) k d ≡ slice_index_or front k d
index_before [] image back k d inside = absurd (omega arith)
index_before (x ∷ front) image back zero d inside = refl
index_before (x ∷ front) image back (suc k) d inside = index_before front image back k d (omega arith)

index_behind : (front : List Image) (image : Image) (back : List Image) (d : Image) → slice_index_or (front ++ image ∷ back) (length front) d ≡ image
index_behind [] image back d = refl
index_behind (x ∷ front) image back d = index_behind front image back d

pub each_may_stand : EachMayStand
each_may_stand books front back image are = record {
  offered = all_got (IsOffered books) (front ++ image ∷ back) (length front) image (got_behind front image back) are.offered;
  risen = λ k d inside.
      let within : length front < length (front ++ image ∷ back) = omega (arith, length-append front (image ∷ back)) in
      subst (λ (i : Image). (slice_index_or front k d).name.release ≤ i.name.release) (index_behind front image back d)
      (subst (λ (i : Image). i.name.release ≤ (slice_index_or (front ++ image ∷ back) (length front) d).name.release) (index_before front image back k d inside)
      (are.risen k (length front) d inside within));
}

-- ---- rows

same_state : (a b : RowState) → Some a ≡ Some b → a ≡ b
same_state a b e = cc

-- the row that tells a meter's state
pub row_of_state : (rows : List Row) (meter : ℕ) (state : RowState) → state_of rows meter ≡ Some state → (row : Row) × Contains rows row × (row.meter ≡ meter) × (row.state ≡ state)
row_of_state [] meter state e = absurd cc
row_of_state (row ∷ rows) meter state e =
    ⊎_elim
    (λ here.
    let told : Some row.state ≡ Some state = sym (ap (λ b. option_map (λ (r : Row). r.state) (cond b (Some row) (find (λ (r : Row). eqb r.meter meter) rows))) here) ∙ e in
    let is : row.state ≡ state = same_state row.state state told in
    (row, (zero, omega arith, refl), eqb-true row.meter meter here, is))
    (λ other.
    let later = row_of_state rows meter state (sym (ap (λ b. option_map (λ (r : Row). r.state) (cond b (Some row) (find (λ (r : Row). eqb r.meter meter) rows))) other) ∙ e) in
    (later.0, in_rest row later.0 rows later.1, later.2, later.3))
    (cases_Bool (eqb row.meter meter))

-- the campaign of a book that has a state of a meter
pub record IsFound (book : Contents) (campaign : Campaign) (meter : ℕ) (state : RowState) : Type 0 where
  pub offer : Offered
  pub head : campaign.head ≡ book.head
  pub found : offered_in book campaign ≡ Some offer
  pub inside : Contains book.campaigns (campaign.serial, offer)
  pub told : state_of offer.rows meter ≡ Some state

found_with : (own : Bool) (found : Option Offered) (meter : ℕ) (state : RowState) → option_and_then (λ (offer : Offered). state_of offer.rows meter) (cond own found None) ≡ Some state
    → (offer : Offered) × (own ≡ true) × (found ≡ Some offer) × (state_of offer.rows meter ≡ Some state)
found_with true (Some offer) meter state e = (offer, refl, refl, e)
found_with true None meter state e = absurd cc
found_with false found meter state e = absurd cc

pub found_state : (book : Contents) (campaign : Campaign) (meter : ℕ) (state : RowState) → state_in book campaign meter ≡ Some state → IsFound book campaign meter state
found_state book campaign meter state e =
    let at = found_with (eqb campaign.head book.head) (lookup (nat_eq campaign.serial) book.campaigns) meter state e in
    record {
      offer = at.0;
      head = eqb-true campaign.head book.head at.1;
      found = ap (λ (b : Bool). cond b (lookup (nat_eq campaign.serial) book.campaigns) None) at.1 ∙ at.2;
      inside = Contains-from_lookup eqb-true campaign.serial at.0 book.campaigns at.2;
      told = at.3;
    }

pub done_has_switched : DoneHasSwitched
done_has_switched book meters campaign meter are e =
    let at = found_state book campaign meter Done e in
    let entry : ℕ × Offered = (campaign.serial, at.offer) in
    let name : Name = name_of campaign at.offer.release at.offer.image in
    let own : campaign_of book.head campaign.serial ≡ campaign = ap (λ (h : ℕ). campaign_of h campaign.serial) (sym at.head) in
    let named : offered_name book.head entry ≡ name = ap (λ (k : Campaign). name_of k at.offer.release at.offer.image) own in
    let rows = All-contains (AreRowsBorneOut meters book.head) book.campaigns entry are at.inside in
    let row = row_of_state at.offer.rows meter Done at.told in
    let has : HasSwitched meters row.0.meter (offered_name book.head entry) = All-contains (IsBorneOut meters (offered_name book.head entry)) at.offer.rows row.0 rows row.1 row.3 in (
      name,
      ap (λ (o : Option Offered). option_map (λ (offer : Offered). name_of campaign offer.release offer.image) o) at.found,
      subst (λ (m : ℕ). HasSwitched meters m name) row.2 (subst (HasSwitched meters row.0.meter) named has),
    )
