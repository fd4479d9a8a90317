-- The campaigns of the books of a fleet.
use Rattle.std.proofs.Common.{◌≡◌, ◌≢◌, ◌++◌, ◌<◌, ◌^◌, ◌≤◌, ℕ, zero, suc, Bool, true, false, cond, eqb, nat_eq, List, [], ◌∷◌, map, Option, Some, None, slice_get, refl, sym, ap, subst, ◌∙◌, arith}
use Rattle.std.specs.Prelude.{AllPairs, Contains}
use Rattle.std.specs.Map.{lookup}
use Rattle.std.specs.Option.{option_map, option_or}
use Rattle.std.proofs.lemmas.Bool.{cond-false, eqb-true, ne_eqb}
use Rattle.std.proofs.lemmas.List.Elements.{All-contains, All-from_recursion, Contains-append_left, Contains-append_right}
use Rattle.std.proofs.lemmas.Map.Views.{Contains-from_lookup}
use Rattle.fw_names.specs.Name.{Campaign, IsOpened}
use Rattle.fw_book.specs.Contents.{Contents, IsBook, IsEntry, Offered, offered_in}
use Rattle.fw_fleet_audit.specs.Laws.{image_by}
use Rattle.fw_fleet_audit.specs.Rows.{campaign_of}
use Rattle.fw_fleet_audit.specs.Switches.{offer_in}
use Rattle.fw_runs_told.specs.Fleet.{number_of_book}
use Rattle.fw_runs_told.proofs.Lists.{first_in, in_got, in_rest, map_in, none_in, one_value, pairs_tail, same_some}

-- ---- a campaign of a book

-- the book has it, under its serial number
pub record IsKept (book : Contents) (campaign : Campaign) (offer : Offered) : Type 0 where
  pub head : campaign.head ≡ book.head
  pub own : campaign_of book.head campaign.serial ≡ campaign
  pub inside : Contains book.campaigns (campaign.serial, offer)

found_with : (own : Bool) (found : Option Offered) (offer : Offered) → cond own found None ≡ Some offer → (own ≡ true) × (found ≡ Some offer)
found_with true found offer e = (refl, e)
found_with false found offer e = absurd cc

pub is_kept : (book : Contents) (campaign : Campaign) (offer : Offered) → offered_in book campaign ≡ Some offer → IsKept book campaign offer
is_kept book campaign offer e =
    let found = found_with (eqb campaign.head book.head) (lookup (nat_eq campaign.serial) book.campaigns) offer e in
    let head : campaign.head ≡ book.head = eqb-true campaign.head book.head found.0 in
    record {
      head = head;
      own = ap (λ (h : ℕ). campaign_of h campaign.serial) (sym head);
      inside = Contains-from_lookup eqb-true campaign.serial offer book.campaigns found.1;
    }

pub is_opened : (book : Contents) (campaign : Campaign) (offer : Offered) → IsBook book → offered_in book campaign ≡ Some offer → IsOpened campaign
is_opened book campaign offer is_book e =
    let kept = is_kept book campaign offer e in
    let entry : IsEntry (campaign.serial, offer) =
    All-contains IsEntry book.campaigns (campaign.serial, offer) (All-from_recursion IsEntry book.campaigns is_book.entries) kept.inside in
    record {
      head_begins = subst (λ (n : ℕ). 1 ≤ n) (sym kept.head) is_book.head_begins;
      head_fits = subst (λ (n : ℕ). n < 2 ^ 32) (sym kept.head) is_book.head_fits;
      serial_begins = entry.serial_begins;
      serial_fits = entry.serial_fits;
    }

-- ---- what books offer

-- a book that offers it
pub record IsOfferOf (books : List Contents) (campaign : Campaign) (image : List ℕ) : Type 0 where
  pub book : Contents
  pub inside : Contains books book
  pub offer : Offered
  pub offered : offered_in book campaign ≡ Some offer
  pub is : offer.image ≡ image

abbrev image_of : Option Offered → Option (List ℕ)
image_of o = option_map (λ (offer : Offered). offer.image) o

offer_later : (book : Contents) (books : List Contents) (campaign : Campaign) (image : List ℕ) → IsOfferOf books campaign image → IsOfferOf (book ∷ books) campaign image
offer_later book books campaign image o = record { book = o.book; inside = in_rest book o.book books o.inside; offer = o.offer; offered = o.offered; is = o.is }

first_offer : (book : Contents) (books : List Contents) (campaign : Campaign) (image : List ℕ) → (image_by books campaign ≡ Some image → IsOfferOf books campaign image)
    → (o : Option Offered) → offered_in book campaign ≡ o → image_of (option_or o (offer_in books campaign)) ≡ Some image → IsOfferOf (book ∷ books) campaign image
first_offer book books campaign image later None none found = offer_later book books campaign image (later found)
first_offer book books campaign image later (Some offer) there found = record { book = book; inside = first_in book books; offer = offer; offered = there; is = same_some offer.image image found }

pub find_offer : (books : List Contents) (campaign : Campaign) (image : List ℕ) → image_by books campaign ≡ Some image → IsOfferOf books campaign image
find_offer [] campaign image e = absurd cc
find_offer (book ∷ books) campaign image e = first_offer book books campaign image (find_offer books campaign image) (offered_in book campaign) refl e

no_offer : (book other : Contents) (campaign : Campaign) → campaign.head ≡ other.head → book.head ≢ other.head → offered_in book campaign ≡ None
no_offer book other campaign own apart =
    cond-false (eqb campaign.head book.head) (lookup (nat_eq campaign.serial) book.campaigns) None
    (ne_eqb campaign.head book.head (λ (same : campaign.head ≡ book.head). apart (sym same ∙ own)))

-- the first of these books isn't a later one's head end's
differs : (first book : Contents) (books : List Contents) (at : ℕ) → AllPairs ◌≢◌ (map number_of_book (first ∷ books)) → slice_get (first ∷ books) (suc at) ≡ Some book → first.head ≢ book.head
differs first book books at apart there same =
    let one : zero ≡ suc at = one_value number_of_book (first ∷ books) zero (suc at) first book apart refl there same in absurd (omega (arith, one))

-- what a book offers, no other one does
offers_at : (books : List Contents) (at : ℕ) (book : Contents) (campaign : Campaign) (offer : Offered) → AllPairs ◌≢◌ (map number_of_book books) → slice_get books at ≡ Some book
    → offered_in book campaign ≡ Some offer → offer_in books campaign ≡ Some offer
offers_at [] at book campaign offer apart there e = absurd cc
offers_at (first ∷ books) zero book campaign offer apart there e =
    let same : first ≡ book = same_some first book there in
    ap (λ (o : Option Offered). option_or o (offer_in books campaign)) (ap (λ (b : Contents). offered_in b campaign) same ∙ e)
offers_at (first ∷ books) (suc at) book campaign offer apart there e =
    ap (λ (o : Option Offered). option_or o (offer_in books campaign))
    (no_offer first book campaign (is_kept book campaign offer e).head (differs first book books at apart there))
    ∙ offers_at books at book campaign offer (pairs_tail ◌≢◌ first.head (map number_of_book books) apart) there e

pub offers_image : (books : List Contents) (book : Contents) (campaign : Campaign) (offer : Offered) → AllPairs ◌≢◌ (map number_of_book books) → Contains books book
    → offered_in book campaign ≡ Some offer → image_by books campaign ≡ Some offer.image
offers_image books book campaign offer apart inside e =
    let at = in_got books book inside in
    ap image_of (offers_at books at.0 book campaign offer apart at.1 e)

-- ---- all campaigns

abbrev campaigns_of : Contents → List Campaign
campaigns_of book = map (λ (entry : ℕ × Offered). campaign_of book.head entry.0) book.campaigns

abbrev pub campaigns_in : List Contents → List Campaign
campaigns_in [] = []
campaigns_in (book ∷ books) = campaigns_of book ++ campaigns_in books

campaign_there : (books : List Contents) (book : Contents) (campaign : Campaign) (offer : Offered) → Contains books book → offered_in book campaign ≡ Some offer → Contains (campaigns_in books) campaign
campaign_there [] book campaign offer c e = absurd (none_in book c)
campaign_there (first ∷ books) book campaign offer (zero, inside, is) e =
    let kept = is_kept book campaign offer e in
    Contains-append_left (campaigns_of first) (campaigns_in books) campaign
    (subst (λ (b : Contents). Contains (campaigns_of b) campaign) (sym is)
    (subst (λ (c : Campaign). Contains (campaigns_of book) c) kept.own
    (map_in (λ (entry : ℕ × Offered). campaign_of book.head entry.0) book.campaigns (campaign.serial, offer) kept.inside)))
campaign_there (first ∷ books) book campaign offer (suc k, inside, is) e =
    Contains-append_right (campaigns_of first) (campaigns_in books) campaign (campaign_there books book campaign offer (k, omega arith, is) e)

-- each that is offered is one of them
pub offered_there : (books : List Contents) (campaign : Campaign) (image : List ℕ) → image_by books campaign ≡ Some image → Contains (campaigns_in books) campaign
offered_there books campaign image e =
    let o = find_offer books campaign image e in
    campaign_there books o.book campaign o.offer o.inside o.offered
