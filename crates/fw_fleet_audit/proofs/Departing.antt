-- Where something departs, not all is as it should be.
use Rattle.std.proofs.Common.{◌≡◌, ◌<◌, ◌≤◌, ℕ, zero, suc, true, false, List, [], ◌∷◌, Option, Some, None, length, take, slice_index_or, sym, ap, subst, ◌∙◌, arith}
use Rattle.std.specs.Prelude.{◌==◌, Contains}
use Rattle.std.specs.List.{list_any}
use Rattle.std.proofs.lemmas.Bool.{false≢true, or_left, or_right}
use Rattle.std.proofs.lemmas.Bool.Decides.{Decides-eqb}
use Rattle.std.proofs.lemmas.List.{get_or-take, length-take}
use Rattle.fw_names.specs.Name.{Name, name_of}
use Rattle.fw_image.specs.Meter.{Image}
use Rattle.fw_book.specs.Contents.{Contents, Offered}
use Rattle.fw_fleet_audit.specs.Laws.{RowDeparts, SwitchDeparts}
use Rattle.fw_fleet_audit.specs.Rows.{AreRowsBorneOut, Audited, HasSwitched, IsBorneOut, Lacks, offered_name}
use Rattle.fw_fleet_audit.specs.Switches.{AreOffered, Breaks, IsOffered, offer_in}
use Rattle.fw_fleet_audit.specs.declared.error.RowRule.{RowRule}
use Rattle.fw_fleet_audit.specs.declared.error.RowRule.TheVariants as lacking
use Rattle.fw_fleet_audit.specs.declared.error.SwitchRule.{SwitchRule}
use Rattle.fw_fleet_audit.specs.declared.error.SwitchRule.TheVariants as broken
use Rattle.fw_fleet_audit.proofs.Lists.{all_got, got_inside, got_is}

-- ---- switches

pub same_offer : (o : Option Offered) (a b : Offered) → o ≡ Some a → o ≡ Some b → a ≡ b
same_offer o a b first second = cc

no_offer : (o : Option Offered) (a : Offered) → o ≡ None → o ≡ Some a → ⊥
no_offer o a none some = cc

-- an image before this place has no higher release than the one there
not_fallen : (books : List Contents) (images : List Image) (at : ℕ) (image earlier : Image) → AreOffered books images → at < length images → slice_index_or images at earlier ≡ image
    → Contains (take at images) earlier → earlier.name.release ≤ image.name.release
not_fallen books images at image earlier are inside is (k, early, there) =
    let before : k < at = omega (arith, length-take at images) in
    let own : slice_index_or images k earlier ≡ earlier = sym (get_or-take at images k earlier before) ∙ there in
    subst (λ (i : Image). earlier.name.release ≤ i.name.release) is
    (subst (λ (i : Image). i.name.release ≤ (slice_index_or images at earlier).name.release) own (are.risen k at earlier before inside))

breaks_none : (books : List Contents) (images : List Image) (at : ℕ) (image : Image) (rule : SwitchRule) → AreOffered books images → at < length images
    → ((d : Image) → slice_index_or images at d ≡ image) → IsOffered books image → Breaks books (take at images) image rule → ⊥
breaks_none books images at image broken.NotOffered are inside is offered none = no_offer (offer_in books image.name.campaign) offered.offer none offered.offers
breaks_none books images at image broken.OtherBytes are inside is offered (offer, offers, other) =
    let same = same_offer (offer_in books image.name.campaign) offered.offer offer offered.offers offers in
    other (offered.equal ∙ ap (λ (o : Offered). o.image) same)
breaks_none books images at image broken.OtherName are inside is offered (offer, offers, equal, other) =
    let same = same_offer (offer_in books image.name.campaign) offered.offer offer offered.offers offers in
    other (offered.named ∙ ap (λ (o : Offered). name_of image.name.campaign o.release o.image) same)
breaks_none books images at image broken.ReleaseFell are inside is offered (own, (earlier, there, fell)) =
    let order = not_fallen books images at image earlier are inside (is earlier) there in omega arith

pub switch_departs : SwitchDeparts
switch_departs books images d departs are =
    let there = departs.there in
    breaks_none books images d.at departs.image d.rule are (got_inside images d.at departs.image there) (λ other. got_is images d.at departs.image other there)
    (all_got (IsOffered books) images d.at departs.image there are.offered) departs.breaks

-- ---- rows

any_in : (meters : List Audited) (meter : ℕ) (a : Audited) → Contains meters a → a.meter ≡ meter → list_any (λ (x : Audited). x.meter == meter) meters ≡ true
any_in [] meter a (k, inside, is) own = absurd (omega arith)
any_in (x ∷ meters) meter a (zero, inside, is) own = or_left _ _ ((Decides-eqb x.meter meter).1 (ap (λ (y : Audited). y.meter) is ∙ own))
any_in (x ∷ meters) meter a (suc k, inside, is) own = or_right _ _ (any_in meters meter a (k, omega arith, is) own)

lacks_none : (meters : List Audited) (meter : ℕ) (name : Name) (rule : RowRule) → HasSwitched meters meter name → Lacks meters meter name rule → ⊥
lacks_none meters meter name lacking.NotAudited (a, there, (own, has)) none = false≢true (sym none ∙ any_in meters meter a there own)
lacks_none meters meter name lacking.DoneNotActivated has (some, never) = never has

pub row_departs : RowDeparts
row_departs book meters d departs are =
    let first = departs.first in
    let name : Name = offered_name book.head departs.entry in
    let rows = all_got (AreRowsBorneOut meters book.head) book.campaigns departs.at departs.entry departs.there are in
    let has : HasSwitched meters first.row.meter name = all_got (IsBorneOut meters name) departs.entry.1.rows first.at first.row first.there rows first.done in
    lacks_none meters d.meter name d.rule (subst (λ (m : ℕ). HasSwitched meters m name) first.own has) first.lacks
