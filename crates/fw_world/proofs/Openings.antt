-- A new world.
use Rattle.std.proofs.Common.{◌≡◌, ℕ, nat_eq, ◌==◌, Bool, true, false, cond, if◌then◌else◌, List, [], ◌∷◌, map, Option, Some, None, refl, sym, ap, subst, ◌∙◌, eqb-true, All}
use Rattle.std.proofs.lemmas.List.Elements.{All-head, All-tail}
use Rattle.std.specs.Map.{lookup}
use Rattle.std.specs.Option.{option_map, option_and_then}
use Rattle.fw_names.specs.Name.{Campaign}
use Rattle.fw_store.specs.Setup as store
use Rattle.fw_image.specs.Fresh.{fresh_meter}
use Rattle.fw_image.specs.Meter.{Meter}
use Rattle.fw_book.specs.Contents.{Offered, image_in, state_in}
use Rattle.fw_book.specs.Changes.{empty_book}
use Rattle.fw_book.specs.Rows.{state_of}
use Rattle.fw_head.specs.Head.{Head}
use Rattle.fw_world.specs.declared.setup.HeadSetup.{HeadSetup}
use Rattle.fw_store.specs.declared.version.HeaderVersion.{HeaderVersion}
use Rattle.fw_world.specs.declared.setup.MeterSetup.{MeterSetup}
use Rattle.fw_world.specs.declared.setup.Setup.{Setup}
use Rattle.fw_world.specs.Step.{IsOpening}
use Rattle.fw_world.specs.State.{State, IsState, is_done, world_of}
use Rattle.fw_world.specs.Parts.{head_behind}
use Rattle.fw_world.specs.Setup.{IsSetup, IsStored, head_of, head_entry, meter_of, meter_entry, opening_state, version_of}

abbrev IsNew : Meter → Type 0
IsNew meter =
    (version : HeaderVersion) × (block_size capacity : ℕ) × (factory : List ℕ) × store.IsSetup version block_size capacity factory × (meter ≡ fresh_meter version block_size capacity factory)

-- what is found under a number is what one of them is made to
found_first : {V : Type 0} (b : Bool) (first found : V) (rest : Option V) → cond b (Some first) rest ≡ Some found → (P : V → Type 0) → (b ≡ true → P first) → (rest ≡ Some found → P found) → P found
found_first true first found rest e P here there = let same : first ≡ found = cc in subst P same (here refl)
found_first false first found rest e P here there = there e

-- ---- each head end is its own

own_head : (heads : List HeadSetup) (number : ℕ) (head : Head) → lookup (nat_eq number) (map head_entry heads) ≡ Some head → head.book.head ≡ number
own_head [] number head e = absurd cc
own_head (first ∷ others) number head e =
    found_first (nat_eq number first.head) (head_of first) head (lookup (nat_eq number) (map head_entry others)) e (λ (h : Head). h.book.head ≡ number)
    (λ same. sym (eqb-true number first.head same)) (own_head others number head)

pub new_own : (heads : List HeadSetup) (s : State) → s.heads ≡ map head_entry heads → IsState s
new_own heads s made = record { own = λ number head e. own_head heads number head (ap (λ es. lookup (nat_eq number) es) (sym made) ∙ e) }

-- so is each of any list of head ends
own_core : (heads : List Head) (number : ℕ) (head : Head) → lookup (nat_eq number) (map head_behind heads) ≡ Some head → head.book.head ≡ number
own_core [] number head e = absurd cc
own_core (first ∷ others) number head e =
    found_first (nat_eq number first.book.head) first head (lookup (nat_eq number) (map head_behind others)) e (λ (h : Head). h.book.head ≡ number)
    (λ same. sym (eqb-true number first.book.head same)) (own_core others number head)

pub parts_own : (heads : List Head) (s : State) → s.heads ≡ map head_behind heads → IsState s
parts_own heads s joined = record { own = λ number head e. own_core heads number head (ap (λ es. lookup (nat_eq number) es) (sym joined) ∙ e) }

-- ---- it offers nothing, and nobody is done

no_image : (number : ℕ) (campaign : Campaign) → image_in (empty_book number) campaign ≡ None
no_image number campaign = go (campaign.head == number)
  where
    go : (b : Bool) → option_map (λ (offer : Offered). offer.image) (if b then None else None) ≡ None
    go true = refl
    go false = refl

no_state : (number : ℕ) (campaign : Campaign) (meter : ℕ) → state_in (empty_book number) campaign meter ≡ None
no_state number campaign meter = go (campaign.head == number)
  where
    go : (b : Bool) → option_and_then (λ (offer : Offered). state_of offer.rows meter) (if b then None else None) ≡ None
    go true = refl
    go false = refl

none_in : {X : Type 0} (f : Head → Option X) → ((first : HeadSetup) → f (head_of first) ≡ None) → (heads : List HeadSetup) (number : ℕ) → option_and_then f (lookup (nat_eq number) (map head_entry heads)) ≡ None
none_in f none [] number = refl
none_in f none (first ∷ others) number = either (nat_eq number first.head) (head_of first) (lookup (nat_eq number) (map head_entry others)) f (none first) (none_in f none others number)
  where
    either : {X : Type 0} (b : Bool) (head : Head) (rest : Option Head) (f : Head → Option X) → f head ≡ None → option_and_then f rest ≡ None → option_and_then f (cond b (Some head) rest) ≡ None
    either true head rest f here there = here
    either false head rest f here there = there

-- ---- its meters are new

new_meter : (meters : List MeterSetup) (number : ℕ) (meter : Meter) → All IsStored meters → lookup (nat_eq number) (map meter_entry meters) ≡ Some meter → IsNew meter
new_meter [] number meter stored e = absurd cc
new_meter (first ∷ others) number meter stored e =
    found_first (nat_eq number first.meter) (meter_of first) meter (lookup (nat_eq number) (map meter_entry others)) e IsNew
    (λ same. (version_of first, first.block_size, first.capacity, first.factory.items, All-head IsStored first others stored, refl))
    (new_meter others number meter (All-tail IsStored first others stored))

pub is_opening : (setup : Setup) → IsSetup setup → IsOpening (world_of (opening_state setup))
is_opening setup is = record {
  offered = λ campaign. none_in (λ (head : Head). image_in head.book campaign) (λ first. no_image first.head campaign) setup.heads.items campaign.head;
  sent = refl;
  meters = λ number meter e. new_meter setup.meters.items number meter is.stored e;
  activations = refl;
  done = λ campaign meter. ap is_done (none_in (λ (head : Head). state_in head.book campaign meter) (λ first. no_state first.head campaign meter) setup.heads.items campaign.head);
}
