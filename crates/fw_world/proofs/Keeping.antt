-- Which head ends and which meters are there stays, and so each number stands once.
use Rattle.std.proofs.Common.{◌≡◌, ℕ, nat_eq, eqb-true, Bool, true, false, cond, ◌==◌, ◌||◌, List, [], ◌∷◌, map, Some, refl, sym, ap, ◌∙◌}
use Rattle.std.specs.List.{list_any}
use Rattle.std.specs.Map.{lookup, set_value, keys_of}
use Rattle.std.proofs.lemmas.Map.{keys-set_value}
use Rattle.fw_image.specs.Meter.{Meter}
use Rattle.fw_head.specs.Head.{Head}
use Rattle.fw_world.specs.declared.setup.HeadSetup.{HeadSetup}
use Rattle.fw_world.specs.declared.setup.MeterSetup.{MeterSetup}
use Rattle.fw_world.specs.World.{Datagram, Activation}
use Rattle.fw_world.specs.Setup.{repeats, number_of_head, number_of_meter, head_entry, meter_entry}
use Rattle.fw_world.specs.State.{State}
use Rattle.fw_world.specs.Parts.{head_behind, number_of, IsOnce}
use Rattle.fw_world.specs.Private.{set_entry, IsWorld}
use Rattle.fw_world.proofs.Places.{moved_own}

-- ---- numbers of what a list is made to

any_map : {A B : Type 0} (f : A → B) (p : B → Bool) (xs : List A) → list_any p (map f xs) ≡ list_any (λ x. p (f x)) xs
any_map f p [] = refl
any_map f p (x ∷ xs) = ap (λ (b : Bool). p (f x) || b) (any_map f p xs)

pub repeats_map : {A B : Type 0} (f : A → B) (number : B → ℕ) (xs : List A) → repeats number (map f xs) ≡ repeats (λ x. number (f x)) xs
repeats_map f number [] = refl
repeats_map f number (x ∷ xs) = λ i. any_map f (λ other. number other == number (f x)) xs i || repeats_map f number xs i

-- entries with the same numbers
repeats_kept : {X : Type 0} (old new : List (ℕ × X)) → keys_of new ≡ keys_of old → repeats number_of old ≡ false → repeats number_of new ≡ false
repeats_kept {X} old new same once =
    sym (repeats_map (λ (e : ℕ × X). e.0) (λ n. n) new) ∙ ap (repeats (λ (n : ℕ). n)) same ∙ repeats_map (λ (e : ℕ × X). e.0) (λ n. n) old ∙ once

-- ---- a head end that is written back stays under its number

pub head_written : (key : ℕ) (heads : List (ℕ × Head)) (written : Head) → written.book.head ≡ key → set_entry (nat_eq key) heads (head_behind written) ≡ set_value (nat_eq key) heads written
head_written key [] written own = refl
head_written key (entry ∷ entries) written own = go (nat_eq key entry.0) refl (head_written key entries written own)
  where
    go : (b : Bool) → nat_eq key entry.0 ≡ b → set_entry (nat_eq key) entries (head_behind written) ≡ set_value (nat_eq key) entries written
        → cond b (head_behind written ∷ entries) (entry ∷ set_entry (nat_eq key) entries (head_behind written)) ≡ cond b ((entry.0, written) ∷ entries) (entry ∷ set_value (nat_eq key) entries written)
    go true same others = λ i. ((own ∙ eqb-true key entry.0 same) i, written) ∷ entries
    go false other others = ap (λ (es : List (ℕ × Head)). entry ∷ es) others

-- ---- what each event keeps

module _ (s : State) (is : IsWorld s) (key : ℕ) where
  -- where the book of a head end stays with it
  pub head_is : (found written : Head) → lookup (nat_eq key) s.heads ≡ Some found → written.book.head ≡ found.book.head → written.book.head ≡ key
  head_is found written there keeps = keeps ∙ is.state.own key found there

  pub with_head : (found written : Head) → lookup (nat_eq key) s.heads ≡ Some found → written.book.head ≡ found.book.head → set_entry (nat_eq key) s.heads (head_behind written) ≡ set_value (nat_eq key) s.heads written
  with_head found written there keeps = head_written key s.heads written (head_is found written there keeps)

  heads_once : (new : List (ℕ × Head)) (written : Head) → new ≡ set_value (nat_eq key) s.heads written → IsOnce (record s { heads = new })
  heads_once new written set = record { heads = repeats_kept s.heads new (ap keys_of set ∙ keys-set_value (nat_eq key) s.heads written) is.once.heads; meters = is.once.meters }

  meters_once : (written : Meter) → repeats number_of (set_value (nat_eq key) s.meters written) ≡ false
  meters_once written = repeats_kept s.meters (set_value (nat_eq key) s.meters written) (keys-set_value (nat_eq key) s.meters written) is.once.meters

  pub keeps_head : (found written : Head) → lookup (nat_eq key) s.heads ≡ Some found → written.book.head ≡ found.book.head → IsWorld (record s { heads = set_entry (nat_eq key) s.heads (head_behind written) })
  keeps_head found written there keeps = record {
    state = moved_own s is.state key _ found written there (with_head found written there keeps) keeps;
    once = heads_once _ written (with_head found written there keeps);
  }

  pub keeps_meter : (written : Meter) → IsWorld (record s { meters = set_value (nat_eq key) s.meters written })
  keeps_meter written = record {
    state = record { own = is.state.own };
    once = record { heads = is.once.heads; meters = meters_once written };
  }

-- the lists may be any
pub keeps_lists : (s : State) → IsWorld s → (sent : List Datagram) (activations : List Activation) → IsWorld (record s { sent = sent; activations = activations })
keeps_lists s is sent activations = record { state = record { own = is.state.own }; once = record { heads = is.once.heads; meters = is.once.meters } }

-- ---- a new world

pub new_once : (heads : List HeadSetup) (meters : List MeterSetup) (s : State) → s.heads ≡ map head_entry heads → s.meters ≡ map meter_entry meters → repeats number_of_head heads ≡ false
    → repeats number_of_meter meters ≡ false → IsOnce s
new_once heads meters s made seated heads_apart meters_apart = record {
  heads = ap (λ (es : List (ℕ × Head)). repeats number_of es) made ∙ repeats_map head_entry number_of heads ∙ heads_apart;
  meters = ap (λ (es : List (ℕ × Meter)). repeats number_of es) seated ∙ repeats_map meter_entry number_of meters ∙ meters_apart;
}
