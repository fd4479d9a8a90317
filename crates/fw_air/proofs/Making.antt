-- The links of a world, as they are made one after another.
use Rattle.std.proofs.Common.{◌≡◌, ℕ, zero, suc, ◌<◌, ◌≤◌, Bool, true, false, IsTrue, is_some, ◌&&◌, List, length, get_or, arith, [], ◌∷◌, ◌++◌, map, filter, cond, Option, Some, None, refl, sym, ap, subst, ◌∙◌, append_assoc}
use Rattle.std.proofs.lemmas.List.{map-append}
use Rattle.std.proofs.lemmas.List.Elements.{All-nil}
use Rattle.fw_head.specs.Head.{Head}
use Rattle.fw_world.specs.declared.setup.MeterSetup.{MeterSetup}
use Rattle.fw_world.specs.Setup.{number_of_meter}
use Rattle.fw_world.specs.State.{State, head_at, meter_at}
use Rattle.fw_air.specs.declared.links.LinkQueue.{LinkQueue}
use Rattle.fw_air.specs.Links.{AreSent, IsThere, link_of}
use Rattle.fw_air.specs.Rounds.{Link, is_link, stands_with, links_with}

first_true : (a b : Bool) → (a && b) ≡ true → a ≡ true
first_true true b e = refl
first_true false b e = absurd cc

second_true : (a b : Bool) → (a && b) ≡ true → b ≡ true
second_true true b e = e
second_true false b e = absurd cc

has_head : (head : Option Head) (meter : ℕ) → stands_with head meter ≡ true → IsTrue (is_some head)
has_head None meter e = absurd cc
has_head (Some head) meter e = refl

-- nothing waits on a new link, and both its ends are in the world
pub new_there : (s : State) (waiting : LinkQueue) → is_link s waiting.head waiting.meter ≡ true → waiting.late.items ≡ [] → IsThere s waiting
new_there s waiting is none = record {
  head = has_head (head_at s waiting.head) waiting.meter (second_true (is_some (meter_at s waiting.meter)) (stands_with (head_at s waiting.head) waiting.meter) is);
  meter = first_true (is_some (meter_at s waiting.meter)) (stands_with (head_at s waiting.head) waiting.meter) is;
  late = subst (AreSent s) (sym none) (All-nil _);
}

module _ (s : State) (head : ℕ) where
  abbrev link : MeterSetup → Link
  link meter = record { head = head; meter = number_of_meter meter }

  abbrev is_with : MeterSetup → Bool
  is_with meter = is_link s head (number_of_meter meter)

  abbrev by : List MeterSetup → MeterSetup → Bool → List Link
  by rest meter b = map link (cond b (meter ∷ filter is_with rest) (filter is_with rest))

  -- the links that were made, and those of the meters that are left
  pub one_link : (meters rest : List MeterSetup) (meter : MeterSetup) (made : List LinkQueue) (one : LinkQueue) (whole : List Link) → meters ≡ meter ∷ rest → is_link s head (number_of_meter meter) ≡ true
      → link_of one ≡ record { head = head; meter = number_of_meter meter } → map link_of made ++ links_with s head meters ≡ whole → map link_of (made ++ one ∷ []) ++ links_with s head rest ≡ whole
  one_link meters rest meter made one whole next is same before =
      let taken : links_with s head (meter ∷ rest) ≡ link meter ∷ links_with s head rest = ap (by rest meter) is in
      ap (λ (l : List Link). l ++ links_with s head rest) (map-append link_of made (one ∷ []))
      ∙ append_assoc (map link_of made) (link_of one ∷ []) (links_with s head rest)
      ∙ ap (λ (l : Link). map link_of made ++ l ∷ links_with s head rest) same
      ∙ ap (λ (l : List Link). map link_of made ++ l) (sym (ap (links_with s head) next ∙ taken))
      ∙ before

  pub no_link : (meters rest : List MeterSetup) (meter : MeterSetup) (made : List LinkQueue) (whole : List Link) → meters ≡ meter ∷ rest → is_link s head (number_of_meter meter) ≡ false
      → map link_of made ++ links_with s head meters ≡ whole → map link_of made ++ links_with s head rest ≡ whole
  no_link meters rest meter made whole next is before =
      let passed : links_with s head (meter ∷ rest) ≡ links_with s head rest = ap (by rest meter) is in
      ap (λ (l : List Link). map link_of made ++ l) (sym (ap (links_with s head) next ∙ passed)) ∙ before

  -- a link of a meter is one of those with the head end
  longer : (rest : List MeterSetup) (meter : MeterSetup) (b : Bool) → length (links_with s head rest) ≤ length (by rest meter b)
  longer rest meter true = omega arith
  longer rest meter false = omega arith

  pub some_link : (meters : List MeterSetup) (i : ℕ) (meter : MeterSetup) → i < length meters → meter ≡ get_or meters i meter → is_link s head (number_of_meter meter) ≡ true
      → 1 ≤ length (links_with s head meters)
  some_link [] i meter inside is there = absurd (omega arith)
  some_link (first ∷ rest) zero meter inside is there =
      let taken : links_with s head (first ∷ rest) ≡ link first ∷ links_with s head rest = ap (by rest first) (subst (λ (m : MeterSetup). is_with m ≡ true) is there) in
      let long = ap (λ (l : List Link). length l) taken in
      omega arith
  some_link (first ∷ rest) (suc i) meter inside is there =
      let others = some_link rest i meter (omega arith) is there in
      let more = longer rest first (is_with first) in
      omega arith
