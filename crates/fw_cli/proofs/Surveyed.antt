-- A survey has a row for each meter of a list, and what is told of it.
use Rattle.std.proofs.Common.{◌≡◌, ◌∙◌, ℕ, zero, suc, ◌+◌, ◌<◌, Bool, true, false, List, [], ◌∷◌, ◌++◌, length, map, take, get_or, Contains, Option, Some, refl, sym, ap, subst, arith}
use Rattle.std.specs.Prelude.{MatchBool, slice_get}
use Rattle.std.specs.Io.KnownBytes.{Appends}
use Rattle.std.specs.List.{list_all}
use Rattle.std.specs.declared.net.socket_addr.SocketAddr.{SocketAddr}
use Rattle.std.proofs.lemmas.Bool.{false≢true}
use Rattle.std.proofs.lemmas.List.{map-append, take_more}
use Rattle.std.proofs.lemmas.Option.{none-some, same_Some}
use Rattle.fw_host.specs.Lists.{SpellsList}
use Rattle.fw_host.specs.Waves.{listed_in}
use Rattle.fw_host.specs.declared.wave_list.Planned.{Planned}
use Rattle.fw_inventory.specs.Inventories.{inventory_in}
use Rattle.fw_inventory.specs.declared.verdict.Offer.{Offer}
use Rattle.fw_rollout.specs.Daemon.{IsList}
use Rattle.fw_rollout.specs.declared.link.Listed.{Listed}
use Rattle.fw_survey.specs.Rows.{Row, is_over, new_row}
use Rattle.fw_survey.specs.Survey.{HasAddress, KeepsMeters, addresses_of}
use Rattle.fw_survey.specs.declared.survey.Timing.{Timing}
use Rattle.fw_cli.specs.Surveying.{AreOfList, HasEnded, IsOfferOf, TellsSurvey, listed_of_row}
use Rattle.fw_cli.specs.declared.survey.SurveyOptions.{SurveyOptions}

-- ---- the meters are added

-- a meter stands at its place
stands : (list : List Listed) (k : ℕ) (at : Listed) → k < length list → at ≡ get_or list k at → Contains list at
stands list k at inside is = (k, inside, sym is)

-- no meter before a place has the address of the one there
no_other : (list : List Listed) (k place : ℕ) (at : Listed) → IsList list → k < length list → at ≡ get_or list k at
    → slice_get (map (λ (other : Listed). other.address) (take k list)) place ≡ Some at.address → ⊥
no_other [] k place at once inside is there = omega (arith, inside)
no_other (x ∷ list) zero place at once inside is there = none-some at.address there
no_other (x ∷ list) (suc k) zero at once inside is there =
    (once.0 at (stands list k at (omega (arith, inside)) is)).1 (sym (same_Some x.address at.address there))
no_other (x ∷ list) (suc k) (suc place) at once inside is there = no_other list k place at once.1 (omega (arith, inside)) is there

addresses_listed : (rows : List Row) → addresses_of rows ≡ map (λ (other : Listed). other.address) (map listed_of_row rows)
addresses_listed [] = refl
addresses_listed (row ∷ rows) = ap (λ (l : List SocketAddr). row.address ∷ l) (addresses_listed rows)

-- the next meter of the list is added
pub added_next : (list : List Listed) (k : ℕ) (at : Listed) (old new : List Row) (added : Bool) (same : Type 0) → IsList list → k < length list → at ≡ get_or list k at
    → map listed_of_row old ≡ take k list → MatchBool added (new ≡ old ++ new_row at.meter at.address ∷ []) (same × HasAddress old at.address)
    → map listed_of_row new ≡ take (k + 1) list
added_next list k at old new true same once inside is so_far items =
    ap (λ (l : List Row). map listed_of_row l) items ∙ map-append listed_of_row old (new_row at.meter at.address ∷ [])
    ∙ ap (λ (l : List Listed). l ++ at ∷ []) so_far ∙ ap (λ (x : Listed). take k list ++ x ∷ []) is ∙ sym (take_more list k at inside)
added_next list k at old new false same once inside is so_far has =
    absurd (no_other list k has.1.0 at once inside is
    (subst (λ (l : List SocketAddr). slice_get l has.1.0 ≡ Some at.address)
    (addresses_listed old ∙ ap (λ (l : List Listed). map (λ (other : Listed). other.address) l) so_far) has.1.1))

-- ---- the same meters are of the same list

abbrev is_cons : {X : Type 0} → List X → Bool
is_cons [] = false
is_cons (x ∷ xs) = true

abbrev first_of : {X : Type 0} → X → List X → X
first_of otherwise [] = otherwise
first_of otherwise (x ∷ xs) = x

abbrev rest_of : {X : Type 0} → List X → List X
rest_of [] = []
rest_of (x ∷ xs) = xs

abbrev listed : ℕ → SocketAddr → Listed
listed meter address = record { meter = meter; address = address }

same_listed : (n o : Row) → n.meter ≡ o.meter → n.address ≡ o.address → listed_of_row n ≡ listed_of_row o
same_listed n o e f = ap (λ (m : ℕ). listed m n.address) e ∙ ap (λ (a : SocketAddr). listed o.meter a) f

listed_again : (old new : List Row) → KeepsMeters old new → map listed_of_row new ≡ map listed_of_row old
listed_again [] [] keeps = refl
listed_again [] (n ∷ new) keeps = absurd (false≢true (sym (ap (λ (l : List ℕ). is_cons l) keeps.meters)))
listed_again (o ∷ old) [] keeps = absurd (false≢true (ap (λ (l : List ℕ). is_cons l) keeps.meters))
listed_again (o ∷ old) (n ∷ new) keeps =
    let meter : n.meter ≡ o.meter = ap (λ (l : List ℕ). first_of o.meter l) keeps.meters in
    let address : n.address ≡ o.address = ap (λ (l : List SocketAddr). first_of o.address l) keeps.addresses in
    let rest = listed_again old new (record {
      meters = ap (λ (l : List ℕ). rest_of l) keeps.meters;
      addresses = ap (λ (l : List SocketAddr). rest_of l) keeps.addresses;
    }) in
    ap (λ (l : List Listed). listed_of_row n ∷ l) rest ∙ ap (λ (x : Listed). x ∷ map listed_of_row old) (same_listed n o meter address)

-- ---- what is told

pub tells_survey : (options : SurveyOptions) (before after : Option (List ℕ)) (text : List ℕ) (list : List Planned) (told : List Listed) (first rows shown : List Row)
    (timing : Timing) (offer : Option Offer) → SpellsList options.listen text list → told ≡ listed_in list → AreOfList told first → timing ≡ options.timing
    → HasEnded timing.tries first rows → shown ≡ rows → IsOfferOf options.offer offer → Appends before after (inventory_in options.report shown offer)
    → TellsSurvey options before after
tells_survey options before after text list told first rows shown timing offer spells same are is ended all offered appends = record {
  text = text;
  list = list;
  rows = rows;
  offer = offer;
  spells = spells;
  surveyed = record {
    listed = listed_again first rows ended.meters ∙ are ∙ same;
    over = subst (λ (t : Timing). list_all (λ (row : Row). is_over t.tries row) rows ≡ true) is ended.over;
  };
  offered = offered;
  told = subst (λ (l : List Row). Appends before after (inventory_in options.report l offer)) all appends;
}
