-- The events of the record that receipts have.
use Rattle.std.proofs.Common.{◌≡◌, ◌+◌, ℕ, List, [], ◌∷◌, ◌++◌, length, map, refl, ap, sym, ◌∙◌}
use Rattle.std.specs.List.Sorted.{IsNonDecreasingBy, IsPermutation}
use Rattle.std.proofs.lemmas.List.Sorted.{IsPermutation-sym, IsPermutation-trans}
use Rattle.fw_air.specs.Events.{Receipt}
use Rattle.fw_world.specs.Step.{Event}
use Rattle.fw_accounts.specs.Accounts.{IsRecordOf, all_of, numbered}
use Rattle.fw_accounts.proofs.Ordered.{in_one_way, number_of}

abbrev pub event_in : Receipt → Event
event_in receipt = receipt.event

events_numbered : (n : ℕ) (es : List Event) → map event_in (numbered n es) ≡ es
events_numbered n [] = refl
events_numbered n (e ∷ es) = ap (λ (l : List Event). e ∷ l) (events_numbered (n + 1) es)

-- the given events, and those of all receipts in the order of their numbers
pub record_is : (given : List Event) (receipts : List (List Receipt)) (sorted : List Receipt) → IsPermutation (all_of receipts) sorted
    → IsNonDecreasingBy number_of sorted → IsRecordOf given receipts (given ++ map event_in sorted)
record_is given receipts sorted same in_order = λ others numbered_are.
    let n = length given in
    let made = numbered_are.made in
    let turned = IsPermutation-trans sorted (all_of receipts) (numbered n made) (IsPermutation-sym (all_of receipts) sorted same) numbered_are.each_once in
    let one : sorted ≡ numbered n made = in_one_way n made sorted turned in_order in
    let events : map event_in sorted ≡ made = ap (λ (l : List Receipt). map event_in l) one ∙ events_numbered n made in
    numbered_are.events_are ∙ ap (λ (l : List Event). given ++ l) (sym events)
