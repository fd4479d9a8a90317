-- The record of workers: the given events, and after them those of the receipts.
use Rattle.std.proofs.Common.{◌≡◌, ◌-◌, List, [], ◌∷◌, ◌++◌, length, drop, take, refl, ap, sym, ◌∙◌, arith}
use Rattle.std.proofs.lemmas.List.{length-map, take_all}
use lib.ListN.{length-drop}
use Rattle.std.specs.List.{AllZip}
use Rattle.std.specs.List.Sorted.{IsPermutation}
use Rattle.fw_world.specs.declared.event.Event.{Event as Given}
use Rattle.fw_world.specs.Runs.{events_of}
use Rattle.fw_world.specs.Step.{Event}
use Rattle.fw_world.specs.View.{event_of}
use Rattle.fw_accounts.specs.Accounts.{AreNumbered, all_of, numbered}
use Rattle.fw_air.specs.Events.{Receipt}

behind : (given events : List Given) (made : List Event) → events_of events ≡ events_of given ++ made → events_of events ≡ events_of given ++ events_of (drop (length given) events)
behind [] events made e = refl
behind (first ∷ given) [] made e = absurd cc
behind (first ∷ given) (event ∷ events) made e =
    let same : event_of event ≡ event_of first = cc in
    let rest : events_of events ≡ events_of given ++ made = cc in
    ap (λ (x : Event). x ∷ events_of events) same ∙ ap (λ (l : List Event). event_of first ∷ l) (behind given events made rest)

pub numbered_are : (given events : List Given) (receipts : List (List Receipt)) → (made : List Event) × (events_of events ≡ events_of given ++ made)
    → IsPermutation (all_of receipts) (numbered (length given) (events_of (take (length events - length given) (drop (length given) events)))) → AreNumbered (events_of given) (events_of events) receipts
numbered_are given events receipts begins once =
    let others = drop (length given) events in
    let long = length-drop (length given) events in
    let all : take (length events - length given) others ≡ others = take_all (length events - length given) others (omega arith) in
    record {
      made = events_of others;
      events_are = behind given events begins.0 begins.1;
      each_once = rw (length-map given event_of, sym all) once;
    }

-- copies are for the same events
pub same_events : (events copies : List Given) → AllZip (λ event copy. event_of copy ≡ event_of event) events copies → events_of copies ≡ events_of events
same_events [] [] h = refl
same_events [] (copy ∷ copies) h = absurd h
same_events (event ∷ events) [] h = absurd h
same_events (event ∷ events) (copy ∷ copies) h = ap (λ e. e ∷ events_of copies) h.0 ∙ ap (λ es. event_of event ∷ es) (same_events events copies h.1)

-- what comes after the given events
pub made_after : (given events : List Given) (made : List Event) → events_of events ≡ events_of given ++ made → events_of (drop (length given) events) ≡ made
made_after [] events made e = e
made_after (first ∷ given) [] made e = absurd cc
made_after (first ∷ given) (event ∷ events) made e = made_after given events made cc

-- if the receipts are those of the record, they are those for what comes after the given events
pub each_once : (given events : List Given) (receipts : List (List Receipt)) → AreNumbered (events_of given) (events_of events) receipts
    → IsPermutation (all_of receipts) (numbered (length given) (events_of (take (length events - length given) (drop (length given) events))))
each_once given events receipts are =
    let others = drop (length given) events in
    let long = length-drop (length given) events in
    let all : take (length events - length given) others ≡ others = take_all (length events - length given) others (omega arith) in
    let made : events_of (take (length events - length given) others) ≡ are.made = ap events_of all ∙ made_after given events are.made are.events_are in
    rw (made, sym (length-map given event_of)) are.each_once
