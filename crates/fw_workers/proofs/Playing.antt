-- Entries for events that happened in a world, and the events of entries.
use Rattle.std.proofs.Common.{◌≡◌, ℕ, ◌+◌, ◌-◌, ◌<◌, ◌≤◌, List, [], ◌∷◌, ◌++◌, length, get_or, map, take, refl, ap, sym, subst, ◌∙◌, arith}
use Rattle.std.proofs.lemmas.List.{map_more, map_push}
use Rattle.std.proofs.lemmas.List.Sums.{sum_by_push}
use Rattle.std.specs.List.{sum_by}
use Rattle.fw_world.specs.declared.error.StepError.{StepError}
use Rattle.fw_world.specs.declared.error.StepError.TheVariants as cause
use Rattle.fw_world.specs.declared.event.Event.{Event as Given}
use Rattle.fw_world.specs.declared.runs.RunError.TheVariants as stopped
use Rattle.fw_world.specs.declared.setup.Setup.{Setup}
use Rattle.fw_world.specs.Laws.{RunGoesOn}
use Rattle.fw_world.specs.Runs.{IsStopped, events_of}
use Rattle.fw_world.specs.State.{State, StateRun, StateStep}
use Rattle.fw_world.specs.Step.{Event, Run, WorldStep}
use Rattle.fw_world.specs.World.{World}
use Rattle.fw_world.specs.View.{event_of}
use Rattle.fw_air.specs.Logs.{Entry}
use Rattle.fw_workers.specs.Recorded.{AreEntered, IsEntered}
use Rattle.fw_workers.specs.declared.error.RehearseError.TheVariants as refused
use Rattle.fw_workers.specs.Refusals.{TellsOfEvent, of_event}

-- an entry more, with the number of datagrams that were added
pub counted_on : (entries : List Entry) (entry : Entry) (old new : ℕ) → sum_by (λ (e : Entry). e.count) entries ≡ old → old ≤ new
    → entry.count ≡ new - old → sum_by (λ (e : Entry). e.count) (entries ++ entry ∷ []) ≡ new
counted_on entries entry old new was grew is =
    let more = sum_by_push (λ (e : Entry). e.count) entries entry in
    omega arith

-- an entry more, of the next event
pub noted_on : (entries : List Entry) (entry : Entry) (events : List Given) (at : ℕ) (event : Given) → at < length events → event ≡ get_or events at event
    → entry.event ≡ event_of event → map (λ (e : Entry). e.event) entries ≡ events_of (take at events)
    → map (λ (e : Entry). e.event) (entries ++ entry ∷ []) ≡ events_of (take (at + 1) events)
noted_on entries entry events at event inside is same were =
    let more : events_of (take (at + 1) events) ≡ events_of (take at events) ++ event_of event ∷ [] =
    map_more event_of events at event inside ∙ ap (λ (e : Given). events_of (take at events) ++ event_of e ∷ []) (sym is) in
    map_push (λ (e : Entry). e.event) entries entry
    ∙ ap (λ (es : List Event). es ++ entry.event ∷ []) were
    ∙ ap (λ (e : Event). events_of (take at events) ++ e ∷ []) same
    ∙ sym more

-- an entry more, of an event that was made
pub entered_on : (opening old new : State) (entries : List Entry) (entry : Entry) → AreEntered opening entries old → IsEntered old entry new → AreEntered opening (entries ++ entry ∷ []) new
entered_on opening old new [] entry are is = (new, subst (λ (s : State). IsEntered s entry new) are is, refl)
entered_on opening old new (first ∷ entries) entry are is = (are.0, are.1, entered_on are.0 old new entries entry are.2 is)

pub entered : (old new : State) (entry : Entry) (event : Event) → StateStep old event new → entry.event ≡ event → length old.sent ≤ length new.sent
    → entry.count ≡ length new.sent - length old.sent → IsEntered old entry new
entered old new entry event step same grew is = record {
  step = subst (λ (e : Event). StateStep old e new) (sym same) step;
  added = omega arith;
}

-- the next event
pub runs_on : RunGoesOn → (opening old new : State) (events : List Given) (at : ℕ) (event : Given) → at < length events → event ≡ get_or events at event
    → StateRun opening (events_of (take at events)) old → StateStep old (event_of event) new → StateRun opening (events_of (take (at + 1) events)) new
runs_on goes_on opening old new events at event inside is run step =
    let more : events_of (take (at + 1) events) ≡ events_of (take at events) ++ event_of event ∷ [] =
    map_more event_of events at event inside ∙ ap (λ (e : Given). events_of (take at events) ++ event_of e ∷ []) (sym is) in
    subst (λ (es : List Event). StateRun opening es new) (sym more) (goes_on opening old new (events_of (take at events)) (event_of event) run step)

world_goes_on : (opening old new : World) (events : List Event) (event : Event) → Run opening events old → WorldStep old event new → Run opening (events ++ event ∷ []) new
world_goes_on opening old new [] event run step = (new, subst (λ (w : World). WorldStep w event new) run step, refl)
world_goes_on opening old new (first ∷ events) event run step = (run.0, run.1, world_goes_on run.0 old new events event run.2 step)

pub world_runs_on : (opening old new : World) (events : List Given) (at : ℕ) (event : Given) → at < length events → event ≡ get_or events at event
    → Run opening (events_of (take at events)) old → WorldStep old (event_of event) new → Run opening (events_of (take (at + 1) events)) new
world_runs_on opening old new events at event inside is run step =
    let more : events_of (take (at + 1) events) ≡ events_of (take at events) ++ event_of event ∷ [] =
    map_more event_of events at event inside ∙ ap (λ (e : Given). events_of (take at events) ++ event_of e ∷ []) (sym is) in
    subst (λ (es : List Event). Run opening es new) (sym more) (world_goes_on opening old new (events_of (take at events)) (event_of event) run step)

-- if a given event was refused, that is reported
pub told : (setup : Setup) (events : List Given) (number : ℕ) (world : State) (reason : StepError) → IsStopped setup events (stopped.Event number world reason)
    → TellsOfEvent setup events (of_event number reason)
told setup events number world cause.OutOfMemory stop = tt
told setup events number world cause.NoSuchDatagram stop = record { world = world; reason = cause.NoSuchDatagram; other = λ e. absurd cc; stopped_is = stop }
told setup events number world cause.NoSuchActor stop = record { world = world; reason = cause.NoSuchActor; other = λ e. absurd cc; stopped_is = stop }
told setup events number world (cause.Book error) stop = record { world = world; reason = cause.Book error; other = λ e. absurd cc; stopped_is = stop }

pub not_setup : (number : ℕ) (reason : StepError) → of_event number reason ≡ refused.BadSetup → ⊥
not_setup number cause.OutOfMemory e = absurd cc
not_setup number cause.NoSuchDatagram e = absurd cc
not_setup number cause.NoSuchActor e = absurd cc
not_setup number (cause.Book error) e = absurd cc
