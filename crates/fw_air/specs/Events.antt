-- Public vocabulary: the events that workers make, and what is left to them of each.
use Rattle.std.specs.Prelude.{ℕ}
use Rattle.fw_world.specs.Step.{Event, deliver, tick, turn}
use Rattle.fw_air.specs.declared.core_event.CoreEvent.{CoreEvent}
use Rattle.fw_air.specs.declared.core_event.CoreEvent.TheVariants as core

-- as what happens in a world
abbrev pub core_event_of : CoreEvent → Event
core_event_of (core.Tick head meter) = tick head meter
core_event_of (core.Deliver number) = deliver number
core_event_of (core.Turn meter) = turn meter

-- an event, under its number in the record
pub record Receipt : Type 0 where
  pub number : ℕ
  pub event : Event
