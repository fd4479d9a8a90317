-- Public vocabulary: what events mean, and from whom a datagram comes and to whom it goes.
use Rattle.std.specs.Prelude.{ℕ}
use Rattle.fw_world.specs.declared.datagram.Actor.{Actor}
use Rattle.fw_world.specs.declared.datagram.Actor.TheVariants as actor
use Rattle.fw_world.specs.declared.datagram.Direction.{Direction}
use Rattle.fw_world.specs.declared.datagram.Direction.TheVariants.{ToMeter, ToHead}
use Rattle.fw_world.specs.declared.event.Event.{Event as Given}
use Rattle.fw_world.specs.declared.event.Event.TheVariants as given
use Rattle.fw_world.specs.World.{Datagram}
use Rattle.fw_world.specs.Step.{Event, open_campaign, cancel_campaign, tick, deliver, stop, restart_meter, stop_restart, restart_head, turn}

-- a datagram goes from the one end of its link to the other
abbrev pub sent_by : Direction → ℕ → ℕ → Actor
sent_by ToMeter head meter = actor.Head head
sent_by ToHead head meter = actor.Meter meter

abbrev pub goes_to : Direction → ℕ → ℕ → Actor
goes_to ToMeter head meter = actor.Meter meter
goes_to ToHead head meter = actor.Head head

abbrev pub sender : Datagram → Actor
sender d = sent_by d.direction d.head d.meter

abbrev pub addressee : Datagram → Actor
addressee d = goes_to d.direction d.head d.meter

-- an event without where its lists lie in memory
abbrev pub event_of : Given → Event
event_of (given.OpenCampaign campaign release image meters) = open_campaign campaign release image.items meters.items
event_of (given.CancelCampaign campaign) = cancel_campaign campaign
event_of (given.Tick head meter) = tick head meter
event_of (given.Deliver datagram) = deliver datagram
event_of (given.Stop datagram calls torn) = stop datagram calls torn
event_of (given.RestartMeter meter) = restart_meter meter
event_of (given.StopRestart meter calls torn) = stop_restart meter calls torn
event_of (given.RestartHead head) = restart_head head
event_of (given.Turn meter) = turn meter
