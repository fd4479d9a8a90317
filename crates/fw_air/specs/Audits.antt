-- Public vocabulary: when the parts that others were left with are those of a world.
use Rattle.std.specs.Prelude.{◌≡◌, ◌≢◌, ◌⊎◌, ℕ, List, Option, take}
use Rattle.std.specs.List.{AllZip}
use Rattle.std.specs.Option.{option_map}
use Rattle.fw_book.specs.declared.phase.Phase.{Phase}
use Rattle.fw_head.specs.Head.{Head, row_of}
use Rattle.fw_head.specs.Phase.{phase_of}
use Rattle.fw_image.specs.Meter.{Meter}
use Rattle.fw_world.specs.declared.error.StepError.{StepError}
use Rattle.fw_world.specs.declared.error.StepError.TheVariants.{OutOfMemory}
use Rattle.fw_world.specs.declared.setup.Setup.{Setup}
use Rattle.fw_world.specs.Setup.{opening_state}
use Rattle.fw_world.specs.State.{State, StateRun}
use Rattle.fw_world.specs.Step.{Event}
use Rattle.fw_world.specs.World.{Datagram}
use Rattle.fw_air.specs.Schedules.{IsCutAt}

-- ---- the same parts

-- the phase of a meter's live row, if it has one
abbrev pub live_phase : Head → ℕ → Option Phase
live_phase head meter = option_map (λ row. phase_of row.stage) (row_of head.rows meter)

-- two head ends have one book, and for each meter a live row in the same phase, or both none
pub record IsSameHead (one other : Head) : Type 0 where
  pub book : one.book ≡ other.book
  pub phases : (meter : ℕ) → live_phase one meter ≡ live_phase other meter

-- the head ends of a world, each under its number, are these, in this order
abbrev pub AreSameHeads : List (ℕ × Head) → List Head → Type 0
AreSameHeads ones others = AllZip (λ one other. IsSameHead one.1 other) ones others

-- ---- other parts

-- the parts of a world are others than these
abbrev pub AreOtherParts : State → List Head → List (ℕ × Meter) → List Datagram → Type 0
AreOtherParts w heads meters sent = (¬ AreSameHeads w.heads heads) ⊎ ((w.meters ≢ meters) ⊎ (w.sent ≢ sent))

-- in the world of a run over the events before it, an event is refused for another cause than memory
pub record IsBrokenOff (setup : Setup) (events : List Event) : Type 0 where
  pub number : ℕ
  pub world : State
  pub cause : StepError
  pub run : StateRun (opening_state setup) (take number events) world
  pub cut : IsCutAt events number world cause
  pub other_cause : cause ≢ OutOfMemory

-- the events are refused, or they lead to other parts
abbrev pub Differs : Setup → List Event → List Head → List (ℕ × Meter) → List Datagram → Type 0
Differs setup events heads meters sent =
    IsBrokenOff setup events
    ⊎ ((w : State) × StateRun (opening_state setup) events w × AreOtherParts w heads meters sent)
