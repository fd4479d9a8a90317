-- Public vocabulary: the wires of a live rollout, one for each link.
use Rattle.std.specs.Prelude.{◌≡◌, ◌≢◌, ℕ, List, length}
use Rattle.fw_world.specs.declared.setup.Setup.{Setup}
use Rattle.fw_world.specs.Setup.{opening_state}
use Rattle.fw_world.specs.State.{State, StateRun}
use Rattle.fw_world.specs.Step.{Event}
use Rattle.fw_air.specs.Rounds.{links}

-- After these events there are this many links.
pub record HasLinks (setup : Setup) (given : List Event) (count : ℕ) : Type 0 where
  pub world : State
  pub runs : StateRun (opening_state setup) given world
  pub count_is : length (links setup world) ≡ count

-- After these events there is another number of links.
pub record HasOtherLinks (setup : Setup) (given : List Event) (count : ℕ) : Type 0 where
  pub world : State
  pub runs : StateRun (opening_state setup) given world
  pub other : length (links setup world) ≢ count
