-- Public vocabulary: the record of the given events, with which workers go on.
use Rattle.std.specs.Prelude.{◌≡◌, ◌+◌, List, [], ◌∷◌, length}
use Rattle.fw_air.specs.Logs.{Entry}
use Rattle.fw_world.specs.State.{State, StateStep}

-- an event, which added as many datagrams to what was sent as its entry says
pub record IsEntered (old : State) (entry : Entry) (new : State) : Type 0 where
  pub step : StateStep old entry.event new
  pub added : length new.sent ≡ length old.sent + entry.count

-- the events of these entries, one after another
abbrev pub AreEntered : State → List Entry → State → Type 0
AreEntered old [] new = new ≡ old
AreEntered old (entry ∷ entries) new = (next : State) × IsEntered old entry next × AreEntered next entries new
