-- Public vocabulary: what holds of all that begins with a setup, given events and workers, whatever its result is.
use Rattle.std.specs.Prelude.{◌≢◌, ℕ, List, Result, IfErr, OnOk, IsErrOf}
use Rattle.fw_world.specs.declared.event.Event.{Event as Given}
use Rattle.fw_world.specs.declared.setup.Setup.{Setup}
use Rattle.fw_world.specs.Setup.{IsSetup}
use Rattle.fw_workers.specs.declared.error.RehearseError.{RehearseError}
use Rattle.fw_workers.specs.declared.error.RehearseError.TheVariants as refused
use Rattle.fw_workers.specs.Deals.{AreWorkers}
use Rattle.fw_workers.specs.Refusals.{TellsOfEvent}

-- There is a result only for a worker count, and for any other number it is `BadSetup`. For a worker count it is `BadSetup` only if
-- no world can be made of the setup; if it is refused otherwise, one can. `Event` tells of a given event that is refused.
pub record BeginsFor {A : Type 0} (setup : Setup) (given : List Given) (workers : ℕ) (result : Result A RehearseError) : Type 0 where
  pub workers_are : OnOk result (AreWorkers workers)
  pub bad_setup : IsErrOf result refused.BadSetup → AreWorkers workers → ¬ IsSetup setup
  pub count : ¬ AreWorkers workers → IsErrOf result refused.BadSetup
  pub event : IfErr result (TellsOfEvent setup given)
  pub made : IfErr result (λ e. e ≢ refused.BadSetup → IsSetup setup)
