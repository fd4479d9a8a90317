-- Public vocabulary: what holds of a report.
use Rattle.std.specs.Prelude.{ℕ, List}
use Rattle.fw_world.specs.declared.setup.Setup.{Setup}
use Rattle.fw_world.specs.Headline.{IsFirstName, InitiatesAreOffered, NamesAreOwn, GoalsAreOffered, ActivationsAreSafe, ActivationsAreEqual, ReleasesNeverFall}
use Rattle.fw_world.specs.Setup.{IsSetup, opening_state}
use Rattle.fw_world.specs.State.{State, world_of}
use Rattle.fw_world.specs.Step.{Event}
use Rattle.fw_accounts.specs.Accounts.{IsAccounted}
use Rattle.fw_air.specs.Events.{Receipt}

-- A run of workers is accounted for, a world can be made of its setup, and what the product is for holds of its world.
pub record IsReported (setup : Setup) (given : List Event) (rounds workers : ℕ) (world : State) (board : ℕ) (receipts : List (List Receipt)) : Type 0 where
  pub setup_is : IsSetup setup
  pub accounted : IsAccounted setup given rounds workers world board receipts
  pub initiates : InitiatesAreOffered (world_of world)
  pub names : NamesAreOwn (IsFirstName (world_of (opening_state setup))) (world_of world)
  pub goals : GoalsAreOffered (world_of world)
  pub activations : ActivationsAreSafe (world_of world)
  pub equal : ActivationsAreEqual (world_of world)
  pub releases : ReleasesNeverFall (world_of world)
