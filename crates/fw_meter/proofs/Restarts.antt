-- What a restart finds in the store of a meter, and how many calls it makes.
use Rattle.std.proofs.Common.{◌≡◌, IsTrue, refl, sym, ap, ◌∙◌}
use Rattle.fw_store.specs.Known.{Known}
use Rattle.fw_image.specs.Calls.{verified_size, restart_calls}
use Rattle.fw_image.specs.Laws.{OneMeter}
use Rattle.fw_image.specs.Meter.{Meter, Phase, idle, receiving, verifying, verified, spoilt, switched, reopened, reopened_phase, migrated, restarted}
use Rattle.fw_image.specs.State.{State, stored}
use Rattle.fw_image.specs.Stored.{Holds, Opens}

-- a verification that goes on is none of a verified goal
reopened_size : (phase : Phase) → verified_size (reopened_phase phase) ≡ verified_size phase
reopened_size idle = refl
reopened_size (receiving goal) = refl
reopened_size (verifying goal taken) = refl
reopened_size (verified goal) = refl
reopened_size (spoilt goal) = refl
reopened_size switched = refl

reopened_calls : (m : Meter) → restart_calls (reopened m) ≡ restart_calls m
reopened_calls m = rw (reopened_size m.phase) refl

-- an honest store in which a meter was left is opened as that meter
module _ (known : Known) (old new : State) (law : OneMeter) (left : Holds known (stored old)) (opened : Opens known new) (is : IsTrue old.honest) where
  found : opened.was ≡ reopened old.meter
  found =
      let b : IsTrue known.honest = sym left.honesty ∙ is in
      law known.capacity known.device opened.was (reopened old.meter) (opened.held b) (left.means b)

  pub goes_on : new.meter ≡ restarted old.meter
  goes_on = opened.goes_on ∙ ap migrated found

  pub found_calls : restart_calls opened.was ≡ restart_calls old.meter
  found_calls = ap restart_calls found ∙ reopened_calls old.meter
