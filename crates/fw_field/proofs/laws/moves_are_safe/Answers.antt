use Rattle.fw_world.specs.Headline.{IsFirstName, InitiatesAreOffered, NamesAreOwn, GoalsAreOffered, ActivationsAreSafe, ActivationsAreEqual, ReleasesNeverFall}
use Rattle.fw_field.proofs.Runs.{after_each, reports_are_true}
use Rattle.fw_field.proofs.laws.moves_are_safe.Goals as goal

pub returns : goal.returns
returns c =
    let runs = c.moves_are_runs.ensures in
    let safe = c.every_run_is_safe.ensures in
    record {
      initiates = after_each runs (λ opening w. InitiatesAreOffered w) safe.initiates;
      names = after_each runs (λ opening w. NamesAreOwn (IsFirstName opening) w) safe.names;
      goals = after_each runs (λ opening w. GoalsAreOffered w) safe.goals;
      activations = after_each runs (λ opening w. ActivationsAreSafe w) safe.activations;
      equal = after_each runs (λ opening w. ActivationsAreEqual w) safe.equal;
      releases = after_each runs (λ opening w. ReleasesNeverFall w) safe.releases;
      reports = reports_are_true runs c.reports_are_kept.ensures safe.activations;
    }
