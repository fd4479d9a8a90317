use Rattle.fw_world.specs.Headline.{IsFirstName, InitiatesAreOffered, NamesAreOwn, GoalsAreOffered, ActivationsAreSafe, ActivationsAreEqual, ReleasesNeverFall}
use Rattle.fw_field.specs.Field.{world_of}
use Rattle.fw_field.specs.Laws.{ReportsAreTrue}
use Rattle.fw_sealed.proofs.Sealed.{after_sealed}
use Rattle.fw_sealed.proofs.laws.sealed_moves_are_safe.Goals as goal

pub returns : goal.returns
returns c =
    let moves = c.sealed_moves_are_moves.ensures in
    let safe = c.moves_are_safe.ensures in
    record {
      initiates = after_sealed moves (λ beginning now. InitiatesAreOffered (world_of now)) safe.initiates;
      names = after_sealed moves (λ beginning now. NamesAreOwn (IsFirstName (world_of beginning)) (world_of now)) safe.names;
      goals = after_sealed moves (λ beginning now. GoalsAreOffered (world_of now)) safe.goals;
      activations = after_sealed moves (λ beginning now. ActivationsAreSafe (world_of now)) safe.activations;
      equal = after_sealed moves (λ beginning now. ActivationsAreEqual (world_of now)) safe.equal;
      releases = after_sealed moves (λ beginning now. ReleasesNeverFall (world_of now)) safe.releases;
      reports = after_sealed moves (λ beginning now. ReportsAreTrue now) safe.reports;
    }
