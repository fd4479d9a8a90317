use Rattle.std.proofs.Common.{length, refl}
use Rattle.std.proofs.lemmas.Option.{slice_get_read}
use Rattle.fw_survey.specs.Survey.{rows_of}
use Rattle.fw_survey.proofs.Surveys.{back, keeps_meters}
use Rattle.fw_survey.proofs.survey.Survey.take.Goals as goal

pub returns-clause-meters : goal.returns-clause-meters
returns-clause-meters c =
    let row = c.in-Some.row.now in
    let rows = rows_of c.args.self.now in
    let was = slice_get_read rows (length rows) c.args.place row refl c.in-Some.ensures.item.3.0 c.in-Some.ensures.value in
    keeps_meters rows c.args.place row c.take-back.new.self was c.take-back.ensures.same

pub returns-clause-survey : goal.returns-clause-survey
returns-clause-survey c = λ s.
    let row = c.in-Some.row.now in
    let rows = rows_of c.args.self.now in
    let was = slice_get_read rows (length rows) c.args.place row refl c.in-Some.ensures.item.3.0 c.in-Some.ensures.value in
    back c.args.self.now _ c.args.place c.take-back.result row c.take-back.new.self s was refl c.take-back.ensures.same refl refl c.take-back.ensures.count
    c.saturating_sub-self.ensures
