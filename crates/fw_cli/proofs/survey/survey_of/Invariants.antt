use Rattle.std.proofs.Common.{◌≡◌, map, take}
use Rattle.fw_cli.specs.Surveying.{listed_of_row}
use Rattle.fw_survey.specs.Survey.{IsSurvey, rows_of}
use Rattle.fw_cli.proofs.survey.survey_of.Given as goal

abbrev pub invariant-loop-at : goal.invariant-loop-at
invariant-loop-at l = record {
  listed : map listed_of_row (rows_of l.survey) ≡ take l.at-index l.list;
  timing : l.survey.timing ≡ l.fn.timing;
  survey : IsSurvey l.survey;
}
