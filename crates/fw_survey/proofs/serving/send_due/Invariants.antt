use Rattle.std.proofs.Common.{◌≡◌}
use Rattle.fw_survey.specs.Survey.{IsSurvey, rows_of}
use Rattle.fw_survey.proofs.Rounds.{Went}
use Rattle.fw_survey.proofs.serving.send_due.Given as goal

abbrev pub invariant-loop-place : goal.invariant-loop-place
invariant-loop-place g l = record {
  went : Went g.P.Port l.fn.port (rows_of l.fn.survey) l.port (rows_of l.survey);
  timing : l.survey.timing ≡ l.fn.survey.timing;
  survey : IsSurvey l.survey;
}
