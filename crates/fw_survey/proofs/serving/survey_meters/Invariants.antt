use Rattle.std.proofs.Common.{◌≡◌}
use Rattle.fw_survey.specs.Survey.{IsSurvey, rows_of}
use Rattle.fw_survey.proofs.Rounds.{Went}
use Rattle.fw_survey.proofs.serving.survey_meters.Given as goal

-- it went well so far
abbrev pub invariant-loop : goal.invariant-loop
invariant-loop g l =
    (goal.iterator-loop g).can_next l.iterator' × (goal.iterator-loop g).is_finite l.iterator'
    × Went g.P.Port l.fn.port (rows_of l.fn.survey) l.port (rows_of l.survey)
    × (l.survey.timing ≡ l.fn.survey.timing)
    × IsSurvey l.survey
