use Rattle.std.proofs.Common.{◌∙◌, rules, refl}
use Rattle.fw_survey.proofs.Rounds.{stopped, surveyed, went_nowhere, went_on}
use Rattle.fw_survey.proofs.serving.receive_all.Goals as goal

pub loop-init : goal.loop-init
loop-init g c = record { went = went_nowhere _ _ _; timing = refl; survey = c.requires.survey }

pub loop-preserved : goal.loop-preserved
loop-preserved g c = record {
  went = went_on _ _ _ _ _ _ _ _ c.loop.invariant.went c.in_ok-receive.ensures.surveys;
  timing = c.receive.ensures.timing ∙ c.loop.invariant.timing;
  survey = c.receive.ensures.survey;
}

pub returns-then-not-branch-clause-surveys : goal.returns-then-not-branch-clause-surveys
returns-then-not-branch-clause-surveys g c =
    surveyed _ _ _ _ _ _ (went_on _ _ _ _ _ _ _ _ c.loop.invariant.went c.in_ok-receive.ensures.surveys)

pub returns-in_err-receive-clause-surveys : goal.returns-in_err-receive-clause-surveys
returns-in_err-receive-clause-surveys g c =
    let ends = stopped _ _ _ _ _ _ _ _ c.loop.invariant.went c.receive.ensures.surveys in
    record { reads = ends.reads; knows = λ honest known. search rules; meters = ends.meters; honesty = ends.honesty; law = ends.law }

pub returns-clause-surveys : goal.returns-clause-surveys
returns-clause-surveys g c = surveyed _ _ _ _ _ _ c.loop.invariant.went
