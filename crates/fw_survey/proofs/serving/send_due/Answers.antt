use Rattle.std.proofs.Common.{◌∙◌, rules, refl}
use Rattle.fw_survey.proofs.Rounds.{may_on, settles_on, stopped, surveyed, went_nowhere, went_on}
use Rattle.fw_survey.proofs.serving.send_due.Goals as goal

pub loop-place-init : goal.loop-place-init
loop-place-init g c = record { went = went_nowhere _ _ _; timing = refl; survey = c.requires.survey }

pub ask-requires : goal.ask-requires
ask-requires g c = record {
  begins = may_on _ _ _ _ _ (settles_on _ _ _ _ _ _ _ _ _ c.loop-place.invariant.went c.settle.ensures.settled c.settle.ensures.meters) c.requires.begins;
  survey = c.settle.ensures.survey c.loop-place.invariant.survey;
}

pub loop-place-preserved : goal.loop-place-preserved
loop-place-preserved g c = record {
  went = went_on _ _ _ _ _ _ _ _ (settles_on _ _ _ _ _ _ _ _ _ c.loop-place.invariant.went c.settle.ensures.settled c.settle.ensures.meters) c.in_ok-ask.ensures.surveys;
  timing = c.ask.ensures.timing ∙ c.settle.ensures.timing ∙ c.loop-place.invariant.timing;
  survey = c.ask.ensures.survey;
}

pub returns-in_err-ask-clause-surveys : goal.returns-in_err-ask-clause-surveys
returns-in_err-ask-clause-surveys g c =
    let settled = settles_on _ _ _ _ _ _ _ _ _ c.loop-place.invariant.went c.settle.ensures.settled c.settle.ensures.meters in
    let ends = stopped _ _ _ _ _ _ _ _ settled c.ask.ensures.surveys in
    record { reads = ends.reads; knows = λ honest known. search rules; meters = ends.meters; honesty = ends.honesty; law = ends.law }

pub returns-clause-surveys : goal.returns-clause-surveys
returns-clause-surveys g c = surveyed _ _ _ _ _ _ c.loop-place.invariant.went
