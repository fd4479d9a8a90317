use Rattle.std.proofs.Common.{Option, inl, inr, refl, subst}
use Rattle.fw_survey.specs.Private.{FindsAnswer}
use Rattle.fw_survey.specs.declared.answer.Answer.{Answer}
use Rattle.fw_survey.specs.declared.question.Question.{Question}
use Rattle.fw_survey.proofs.survey.Survey.hear_at.Goals as goal

pub returns-in-Some-clause-heard : goal.returns-in-Some-clause-heard
returns-in-Some-clause-heard c =
    let just = subst (λ (o : Option (Question × Answer)). FindsAnswer c.args.datagram.now o) c.in-Some.is c.in_ok-found.ensures.answer in
    inl (c.in-Some.found.0, c.in-Some.found.1, just, c.take.ensures.taken)

pub returns-in-None-clause-heard : goal.returns-in-None-clause-heard
returns-in-None-clause-heard c =
    inr (refl, subst (λ (o : Option (Question × Answer)). FindsAnswer c.args.datagram.now o) c.in-None.is c.in_ok-found.ensures.answer)
