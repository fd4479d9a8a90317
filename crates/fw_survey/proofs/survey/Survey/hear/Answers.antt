use Rattle.std.proofs.Common.{inl, inr, refl}
use Rattle.std.proofs.lemmas.Result.{on_ok_weaker}
use Rattle.fw_survey.specs.Survey.{rows_of}
use Rattle.fw_survey.proofs.Surveys.{hears_at}
use Rattle.fw_survey.proofs.survey.Survey.hear.Goals as goal

pub returns-in-Some-clause-heard : goal.returns-in-Some-clause-heard
returns-in-Some-clause-heard c = λ s.
    let there = rw c.in-Some.is at (c.place_of.ensures.found s) in
    on_ok_weaker c.hear_at.result (λ h. hears_at c.in-Some.place c.args.now c.args.from c.args.datagram.now (rows_of c.args.self.now) (rows_of c.hear_at.new.self) there h)
    c.hear_at.ensures.heard

pub returns-in-None-clause-heard : goal.returns-in-None-clause-heard
returns-in-None-clause-heard c = λ s. inr (record { same = refl; strange = inl (rw c.in-None.is at (c.place_of.ensures.none s)) })
