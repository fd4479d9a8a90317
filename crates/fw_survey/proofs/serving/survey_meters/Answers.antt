use Rattle.std.proofs.Common.{◌≡◌, ◌∙◌, true, rules, refl, sym, subst}
use Rattle.std.specs.List.{list_all}
use Rattle.fw_survey.specs.Rows.{Row, is_over}
use Rattle.fw_survey.specs.Survey.{rows_of}
use Rattle.fw_survey.specs.declared.survey.Timing.{Timing}
use Rattle.fw_survey.proofs.Rounds.{may_on, stopped, surveyed, went_nowhere, went_on}
use Rattle.fw_survey.proofs.serving.survey_meters.Goals as goal

pub loop-init : goal.loop-init
loop-init g c = (search rules, search rules, went_nowhere _ _ _, refl, c.requires.survey)

pub send_due-requires : goal.send_due-requires
send_due-requires g c = record { begins = may_on _ _ _ _ _ c.loop.invariant.2 c.requires.begins; survey = c.loop.invariant.4 }

pub loop-preserved : goal.loop-preserved
loop-preserved g c =
    let was = c.loop.invariant in
    let sent = went_on _ _ _ _ _ _ _ _ was.2 c.in_ok-send_due.ensures.surveys in (
      search rules,
      search rules,
      went_on _ _ _ _ _ _ _ _ sent c.in_ok-receive_all.ensures.surveys,
      c.receive_all.ensures.timing ∙ c.send_due.ensures.timing ∙ was.3,
      c.receive_all.ensures.survey,
    )

pub returns-then-is_over-clause-surveys : goal.returns-then-is_over-clause-surveys
returns-then-is_over-clause-surveys g c = surveyed _ _ _ _ _ _ c.loop.invariant.2

pub returns-then-is_over-clause-over : goal.returns-then-is_over-clause-over
returns-then-is_over-clause-over g c =
    subst (λ (t : Timing). list_all (λ (row : Row). is_over t.tries row) (rows_of c.loop.survey) ≡ true) c.loop.invariant.3 (sym c.is_over.ensures ∙ c.if-is_over.true)

pub returns-then-is_over-clause-survey : goal.returns-then-is_over-clause-survey
returns-then-is_over-clause-survey g c = c.loop.invariant.4

pub returns-in_err-now-clause-surveys : goal.returns-in_err-now-clause-surveys
returns-in_err-now-clause-surveys g c = surveyed _ _ _ _ _ _ c.loop.invariant.2

pub returns-in_err-now-clause-survey : goal.returns-in_err-now-clause-survey
returns-in_err-now-clause-survey g c = c.loop.invariant.4

pub returns-in_err-send_due-clause-surveys : goal.returns-in_err-send_due-clause-surveys
returns-in_err-send_due-clause-surveys g c =
    let ends = stopped _ _ _ _ _ _ _ _ c.loop.invariant.2 c.send_due.ensures.surveys in
    record { reads = ends.reads; knows = λ honest known. search rules; meters = ends.meters; honesty = ends.honesty; law = ends.law }

pub returns-in_err-receive_all-clause-surveys : goal.returns-in_err-receive_all-clause-surveys
returns-in_err-receive_all-clause-surveys g c =
    let sent = went_on _ _ _ _ _ _ _ _ c.loop.invariant.2 c.in_ok-send_due.ensures.surveys in
    let ends = stopped _ _ _ _ _ _ _ _ sent c.receive_all.ensures.surveys in
    record { reads = ends.reads; knows = λ honest known. search rules; meters = ends.meters; honesty = ends.honesty; law = ends.law }
