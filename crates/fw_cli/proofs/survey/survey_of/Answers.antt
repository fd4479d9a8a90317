use Rattle.std.proofs.Common.{arith, ◌∙◌}
use Rattle.std.proofs.lemmas.List.{take_all}
use Rattle.fw_cli.proofs.Surveyed.{added_next}
use Rattle.fw_survey.specs.Survey.{rows_of}
use Rattle.fw_cli.proofs.survey.survey_of.Goals as goal

pub loop-at-preserved : goal.loop-at-preserved
loop-at-preserved c = record {
  listed = added_next c.args.list.now c.loop-at.at-index c.at-item.result (rows_of c.loop-at.survey) (rows_of c.add.new.self) _ _ c.requires (omega (arith, c.loop-at-test.true))
      c.at-item.is c.loop-at.invariant.listed (c.in-Ok.ensures.added c.loop-at.invariant.survey);
  timing = c.in-Ok.ensures.timing ∙ c.loop-at.invariant.timing;
  survey = c.in-Ok.ensures.survey c.loop-at.invariant.survey;
}

pub returns-clause-rows : goal.returns-clause-rows
returns-clause-rows c = c.loop-at.invariant.listed ∙ take_all c.loop-at.at-index c.args.list.now (omega (arith, c.loop-at-test.false))
