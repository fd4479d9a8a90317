use Rattle.std.proofs.Common.{◌∙◌}
use Rattle.std.proofs.lemmas.Result.{on_ok_weaker}
use Rattle.fw_survey.specs.Survey.{rows_of}
use Rattle.fw_cli.proofs.Surveyed.{tells_survey}
use Rattle.fw_cli.proofs.survey.run_survey.Goals as goal

pub returns-clause-told : goal.returns-clause-told
returns-clause-told g c =
    on_ok_weaker c.tell.result
    (λ it. tells_survey c.args.options.now _ _ c.in_ok-list.ensures.list.0 c.in_ok-list.list _ (rows_of c.in_ok-survey.survey) (rows_of c.ask_all.new.survey) c.rows.result.now
    c.in_ok-survey.survey.timing c.in_ok-offer.offer c.in_ok-list.ensures.list.1 (c.meters-2.ensures.meters ∙ c.meters.ensures.meters) c.in_ok-survey.ensures.rows
    c.in_ok-survey.ensures.timing c.in_ok-ask_all.ensures.over c.rows.ensures c.in_ok-offer.ensures.offer it)
    c.tell.ensures.written
