use Rattle.std.proofs.Common.{◌∙◌}
use Rattle.fw_survey.proofs.Placing.{place_found, place_missed}
use Rattle.fw_survey.proofs.survey.Survey.place_of.Goals as goal

pub returns-clause-found : goal.returns-clause-found
returns-clause-found c = λ s. place_found _ _ c.args.address c.copied.result (c.copied.ensures ∙ c.get.ensures.value) s.addressed

pub returns-clause-none : goal.returns-clause-none
returns-clause-none c = λ s. place_missed _ _ c.args.address c.copied.result (c.copied.ensures ∙ c.get.ensures.value) s.addressed
