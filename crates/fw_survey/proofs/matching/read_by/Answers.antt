use Rattle.std.proofs.Common.{refl, sym, ◌∙◌}
use Rattle.fw_survey.proofs.Carried.{found_byte, no_byte}
use Rattle.fw_survey.proofs.matching.read_by.Goals as goal

pub returns-in-Some : goal.returns-in-Some
returns-in-Some c = record {
  result = _;
  byte = found_byte c.args.invoke.0 c.in-Some.question (sym c.asked_by.ensures ∙ c.in-Some.is);
  is = refl;
  says = c.answer_to.ensures;
}

pub returns-in-None : goal.returns-in-None
returns-in-None c = no_byte c.args.invoke.0 _ (sym c.asked_by.ensures ∙ c.in-None.is)
