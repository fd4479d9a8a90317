use Rattle.fw_field.proofs.Coming.{told_is_true}
use Rattle.fw_field.proofs.laws.told_is_true.Goals as goal

pub returns : goal.returns
returns c = told_is_true c.leading_is_moves.ensures c.moves_are_safe.ensures.reports
