use Rattle.fw_field.proofs.Leading.{leading_is_moves}
use Rattle.fw_field.proofs.laws.leading_is_moves.Goals as goal

pub returns : goal.returns
returns c = leading_is_moves
