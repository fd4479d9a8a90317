use Rattle.fw_field.proofs.Serving.{serving_is_moves}
use Rattle.fw_field.proofs.laws.serving_is_moves.Goals as goal

pub returns : goal.returns
returns c = serving_is_moves
