use Rattle.fw_book.proofs.States.{states_follow}
use Rattle.fw_book.proofs.laws.states_follow.Goals as goal

pub returns : goal.returns
returns c = states_follow
