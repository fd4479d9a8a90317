use Rattle.std.proofs.Common.{rules}
use Rattle.fw_tally.proofs.Keeps.{splits}
use Rattle.fw_tally.proofs.tally.Tally.part.Goals as goal

pub split_seat-seat-requires : goal.split_seat-seat-requires
split_seat-seat-requires g c = (search rules, search rules, splits _ _ _ _ (search rules))
