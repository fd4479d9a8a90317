use Rattle.std.proofs.Common.{rules}
use Rattle.fw_tally.proofs.Keeps.{joins, fits}
use Rattle.fw_tally.proofs.tally.Tally.join.Goals as goal

pub join_seat-requires : goal.join_seat-requires
join_seat-requires c = (search rules, search rules, search rules, search rules, joins _ _ _ _ _)

pub load-requires : goal.load-requires
load-requires c = (search rules, search rules, fits _ _ _ _)
