use Rattle.std.proofs.Common.{rules}
use Rattle.fw_tally.proofs.Keeps.{looks}
use Rattle.fw_tally.proofs.tally.Tally.seen.Goals as goal

pub load-requires : goal.load-requires
load-requires c = (search rules, search rules, looks _ _ _ c.share.inside.seat.me)
