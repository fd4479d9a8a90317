use Rattle.std.proofs.Common.{rules}
use Rattle.fw_tally.proofs.Keeps.{marks}
use Rattle.fw_tally.proofs.tally.Tally.add.Goals as goal

pub fetch_add-requires : goal.fetch_add-requires
fetch_add-requires c = (search rules, search rules, marks _ _ _ c.share.inside.seat.me (search rules))
