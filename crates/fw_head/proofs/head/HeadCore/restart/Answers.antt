use Rattle.fw_head.specs.Head.{renewed}
use Rattle.fw_head.proofs.SameRows.{agree_renewed, keys_renewed, head_kept_by}
use Rattle.fw_head.proofs.head.HeadCore.restart.Goals as goal

pub invariant_of-self : goal.invariant_of-self
invariant_of-self c =
    let rows = c.self.inside.rows.rows.entries in
    head_kept_by c.self.inside.book c.self.inside.width rows (renewed rows) c.restart.new.self.rows.entries c.restart.ensures (keys_renewed rows) (agree_renewed rows) c.self.invariant
