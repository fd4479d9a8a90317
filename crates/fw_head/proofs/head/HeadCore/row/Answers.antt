use Rattle.std.proofs.Common.{ap, ◌∙◌}
use Rattle.fw_head.specs.Head.{Head, row_of}
use Rattle.fw_head.proofs.head.HeadCore.row.Goals as goal

pub returns : goal.returns
returns c = c.get.ensures ∙ ap (λ (h : Head). row_of h.rows c.args.meter) c.self.view_is
