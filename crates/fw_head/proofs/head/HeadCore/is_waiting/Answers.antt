use Rattle.std.proofs.Common.{sym, ap, ◌∙◌}
use Rattle.std.specs.Option.{option_copied}
use Rattle.fw_head.specs.Head.{Head, row_of}
use Rattle.fw_head.proofs.HasRow.{waiting_in, none_waiting}
use Rattle.fw_head.proofs.head.HeadCore.is_waiting.Goals as goal

pub returns-in-Some : goal.returns-in-Some
returns-in-Some c =
    let seen = ap (λ (h : Head). row_of h.rows c.args.meter) (sym c.self.view_is) in
    waiting_in c.args.self.now c.args.meter c.in-Some.row.now c.is_waiting.result (seen ∙ sym c.get.ensures ∙ ap option_copied c.in-Some.is) c.is_waiting.ensures

pub returns-in-None : goal.returns-in-None
returns-in-None c =
    let seen = ap (λ (h : Head). row_of h.rows c.args.meter) (sym c.self.view_is) in
    none_waiting c.args.self.now c.args.meter (seen ∙ sym c.get.ensures ∙ ap option_copied c.in-None.is)
