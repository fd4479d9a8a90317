use Rattle.std.proofs.Common.{false, sym, ap, ◌∙◌}
use Rattle.std.specs.Option.{option_copied, option_map_or}
use Rattle.fw_head.specs.Head.{Head, row_of}
use Rattle.fw_head.specs.Phase.{activates}
use Rattle.fw_head.specs.Row.{Row}
use Rattle.fw_head.proofs.head.HeadCore.activates.Goals as goal

pub returns-in-Some : goal.returns-in-Some
returns-in-Some c =
    let seen = ap (λ (h : Head). row_of h.rows c.args.meter) (sym c.self.view_is) in
    c.activates.ensures ∙ sym (ap (λ o. option_map_or (λ (row : Row). activates row.stage) o false) (seen ∙ sym c.get.ensures ∙ ap option_copied c.in-Some.is))

pub returns-in-None : goal.returns-in-None
returns-in-None c =
    let seen = ap (λ (h : Head). row_of h.rows c.args.meter) (sym c.self.view_is) in
    sym (ap (λ o. option_map_or (λ (row : Row). activates row.stage) o false) (seen ∙ sym c.get.ensures ∙ ap option_copied c.in-None.is))
