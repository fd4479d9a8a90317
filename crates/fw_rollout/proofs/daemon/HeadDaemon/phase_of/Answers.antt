use Rattle.std.proofs.Common.{Option, Some, sym, ap, ◌∙◌}
use Rattle.std.specs.Option.{option_copied, option_map}
use Rattle.fw_book.specs.declared.phase.Phase.{Phase}
use Rattle.fw_head.specs.Head.{Head, row_of}
use Rattle.fw_head.specs.Phase.{phase_of}
use Rattle.fw_head.specs.Row.{Row}
use Rattle.fw_rollout.proofs.daemon.HeadDaemon.phase_of.Goals as goal

pub returns-in-Some : goal.returns-in-Some
returns-in-Some g c =
    let head = ap (λ (h : Head). row_of h.rows c.args.meter) c.head.ensures in
    ap (λ (p : Phase). (let o : Option Phase = Some p in o)) c.phase.ensures
    ∙ sym (ap (λ o. option_map (λ (row : Row). phase_of row.stage) o) (sym head ∙ sym c.row.ensures ∙ ap option_copied c.in-Some.is))

pub returns-in-None : goal.returns-in-None
returns-in-None g c =
    let head = ap (λ (h : Head). row_of h.rows c.args.meter) c.head.ensures in
    sym (ap (λ o. option_map (λ (row : Row). phase_of row.stage) o) (sym head ∙ sym c.row.ensures ∙ ap option_copied c.in-None.is))
