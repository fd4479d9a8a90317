use Rattle.std.proofs.Common.{ℕ, nat_eq, List, Some, sym, ap, ◌∙◌}
use Rattle.std.specs.Map.{lookup}
use Rattle.fw_image.specs.Meter.{Meter}
use Rattle.fw_world.proofs.Finding.{at_place, no_place, looked_up, meter_place, element_at}
use Rattle.fw_world.proofs.meters.Meters.get.Goals as goal

pub returns-in-Some : goal.returns-in-Some
returns-in-Some c =
    let meters = c.self.inside.items.items in
    let number = c.args.number in
    let is = at_place number meters c.in-Some.at (meter_place number meters _ _ _ c.deref.ensures.value c.place.ensures c.in-Some.is) in
    ap (λ (e : ℕ × Meter). Some e.1) c.behind-self.view_is
    ∙ looked_up number meters c.in-Some.at c.index.result.now is (element_at meters c.in-Some.at c.index.result.now is.within c.index.ensures)
    ∙ ap (λ (es : List (ℕ × Meter)). lookup (nat_eq number) es) c.self.view_is

pub returns-in-None : goal.returns-in-None
returns-in-None c =
    let meters = c.self.inside.items.items in
    sym (ap (λ (es : List (ℕ × Meter)). lookup (nat_eq c.args.number) es) (sym c.self.view_is) ∙ no_place c.args.number meters (meter_place c.args.number meters _ _ _ c.deref.ensures.value c.place.ensures c.in-None.is))
