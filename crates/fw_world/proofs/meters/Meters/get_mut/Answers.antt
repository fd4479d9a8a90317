use Rattle.std.proofs.Common.{ℕ, nat_eq, List, Some, sym, ap, ◌∙◌, inl, inr}
use Rattle.std.specs.Map.{lookup, set_value}
use Rattle.fw_image.specs.Meter.{Meter}
use Rattle.fw_world.proofs.Finding.{at_place, no_place, looked_up, meter_place, element_at, meter_put}
use Rattle.fw_world.proofs.meters.Meters.get_mut.Goals as goal

pub returns-in-Some : goal.returns-in-Some
returns-in-Some c =
    let meters = c.self.inside.items.items in
    let number = c.args.number in
    let entry = c.index_mut.result.now in
    let is = at_place number meters c.in-Some.at (meter_place number meters _ _ _ c.deref.ensures.value c.place.ensures c.in-Some.is) in
    let there = element_at meters c.in-Some.at entry is.within c.index_mut.ensures.value in (
      (λ i. inl (c.seat_mut.result.ghost_name, λ w. (meter_put number meters c.in-Some.at entry w is there ∙ ap (λ (es : List (ℕ × Meter)). set_value (nat_eq number) es w) c.self.view_is) i)),
      record {
        writes_back = tt;
        value = ap Some c.seat_mut.ensures.value ∙ looked_up number meters c.in-Some.at entry is there ∙ ap (λ (es : List (ℕ × Meter)). lookup (nat_eq number) es) c.self.view_is;
      },
    )

pub returns-in-None : goal.returns-in-None
returns-in-None c =
    let meters = c.self.inside.items.items in (
      (λ i. inr (c.self.view_is i)),
      record {
        writes_back = tt;
        value = sym (ap (λ (es : List (ℕ × Meter)). lookup (nat_eq c.args.number) es) (sym c.self.view_is)
            ∙ no_place c.args.number meters (meter_place c.args.number meters _ _ _ c.deref.ensures.value c.place.ensures c.in-None.is));
      },
    )
