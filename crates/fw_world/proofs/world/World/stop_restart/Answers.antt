use Rattle.std.proofs.Common.{◌≡◌, nat_eq, Some, refl, sym, ap, ◌∙◌}
use Rattle.std.specs.Map.{lookup}
use Rattle.std.specs.Option.{option_copied_mut}
use Rattle.fw_world.proofs.Places.{meter_found, meter_set}
use Rattle.fw_world.proofs.Keeping.{keeps_meter}
use Rattle.fw_world.proofs.world.World.stop_restart.Goals as goal

pub returns-clause-stepped : goal.returns-clause-stepped
returns-clause-stepped c =
    let found : lookup (nat_eq c.number.result) c.self.inside.meters ≡ Some c.in-Some.seat.now = sym c.get_mut.ensures.value ∙ ap option_copied_mut c.in-Some.is in
    (c.in-Some.seat.now, meter_found _ _ c.self.view_is _ _ c.number.ensures _ found, meter_set _ _ c.self.view_is _ _ c.number.ensures _ _ _ refl c.stop_restart.ensures)

pub invariant_of-self-2 : goal.invariant_of-self-2
invariant_of-self-2 c = keeps_meter _ c.self.invariant c.number.result c.stop_restart.new.self
