use Rattle.std.proofs.Common.{ap, ◌∙◌}
use Rattle.fw_world.specs.World.{Datagram}
use Rattle.fw_shared.proofs.Rows.{meter_serves}
use Rattle.fw_shared.proofs.acts.GuardedMeter.handle.Goals as goal

pub returns-clause-step : goal.returns-clause-step
returns-clause-step g c =
    let bytes = c.deref.ensures.value ∙ ap (λ (d : Datagram). d.bytes) c.datagram.view_is in
    meter_serves _ _ c.args.datagram.now _ _ _ _ bytes c.in_ok-handled.ensures.step c.reply.ensures.sent
