use Rattle.std.proofs.Common.{ap, ◌∙◌}
use Rattle.fw_world.specs.Step.{turn}
use Rattle.fw_shared.proofs.Noted.{noted_as}
use Rattle.fw_shared.proofs.meter.SharedMeter.turn.Goals as goal

pub returns-clause-turned : goal.returns-clause-turned
returns-clause-turned g c =
    let made = c.in-Some.ensures.made.0 ∙ ap turn c.self.view_is in (
      c.record.result.event,
      noted_as _ c.args.seat.now c.reserve.new.self.items c.record.new.receipts.items c.record.result.event c.in-Some.held.act.event (turn c.args.self.now)
          c.seat.view_is c.reserve.ensures.items made c.record.ensures.noted,
    )
