use Rattle.std.proofs.Common.{sym, ap, ◌∙◌}
use Rattle.fw_image.specs.Meter.{Meter, reopened}
use Rattle.fw_image.specs.State.{State}
use Rattle.fw_audit.proofs.Lives.{left_alive}
use Rattle.fw_audit.proofs.life.Left.of.Goals as goal

pub returns-clause-left : goal.returns-clause-left
returns-clause-left c =
    let going = c.args.going in
    c.new.ensures.meter ∙ ap (λ (s : State). reopened s.meter) c.into_parts-meter.ensures.meter ∙ sym (left_alive going.meter.meter going.owed)

pub returns-clause-size : goal.returns-clause-size
returns-clause-size c =
    ap (λ (m : Meter). m.capacity) c.new.ensures.meter ∙ ap (λ (s : State). s.meter.capacity) c.into_parts-meter.ensures.meter
