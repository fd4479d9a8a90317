use Rattle.std.proofs.Common.{sym, ap, ◌∙◌}
use Rattle.fw_image.specs.Meter.{Meter, reopened}
use Rattle.fw_audit.proofs.Lives.{rests}
use Rattle.fw_audit.proofs.life.Left.new.Goals as goal

pub returns-clause-rests : goal.returns-clause-rests
returns-clause-rests c =
    let is = c.at_rest.ensures.meter in
    ap (λ (m : Meter). reopened m) is ∙ rests c.args.meter.meter ∙ sym is
