use Rattle.std.proofs.Common.{◌≡◌, refl, sym, ap, subst, ◌∙◌}
use Rattle.fw_server.specs.Meaning as meaning
use Rattle.fw_server.specs.Meaning.{code_number}
use Rattle.fw_image.specs.Phases.{state_in}
use Rattle.fw_image.specs.State.{State}
use Rattle.fw_image.specs.Step as image
use Rattle.fw_meter.specs.Private.{state_there, Steps}
use Rattle.fw_meter.proofs.Calling.{steps_made}
use Rattle.fw_meter.proofs.meter.MeterCore.receive.Goals as goal

pub returns : goal.returns
returns g c =
    let was : state_in c.in-Some.phase ≡ c.args.self.now = ap state_there (sym c.in-Some.is) ∙ c.self.view_is in
    let asked = meaning.block c.args.number c.args.value.now in
    subst (λ (s : State). Steps s asked (code_number c.block.result) (state_in c.block.new.phase)) was
    (steps_made _ _ asked (image.block c.args.number c.args.value.now) _ refl (λ made. made) c.block.ensures.made)
