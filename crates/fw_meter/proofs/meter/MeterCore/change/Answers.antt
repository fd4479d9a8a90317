use Rattle.std.proofs.Common.{◌≡◌, ap, subst, ◌∙◌}
use Rattle.fw_server.specs.Meaning.{code_number}
use Rattle.fw_server.specs.View.{operation_meaning}
use Rattle.fw_image.specs.Phases.{state_in}
use Rattle.fw_image.specs.State.{State}
use Rattle.fw_meter.specs.Private.{state_there, Steps}
use Rattle.fw_meter.proofs.meter.MeterCore.change.Goals as goal

pub returns-clause-steps : goal.returns-clause-steps
returns-clause-steps g c =
    let was : state_in c.in-Some.phase ≡ c.args.self.now = ap state_there c.in-Some.ensures.value ∙ c.self.view_is in
    subst (λ (s : State). Steps s (operation_meaning c.args.operation) (code_number c.make-code.result.0) (state_in c.make-code.result.1)) was c.make-code.ensures.steps
