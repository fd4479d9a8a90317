use Rattle.std.proofs.Common.{refl}
use Rattle.fw_server.specs.Meaning as meaning
use Rattle.fw_image.specs.Step as image
use Rattle.fw_meter.proofs.Calling.{steps_made}
use Rattle.fw_meter.proofs.operation.make.Goals as goal

pub returns-in-Enable-clause-steps : goal.returns-in-Enable-clause-steps
returns-in-Enable-clause-steps g c =
    rw c.in-Enable.is (steps_made _ _ (meaning.enable c.in-Enable.enabled) (image.enable c.in-Enable.enabled) _ refl (λ made. made) c.enable.ensures.made)

pub returns-in-Verify-clause-steps : goal.returns-in-Verify-clause-steps
returns-in-Verify-clause-steps g c = rw c.in-Verify.is (steps_made _ _ meaning.verify image.verify _ refl (λ made. made) c.verify.ensures.made)

pub returns-in-Activate-clause-steps : goal.returns-in-Activate-clause-steps
returns-in-Activate-clause-steps g c = rw c.in-Activate.is (steps_made _ _ meaning.activate image.activate _ refl (λ made. made) c.activate.ensures.made)
