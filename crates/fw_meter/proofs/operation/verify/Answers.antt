use Rattle.std.proofs.Common.{refl, ap}
use Rattle.fw_server.specs.Meaning.{code_number}
use Rattle.fw_image.specs.Step.{refused}
use Rattle.fw_image.specs.declared.error.Refusal.TheVariants.{Differs}
use Rattle.fw_image.specs.Phases.{state_in}
use Rattle.fw_meter.proofs.Made.{lacks_verify, not_receiving}
use Rattle.fw_meter.proofs.operation.verify.Goals as goal

pub returns-in-Err-Refused-clause-made : goal.returns-in-Err-Refused-clause-made
returns-in-Err-Refused-clause-made g c =
    rw c.in-Receiving.is (refused c.in-Err-Refused.refusal, rw c.in-Err-Refused.field-0-is at c.in-Err-Refused.ensures.makes, ap code_number c.code_of.ensures)

pub returns-in-Err-Differs-clause-made : goal.returns-in-Err-Differs-clause-made
returns-in-Err-Differs-clause-made g c = rw c.in-Receiving.is (refused Differs, rw c.in-Err-Differs.field-0-is at c.in-Err-Differs.ensures.makes, refl)

pub returns-in_default : goal.returns-in_default
returns-in_default g c =
    let s = state_in c.args.phase in record {
      made = rw c.lacking.ensures (lacks_verify s s.meter.enabled s.meter.phase refl refl (not_receiving c.args.phase c.requires c.in_default.not-Receiving));
      phase = c.requires;
    }
