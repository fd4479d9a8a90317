use Rattle.std.proofs.Common.{refl, ap}
use Rattle.fw_server.specs.Meaning.{code_number}
use Rattle.fw_image.specs.Step.{refused}
use Rattle.fw_image.specs.Phases.{state_in}
use Rattle.fw_meter.proofs.Made.{lacks_activate, not_verified}
use Rattle.fw_meter.proofs.operation.activate.Goals as goal

pub returns-in-Err-clause-made : goal.returns-in-Err-clause-made
returns-in-Err-clause-made g c = rw c.in-Verified.is (refused c.in-Err.refusal, c.in-Err.ensures.makes, ap code_number c.code_of.ensures)

pub returns-in_default : goal.returns-in_default
returns-in_default g c =
    let s = state_in c.args.phase in record {
      made = rw c.lacking.ensures (lacks_activate s s.meter.enabled s.meter.phase refl refl (not_verified c.args.phase c.requires c.in_default.not-Verified));
      phase = c.requires;
    }
