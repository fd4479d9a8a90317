use Rattle.std.proofs.Common.{refl, ap}
use Rattle.fw_server.specs.Meaning.{code_number}
use Rattle.fw_image.specs.Step.{refused}
use Rattle.fw_image.specs.Phases.{state_in}
use Rattle.fw_meter.proofs.Made.{lacks_block, not_receiving}
use Rattle.fw_meter.proofs.operation.block.Goals as goal

pub returns-in-Err-clause-made : goal.returns-in-Err-clause-made
returns-in-Err-clause-made g c = rw c.in-Receiving.is (refused c.in-Err.refusal, c.in-Err.ensures.makes, ap code_number c.code_of.ensures)

pub returns-in_default : goal.returns-in_default
returns-in_default g c =
    let s = state_in c.args.phase.now in record {
      made = rw c.lacking.ensures (lacks_block s c.args.number c.args.value.now s.meter.enabled s.meter.phase refl refl (not_receiving c.args.phase.now c.requires c.in_default.not-Receiving));
      phase = c.requires;
    }
