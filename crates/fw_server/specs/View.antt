-- Public vocabulary: what a plan means, apart from what it borrows of its request.
use Rattle.fw_server.specs.Meaning as meaning
use Rattle.fw_server.specs.Meaning.{Meaning}
use Rattle.fw_server.specs.declared.planning.Operation.{Operation}
use Rattle.fw_server.specs.declared.planning.Operation.TheVariants as operation
use Rattle.fw_server.specs.declared.planning.Planned.{Planned}
use Rattle.fw_server.specs.declared.planning.Planned.TheVariants as planned

abbrev pub operation_meaning : Operation → Meaning
operation_meaning (operation.Enable enabled) = meaning.enable enabled
operation_meaning (operation.Initiate identifier size) = meaning.initiate identifier.now size
operation_meaning operation.Verify = meaning.verify
operation_meaning operation.Activate = meaning.activate

abbrev pub planned_meaning : Planned → Meaning
planned_meaning (planned.Read reading) = meaning.read reading
planned_meaning (planned.Operate operation) = operation_meaning operation
planned_meaning (planned.Block number value) = meaning.block number value.now
planned_meaning (planned.Refused code) = meaning.refused code
