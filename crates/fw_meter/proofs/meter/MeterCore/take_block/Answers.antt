use Rattle.std.proofs.Common.{refl}
use Rattle.fw_apdu.specs.View.{request_content, request_invoke}
use Rattle.fw_server.specs.Meaning as meaning
use Rattle.fw_server.specs.Meaning.{code_number}
use Rattle.fw_meter.proofs.Responding.{responds}
use Rattle.fw_meter.proofs.meter.MeterCore.take_block.Goals as goal

pub returns-clause-step : goal.returns-clause-step
returns-clause-step g c =
    let heard = c.args.heard.now in
    responds c.args.self.now c.receive-code.new.self (meaning.block c.args.number c.args.value.now) heard.source (request_invoke heard.request) (request_content heard.request) (code_number c.receive-code.result) _ _
    c.requires c.receive-code.ensures
    (rw c.unchanged.ensures c.code_in.ensures) (rw c.unchanged.ensures refl)
