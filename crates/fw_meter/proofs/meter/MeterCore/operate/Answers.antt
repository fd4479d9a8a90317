use Rattle.fw_apdu.specs.View.{request_content, request_invoke}
use Rattle.fw_server.specs.Meaning.{code_number}
use Rattle.fw_server.specs.View.{operation_meaning}
use Rattle.fw_meter.proofs.Responding.{responds}
use Rattle.fw_meter.proofs.meter.MeterCore.operate.Goals as goal

pub returns-clause-step : goal.returns-clause-step
returns-clause-step g c =
    let heard = c.args.heard.now in
    responds c.args.self.now c.change-code.new.self (operation_meaning c.args.operation) heard.source (request_invoke heard.request) (request_content heard.request) (code_number c.change-code.result.0) _ _
    c.requires c.change-code.ensures.steps
    c.code_in.ensures c.change-code.ensures.activated
