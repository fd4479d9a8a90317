use Rattle.fw_apdu.specs.View.{request_content, request_invoke}
use Rattle.fw_server.specs.View.{planned_meaning}
use Rattle.fw_daemon.proofs.Tellings.{tells_code, tells_no_code}
use Rattle.fw_daemon.proofs.telling.reply_event.Goals as goal

pub returns-in-Some : goal.returns-in-Some
returns-in-Some c = λ datagram source brings.
    let request = c.args.request.now in
    tells_code c.args.running c.in-Some.code datagram c.args.reply.now source (request_invoke request) (request_content request) (planned_meaning c.plan.result) c.coded_event.result c.plan.ensures brings c.in-Some.ensures
    c.coded_event.ensures

pub returns-in-None : goal.returns-in-None
returns-in-None c = λ datagram source brings. tells_no_code c.args.running datagram c.args.reply.now c.in-None.ensures
