use Rattle.std.proofs.Common.{sym}
use Rattle.fw_apdu.specs.View.{response_content, response_invoke}
use Rattle.fw_daemon.proofs.Tellings.{code_here, no_code}
use Rattle.fw_daemon.proofs.telling.code_of.Goals as goal

pub returns-in-Ok-read_response : goal.returns-in-Ok-read_response
returns-in-Ok-read_response c =
    let frame = c.in-Ok.frame in
    let response = c.in-Ok-read_response.response in
    code_here c.one_frame.ensures c.one_response.ensures c.args.reply.now frame.apdu.now frame.source frame.dest (response_invoke response) (response_content response) c.code_in.result c.in-Ok.ensures.found
    c.in-Ok-read_response.ensures.found (sym c.code_in.ensures)

pub returns-in-Err : goal.returns-in-Err
returns-in-Err c =
    let frame = c.in-Ok.frame in
    no_code c.one_frame.ensures c.args.reply.now frame.apdu.now frame.source frame.dest c.in-Err.field-0 c.in-Ok.ensures.found c.in-Err.ensures.none c.in-Err.ensures.memory
