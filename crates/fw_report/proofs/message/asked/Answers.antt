use Rattle.std.proofs.Common.{inl}
use Rattle.fw_apdu.specs.View.{request_content, request_invoke}
use Rattle.fw_report.proofs.message.asked.Goals as goal

pub returns-in-Ok-read_request : goal.returns-in-Ok-read_request
returns-in-Ok-read_request c =
    let request = c.in-Ok-read_request.request in
    inl (
      request_content request,
      record {
        source = c.in-Ok.frame.source;
        dest = c.in-Ok.frame.dest;
        apdu = c.in-Ok.frame.apdu.now;
        invoke = request_invoke request;
        wraps = c.in-Ok.ensures.found;
        spells = c.in-Ok-read_request.ensures.found;
      },
      rw (c.plan.ensures, c.addressed_by.ensures) at c.ask_of.ensures,
    )
