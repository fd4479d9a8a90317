use Rattle.std.proofs.Common.{inl}
use Rattle.fw_apdu.specs.View.{response_content, response_invoke}
use Rattle.fw_report.proofs.message.answered.Goals as goal

pub returns-in-Ok-read_response : goal.returns-in-Ok-read_response
returns-in-Ok-read_response c =
    let response = c.in-Ok-read_response.response in
    inl (
      response_content response,
      record {
        source = c.in-Ok.frame.source;
        dest = c.in-Ok.frame.dest;
        apdu = c.in-Ok.frame.apdu.now;
        invoke = response_invoke response;
        wraps = c.in-Ok.ensures.found;
        spells = c.in-Ok-read_response.ensures.found;
      },
      c.answer_of.ensures,
    )
