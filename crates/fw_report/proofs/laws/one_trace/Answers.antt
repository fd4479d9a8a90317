use Rattle.fw_report.specs.Trace.{note_of}
use Rattle.fw_report.proofs.OneTrace.{Laws}
use Rattle.fw_report.proofs.OneTrace as lemma
use Rattle.fw_report.proofs.laws.one_trace.Goals as goal

pub returns : goal.returns
returns c = λ courses reasons sent text other traces others.
    let laws : Laws = record {
      frame = c.one_frame.ensures;
      wrapped = c.wrapped_has_no_fault.ensures;
      name = c.one_name.ensures;
      request = c.one_request.ensures;
      response = c.one_response.ensures;
      request_fault = c.one_request_fault.ensures;
      response_fault = c.one_response_fault.ensures;
    } in
    lemma.one_trace laws (note_of courses reasons) 0 sent text other traces others
