use Rattle.std.proofs.Common.{rules}
use Rattle.fw_wrapper.specs.Wrapper.{wport}
use Rattle.fw_survey.proofs.Spelled.{data_carried}
use Rattle.fw_survey.proofs.matching.response_in.Goals as goal

-- the datagram carries one APDU, and that is no response
pub returns-in-Err : goal.returns-in-Err
returns-in-Err c = record {
  response = λ invoke content b. let same = c.split.ensures.unique wport wport b.apdu b.wraps in search rules;
  memory = tt;
}

-- the datagram carries the APDU that was read
pub returns-in-Err-OutOfMemory-clause-memory : goal.returns-in-Err-OutOfMemory-clause-memory
returns-in-Err-OutOfMemory-clause-memory c =
    data_carried c.args.datagram.now c.in-Ok.frame.apdu.now c.in-Ok.frame.source c.in-Ok.frame.dest c.in-Err-OutOfMemory.field-0 c.if-frame-ne-WPORT.false c.if-frame-ne-WPORT-2.false
    c.in-Ok.ensures.found c.in-Err-OutOfMemory.field-0-is c.in-Err-OutOfMemory.ensures.memory
