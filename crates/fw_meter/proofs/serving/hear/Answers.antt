use Rattle.std.proofs.Common.{rules}
use Rattle.fw_meter.proofs.serving.hear.Goals as goal

-- the datagram carries one APDU, and that is no request
pub returns-in-Err : goal.returns-in-Err
returns-in-Err c = record {
  heard = λ source invoke content b. let same = c.split.ensures.unique source 1 b.apdu b.wraps in search rules;
  memory = tt;
}
