use Rattle.std.proofs.Common.{rules}
use Rattle.fw_sealport.proofs.port.SealedPort.open_in_place.Goals as goal

pub returns-in-Err-clause-drops : goal.returns-in-Err-clause-drops
returns-in-Err-clause-drops g c = record {
  reason = c.in-Err.reason;
  refused = search rules;
  counted = c.count_unopened.ensures;
  peers = c.in-Err.ensures.same;
}
