use Rattle.std.proofs.Common.{refl, arith}
use Rattle.fw_evidence.proofs.Marks.{at_mark}
use Rattle.fw_evidence.proofs.audit.place_of.Goals as goal

pub returns : goal.returns
returns c = (_, refl, at_mark c.args.marks.now c.args.departure.at _ _ (omega arith) refl)
