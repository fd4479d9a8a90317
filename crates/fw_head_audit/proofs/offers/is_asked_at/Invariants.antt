use Rattle.fw_head_audit.specs.Private.{kind_of}
use Rattle.fw_head_audit.proofs.Meters.{NoneAsked}
use Rattle.fw_head_audit.proofs.offers.is_asked_at.Given as goal

abbrev pub invariant-loop-at : goal.invariant-loop-at
invariant-loop-at l = NoneAsked l.book l.meters l.to (kind_of l.asking) l.at
