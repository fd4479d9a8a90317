use Rattle.fw_head_audit.specs.Private.{kind_of}
use Rattle.fw_head_audit.proofs.Books.{Passed}
use Rattle.fw_head_audit.proofs.offers.is_asked_to.Given as goal

abbrev pub invariant-loop-serial : goal.invariant-loop-serial
invariant-loop-serial l = Passed l.book l.meter (kind_of l.asking) l.serial-iterator
