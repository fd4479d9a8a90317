use Rattle.std.proofs.Common.{All, take}
use Rattle.fw_host.specs.Openings.{IsCancelledBy}
use Rattle.fw_host.proofs.head_opening.check_cancels.Given as goal

abbrev pub invariant-loop-serial : goal.invariant-loop-serial
invariant-loop-serial l = All (IsCancelledBy l.book) (take l.serial-index l.serials)
