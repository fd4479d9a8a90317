use Rattle.std.proofs.Common.{All, take}
use Rattle.fw_host.specs.Openings.{IsTakenBy}
use Rattle.fw_host.proofs.head_opening.check_parts.Given as goal

abbrev pub invariant-loop-part : goal.invariant-loop-part
invariant-loop-part l = All (IsTakenBy l.book l.image) (take l.part-index l.parts)
