use Rattle.std.proofs.Common.{◌≡◌, reverse, take}
use Rattle.fw_ramfiles.specs.Past.{bytes_of}
use Rattle.fw_ramfiles.proofs.past.bytes_after.Given as goal

abbrev pub invariant-loop-event : goal.invariant-loop-event
invariant-loop-event l = l.bytes.items ≡ bytes_of l.part l.first (reverse (take l.event-index l.events))
