use Rattle.std.proofs.Common.{◌≡◌, take}
use Rattle.fw_unseal.specs.Unsealing.{both_ends}
use Rattle.fw_unseal.proofs.ends.both_ends.Given as goal

-- the links so far
abbrev pub invariant-loop-entry : goal.invariant-loop-entry
invariant-loop-entry l = l.links.items ≡ both_ends l.file.own (take l.entry-index l.entries)
