use Rattle.std.proofs.Common.{◌≡◌, ◌++◌, reverse, length}
use Rattle.fw_air.specs.Parts.{parts}
use Rattle.fw_air.proofs.log.unlinked.Given as goal

abbrev pub invariant-links : goal.invariant-links
invariant-links l = parts l.newer.chain ++ reverse l.all.items ≡ parts l.fn.newer.chain

abbrev pub decreases-links : goal.decreases-links
decreases-links l = length (parts l.newer.chain)
