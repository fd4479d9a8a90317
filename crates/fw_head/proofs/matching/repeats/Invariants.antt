use Rattle.std.proofs.Common.{◌≡◌, length}
use Rattle.fw_head.specs.Private.{repeats}
use Rattle.fw_head.proofs.matching.repeats.Given as goal

abbrev pub invariant-loop-first : goal.invariant-loop-first
invariant-loop-first l = repeats l.rest ≡ repeats l.rows

abbrev pub decreases-loop-first : goal.decreases-loop-first
decreases-loop-first l = length l.rest
