use Rattle.std.proofs.Common.{◌≡◌, length}
use Rattle.fw_book.specs.Rows.{repeats}
use Rattle.fw_book.proofs.meters.repeats.Given as goal

abbrev pub invariant-loop-first : goal.invariant-loop-first
invariant-loop-first l = repeats l.rest ≡ repeats l.meters

abbrev pub decreases-loop-first : goal.decreases-loop-first
decreases-loop-first l = length l.rest
