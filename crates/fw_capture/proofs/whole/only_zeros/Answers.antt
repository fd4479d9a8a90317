use Rattle.std.proofs.Common.{sym, ◌∙◌, take}
use Rattle.fw_capture.proofs.Filling.{taken}
use Rattle.fw_capture.proofs.Wholeness.{zeros_end, zeros_go_on}
use Rattle.fw_capture.proofs.whole.only_zeros.Goals as goal

pub returns-then-has_other-clause-zeros : goal.returns-then-has_other-clause-zeros
returns-then-has_other-clause-zeros g c = λ rest is.
    let so_far = c.loop.invariant rest is in
    let read = rw c.in-Some.is at c.in_ok-count.ensures.bytes in
    let next = taken _ _ so_far.0 (take c.in-Some.count c.read_some.new.chunk) so_far.1 read.1 in
    zeros_end rest so_far.0 (take c.in-Some.count c.read_some.new.chunk) next.0 so_far.2 next.2 (sym c.has_other.ensures ∙ c.if-has_other.true)

pub loop-preserved : goal.loop-preserved
loop-preserved g c = λ rest is.
    let so_far = c.loop.invariant rest is in
    let read = rw c.in-Some.is at c.in_ok-count.ensures.bytes in
    let next = taken _ _ so_far.0 (take c.in-Some.count c.read_some.new.chunk) so_far.1 read.1 in
    (next.0, next.1, zeros_go_on rest so_far.0 (take c.in-Some.count c.read_some.new.chunk) next.0 so_far.2 next.2 (sym c.has_other.ensures ∙ c.if-has_other.false))
