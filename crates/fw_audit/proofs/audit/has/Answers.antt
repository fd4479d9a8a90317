use Rattle.std.proofs.Common.{◌<◌, length, sym, ap, ◌∙◌, arith}
use Rattle.fw_image.specs.State.{State}
use Rattle.fw_audit.proofs.audit.has.Goals as goal

pub returns-then-is : goal.returns-then-is
returns-then-is c is =
    let found = c.args.found.now in
    let at = c.loop-at.at in
    let inside : at < length found = omega (arith, c.loop-at-test.true) in
    (c.index-found-at.result, (at, inside, sym c.index-found-at.is), c.is.ensures.some c.if-is.true ∙ ap (λ (s : State). s.meter) c.meter.ensures)
