use Rattle.std.proofs.Common.{◌<◌, arith}
use Rattle.fw_report.proofs.Reasons.{filled_on}
use Rattle.fw_report.proofs.reason.fill.Goals as goal

pub loop-place-preserved : goal.loop-place-preserved
loop-place-preserved c =
    let below : c.loop-place.place < c.args.count = omega (arith, c.loop-place-test.true) in
    filled_on c.args.reasons.now.items c.loop-place.reasons.items c.push.new.self.items c.args.count c.loop-place.place c.args.reason c.loop-place.invariant below c.in_ok-push.ensures.items
