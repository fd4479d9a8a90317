use Rattle.std.proofs.Common.{◌∙◌, [], append-nil, sym, arith}
use Rattle.fw_auditor.specs.Private.{ends_in}
use Rattle.fw_auditor.proofs.Ending.{all_logs, more_logs}
use Rattle.fw_auditor.proofs.ends.logs_of.Goals as goal

pub loop-meter-preserved : goal.loop-meter-preserved
loop-meter-preserved c =
    more_logs c.args.meters.now c.loop-meter.meter c.index-meters-meter.result [] c.loop-meter.logs.items c.push.new.self.items c.to_log.result
    (omega (arith, c.loop-meter-test.true)) c.index-meters-meter.is c.loop-meter.invariant c.in_ok-push.ensures.items c.to_log.ensures

pub loop-head-init : goal.loop-head-init
loop-head-init c =
    all_logs c.args.meters.now c.loop-meter.meter [] _ (omega (arith, c.loop-meter-test.false)) c.loop-meter.invariant ∙ sym (append-nil (ends_in c.args.meters.now))

pub loop-head-preserved : goal.loop-head-preserved
loop-head-preserved c =
    more_logs c.args.heads.now c.loop-head.head c.index-heads-head.result (ends_in c.args.meters.now) c.loop-head.logs.items c.push-in-loop-head.new.self.items c.to_log-in-loop-head.result
    (omega (arith, c.loop-head-test.true)) c.index-heads-head.is c.loop-head.invariant c.in_ok-push-2.ensures.items c.to_log-in-loop-head.ensures

pub returns : goal.returns
returns c =
    all_logs c.args.heads.now c.loop-head.head (ends_in c.args.meters.now) _ (omega (arith, c.loop-head-test.false)) c.loop-head.invariant
