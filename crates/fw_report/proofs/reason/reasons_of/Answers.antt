use Rattle.std.proofs.Common.{◌≡◌, ◌-◌, ◌<◌, ◌++◌, List, length, replicate, slice_get, Some, ap, subst, ◌∙◌, arith}
use Rattle.fw_world.specs.Runs.{events_of}
use Rattle.fw_world.specs.Step.{Event}
use Rattle.fw_world.specs.View.{event_of}
use Rattle.fw_world.specs.World.{Datagram}
use Rattle.fw_report.specs.Reason.{HasReason}
use Rattle.fw_report.proofs.Reasons.{event_at, goes_on, if_ok, is_refused}
use Rattle.fw_report.proofs.reason.reasons_of.Goals as goal

pub loop-at-preserved : goal.loop-at-preserved
loop-at-preserved c =
    let events = c.args.events.now in
    let at = c.loop-at.at in
    let event = c.index-events-at-in-loop-at.result in
    let seen = c.index-events-at.result in
    let reasons = c.loop-at.reasons.items in
    let reason = c.in_ok-reason.reason in
    let inside : at < length events = omega (arith, c.loop-at-test.true) in
    let there : slice_get (events_of events) at ≡ Some (event_of event) = event_at events at _ event inside c.index-events-at-in-loop-at.is in
    let looked_at : slice_get (events_of events) at ≡ Some (event_of seen) = event_at events at _ seen inside c.index-events-at.is in
    let same : event_of seen ≡ event_of event = cc (there, looked_at) in
    let has = subst (λ (e : Event). HasReason c.loop-at.world e reason) same c.in_ok-reason.ensures in
    let filled = c.in_ok-fill.ensures ∙ ap (λ (ds : List Datagram). reasons ++ replicate (length ds - length reasons) reason) c.sent.ensures.sent in
    goes_on c.sent_grows.ensures c.args.setup.now (events_of events) at (event_of event) c.loop-at.world c.step.new.self reason reasons c.fill.new.reasons.items
    c.loop-at.invariant there (c.in_default.ensures.admitted, c.in_default.ensures.stepped) has filled

pub returns-in-Err : goal.returns-in-Err
returns-in-Err c =
    let events = c.args.events.now in
    let at = c.loop-at.at in
    let event = c.index-events-at-in-loop-at.result in
    let inside : at < length events = omega (arith, c.loop-at-test.true) in
    let there : slice_get (events_of events) at ≡ Some (event_of event) = event_at events at _ event inside c.index-events-at-in-loop-at.is in
    if_ok c.end_at.result _ _
    (λ same is. is_refused c.args.setup.now (events_of events) at (event_of event) c.loop-at.world c.in-Err.cause c.loop-at.reasons.items same.items
    c.loop-at.invariant there c.in-Err.ensures.refused is.1 is.0)
    c.end_at.ensures
