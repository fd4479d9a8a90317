use Rattle.std.proofs.Common.{◌≡◌, ◌<◌, Some, length, slice_get, arith}
use Rattle.fw_world.specs.Runs.{events_of}
use Rattle.fw_world.specs.Setup.{opening_state}
use Rattle.fw_world.specs.View.{event_of}
use Rattle.fw_air.proofs.Runs.{cut_there, event_at, run_on}
use Rattle.fw_air.proofs.scheduling.world_behind.Goals as goal

pub loop-at-preserved : goal.loop-at-preserved
loop-at-preserved c =
    let events = c.args.events.now in
    let at = c.loop-at.at in
    let event = c.index-events-at.result in
    let inside : at < length events = omega (arith, c.loop-at-test.true) in
    let there : slice_get (events_of events) at ≡ Some (event_of event) = event_at events at _ event inside c.index-events-at.is in
    run_on (events_of events) at (event_of event) (opening_state c.args.setup.now) c.loop-at.world c.step.new.self there c.loop-at.invariant (c.in_default.ensures.admitted, c.in_default.ensures.stepped)

pub returns-in-Err-step-clause-refused : goal.returns-in-Err-step-clause-refused
returns-in-Err-step-clause-refused c =
    let events = c.args.events.now in
    let at = c.loop-at.at in
    let event = c.index-events-at.result in
    let inside : at < length events = omega (arith, c.loop-at-test.true) in
    let there : slice_get (events_of events) at ≡ Some (event_of event) = event_at events at _ event inside c.index-events-at.is in
    cut_there c.args.setup.now (events_of events) at (event_of event) c.loop-at.world c.step.new.self c.in-Err-step.cause there c.loop-at.invariant c.in-Err-step.ensures.same c.in-Err-step.ensures.refused
