use Rattle.std.proofs.Common.{◌<◌, length, sym, subst, take, arith, slice_get, ◌≡◌, Some}
use Rattle.fw_world.specs.Runs.{events_of}
use Rattle.fw_world.specs.Setup.{opening_state}
use Rattle.fw_world.specs.State.{State, StateStep, StateRun, world_of}
use Rattle.fw_world.specs.Refusals.{IsRefused}
use Rattle.fw_world.specs.View.{event_of}
use Rattle.fw_world.specs.Step.{WorldStep, Run}
use Rattle.fw_world.proofs.Following.{at_index, goes_on}
use Rattle.fw_world.proofs.Openings.{is_opening}
use Rattle.fw_world.proofs.runs.run.Goals as goal

pub loop-at-preserved : goal.loop-at-preserved
loop-at-preserved c =
    let events = c.args.events.now in
    let at = c.loop-at.at in
    let event = c.index-events-at.result in
    let opening = opening_state c.args.setup.now in
    let inside : at < length events = omega (arith, c.loop-at-test.true) in
    let there : slice_get events at ≡ Some event = at_index events at _ event inside c.index-events-at.is in (
      c.loop-at.invariant.0,
      goes_on StateStep events at event opening c.loop-at.world c.step.new.self there c.loop-at.invariant.1 c.in_default.ensures.stepped,
      goes_on WorldStep events at event (world_of opening) (world_of c.loop-at.world) (world_of c.step.new.self) there c.loop-at.invariant.2 c.in_default.ensures.world,
    )

pub returns-clause-initiates : goal.returns-clause-initiates
returns-clause-initiates c =
    c.every_run_is_safe.ensures.initiates (world_of (opening_state c.args.setup.now)) (world_of c.loop-at.world) (events_of (take c.loop-at.at c.args.events.now)) (is_opening c.args.setup.now c.loop-at.invariant.0) c.loop-at.invariant.2

pub returns-in-Err-step-clause-initiates : goal.returns-in-Err-step-clause-initiates
returns-in-Err-step-clause-initiates c =
    let opening = world_of (opening_state c.args.setup.now) in
    let so_far = events_of (take c.loop-at.at c.args.events.now) in
    let run = subst (λ (w : State). Run opening so_far (world_of w)) (sym c.in-Err-step.ensures.same) c.loop-at.invariant.2 in
    c.every_run_is_safe.ensures.initiates opening (world_of c.step.new.self) so_far (is_opening c.args.setup.now c.loop-at.invariant.0) run

pub returns-clause-names : goal.returns-clause-names
returns-clause-names c =
    c.every_run_is_safe.ensures.names (world_of (opening_state c.args.setup.now)) (world_of c.loop-at.world) (events_of (take c.loop-at.at c.args.events.now)) (is_opening c.args.setup.now c.loop-at.invariant.0) c.loop-at.invariant.2

pub returns-in-Err-step-clause-names : goal.returns-in-Err-step-clause-names
returns-in-Err-step-clause-names c =
    let opening = world_of (opening_state c.args.setup.now) in
    let so_far = events_of (take c.loop-at.at c.args.events.now) in
    let run = subst (λ (w : State). Run opening so_far (world_of w)) (sym c.in-Err-step.ensures.same) c.loop-at.invariant.2 in
    c.every_run_is_safe.ensures.names opening (world_of c.step.new.self) so_far (is_opening c.args.setup.now c.loop-at.invariant.0) run

pub returns-clause-goals : goal.returns-clause-goals
returns-clause-goals c =
    c.every_run_is_safe.ensures.goals (world_of (opening_state c.args.setup.now)) (world_of c.loop-at.world) (events_of (take c.loop-at.at c.args.events.now)) (is_opening c.args.setup.now c.loop-at.invariant.0) c.loop-at.invariant.2

pub returns-in-Err-step-clause-goals : goal.returns-in-Err-step-clause-goals
returns-in-Err-step-clause-goals c =
    let opening = world_of (opening_state c.args.setup.now) in
    let so_far = events_of (take c.loop-at.at c.args.events.now) in
    let run = subst (λ (w : State). Run opening so_far (world_of w)) (sym c.in-Err-step.ensures.same) c.loop-at.invariant.2 in
    c.every_run_is_safe.ensures.goals opening (world_of c.step.new.self) so_far (is_opening c.args.setup.now c.loop-at.invariant.0) run

pub returns-clause-activations : goal.returns-clause-activations
returns-clause-activations c =
    c.every_run_is_safe.ensures.activations (world_of (opening_state c.args.setup.now)) (world_of c.loop-at.world) (events_of (take c.loop-at.at c.args.events.now)) (is_opening c.args.setup.now c.loop-at.invariant.0) c.loop-at.invariant.2

pub returns-in-Err-step-clause-activations : goal.returns-in-Err-step-clause-activations
returns-in-Err-step-clause-activations c =
    let opening = world_of (opening_state c.args.setup.now) in
    let so_far = events_of (take c.loop-at.at c.args.events.now) in
    let run = subst (λ (w : State). Run opening so_far (world_of w)) (sym c.in-Err-step.ensures.same) c.loop-at.invariant.2 in
    c.every_run_is_safe.ensures.activations opening (world_of c.step.new.self) so_far (is_opening c.args.setup.now c.loop-at.invariant.0) run

pub returns-clause-equal : goal.returns-clause-equal
returns-clause-equal c =
    c.every_run_is_safe.ensures.equal (world_of (opening_state c.args.setup.now)) (world_of c.loop-at.world) (events_of (take c.loop-at.at c.args.events.now)) (is_opening c.args.setup.now c.loop-at.invariant.0) c.loop-at.invariant.2

pub returns-in-Err-step-clause-equal : goal.returns-in-Err-step-clause-equal
returns-in-Err-step-clause-equal c =
    let opening = world_of (opening_state c.args.setup.now) in
    let so_far = events_of (take c.loop-at.at c.args.events.now) in
    let run = subst (λ (w : State). Run opening so_far (world_of w)) (sym c.in-Err-step.ensures.same) c.loop-at.invariant.2 in
    c.every_run_is_safe.ensures.equal opening (world_of c.step.new.self) so_far (is_opening c.args.setup.now c.loop-at.invariant.0) run

pub returns-clause-releases : goal.returns-clause-releases
returns-clause-releases c =
    c.every_run_is_safe.ensures.releases (world_of (opening_state c.args.setup.now)) (world_of c.loop-at.world) (events_of (take c.loop-at.at c.args.events.now)) (is_opening c.args.setup.now c.loop-at.invariant.0) c.loop-at.invariant.2

pub returns-in-Err-step-clause-releases : goal.returns-in-Err-step-clause-releases
returns-in-Err-step-clause-releases c =
    let opening = world_of (opening_state c.args.setup.now) in
    let so_far = events_of (take c.loop-at.at c.args.events.now) in
    let run = subst (λ (w : State). Run opening so_far (world_of w)) (sym c.in-Err-step.ensures.same) c.loop-at.invariant.2 in
    c.every_run_is_safe.ensures.releases opening (world_of c.step.new.self) so_far (is_opening c.args.setup.now c.loop-at.invariant.0) run

pub returns-in-Err-step-clause-stopped : goal.returns-in-Err-step-clause-stopped
returns-in-Err-step-clause-stopped c =
    let events = c.args.events.now in
    let at = c.loop-at.at in
    let event = c.index-events-at.result in
    let inside : at < length events = omega (arith, c.loop-at-test.true) in (
      event,
      at_index events at _ event inside c.index-events-at.is,
      subst (λ (w : State). StateRun (opening_state c.args.setup.now) (events_of (take at events)) w) (sym c.in-Err-step.ensures.same) c.loop-at.invariant.1,
      subst (λ (w : State). IsRefused w (event_of event) c.in-Err-step.cause) (sym c.in-Err-step.ensures.same) c.in-Err-step.ensures.refused,
      subst (λ (w : State). Run (world_of (opening_state c.args.setup.now)) (events_of (take at events)) (world_of w)) (sym c.in-Err-step.ensures.same) c.loop-at.invariant.2,
    )

pub returns-clause-opening : goal.returns-clause-opening
returns-clause-opening c = is_opening c.args.setup.now c.loop-at.invariant.0

pub returns-in-Err-step-clause-opening : goal.returns-in-Err-step-clause-opening
returns-in-Err-step-clause-opening c = is_opening c.args.setup.now c.loop-at.invariant.0

pub returns-clause-safe : goal.returns-clause-safe
returns-clause-safe c =
    c.every_run_is_safe.ensures.safe (world_of (opening_state c.args.setup.now)) (world_of c.loop-at.world) (events_of (take c.loop-at.at c.args.events.now)) (is_opening c.args.setup.now c.loop-at.invariant.0) c.loop-at.invariant.2

pub returns-in-Err-step-clause-safe : goal.returns-in-Err-step-clause-safe
returns-in-Err-step-clause-safe c =
    let opening = world_of (opening_state c.args.setup.now) in
    let so_far = events_of (take c.loop-at.at c.args.events.now) in
    let run = subst (λ (w : State). Run opening so_far (world_of w)) (sym c.in-Err-step.ensures.same) c.loop-at.invariant.2 in
    c.every_run_is_safe.ensures.safe opening (world_of c.step.new.self) so_far (is_opening c.args.setup.now c.loop-at.invariant.0) run
