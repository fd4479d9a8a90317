use Rattle.std.proofs.Common.{◌≡◌, ◌+◌, ◌<◌, [], ◌∷◌, Some, length, map, take, slice_get, refl, ap, sym, subst, ◌∙◌, arith, rules}
use Rattle.std.proofs.lemmas.Option.{slice_get_read}
use Rattle.fw_air.specs.Logs.{Entry, IsCounted}
use Rattle.fw_world.specs.Runs.{events_of}
use Rattle.fw_world.specs.Setup.{opening_state}
use Rattle.fw_world.specs.State.{world_of}
use Rattle.fw_world.specs.View.{event_of}
use Rattle.fw_workers.specs.declared.error.RehearseError.TheVariants as refused
use Rattle.fw_workers.specs.Recorded.{AreEntered}
use Rattle.fw_workers.specs.Refusals.{TellsOfEvent}
use Rattle.fw_workers.proofs.Playing.{counted_on, entered, entered_on, noted_on, not_setup, runs_on, told, world_runs_on}
use Rattle.fw_workers.proofs.beginning.play.Goals as goal

pub returns-in-Err-clause-bad_setup : goal.returns-in-Err-clause-bad_setup
returns-in-Err-clause-bad_setup c = λ is.
    let same : c.barred.result ≡ refused.BadSetup = cc in
    absurd (not_setup c.loop-at.at c.in-Err.cause (sym c.barred.ensures ∙ same))

pub returns-in-Err-clause-event : goal.returns-in-Err-clause-event
returns-in-Err-clause-event c =
    let setup = c.args.setup.now in
    let events = c.args.events.now in
    let at = c.loop-at.at in
    let event = c.index-events-at.result in
    let inside : at < length events = omega (arith, c.loop-at-test.true) in
    let there : slice_get events at ≡ Some event = slice_get_read events (length events) at event refl inside c.index-events-at.is in
    subst (TellsOfEvent setup events) (sym c.barred.ensures)
    (told setup events at c.loop-at.world c.in-Err.cause (event, there, c.loop-at.invariant.1, c.in-Err.ensures.refused, c.loop-at.invariant.2))

pub overflow_sub-count : goal.overflow_sub-count
overflow_sub-count c =
    let new = c.step.new.self in
    rw (c.sent-before.ensures.sent, c.sent.ensures.sent)
    (c.sent_grows.ensures c.loop-at.world new (event_of c.index-events-at.result ∷ []) (new, (c.in_default.ensures.admitted, c.in_default.ensures.stepped), refl))

pub loop-at-preserved : goal.loop-at-preserved
loop-at-preserved c =
    let events = c.args.events.now in
    let old = c.loop-at.world in
    let new = c.step.new.self in
    let event = c.index-events-at.result in
    let inside : c.loop-at.at < length events = omega (arith, c.loop-at-test.true) in
    let grew = c.sent_grows.ensures old new (event_of event ∷ []) (new, (c.in_default.ensures.admitted, c.in_default.ensures.stepped), refl) in
    let before = ap length c.sent-before.ensures.sent in
    let after = ap length c.sent.ensures.sent in (
      subst (λ entries. IsCounted (record { sent = new.sent; entries = entries })) (sym c.in_ok-push.ensures.items)
          (counted_on c.loop-at.entries.items _ (length old.sent) (length new.sent) c.loop-at.invariant.0 grew (omega (arith, before, after))),
      runs_on c.run_goes_on.ensures (opening_state c.args.setup.now) old new events c.loop-at.at event inside c.index-events-at.is c.loop-at.invariant.1 c.in_default.ensures.stepped,
      world_runs_on (world_of (opening_state c.args.setup.now)) (world_of old) (world_of new) events c.loop-at.at event inside c.index-events-at.is c.loop-at.invariant.2 c.in_default.ensures.world,
      subst (λ entries. map (λ (entry : Entry). entry.event) entries ≡ events_of (take (c.loop-at.at + 1) events)) (sym c.in_ok-push.ensures.items)
          (noted_on c.loop-at.entries.items _ events c.loop-at.at event inside c.index-events-at.is (search rules) c.loop-at.invariant.3),
      subst (λ entries. AreEntered (opening_state c.args.setup.now) entries new) (sym c.in_ok-push.ensures.items)
          (entered_on (opening_state c.args.setup.now) old new c.loop-at.entries.items _ c.loop-at.invariant.4
          (entered old new _ (event_of event) c.in_default.ensures.stepped (search rules) grew (omega (arith, before, after)))),
    )
