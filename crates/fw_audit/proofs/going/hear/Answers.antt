use Rattle.std.proofs.Common.{◌≡◌, ◌++◌, true, false, IsTrue, refl, sym, ap, subst, append-nil, ◌∙◌}
use Rattle.fw_image.specs.Meter.{Meter}
use Rattle.fw_image.specs.State.{State}
use Rattle.fw_meter.specs.Handling.{Handles, reply_bytes}
use Rattle.fw_stored.specs.Stored.{IsSound}
use Rattle.fw_audit.specs.Stands.{switched_to}
use Rattle.fw_audit.proofs.Steps.{dropped_next, heard_next, still_sound}
use Rattle.fw_audit.proofs.going.hear.Goals as goal

pub returns-then-not-may_ask : goal.returns-then-not-may_ask
returns-then-not-may_ask c =
    dropped_next c.args.heads.now c.args.switched.items c.args.meter.meter c.args.from c.args.datagram.now c.started.result
    (λ may. let bad : true ≡ false = sym (c.may_ask.ensures.1 may) ∙ c.if-not-may_ask.true in absurd cc)
    (ap (λ (s : State). s.meter) c.started.ensures.meter) c.started.ensures.stand
    (c.started.ensures.images ∙ sym (append-nil c.args.switched.items))
    (subst IsSound (sym c.started.ensures.meter) c.requires)

pub returns-in_default : goal.returns-in_default
returns-in_default c = (c.args.from, c.args.datagram.now, refl)

pub with_running-requires : goal.with_running-requires
with_running-requires c = still_sound c.args.meter c.handle.new.self c.requires c.handle.ensures.follows

pub returns : goal.returns
returns c =
    let old = c.args.meter in
    let new = c.handle.new.self in
    let after = c.with_running.new.meter in
    let told = c.in-Ok in
    let same = c.with_running.ensures.meter in
    let handles = c.faultless.ensures old new c.args.datagram.now _ _ c.requires.honest c.requires.sound told.ensures.step in
    heard_next c.one_answer.ensures c.keeps_size.ensures c.args.heads.now c.args.switched.items old.meter c.args.from c.args.datagram.now (reply_bytes told.handled.reply) told.handled.activated _
    (c.may_ask.ensures.0 c.if-not-may_ask.false)
    (subst (λ (m : Meter). Handles true IsTrue old.meter c.args.datagram.now (reply_bytes told.handled.reply) told.handled.activated m) (sym same) handles)
    (c.owed_to.ensures after.meter)
    (c.in-Ok-with_running.ensures.images ∙ ap (λ (m : Meter). c.args.switched.items ++ switched_to told.handled.activated m) (sym same))
    c.with_running.ensures.sound
