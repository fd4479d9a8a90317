use Rattle.std.proofs.Common.{◌≡◌, Bool, Option, Some, true, IsTrue, length, sym, ap, subst, ◌∙◌}
use Rattle.std.specs.Prelude.{IfSome}
use Rattle.fw_names.specs.Name.{Name}
use Rattle.fw_store.specs.declared.fuse.Fuse.{Fuse}
use Rattle.fw_image.specs.Meter.{Meter}
use Rattle.fw_image.specs.State.{State, Counts}
use Rattle.fw_meter.specs.Handling.{Handles, reply_bytes}
use Rattle.fw_meter.specs.Stopping.{StopsAfter}
use Rattle.fw_world.specs.Private.{IsSound, IsSeated, IsRunning, meter_in}
use Rattle.fw_world.specs.Refusals.{HoldsVerified}
use Rattle.fw_world.proofs.Room.{each_some, handled_room, handled_held, held_by, switched_runs}
use Rattle.fw_world.proofs.world_meter.WorldMeter.cut.Goals as goal

pub running-requires-clause-room : goal.running-requires-clause-room
running-requires-clause-room c =
    let core = c.in-Some.core in
    let fused = c.fuse.new.self in
    let handled = c.handle-handled.new.self in
    let told = c.in_ok-handled-in-Some in
    let room = c.in_ok-room-in-Some in
    let there : IsSound core = subst IsSeated c.in-Some.is c.self.invariant in
    let honest = subst (λ (s : State). IsTrue s.honest) (sym c.fuse.ensures) there.honest in
    let was : fused.meter ≡ core.meter = ap (λ (s : State). s.meter) c.fuse.ensures in
    let left : handled.meter ≡ c.unfuse.new.self.meter = sym (ap (λ (s : State). s.meter) c.unfuse.ensures) in
    let P : Bool → Type 0 = λ h. Handles h (Counts fused handled) fused.meter c.args.datagram.now (reply_bytes told.field-0.reply) told.field-0.activated handled.meter in
    let Q : Meter → Type 0 = λ m. Handles true (Counts fused handled) m c.args.datagram.now (reply_bytes told.field-0.reply) told.field-0.activated handled.meter in
    each_some told.field-0.activated _
    (λ name e. handled_room c.joined_size.ensures core.meter handled.meter room.ensures.fits (room.ensures.trusted there.honest) room.room.items room.ensures.room (Counts fused handled) c.args.datagram.now _ _
    (subst Q was (subst P honest told.ensures.step)) name e
    ∙ ap (λ (m : Meter). length m.running.bytes) left)

-- a fuse and its removal leave the meter, so that what the calls left of it is what the stop leaves
pub returns-clause-stopped : goal.returns-clause-stopped
returns-clause-stopped c =
    let fused = c.fuse.new.self in
    let handled = c.handle-handled.new.self in
    let activated = c.in_ok-handled-in-Some.field-0.activated in
    let there : IsSound c.in-Some.core = subst IsSeated c.in-Some.is c.self.invariant in
    let was : fused.meter ≡ c.args.self.now = ap (λ (s : State). s.meter) c.fuse.ensures ∙ sym (ap meter_in c.in-Some.is) ∙ c.self.view_is in
    let left : handled.meter ≡ c.running.new.core.meter = sym (ap (λ (s : State). s.meter) c.unfuse.ensures) ∙ sym c.running.ensures.meter in
    let honest = subst (λ (s : State). IsTrue s.honest) (sym c.fuse.ensures) there.honest in
    let set : Fuse = record { calls = c.args.calls; torn = c.args.torn } in
    let burns : fused.fuse ≡ Some set = ap (λ (s : State). s.fuse) c.fuse.ensures in
    let stops = c.in_ok-handled-in-Some.ensures.cut honest set burns in
    let P : Meter → Type 0 = λ m. StopsAfter set.calls set.torn m c.args.datagram.now activated handled.meter in
    let Q : Meter → Type 0 = λ m. StopsAfter set.calls set.torn c.args.self.now c.args.datagram.now activated m in
    let R : Option Name → Type 0 = λ name. StopsAfter set.calls set.torn c.args.self.now c.args.datagram.now name c.running.new.core.meter in
    subst R (sym c.running.ensures.name) (subst Q left (subst P was stops))

pub returns-clause-switched : goal.returns-clause-switched
returns-clause-switched c =
    let fused = c.fuse.new.self in
    let handled = c.handle-handled.new.self in
    let told = c.in_ok-handled-in-Some in
    let left : c.unfuse.new.self.meter ≡ handled.meter = ap (λ (s : State). s.meter) c.unfuse.ensures in
    let P : Meter → Type 0 = λ m. IsRunning c.running.result m in
    subst P (sym (c.running.ensures.meter ∙ left))
    (switched_runs fused.honest (Counts fused handled) fused.meter handled.meter c.args.datagram.now (reply_bytes told.field-0.reply) told.field-0.activated told.ensures.step c.running.result c.running.ensures.name
    (subst (λ (m : Meter). IfSome c.running.result (λ image. image.bytes ≡ m.running.bytes)) left c.running.ensures.bytes))

pub returns-clause-held : goal.returns-clause-held
returns-clause-held c =
    let core = c.in-Some.core in
    let fused = c.fuse.new.self in
    let handled = c.handle-handled.new.self in
    let told = c.in_ok-handled-in-Some in
    let room = c.in_ok-room-in-Some in
    let there : IsSound core = subst IsSeated c.in-Some.is c.self.invariant in
    let honest = subst (λ (s : State). IsTrue s.honest) (sym c.fuse.ensures) there.honest in
    let was : fused.meter ≡ core.meter = ap (λ (s : State). s.meter) c.fuse.ensures in
    let seated : core.meter ≡ c.args.self.now = sym (ap meter_in c.in-Some.is) ∙ c.self.view_is in
    let P : Bool → Type 0 = λ h. Handles h (Counts fused handled) fused.meter c.args.datagram.now (reply_bytes told.field-0.reply) told.field-0.activated handled.meter in
    let Q : Meter → Type 0 = λ m. Handles true (Counts fused handled) m c.args.datagram.now (reply_bytes told.field-0.reply) told.field-0.activated handled.meter in
    held_by (HoldsVerified c.args.self.now) told.field-0.activated
    (λ name e. subst HoldsVerified seated (handled_held core.meter handled.meter room.ensures.fits (Counts fused handled) c.args.datagram.now _ _ (subst Q was (subst P honest told.ensures.step)) name e))
    c.running.result c.running.ensures.name
