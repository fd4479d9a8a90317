use Rattle.std.proofs.Common.{◌≡◌, Bool, Option, true, IsTrue, sym, ap, subst, ◌∙◌}
use Rattle.fw_names.specs.Name.{Name}
use Rattle.fw_image.specs.Meter.{Meter}
use Rattle.fw_image.specs.State.{Counts}
use Rattle.fw_meter.specs.Handling.{Handles, reply_bytes}
use Rattle.fw_world.specs.Private.{IsSound, IsSeated, IsRunning, meter_in, switched_name}
use Rattle.fw_world.specs.Refusals.{HoldsVerified}
use Rattle.fw_world.proofs.Room.{each_some, handled_room, handled_held, held_by, replied_asks, switched_runs}
use Rattle.fw_world.proofs.world_meter.WorldMeter.handle.Goals as goal

pub running-requires-clause-room : goal.running-requires-clause-room
running-requires-clause-room c =
    let core = c.in-Some.core in
    let new = c.handle.new.self in
    let told = c.in_ok-handled-in-Some in
    let room = c.in_ok-room-in-Some in
    let there : IsSound core = subst IsSeated c.in-Some.is c.self.invariant in
    let P : Bool → Type 0 = λ honest. Handles honest (Counts core new) core.meter c.args.datagram.now (reply_bytes told.handled.reply) told.handled.activated new.meter in
    each_some told.handled.activated _
    (handled_room c.joined_size.ensures core.meter new.meter room.ensures.fits (room.ensures.trusted there.honest) room.room.items room.ensures.room (Counts core new) c.args.datagram.now _ _
    (subst P there.honest told.ensures.step))

pub returns-clause-handled : goal.returns-clause-handled
returns-clause-handled c =
    let core = c.in-Some.core in
    let new = c.handle.new.self in
    let told = c.in_ok-handled-in-Some in
    let there : IsSound core = subst IsSeated c.in-Some.is c.self.invariant in
    let was : core.meter ≡ c.args.self.now = sym (ap meter_in c.in-Some.is) ∙ c.self.view_is in
    let handles = c.faultless.ensures core new c.args.datagram.now _ _ there.honest there.sound told.ensures.step in
    let P : Meter → Type 0 = λ m. Handles true IsTrue m c.args.datagram.now (reply_bytes told.handled.reply) told.handled.activated new.meter in
    let Q : Option Name → Type 0 = λ name. Handles true IsTrue c.args.self.now c.args.datagram.now (reply_bytes told.handled.reply) name new.meter in
    let R : Meter → Type 0 = λ m. Handles true IsTrue c.args.self.now c.args.datagram.now (reply_bytes told.handled.reply) (switched_name c.running.result) m in
    subst R (sym c.running.ensures.meter) (subst Q (sym c.running.ensures.name) (subst P was handles))

pub returns-clause-switched : goal.returns-clause-switched
returns-clause-switched c =
    let core = c.in-Some.core in
    let new = c.handle.new.self in
    let told = c.in_ok-handled-in-Some in
    let P : Meter → Type 0 = λ m. IsRunning c.running.result m in
    subst P (sym c.running.ensures.meter)
    (switched_runs core.honest (Counts core new) core.meter new.meter c.args.datagram.now (reply_bytes told.handled.reply) told.handled.activated told.ensures.step c.running.result c.running.ensures.name c.running.ensures.bytes)

pub returns-clause-held : goal.returns-clause-held
returns-clause-held c =
    let core = c.in-Some.core in
    let new = c.handle.new.self in
    let told = c.in_ok-handled-in-Some in
    let room = c.in_ok-room-in-Some in
    let there : IsSound core = subst IsSeated c.in-Some.is c.self.invariant in
    let seated : core.meter ≡ c.args.self.now = sym (ap meter_in c.in-Some.is) ∙ c.self.view_is in
    let P : Bool → Type 0 = λ honest. Handles honest (Counts core new) core.meter c.args.datagram.now (reply_bytes told.handled.reply) told.handled.activated new.meter in
    held_by (HoldsVerified c.args.self.now) told.handled.activated
    (λ name e. subst HoldsVerified seated (handled_held core.meter new.meter room.ensures.fits (Counts core new) c.args.datagram.now _ _ (subst P there.honest told.ensures.step) name e))
    c.running.result c.running.ensures.name

pub returns-clause-asked : goal.returns-clause-asked
returns-clause-asked c =
    let core = c.in-Some.core in
    let new = c.handle.new.self in
    let told = c.in_ok-handled-in-Some in
    replied_asks core.honest (Counts core new) core.meter new.meter c.args.datagram.now told.handled.reply told.handled.activated told.ensures.step
