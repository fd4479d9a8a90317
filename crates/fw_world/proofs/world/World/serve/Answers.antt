use Rattle.std.proofs.Common.{◌≡◌, ℕ, nat_eq, true, IsTrue, List, ◌++◌, Option, Some, inl, inr, refl, sym, ap, subst, ◌∙◌, slice_get}
use Rattle.std.proofs.lemmas.Option.{IfSome_then}
use Rattle.std.specs.Prelude.{◌<◌, IfSome, IsSomeAnd}
use Rattle.std.specs.Map.{lookup}
use Rattle.std.specs.Option.{option_copied, option_copied_mut}
use Rattle.std.specs.Vec.{vec_len, vec_capacity}
use Rattle.fw_meter.specs.Handling as meter
use Rattle.fw_meter.specs.Handling.{AsksForResponse, Handles, reply_bytes}
use Rattle.fw_world.specs.declared.datagram.Direction.TheVariants.{ToMeter}
use Rattle.fw_world.specs.World.{Datagram}
use Rattle.fw_world.specs.Step.{deliver}
use Rattle.fw_world.proofs.Keeping.{keeps_meter, keeps_lists}
use Rattle.fw_world.specs.Private.{switched_name}
use Rattle.fw_world.proofs.Places.{told_err, meter_found, meter_serves, meter_same, replied_is, noted_is}
use Rattle.fw_world.proofs.Delivered.{sent_here, one_datagram, way_of, delivers_to_meter}
use Rattle.fw_world.proofs.Refusing.{wants_memory, delivered_to_meter, meter_may_want}
use Rattle.fw_world.proofs.world.World.serve.Goals as goal

pub returns-in_err-room_to_reply-clause-same : goal.returns-in_err-room_to_reply-clause-same
returns-in_err-room_to_reply-clause-same c =
    let key = c.number.result in
    let found : lookup (nat_eq key) c.self.inside.meters ≡ Some c.in-Some-get_mut.seat.now = sym c.get_mut.ensures.value ∙ ap option_copied_mut c.in-Some-get_mut.is in
    told_err c.from_residual.result _ (meter_same _ _ c.self.view_is key _ _ _ _ _ found refl refl c.room_to_reply.ensures.items refl)

pub returns-in_err-room_to_reply-clause-refused : goal.returns-in_err-room_to_reply-clause-refused
returns-in_err-room_to_reply-clause-refused c =
    let key = c.number.result in
    let d = c.in-Some.datagram.now in
    let seat = c.in-Some-get_mut.seat.now in
    let found : lookup (nat_eq key) c.self.inside.meters ≡ Some seat = sym c.get_mut.ensures.value ∙ ap option_copied_mut c.in-Some-get_mut.is in
    let at : slice_get c.self.inside.sent.items c.args.number ≡ Some d = ap (λ (xs : List Datagram). slice_get xs c.args.number) (sym c.deref.ensures.value) ∙ sym c.sent_at.ensures ∙ ap option_copied c.in-Some.is in
    let here : slice_get c.args.self.now.sent c.args.number ≡ Some d = sent_here _ _ c.self.view_is c.deref.result.now c.args.number d c.deref.ensures.value (sym c.sent_at.ensures ∙ ap option_copied c.in-Some.is) in
    let same : key ≡ d.meter = c.number.ensures ∙ ap (λ (x : Datagram). x.meter) c.datagram.view_is in
    wants_memory c.from_residual.result c.args.self.now (deliver c.args.number) c.from_residual.ensures.1
    (delivered_to_meter _ _ c.self.view_is c.args.number d at seat (way_of c.args.self.now.sent c.args.number ToMeter d c.requires here) (meter_found _ _ c.self.view_is key d.meter same seat found))
    (meter_may_want _ _ c.self.view_is c.args.number d at seat (way_of c.args.self.now.sent c.args.number ToMeter d c.requires here) (meter_found _ _ c.self.view_is key d.meter same seat found) d.bytes refl (inl (subst (λ (o : Option Datagram). IsSomeAnd o (λ x. meter.MayWantMemory x.bytes)) at c.in_err-room_to_reply.ensures.memory)))

pub returns-in_err-room_to_note-clause-refused : goal.returns-in_err-room_to_note-clause-refused
returns-in_err-room_to_note-clause-refused c =
    let key = c.number.result in
    let d = c.in-Some.datagram.now in
    let seat = c.in-Some-get_mut.seat.now in
    let found : lookup (nat_eq key) c.self.inside.meters ≡ Some seat = sym c.get_mut.ensures.value ∙ ap option_copied_mut c.in-Some-get_mut.is in
    let at : slice_get c.self.inside.sent.items c.args.number ≡ Some d = ap (λ (xs : List Datagram). slice_get xs c.args.number) (sym c.deref.ensures.value) ∙ sym c.sent_at.ensures ∙ ap option_copied c.in-Some.is in
    let here : slice_get c.args.self.now.sent c.args.number ≡ Some d = sent_here _ _ c.self.view_is c.deref.result.now c.args.number d c.deref.ensures.value (sym c.sent_at.ensures ∙ ap option_copied c.in-Some.is) in
    let same : key ≡ d.meter = c.number.ensures ∙ ap (λ (x : Datagram). x.meter) c.datagram.view_is in
    wants_memory c.from_residual-in_err-room_to_note.result c.args.self.now (deliver c.args.number) c.from_residual-in_err-room_to_note.ensures.1
    (delivered_to_meter _ _ c.self.view_is c.args.number d at seat (way_of c.args.self.now.sent c.args.number ToMeter d c.requires here) (meter_found _ _ c.self.view_is key d.meter same seat found))
    (meter_may_want _ _ c.self.view_is c.args.number d at seat (way_of c.args.self.now.sent c.args.number ToMeter d c.requires here) (meter_found _ _ c.self.view_is key d.meter same seat found) d.bytes refl (inr c.in_err-room_to_note.ensures.memory))

pub returns-in_err-room_to_note-clause-same : goal.returns-in_err-room_to_note-clause-same
returns-in_err-room_to_note-clause-same c =
    let key = c.number.result in
    let found : lookup (nat_eq key) c.self.inside.meters ≡ Some c.in-Some-get_mut.seat.now = sym c.get_mut.ensures.value ∙ ap option_copied_mut c.in-Some-get_mut.is in
    told_err c.from_residual-in_err-room_to_note.result _
    (meter_same _ _ c.self.view_is key _ _ _ _ _ found refl refl c.room_to_reply.ensures.items c.room_to_note.ensures.items)

pub returns-in_err-served-clause-refused : goal.returns-in_err-served-clause-refused
returns-in_err-served-clause-refused c =
    let key = c.number.result in
    let d = c.in-Some.datagram.now in
    let seat = c.in-Some-get_mut.seat.now in
    let found : lookup (nat_eq key) c.self.inside.meters ≡ Some seat = sym c.get_mut.ensures.value ∙ ap option_copied_mut c.in-Some-get_mut.is in
    let at : slice_get c.self.inside.sent.items c.args.number ≡ Some d = ap (λ (xs : List Datagram). slice_get xs c.args.number) (sym c.deref.ensures.value) ∙ sym c.sent_at.ensures ∙ ap option_copied c.in-Some.is in
    let here : slice_get c.args.self.now.sent c.args.number ≡ Some d = sent_here _ _ c.self.view_is c.deref.result.now c.args.number d c.deref.ensures.value (sym c.sent_at.ensures ∙ ap option_copied c.in-Some.is) in
    let same : key ≡ d.meter = c.number.ensures ∙ ap (λ (x : Datagram). x.meter) c.datagram.view_is in
    let again : slice_get c.args.self.now.sent c.args.number ≡ Some c.in-Some-sent_at.datagram.now =
    sent_here _ _ c.self.view_is c.deref-2.result.now c.args.number c.in-Some-sent_at.datagram.now (c.deref-2.ensures.value ∙ c.room_to_reply.ensures.items) (sym c.sent_at-2.ensures ∙ ap option_copied c.in-Some-sent_at.is) in
    let carried : c.deref-3.result.now ≡ d.bytes = c.deref-3.ensures.value ∙ ap (λ (x : Datagram). x.bytes) (c.datagram-2.view_is ∙ one_datagram _ _ (sym again ∙ here)) in
    wants_memory c.from_residual-in_err-served.result c.args.self.now (deliver c.args.number) c.from_residual-in_err-served.ensures.1
    (delivered_to_meter _ _ c.self.view_is c.args.number d at seat (way_of c.args.self.now.sent c.args.number ToMeter d c.requires here) (meter_found _ _ c.self.view_is key d.meter same seat found))
    (meter_may_want _ _ c.self.view_is c.args.number d at seat (way_of c.args.self.now.sent c.args.number ToMeter d c.requires here) (meter_found _ _ c.self.view_is key d.meter same seat found) c.deref-3.result.now carried c.in_err-served.ensures.memory)

pub returns-in_err-served-clause-same : goal.returns-in_err-served-clause-same
returns-in_err-served-clause-same c =
    let key = c.number.result in
    let found : lookup (nat_eq key) c.self.inside.meters ≡ Some c.in-Some-get_mut.seat.now = sym c.get_mut.ensures.value ∙ ap option_copied_mut c.in-Some-get_mut.is in
    told_err c.from_residual-in_err-served.result _
    (meter_same _ _ c.self.view_is key _ _ _ _ _ found refl c.in_err-served.ensures.same c.room_to_reply.ensures.items c.room_to_note.ensures.items)

-- what the meter replied to asked for a response, and so there is room
pub reply-requires : goal.reply-requires
reply-requires c =
    let d = c.in-Some.datagram.now in
    let sent = c.room_to_reply.new.sent in
    let at : slice_get c.self.inside.sent.items c.args.number ≡ Some d = ap (λ (xs : List Datagram). slice_get xs c.args.number) (sym c.deref.ensures.value) ∙ sym c.sent_at.ensures ∙ ap option_copied c.in-Some.is in
    let here : slice_get c.args.self.now.sent c.args.number ≡ Some d = sent_here _ _ c.self.view_is c.deref.result.now c.args.number d c.deref.ensures.value (sym c.sent_at.ensures ∙ ap option_copied c.in-Some.is) in
    let again : slice_get c.args.self.now.sent c.args.number ≡ Some c.in-Some-sent_at.datagram.now =
    sent_here _ _ c.self.view_is c.deref-2.result.now c.args.number c.in-Some-sent_at.datagram.now (c.deref-2.ensures.value ∙ c.room_to_reply.ensures.items) (sym c.sent_at-2.ensures ∙ ap option_copied c.in-Some-sent_at.is) in
    let carried : c.deref-3.result.now ≡ d.bytes = c.deref-3.ensures.value ∙ ap (λ (x : Datagram). x.bytes) (c.datagram-2.view_is ∙ one_datagram _ _ (sym again ∙ here)) in
    let room : AsksForResponse d.bytes → vec_len sent < vec_capacity sent =
    subst (λ (o : Option Datagram). IfSome o (λ x. AsksForResponse x.bytes → vec_len sent < vec_capacity sent)) at c.in_ok-room_to_reply.ensures.room in
    IfSome_then c.in_ok-served.served.reply c.in_ok-served.ensures.asked (λ reply asks. room (subst AsksForResponse carried asks))

pub returns-clause-stepped : goal.returns-clause-stepped
returns-clause-stepped c =
    let key = c.number.result in
    let d = c.in-Some.datagram.now in
    let seat = c.in-Some-get_mut.seat.now in
    let served = c.in_ok-served.served in
    let found : lookup (nat_eq key) c.self.inside.meters ≡ Some seat = sym c.get_mut.ensures.value ∙ ap option_copied_mut c.in-Some-get_mut.is in
    let here : slice_get c.args.self.now.sent c.args.number ≡ Some d = sent_here _ _ c.self.view_is c.deref.result.now c.args.number d c.deref.ensures.value (sym c.sent_at.ensures ∙ ap option_copied c.in-Some.is) in
    let again : slice_get c.args.self.now.sent c.args.number ≡ Some c.in-Some-sent_at.datagram.now =
    sent_here _ _ c.self.view_is c.deref-2.result.now c.args.number c.in-Some-sent_at.datagram.now (c.deref-2.ensures.value ∙ c.room_to_reply.ensures.items) (sym c.sent_at-2.ensures ∙ ap option_copied c.in-Some-sent_at.is) in
    let one : c.in-Some-sent_at.datagram.now ≡ d = one_datagram _ _ (sym again ∙ here) in
    let meters : c.datagram.inside.meter ≡ d.meter = ap (λ (x : Datagram). x.meter) c.datagram.view_is in
    let heads : c.datagram.inside.head ≡ d.head = ap (λ (x : Datagram). x.head) c.datagram.view_is in
    let carried : c.deref-3.result.now ≡ d.bytes = c.deref-3.ensures.value ∙ ap (λ (x : Datagram). x.bytes) (c.datagram-2.view_is ∙ one) in
    let Q : List ℕ → Type 0 = λ bytes. Handles true IsTrue seat bytes (reply_bytes served.reply) (switched_name served.switched) c.handle.new.self in (
      d,
      here,
      delivers_to_meter _ _ d (way_of c.args.self.now.sent c.args.number ToMeter d c.requires here) (record {
        before = seat;
        after = c.handle.new.self;
        reply = reply_bytes served.reply;
        name = switched_name served.switched;
        there = meter_found _ _ c.self.view_is key d.meter (c.number.ensures ∙ meters) seat found;
        handles = subst Q carried c.in_ok-served.ensures.handled;
        new_is = meter_serves _ _ c.self.view_is key d.meter (c.number.ensures ∙ meters) _ _ _ _ _ _ _ refl refl
            (c.reply.ensures ∙ (λ i. c.room_to_reply.ensures.items i ++ replied_is d _ _ (reply_bytes served.reply) heads meters i))
            (c.note.ensures ∙ (λ i. c.room_to_note.ensures.items i ++ noted_is _ d.meter served.switched c.handle.new.self meters c.in_ok-served.ensures.switched i));
      }),
    )

pub returns-clause-admitted : goal.returns-clause-admitted
returns-clause-admitted c =
    let key = c.number.result in
    let d = c.in-Some.datagram.now in
    let seat = c.in-Some-get_mut.seat.now in
    let found : lookup (nat_eq key) c.self.inside.meters ≡ Some seat = sym c.get_mut.ensures.value ∙ ap option_copied_mut c.in-Some-get_mut.is in
    let at : slice_get c.self.inside.sent.items c.args.number ≡ Some d = ap (λ (xs : List Datagram). slice_get xs c.args.number) (sym c.deref.ensures.value) ∙ sym c.sent_at.ensures ∙ ap option_copied c.in-Some.is in
    let here : slice_get c.args.self.now.sent c.args.number ≡ Some d = sent_here _ _ c.self.view_is c.deref.result.now c.args.number d c.deref.ensures.value (sym c.sent_at.ensures ∙ ap option_copied c.in-Some.is) in
    let same : key ≡ d.meter = c.number.ensures ∙ ap (λ (x : Datagram). x.meter) c.datagram.view_is in
    delivered_to_meter _ _ c.self.view_is c.args.number d at seat (way_of c.args.self.now.sent c.args.number ToMeter d c.requires here) (meter_found _ _ c.self.view_is key d.meter same seat found)

pub invariant_of-self-2 : goal.invariant_of-self-2
invariant_of-self-2 c = keeps_meter _ (keeps_lists _ c.self.invariant c.reply.new.sent.items c.note.new.activations.items) c.number.result c.handle.new.self

pub invariant_of-self-in_err-room_to_reply : goal.invariant_of-self-in_err-room_to_reply
invariant_of-self-in_err-room_to_reply c = keeps_meter _ (keeps_lists _ c.self.invariant c.room_to_reply.new.sent.items c.self.inside.activations.items) c.number.result c.in-Some-get_mut.seat.now

pub invariant_of-self-in_err-room_to_note : goal.invariant_of-self-in_err-room_to_note
invariant_of-self-in_err-room_to_note c = keeps_meter _ (keeps_lists _ c.self.invariant c.room_to_reply.new.sent.items c.room_to_note.new.activations.items) c.number.result c.in-Some-get_mut.seat.now

pub invariant_of-self-in_err-served : goal.invariant_of-self-in_err-served
invariant_of-self-in_err-served c = keeps_meter _ (keeps_lists _ c.self.invariant c.room_to_reply.new.sent.items c.room_to_note.new.activations.items) c.number.result c.handle.new.self
