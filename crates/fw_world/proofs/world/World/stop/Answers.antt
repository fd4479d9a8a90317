use Rattle.std.proofs.Common.{◌≡◌, ℕ, nat_eq, List, ◌++◌, Some, refl, sym, ap, subst, ◌∙◌, inr, slice_get}
use Rattle.std.specs.Map.{lookup}
use Rattle.std.specs.Option.{option_copied, option_copied_mut}
use Rattle.fw_meter.specs.Stopping.{StopsAfter}
use Rattle.fw_world.specs.declared.datagram.Direction.TheVariants.{ToMeter}
use Rattle.fw_world.specs.World.{Datagram}
use Rattle.fw_world.specs.Step.{stop}
use Rattle.fw_world.specs.Private.{switched_name}
use Rattle.fw_world.proofs.Places.{told_err, meter_found, meter_notes, meter_same, noted_as}
use Rattle.fw_world.proofs.Delivered.{sent_here}
use Rattle.fw_world.proofs.Refusing.{wants_memory, stopped_meter, stop_may_want}
use Rattle.fw_world.proofs.Keeping.{keeps_meter, keeps_lists}
use Rattle.fw_world.proofs.world.World.stop.Goals as goal

pub returns-in_err-room_to_note-clause-same : goal.returns-in_err-room_to_note-clause-same
returns-in_err-room_to_note-clause-same c =
    let key = c.number.result in
    let found : lookup (nat_eq key) c.self.inside.meters ≡ Some c.in-Some-get_mut.seat.now = sym c.get_mut.ensures.value ∙ ap option_copied_mut c.in-Some-get_mut.is in
    told_err c.from_residual.result _ (meter_same _ _ c.self.view_is key _ _ _ _ _ found refl refl refl c.room_to_note.ensures.items)

pub returns-in_err-switched-clause-same : goal.returns-in_err-switched-clause-same
returns-in_err-switched-clause-same c =
    let key = c.number.result in
    let found : lookup (nat_eq key) c.self.inside.meters ≡ Some c.in-Some-get_mut.seat.now = sym c.get_mut.ensures.value ∙ ap option_copied_mut c.in-Some-get_mut.is in
    told_err c.from_residual-in_err-switched.result _
    (meter_same _ _ c.self.view_is key _ _ _ _ _ found refl c.in_err-switched.ensures.same refl c.room_to_note.ensures.items)

pub returns-in_err-room_to_note-clause-refused : goal.returns-in_err-room_to_note-clause-refused
returns-in_err-room_to_note-clause-refused c =
    let key = c.number.result in
    let d = c.in-Some.datagram.now in
    let seat = c.in-Some-get_mut.seat.now in
    let found : lookup (nat_eq key) c.self.inside.meters ≡ Some seat = sym c.get_mut.ensures.value ∙ ap option_copied_mut c.in-Some-get_mut.is in
    let at : slice_get c.self.inside.sent.items c.args.number ≡ Some d = ap (λ (xs : List Datagram). slice_get xs c.args.number) (sym c.deref.ensures.value) ∙ sym c.sent_at.ensures ∙ ap option_copied c.in-Some.is in
    let same : key ≡ d.meter = c.number.ensures ∙ ap (λ (x : Datagram). x.meter) c.datagram.view_is in
    let way : d.direction ≡ ToMeter = sym (ap (λ (x : Datagram). x.direction) c.datagram.view_is) ∙ c.in-ToMeter.is in
    let there = meter_found _ _ c.self.view_is key d.meter same seat found in
    wants_memory c.from_residual.result c.args.self.now (stop c.args.number c.args.calls c.args.torn) c.from_residual.ensures.1
    (stopped_meter _ _ c.self.view_is c.args.number d at c.args.calls c.args.torn seat way there)
    (stop_may_want _ _ c.self.view_is c.args.number d at c.args.calls c.args.torn seat there d.bytes refl (inr c.in_err-room_to_note.ensures.memory))

pub returns-in_err-switched-clause-refused : goal.returns-in_err-switched-clause-refused
returns-in_err-switched-clause-refused c =
    let key = c.number.result in
    let d = c.in-Some.datagram.now in
    let seat = c.in-Some-get_mut.seat.now in
    let found : lookup (nat_eq key) c.self.inside.meters ≡ Some seat = sym c.get_mut.ensures.value ∙ ap option_copied_mut c.in-Some-get_mut.is in
    let at : slice_get c.self.inside.sent.items c.args.number ≡ Some d = ap (λ (xs : List Datagram). slice_get xs c.args.number) (sym c.deref.ensures.value) ∙ sym c.sent_at.ensures ∙ ap option_copied c.in-Some.is in
    let same : key ≡ d.meter = c.number.ensures ∙ ap (λ (x : Datagram). x.meter) c.datagram.view_is in
    let way : d.direction ≡ ToMeter = sym (ap (λ (x : Datagram). x.direction) c.datagram.view_is) ∙ c.in-ToMeter.is in
    let there = meter_found _ _ c.self.view_is key d.meter same seat found in
    wants_memory c.from_residual-in_err-switched.result c.args.self.now (stop c.args.number c.args.calls c.args.torn) c.from_residual-in_err-switched.ensures.1
    (stopped_meter _ _ c.self.view_is c.args.number d at c.args.calls c.args.torn seat way there)
    (stop_may_want _ _ c.self.view_is c.args.number d at c.args.calls c.args.torn seat there c.deref-2.result.now (c.deref-2.ensures.value ∙ ap (λ (x : Datagram). x.bytes) c.datagram.view_is) c.in_err-switched.ensures.memory)

pub returns-clause-stepped : goal.returns-clause-stepped
returns-clause-stepped c =
    let key = c.number.result in
    let d = c.in-Some.datagram.now in
    let seat = c.in-Some-get_mut.seat.now in
    let switched = c.in_ok-switched.switched in
    let stopped = c.in_ok-switched.ensures.stopped in
    let found : lookup (nat_eq key) c.self.inside.meters ≡ Some seat = sym c.get_mut.ensures.value ∙ ap option_copied_mut c.in-Some-get_mut.is in
    let here : slice_get c.args.self.now.sent c.args.number ≡ Some d = sent_here _ _ c.self.view_is c.deref.result.now c.args.number d c.deref.ensures.value (sym c.sent_at.ensures ∙ ap option_copied c.in-Some.is) in
    let meters : c.datagram.inside.meter ≡ d.meter = ap (λ (x : Datagram). x.meter) c.datagram.view_is in
    let carried : c.deref-2.result.now ≡ d.bytes = c.deref-2.ensures.value ∙ ap (λ (x : Datagram). x.bytes) c.datagram.view_is in
    let Q : List ℕ → Type 0 = λ bytes. StopsAfter c.args.calls c.args.torn seat bytes (switched_name switched) stopped.0 in (
      d,
      here,
      sym (ap (λ (x : Datagram). x.direction) c.datagram.view_is) ∙ c.in-ToMeter.is,
      record {
        before = seat;
        after = stopped.0;
        name = switched_name switched;
        there = meter_found _ _ c.self.view_is key d.meter (c.number.ensures ∙ meters) seat found;
        stops = subst Q carried stopped.1;
        new_is = meter_notes _ _ c.self.view_is key d.meter (c.number.ensures ∙ meters) _ _ _ _ _ refl stopped.2
            (c.note.ensures ∙ (λ i. c.room_to_note.ensures.items i ++ noted_as _ d.meter switched c.stop.new.self stopped.0 meters stopped.2 c.in_ok-switched.ensures.switched i));
      },
    )

pub invariant_of-self-in_err-room_to_note : goal.invariant_of-self-in_err-room_to_note
invariant_of-self-in_err-room_to_note c = keeps_meter _ (keeps_lists _ c.self.invariant c.self.inside.sent.items c.room_to_note.new.activations.items) c.number.result c.in-Some-get_mut.seat.now

pub invariant_of-self-in_err-switched : goal.invariant_of-self-in_err-switched
invariant_of-self-in_err-switched c = keeps_meter _ (keeps_lists _ c.self.invariant c.self.inside.sent.items c.room_to_note.new.activations.items) c.number.result c.stop.new.self

pub invariant_of-self-2 : goal.invariant_of-self-2
invariant_of-self-2 c = keeps_meter _ (keeps_lists _ c.self.invariant c.self.inside.sent.items c.note.new.activations.items) c.number.result c.stop.new.self
