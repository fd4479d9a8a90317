use Rattle.std.proofs.Common.{◌≡◌, ◌+◌, ◌≤◌, ℕ, nat_eq, true, List, ◌++◌, length, is_some, Some, refl, sym, ap, subst, ◌∙◌, All}
use Rattle.std.proofs.lemmas.List.{length-map}
use Rattle.std.specs.Global.{Vec}
use Rattle.std.specs.Map.{lookup}
use Rattle.std.specs.Option.{option_copied_mut}
use Rattle.fw_blocks.specs.Width.{max_width}
use Rattle.fw_head.specs.Head.{Head, IsOfferedIn}
use Rattle.fw_head.specs.Row.{bytes_of}
use Rattle.fw_world.specs.State.{State, meter_at, sent_to}
use Rattle.fw_world.specs.Step.{tick}
use Rattle.fw_world.proofs.Places.{told_err, head_found, head_sends, head_same}
use Rattle.fw_world.proofs.Refusing.{wants_memory, tick_admitted}
use Rattle.fw_world.proofs.Keeping.{with_head, keeps_head, keeps_lists}
use Rattle.fw_world.proofs.world.World.tick.Goals as goal

pub returns-then-not-contains_key-clause-same : goal.returns-then-not-contains_key-clause-same
returns-then-not-contains_key-clause-same c =
    let key = c.number.result in
    let found : lookup (nat_eq key) c.self.inside.heads ≡ Some c.in-Some.core.now = sym c.get_mut.ensures.value ∙ ap option_copied_mut c.in-Some.is in
    head_same _ _ c.self.view_is key _ _ _ _ found (with_head _ c.self.invariant key _ c.in-Some.core.now found refl) refl refl

pub returns-in_err-room_to_send-clause-same : goal.returns-in_err-room_to_send-clause-same
returns-in_err-room_to_send-clause-same c =
    let key = c.number.result in
    let found : lookup (nat_eq key) c.self.inside.heads ≡ Some c.in-Some.core.now = sym c.get_mut.ensures.value ∙ ap option_copied_mut c.in-Some.is in
    told_err c.from_residual.result _ (head_same _ _ c.self.view_is key _ _ _ _ found (with_head _ c.self.invariant key _ c.in-Some.core.now found refl) refl c.room_to_send.ensures.items)

-- the room that there is for what is to be sent is room for what was made of it
room_for : (sends : List (Vec ℕ)) (more : List (List ℕ)) (len cap : ℕ) → bytes_of sends ≡ more → (length more ≤ max_width → len + length more ≤ cap) → length sends ≤ max_width → len + length sends ≤ cap
room_for sends more len cap is room few =
    let long : length more ≡ length sends = sym (ap length is) ∙ length-map sends (λ (datagram : Vec ℕ). datagram.items) in
    subst (λ (n : ℕ). len + n ≤ cap) long (room (subst (λ (n : ℕ). n ≤ max_width) (sym long) few))

pub send-requires : goal.send-requires
send-requires c = room_for _ _ _ _ c.in_ok-sends.ensures.sent c.in_ok-room_to_send.ensures.room c.in_ok-sends.ensures.most

pub returns-in_err-room_to_send-clause-refused : goal.returns-in_err-room_to_send-clause-refused
returns-in_err-room_to_send-clause-refused c =
    let key = c.number.result in
    let head = c.in-Some.core.now in
    let found : lookup (nat_eq key) c.self.inside.heads ≡ Some head = sym c.get_mut.ensures.value ∙ ap option_copied_mut c.in-Some.is in
    let here : is_some (lookup (nat_eq c.args.meter) c.self.inside.meters) ≡ true =
    ap (λ (n : ℕ). is_some (lookup (nat_eq n) c.self.inside.meters)) (sym c.number-2.ensures) ∙ sym c.contains_key.ensures ∙ c.if-not-contains_key.false in
    let there = head_found _ _ c.self.view_is key c.args.head c.number.ensures.value head found in
    wants_memory c.from_residual.result c.args.self.now (tick c.args.head c.args.meter) c.from_residual.ensures.1
    (tick_admitted c.args.self.now c.args.head c.args.meter head there (ap (λ (s : State). is_some (meter_at s c.args.meter)) (sym c.self.view_is) ∙ here))
    (head, there, c.in_err-room_to_send.ensures.memory)

pub returns-in_err-sends-clause-refused : goal.returns-in_err-sends-clause-refused
returns-in_err-sends-clause-refused c =
    let key = c.number.result in
    let head = c.in-Some.core.now in
    let found : lookup (nat_eq key) c.self.inside.heads ≡ Some head = sym c.get_mut.ensures.value ∙ ap option_copied_mut c.in-Some.is in
    let here : is_some (lookup (nat_eq c.args.meter) c.self.inside.meters) ≡ true =
    ap (λ (n : ℕ). is_some (lookup (nat_eq n) c.self.inside.meters)) (sym c.number-2.ensures) ∙ sym c.contains_key.ensures ∙ c.if-not-contains_key.false in
    let there = head_found _ _ c.self.view_is key c.args.head c.number.ensures.value head found in
    wants_memory c.from_residual-in_err-sends.result c.args.self.now (tick c.args.head c.args.meter) c.from_residual-in_err-sends.ensures.1
    (tick_admitted c.args.self.now c.args.head c.args.meter head there (ap (λ (s : State). is_some (meter_at s c.args.meter)) (sym c.self.view_is) ∙ here))
    (head, there, c.in_err-sends.ensures.memory)

pub returns-in_err-sends-clause-same : goal.returns-in_err-sends-clause-same
returns-in_err-sends-clause-same c =
    let key = c.number.result in
    let found : lookup (nat_eq key) c.self.inside.heads ≡ Some c.in-Some.core.now = sym c.get_mut.ensures.value ∙ ap option_copied_mut c.in-Some.is in
    told_err c.from_residual-in_err-sends.result _ (head_same _ _ c.self.view_is key _ _ _ _ found (with_head _ c.self.invariant key _ c.tick.new.self found (ap (λ (h : Head). h.book.head) c.in_err-sends.ensures.same)) c.in_err-sends.ensures.same c.room_to_send.ensures.items)

pub returns-clause-stepped : goal.returns-clause-stepped
returns-clause-stepped c =
    let key = c.number.result in
    let head = c.in-Some.core.now in
    let found : lookup (nat_eq key) c.self.inside.heads ≡ Some head = sym c.get_mut.ensures.value ∙ ap option_copied_mut c.in-Some.is in
    let sends = c.in_ok-sends.ensures.sent in
    let here : is_some (lookup (nat_eq c.args.meter) c.self.inside.meters) ≡ true =
    ap (λ (n : ℕ). is_some (lookup (nat_eq n) c.self.inside.meters)) (sym c.number-2.ensures) ∙ sym c.contains_key.ensures ∙ c.if-not-contains_key.false in
    let P : List (List ℕ) → Type 0 = λ bytes. All (IsOfferedIn head.book) bytes in
    record {
      head = head;
      there = head_found _ _ c.self.view_is key c.args.head c.number.ensures.value head found;
      meter_there = ap (λ (s : State). is_some (meter_at s c.args.meter)) (sym c.self.view_is) ∙ here;
      permitted = subst P sends c.in_ok-sends.ensures.permitted;
      new_is = head_sends _ _ c.self.view_is key c.args.head c.number.ensures.value _ _ _ _ _ (with_head _ c.self.invariant key _ c.tick.new.self found (ap (λ (h : Head). h.book.head) c.in_ok-sends.ensures.ticked)) c.in_ok-sends.ensures.ticked
          (c.send.ensures ∙ (λ i. c.room_to_send.ensures.items i ++ sent_to c.args.head c.args.meter (sends i)));
    }

pub invariant_of-self-2 : goal.invariant_of-self-2
invariant_of-self-2 c =
    let key = c.number.result in
    let found : lookup (nat_eq key) c.self.inside.heads ≡ Some c.in-Some.core.now = sym c.get_mut.ensures.value ∙ ap option_copied_mut c.in-Some.is in
    keeps_head _ (keeps_lists _ c.self.invariant c.send.new.sent.items c.self.inside.activations.items) key _ c.tick.new.self found (ap (λ (h : Head). h.book.head) c.in_ok-sends.ensures.ticked)

pub invariant_of-self-then-not-contains_key : goal.invariant_of-self-then-not-contains_key
invariant_of-self-then-not-contains_key c =
    let key = c.number.result in
    let found : lookup (nat_eq key) c.self.inside.heads ≡ Some c.in-Some.core.now = sym c.get_mut.ensures.value ∙ ap option_copied_mut c.in-Some.is in
    keeps_head _ c.self.invariant key _ c.in-Some.core.now found refl

pub invariant_of-self-in_err-room_to_send : goal.invariant_of-self-in_err-room_to_send
invariant_of-self-in_err-room_to_send c =
    let key = c.number.result in
    let found : lookup (nat_eq key) c.self.inside.heads ≡ Some c.in-Some.core.now = sym c.get_mut.ensures.value ∙ ap option_copied_mut c.in-Some.is in
    keeps_head _ (keeps_lists _ c.self.invariant c.room_to_send.new.sent.items c.self.inside.activations.items) key _ c.in-Some.core.now found refl

pub invariant_of-self-in_err-sends : goal.invariant_of-self-in_err-sends
invariant_of-self-in_err-sends c =
    let key = c.number.result in
    let found : lookup (nat_eq key) c.self.inside.heads ≡ Some c.in-Some.core.now = sym c.get_mut.ensures.value ∙ ap option_copied_mut c.in-Some.is in
    keeps_head _ (keeps_lists _ c.self.invariant c.room_to_send.new.sent.items c.self.inside.activations.items) key _ c.tick.new.self found (ap (λ (h : Head). h.book.head) c.in_err-sends.ensures.same)
