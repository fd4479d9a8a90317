-- One item, and where it leads.
use Rattle.std.proofs.Common.{◌≡◌, ◌++◌, ℕ, Bool, true, IsTrue, List, [], Option, Some, None, inl, inr, refl, sym, ap, subst, ◌∙◌}
use Rattle.std.specs.declared.net.socket_addr.SocketAddr.{SocketAddr}
use Rattle.fw_names.specs.Name.{Name}
use Rattle.fw_image.specs.Laws.{OneTurn, TurnKeepsSize}
use Rattle.fw_image.specs.Meter.{Image, Meter, reopened, status_of}
use Rattle.fw_image.specs.State.{State, Follows, Turns}
use Rattle.fw_image.specs.Step.{Turn}
use Rattle.fw_image.specs.declared.status.TransferStatus.TheVariants.{VerificationInitiated}
use Rattle.fw_meter.specs.Handling.{Handles}
use Rattle.fw_meter.specs.Laws.{KeepsSize, OneAnswer}
use Rattle.fw_stored.specs.Stored.{IsSound}
use Rattle.fw_audit.specs.Log.{Item, started, came, sent, turned}
use Rattle.fw_audit.specs.Stands.{Stand, ended, waits, owes, left_by, owing, switched_to, Hears, Makes, MayAsk, TakesTurn}
use Rattle.fw_audit.specs.Private.{Alive, IsNext, IsOpen, stand_of}
use Rattle.fw_audit.specs.declared.going.Going.{Going}

-- only a start leads on from where a process ended
pub alive_before : (heads : List SocketAddr) (old new : Stand) (item : Item) (images : List Image) → Makes heads old item images new → (item ≡ started → ⊥) → Alive old
alive_before heads (ended m) new started images h going = going refl
alive_before heads (ended m) new (came from datagram) images h going = h
alive_before heads (ended m) new (sent to bytes) images h going = h
alive_before heads (ended m) new turned images h going = h
alive_before heads (waits m) new item images h going = tt
alive_before heads (owes to reply m) new item images h going = tt

-- ---- a store that gives what was written, and doesn't fail

pub still_sound : (old new : State) → IsSound old → Follows old new → IsSound new
still_sound old new is follows = record { honest = follows.honesty ∙ is.honest; sound = follows.soundness is.sound }

pub turn_true : (old new : State) → IsSound old → Turns old new → Turn true old.meter true new.meter
turn_true old new is turns =
    subst (λ (b : Bool). Turn true old.meter b new.meter) (turns.counts.never is.sound)
    (subst (λ (b : Bool). Turn b old.meter turns.faultless new.meter) is.honest turns.turn)

-- ---- where else it may lead

pub not_alive : (meter : Meter) (new : Stand) → new ≡ ended meter → Alive new → ⊥
not_alive meter new ends alive = subst Alive ends alive

pub handled_once : OneAnswer → (heads : List SocketAddr) (old after : Meter) (from : SocketAddr) (datagram : List ℕ) (reply : Option (List ℕ)) (name : Option Name)
    → MayAsk heads from → Handles true IsTrue old datagram reply name after
    → (others : List Image) (new : Stand) → Hears heads (waits old) from datagram others new → Alive new → new ≡ owing from reply after
handled_once answer heads old after from datagram reply name may handles others new (inl h) alive =
    let same = answer old h.after after datagram h.reply reply h.name name h.handles handles in
    h.stands ∙ ap (λ (r : Option (List ℕ)). owing from r h.after) same.0 ∙ ap (λ (m : Meter). owing from reply m) same.2
handled_once answer heads old after from datagram reply name may handles others new (inr (inl h)) alive = absurd (h.may_not may)
handled_once answer heads old after from datagram reply name may handles others new (inr (inr h)) alive = absurd (not_alive (reopened old) new h.ends alive)

pub dropped_once : (heads : List SocketAddr) (old : Meter) (from : SocketAddr) (datagram : List ℕ) → (MayAsk heads from → ⊥)
    → (others : List Image) (new : Stand) → Hears heads (waits old) from datagram others new → Alive new → new ≡ waits old
dropped_once heads old from datagram may_not others new (inl h) alive = absurd (may_not h.may_ask)
dropped_once heads old from datagram may_not others new (inr (inl h)) alive = h.stands
dropped_once heads old from datagram may_not others new (inr (inr h)) alive = absurd (not_alive (reopened old) new h.ends alive)

turned_once : OneTurn → (old after : Meter) → Turn true old true after
    → (others : List Image) (new : Stand) → TakesTurn (waits old) others new → Alive new → new ≡ waits after
turned_once turn old after takes others new (verifies, inl h) alive = h.stands ∙ ap (λ (m : Meter). waits m) (turn old h.after after h.turn takes)
turned_once turn old after takes others new (verifies, inr h) alive = absurd (not_alive (reopened old) new h.ends alive)

-- ---- the steps

pub heard_next : OneAnswer → KeepsSize → (heads : List SocketAddr) (had : List Image) (old : Meter) (from : SocketAddr) (datagram : List ℕ) (reply : Option (List ℕ)) (name : Option Name) (next : Going)
    → MayAsk heads from → Handles true IsTrue old datagram reply name next.meter.meter → stand_of next ≡ owing from reply next.meter.meter
    → next.switched.items ≡ had ++ switched_to name next.meter.meter → IsSound next.meter → IsNext heads had (waits old) (came from datagram) next
heard_next answer sizes heads had old from datagram reply name next may handles stands so_far sound = record {
  images = switched_to name next.meter.meter;
  makes = inl (record { may_ask = may; reply = reply; name = name; after = next.meter.meter; handles = handles; switches = refl; stands = stands });
  so_far = so_far;
  alone = λ others new h alive. handled_once answer heads old next.meter.meter from datagram reply name may handles others new h alive ∙ sym stands;
  sound = sound;
  size = sizes old next.meter.meter datagram reply name handles;
}

pub dropped_next : (heads : List SocketAddr) (had : List Image) (old : Meter) (from : SocketAddr) (datagram : List ℕ) (next : Going)
    → (MayAsk heads from → ⊥) → next.meter.meter ≡ old → stand_of next ≡ waits old
    → next.switched.items ≡ had ++ [] → IsSound next.meter → IsNext heads had (waits old) (came from datagram) next
dropped_next heads had old from datagram next may_not same stands so_far sound = record {
  images = [];
  makes = inr (inl (record { may_not = may_not; none = refl; stands = stands }));
  so_far = so_far;
  alone = λ others new h alive. dropped_once heads old from datagram may_not others new h alive ∙ sym stands;
  sound = sound;
  size = ap (λ (m : Meter). m.capacity) same;
}

pub turned_next : OneTurn → TurnKeepsSize → (heads : List SocketAddr) (had : List Image) (old : Meter) (next : Going)
    → status_of old.phase ≡ VerificationInitiated → Turn true old true next.meter.meter → stand_of next ≡ waits next.meter.meter
    → next.switched.items ≡ had ++ [] → IsSound next.meter → IsNext heads had (waits old) turned next
turned_next turn sizes heads had old next verifies takes stands so_far sound = record {
  images = [];
  makes = (verifies, inl (record { after = next.meter.meter; turn = takes; none = refl; stands = stands }));
  so_far = so_far;
  alone = λ others new h alive. turned_once turn old next.meter.meter takes others new h alive ∙ sym stands;
  sound = sound;
  size = sizes old next.meter.meter takes;
}

pub paid_next : (heads : List SocketAddr) (had : List Image) (old : Meter) (there to : SocketAddr) (reply bytes : List ℕ) (next : Going)
    → to ≡ there → bytes ≡ reply → next.meter.meter ≡ old → stand_of next ≡ waits old
    → next.switched.items ≡ had ++ [] → IsSound next.meter → IsNext heads had (owes there reply old) (sent to bytes) next
paid_next heads had old there to reply bytes next address same kept stands so_far sound = record {
  images = [];
  makes = (address, same, refl, stands);
  so_far = so_far;
  alone = λ others new h alive. h.3 ∙ sym stands;
  sound = sound;
  size = ap (λ (m : Meter). m.capacity) kept;
}

-- ---- a kill

not_owing : (meter after : Meter) (from : SocketAddr) (reply : Option (List ℕ)) → ended meter ≡ owing from reply after → ⊥
not_owing meter after from None e = cc
not_owing meter after from (Some reply) e = cc

-- only where an item leaves two meters
pub made_open : (heads : List SocketAddr) (old : Stand) (meter : Meter) (item : Item) (images : List Image) → Makes heads old item images (ended meter) → IsOpen item
made_open heads old meter started images (none, is) = cc
made_open heads old meter (came from datagram) images h = tt
made_open heads (ended m) meter (sent to bytes) images h = h
made_open heads (waits m) meter (sent to bytes) images h = h
made_open heads (owes there reply m) meter (sent to bytes) images (address, same, none, is) = cc
made_open heads old meter turned images h = tt

-- it leaves what the store held before the item
pub killed_left : (heads : List SocketAddr) (old : Stand) (meter : Meter) (item : Item) (images : List Image) → Makes heads old item images (ended meter) → meter ≡ left_by old
killed_left heads old meter started images (none, is) = absurd cc
killed_left heads (ended m) meter (came from datagram) images h = absurd h
killed_left heads (waits m) meter (came from datagram) images (inl h) = absurd (not_owing meter h.after from h.reply h.stands)
killed_left heads (waits m) meter (came from datagram) images (inr (inl h)) = let e = h.stands in absurd cc
killed_left heads (waits m) meter (came from datagram) images (inr (inr h)) = let e = h.ends in cc
killed_left heads (owes to reply m) meter (came from datagram) images h = absurd h
killed_left heads (ended m) meter (sent to bytes) images h = absurd h
killed_left heads (waits m) meter (sent to bytes) images h = absurd h
killed_left heads (owes there reply m) meter (sent to bytes) images (address, same, none, is) = absurd cc
killed_left heads (ended m) meter turned images h = absurd h
killed_left heads (waits m) meter turned images (verifies, inl h) = let e = h.stands in absurd cc
killed_left heads (waits m) meter turned images (verifies, inr h) = let e = h.ends in cc
killed_left heads (owes to reply m) meter turned images h = absurd h

-- and may come there
pub may_die : (heads : List SocketAddr) (old new : Stand) (item : Item) (images : List Image) → Makes heads old item images new → IsOpen item → Makes heads old item [] (ended (left_by old))
may_die heads old new started images h open_item = absurd open_item
may_die heads (ended m) new (came from datagram) images h open_item = h
may_die heads (waits m) new (came from datagram) images h open_item = inr (inr (record { none = refl; ends = refl }))
may_die heads (owes to reply m) new (came from datagram) images h open_item = h
may_die heads old new (sent to bytes) images h open_item = absurd open_item
may_die heads (ended m) new turned images h open_item = h
may_die heads (waits m) new turned images (verifies, takes) open_item = (verifies, inr (record { none = refl; ends = refl }))
may_die heads (owes to reply m) new turned images h open_item = h
