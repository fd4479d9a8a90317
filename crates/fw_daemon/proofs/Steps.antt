-- One round of a daemon.
use Rattle.std.proofs.Common.{◌≡◌, ◌++◌, List, [], ◌∷◌, inl, inr, refl, sym, ap, subst, append_assoc, ◌∙◌}
use Rattle.std.specs.declared.net.socket_addr.SocketAddr.{SocketAddr}
use Rattle.std.specs.Prelude.{ℕ, Bool, IsTrue, Option, Some, None}
use Rattle.fw_names.specs.Name.{Name}
use Rattle.fw_meter.specs.declared.meter.Handled.{Handled}
use Rattle.fw_meter.specs.Handling.{reply_bytes}
use Rattle.fw_port.specs.Acts.{came, quiet, sent}
use Rattle.fw_daemon.specs.Acts.{Act}
use Rattle.fw_daemon.specs.Daemon.{Daemon, Hears, IsServed, TakesTurn}
use Rattle.fw_daemon.specs.Serving.{Serving, Serves, Takes}
use Rattle.fw_daemon.specs.declared.daemon.Heard.TheVariants as heard
use Rattle.fw_daemon.specs.declared.event.MeterEvent.{MeterEvent}
use Rattle.fw_daemon.proofs.Going.{goes_on}

-- nothing came
pub quiet_round : (start now : Daemon) (before after : List Act) → after ≡ quiet ∷ before → TakesTurn start now → Serves start before after now
quiet_round start now before after is turn = record { done = quiet ∷ []; adds = is; serving = (start, refl, turn) }

-- ---- what came

takes : (start now : Daemon) (from : SocketAddr) (datagram : List ℕ) (h : Handled) (told : Option MeterEvent) (reply : Option (List ℕ)) → Hears start from datagram (heard.Handled h told) now
    → reply_bytes h.reply ≡ reply → Takes start from datagram reply now
takes start now from datagram h told reply (may, served, tells) is = inl (record {
  may_ask = may;
  activated = h.activated;
  served = subst (λ (r : Option (List ℕ)). IsServed start datagram r h.activated now) is served;
})

came_round : (start now : Daemon) (before after : List Act) (from : SocketAddr) (datagram : List ℕ) → after ≡ came from datagram ∷ before → Takes start from datagram None now
    → Serves start before after now
came_round start now before after from datagram is takes = record { done = came from datagram ∷ []; adds = is; serving = (start, refl, takes) }

-- it has no reply
pub silent_round : (start now : Daemon) (before after : List Act) (from : SocketAddr) (datagram : List ℕ) (h : Handled) (told : Option MeterEvent) → after ≡ came from datagram ∷ before
    → Hears start from datagram (heard.Handled h told) now → reply_bytes h.reply ≡ None → Serves start before after now
silent_round start now before after from datagram h told is hears silent =
    came_round start now before after from datagram is (takes start now from datagram h told None hears silent)

-- there was no memory for it
pub unserved_round : (start now : Daemon) (before after : List Act) (from : SocketAddr) (datagram : List ℕ) → after ≡ came from datagram ∷ before
    → Hears start from datagram heard.OutOfMemory now → Serves start before after now
unserved_round start now before after from datagram is (may, wants, counted) =
    came_round start now before after from datagram is (inr (inl (record { may_ask = may; wants = wants; silent = refl; counted = counted })))

-- it is a stranger's
pub strange_round : (start middle now : Daemon) (before after : List Act) (from : SocketAddr) (datagram : List ℕ) → after ≡ came from datagram ∷ before
    → Hears start from datagram heard.Stranger middle → TakesTurn middle now → Serves start before after now
strange_round start middle now before after from datagram is (not, counted) turn =
    came_round start now before after from datagram is (inr (inr (record {
      may_not = not;
      silent = refl;
      goes_on = subst (λ (d : Daemon). TakesTurn d now) counted turn;
    })))

-- it has a reply, which is sent
pub replies : (start now : Daemon) (from : SocketAddr) (datagram bytes : List ℕ) (h : Handled) (told : Option MeterEvent) → Hears start from datagram (heard.Handled h told) now
    → reply_bytes h.reply ≡ Some bytes → Serving start (sent from bytes ∷ came from datagram ∷ []) now
replies start now from datagram bytes h told hears is = (start, refl, refl, takes start now from datagram h told (Some bytes) hears is)

pub replied_round : (start now : Daemon) (before middle after : List Act) (from : SocketAddr) (datagram bytes : List ℕ) (h : Handled) (told : Option MeterEvent)
    → middle ≡ came from datagram ∷ before → after ≡ sent from bytes ∷ middle → Hears start from datagram (heard.Handled h told) now → reply_bytes h.reply ≡ Some bytes
    → Serves start before after now
replied_round start now before middle after from datagram bytes h told is sends hears reply = record {
  done = sent from bytes ∷ came from datagram ∷ [];
  adds = sends ∙ ap (λ (l : List Act). sent from bytes ∷ l) is;
  serving = replies start now from datagram bytes h told hears reply;
}

-- ---- round after round

-- what a daemon did and then did is what it does
pub serves_on : (start middle now : Daemon) (before acts after : List Act) → Serves start before acts middle → Serves middle acts after now → Serves start before after now
serves_on start middle now before acts after first second = record {
  done = second.done ++ first.done;
  adds = second.adds ∙ ap (λ (l : List Act). second.done ++ l) first.adds ∙ sym (append_assoc second.done first.done before);
  serving = goes_on start middle now first.done second.done first.serving second.serving;
}

-- the same of a port that is as honest as before
pub round_on : (was is : Bool) (start middle now : Daemon) (before acts after : List Act) → is ≡ was → (IsTrue was → Serves start before acts middle)
    → (IsTrue is → Serves middle acts after now) → IsTrue was → Serves start before after now
round_on was is start middle now before acts after same first second honest =
    serves_on start middle now before acts after (first honest) (second (subst (λ (b : Bool). IsTrue b) (sym same) honest))
