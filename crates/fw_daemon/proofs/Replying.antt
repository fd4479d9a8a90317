-- What a daemon sent.
use Rattle.std.proofs.Common.{◌≡◌, ◌++◌, List, [], ◌∷◌, inl, inr, refl, sym, ap, subst, ◌∙◌}
use Rattle.std.specs.declared.net.socket_addr.SocketAddr.{SocketAddr}
use Rattle.std.specs.Prelude.{ℕ, Option, Some, None}
use Rattle.fw_port.specs.Acts.{came, quiet, sent}
use Rattle.fw_daemon.specs.Acts.{Act}
use Rattle.fw_daemon.specs.Daemon.{Daemon, MayAsk}
use Rattle.fw_daemon.specs.Laws.{IsReply, RepliesOnly}
use Rattle.fw_daemon.specs.Serving.{IsAnswered, Serving, Takes}
use Rattle.fw_daemon.proofs.Going.{heads_stay}

-- what has a reply was handled
pub answered : (old new : Daemon) (from : SocketAddr) (datagram bytes : List ℕ) → Takes old from datagram (Some bytes) new → IsAnswered old from datagram (Some bytes) new
answered old new from datagram bytes (inl h) = h
answered old new from datagram bytes (inr (inl h)) = let none : Some bytes ≡ None = h.silent in absurd cc
answered old new from datagram bytes (inr (inr h)) = let none : Some bytes ≡ None = h.silent in absurd cc

is_reply : (start before now : Daemon) (to : SocketAddr) (datagram bytes : List ℕ) (done : List Act) → Serving start done before → Takes before to datagram (Some bytes) now
    → IsReply start to bytes (came to datagram ∷ done)
is_reply start before now to datagram bytes done s takes =
    let h = answered before now to datagram bytes takes in
    record {
      datagram = datagram;
      rest = done;
      came_before = refl;
      may_ask = subst (λ (heads : List SocketAddr). MayAsk heads to) (heads_stay start before done s) h.may_ask;
      before = before;
      serving = s;
      activated = h.activated;
      after = now;
      answers = h.served.answers;
    }

pub replies_only : RepliesOnly
replies_only start now [] (came from datagram ∷ done) to bytes (before, s, same, takes) =
    subst (λ (a : SocketAddr). IsReply start to bytes (came a datagram ∷ done)) same
    (is_reply start before now to datagram bytes done s (subst (λ (a : SocketAddr). Takes before a datagram (Some bytes) now) (sym same) takes))
replies_only start now [] earlier to bytes s = absurd s
replies_only start now (quiet ∷ later) earlier to bytes (before, s, turn) = replies_only start before later earlier to bytes s
replies_only start now (came from datagram ∷ later) earlier to bytes (before, s, takes) = replies_only start before later earlier to bytes s
replies_only start now (sent other more ∷ came from datagram ∷ later) earlier to bytes (before, s, same, takes) =
    replies_only start before later earlier to bytes s
replies_only start now (act ∷ later) earlier to bytes s = absurd s
