-- What a daemon does after what it did.
use Rattle.std.proofs.Common.{◌≡◌, ◌++◌, List, [], ◌∷◌, inl, inr, refl, sym, ap, subst, ◌∙◌}
use Rattle.std.specs.declared.net.socket_addr.SocketAddr.{SocketAddr}
use Rattle.std.specs.Prelude.{ℕ, Option, Some, None}
use Rattle.fw_port.specs.Acts.{came, quiet, sent}
use Rattle.fw_daemon.specs.Acts.{Act}
use Rattle.fw_daemon.specs.Daemon.{Daemon, TakesTurn}
use Rattle.fw_daemon.specs.Laws.{GoesOn}
use Rattle.fw_daemon.specs.Serving.{Serving, Takes}

pub goes_on : GoesOn
goes_on start middle now first [] s e = subst (λ (d : Daemon). Serving start first d) (sym e) s
goes_on start middle now first (quiet ∷ done) s (before, t, turn) = (before, goes_on start middle before first done s t, turn)
goes_on start middle now first (came from datagram ∷ done) s (before, t, takes) = (before, goes_on start middle before first done s t, takes)
goes_on start middle now first (sent to bytes ∷ came from datagram ∷ done) s (before, t, same, takes) =
    (before, goes_on start middle before first done s t, same, takes)
goes_on start middle now first (act ∷ done) s t = absurd t

-- ---- the addresses that may ask

turn_keeps : (old new : Daemon) → TakesTurn old new → new.heads ≡ old.heads
turn_keeps old new t = ap (λ (d : Daemon). d.heads) t.others

take_keeps : (old new : Daemon) (from : SocketAddr) (datagram : List ℕ) (reply : Option (List ℕ)) → Takes old from datagram reply new → new.heads ≡ old.heads
take_keeps old new from datagram reply (inl h) = ap (λ (d : Daemon). d.heads) h.served.others
take_keeps old new from datagram reply (inr (inl h)) = ap (λ (d : Daemon). d.heads) h.counted
take_keeps old new from datagram reply (inr (inr h)) = ap (λ (d : Daemon). d.heads) h.goes_on.others

pub heads_stay : (start now : Daemon) (done : List Act) → Serving start done now → now.heads ≡ start.heads
heads_stay start now [] e = ap (λ (d : Daemon). d.heads) e
heads_stay start now (quiet ∷ done) (before, t, turn) = turn_keeps before now turn ∙ heads_stay start before done t
heads_stay start now (came from datagram ∷ done) (before, t, takes) = take_keeps before now from datagram None takes ∙ heads_stay start before done t
heads_stay start now (sent to bytes ∷ came from datagram ∷ done) (before, t, same, takes) =
    take_keeps before now from datagram (Some bytes) takes ∙ heads_stay start before done t
heads_stay start now (act ∷ done) t = absurd t
