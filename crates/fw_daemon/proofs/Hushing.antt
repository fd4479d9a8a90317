-- What a daemon does without what strangers sent.
use Rattle.std.proofs.Common.{◌≡◌, ◌⊎◌, ◌++◌, List, [], ◌∷◌, inl, inr, refl, sym, ap, subst, ◌∙◌}
use Rattle.std.specs.declared.net.socket_addr.SocketAddr.{SocketAddr}
use Rattle.std.specs.Prelude.{ℕ, Option, Some, None}
use Rattle.fw_port.specs.Acts.{came, quiet, sent}
use Rattle.fw_daemon.specs.Acts.{Act}
use Rattle.fw_daemon.specs.Daemon.{Daemon, MayAsk, TakesTurn, one_more}
use Rattle.fw_daemon.specs.Laws.{Hushes, IgnoresStrangers, IsStrangers}
use Rattle.fw_daemon.specs.Serving.{Serving, Takes}
use Rattle.fw_daemon.proofs.Going.{heads_stay}
use Rattle.fw_daemon.proofs.Replying.{answered}

-- a daemon with another count of strangers
abbrev at : Daemon → ℕ → Daemon
at d n = record d { strangers = n }

turned : (old new : Daemon) (n : ℕ) → TakesTurn old new → TakesTurn (at old n) (at new n)
turned old new n t = record { turns = t.turns; others = ap (λ (d : Daemon). at d n) t.others }

-- with another count of strangers it takes the same
taken : (old new : Daemon) (from : SocketAddr) (datagram : List ℕ) (reply : Option (List ℕ)) (n : ℕ) → Takes old from datagram reply new
    → (m : ℕ) × Takes (at old n) from datagram reply (at new m)
taken old new from datagram reply n (inl h) = (
  n,
  inl (record {
    may_ask = h.may_ask;
    activated = h.activated;
    served = record { answers = h.served.answers; others = ap (λ (d : Daemon). at d n) h.served.others };
  }),
)
taken old new from datagram reply n (inr (inl h)) = (
  n,
  inr (inl (record {
    may_ask = h.may_ask;
    wants = h.wants;
    silent = h.silent;
    counted = ap (λ (d : Daemon). at d n) h.counted;
  })),
)
taken old new from datagram reply n (inr (inr h)) = (
  one_more n,
  inr (inr (record {
    may_not = h.may_not;
    silent = h.silent;
    goes_on = turned (at old (one_more old.strangers)) new (one_more n) h.goes_on;
  })),
)

-- a stranger's datagram is as nothing
hushed : (old new : Daemon) (from : SocketAddr) (datagram : List ℕ) (n : ℕ) → (MayAsk old.heads from → ⊥) → Takes old from datagram None new → TakesTurn (at old n) (at new n)
hushed old new from datagram n not (inl h) = absurd (not h.may_ask)
hushed old new from datagram n not (inr (inl h)) = absurd (not h.may_ask)
hushed old new from datagram n not (inr (inr h)) = turned (at old (one_more old.strangers)) new n h.goes_on

-- who may not ask of a daemon may not ask in the end
not_here : (start before : Daemon) (from : SocketAddr) (done : List Act) → Serving start done before → (MayAsk start.heads from → ⊥) → MayAsk before.heads from → ⊥
not_here start before from done s not may = not (subst (λ (heads : List SocketAddr). MayAsk heads from) (heads_stay start before done s) may)

quiet_then : (start before now : Daemon) (others : List Act) → TakesTurn before now → ((n : ℕ) × Serving start others (at before n)) → (n : ℕ) × Serving start (quiet ∷ others) (at now n)
quiet_then start before now others turn (n, s) = (n, (at before n, s, turned before now n turn))

came_then : (start before now : Daemon) (from : SocketAddr) (datagram : List ℕ) (others : List Act) → Takes before from datagram None now → ((n : ℕ) × Serving start others (at before n))
    → (n : ℕ) × Serving start (came from datagram ∷ others) (at now n)
came_then start before now from datagram others takes (n, s) =
    let next = taken before now from datagram None n takes in
    (next.0, (at before n, s, next.1))

hushed_then : (start before now : Daemon) (from : SocketAddr) (datagram : List ℕ) (others : List Act) → (MayAsk before.heads from → ⊥) → Takes before from datagram None now
    → ((n : ℕ) × Serving start others (at before n)) → (n : ℕ) × Serving start (quiet ∷ others) (at now n)
hushed_then start before now from datagram others not takes (n, s) = (n, (at before n, s, hushed before now from datagram n not takes))

sent_then : (start before now : Daemon) (to from : SocketAddr) (bytes datagram : List ℕ) (others : List Act) → to ≡ from → Takes before from datagram (Some bytes) now
    → ((n : ℕ) × Serving start others (at before n)) → (n : ℕ) × Serving start (sent to bytes ∷ came from datagram ∷ others) (at now n)
sent_then start before now to from bytes datagram others same takes (n, s) =
    let next = taken before now from datagram (Some bytes) n takes in
    (next.0, (at before n, s, same, next.1))

-- the same with an act that is given by an equation
abbrev Goes : Daemon → List Act → Daemon → Type 0
Goes start others now = (n : ℕ) × Serving start others (at now n)

first_is : (start now : Daemon) (act other : Act) (others : List Act) → other ≡ act → Goes start (act ∷ others) now → Goes start (other ∷ others) now
first_is start now act other others same g = subst (λ (a : Act). Goes start (a ∷ others) now) (sym same) g

both_are : (start now : Daemon) (act other second third : Act) (others : List Act) → other ≡ act → third ≡ second → Goes start (act ∷ second ∷ others) now
    → Goes start (other ∷ third ∷ others) now
both_are start now act other second third others same same2 g =
    subst (λ (a : Act). Goes start (a ∷ third ∷ others) now) (sym same) (subst (λ (a : Act). Goes start (act ∷ a ∷ others) now) (sym same2) g)

pub ignores_strangers : IgnoresStrangers
ignores_strangers start now [] [] s h = (now.strangers, s)
ignores_strangers start now [] (other ∷ others) s h = absurd h
ignores_strangers start now (act ∷ done) [] s h = absurd h
ignores_strangers start now (quiet ∷ done) (other ∷ others) (before, s, turn) (inl same, h) =
    first_is start now quiet other others same (quiet_then start before now others turn (ignores_strangers start before done others s h))
ignores_strangers start now (quiet ∷ done) (other ∷ others) (before, s, turn) (inr (bad, same), h) = absurd bad
ignores_strangers start now (came from datagram ∷ done) (other ∷ others) (before, s, takes) (inl same, h) =
    first_is start now (came from datagram) other others same (came_then start before now from datagram others takes (ignores_strangers start before done others s h))
ignores_strangers start now (came from datagram ∷ done) (other ∷ others) (before, s, takes) (inr (not, same), h) =
    first_is start now quiet other others same
    (hushed_then start before now from datagram others (not_here start before from done s not) takes (ignores_strangers start before done others s h))
ignores_strangers start now (sent to bytes ∷ came from datagram ∷ done) (other ∷ []) s (first, h) = absurd h
ignores_strangers start now (sent to bytes ∷ came from datagram ∷ done) (other ∷ third ∷ others) (before, s, to_it, takes) (inr (bad, same), h) = absurd bad
ignores_strangers start now (sent to bytes ∷ came from datagram ∷ done) (other ∷ third ∷ others) (before, s, to_it, takes) (inl same, (inl same2, h)) =
    both_are start now (sent to bytes) other (came from datagram) third others same same2
    (sent_then start before now to from bytes datagram others to_it takes (ignores_strangers start before done others s h))
ignores_strangers start now (sent to bytes ∷ came from datagram ∷ done) (other ∷ third ∷ others) (before, s, to_it, takes) (inl same, (inr (not, quiet2), h)) =
    absurd (not_here start before from done s not (answered before now from datagram bytes takes).may_ask)
ignores_strangers start now (act ∷ done) (other ∷ others) s h = absurd s
