-- No counter is used twice.
use Rattle.std.proofs.Common.{ℕ, ◌+◌, ◌≤◌, List, [], ◌∷◌, arith}
use Rattle.fw_counter.specs.Moves.{Counter, Move, uses, reserves, killed, Goes, MovesLead, AreBelow, IsFalling}
use Rattle.fw_counter.specs.Laws.{CountersNeverRepeat}

below_more : (n m : ℕ) (ns : List ℕ) → n ≤ m → AreBelow n ns → AreBelow m ns
below_more n m [] le below = tt
below_more n m (x ∷ xs) le below = (omega (arith, below.0), below_more n m xs le below.1)

record IsSound (used : List ℕ) (c : Counter) : Type 0 where
  falling : IsFalling used
  below : AreBelow c.next used
  within : c.next ≤ c.reserved

sound_after : (used used' : List ℕ) (c c' : Counter) (move : Move) → IsSound used c → Goes used c move used' c' → IsSound used' c'
sound_after used used' c c' uses s goes =
    let after : IsSound (c.next ∷ used) (record c { next = c.next + 1 }) = record {
      falling = (s.below, s.falling);
      below = (omega arith, below_more c.next (c.next + 1) used (omega arith) s.below);
      within = omega (arith, goes.0);
    } in
    rw (goes.1, goes.2) after
sound_after used used' c c' (reserves n) s goes =
    let after : IsSound used (record c { reserved = n }) = record { falling = s.falling; below = s.below; within = omega (arith, goes.0, s.within) } in
    rw (goes.1, goes.2) after
sound_after used used' c c' (killed n) s goes =
    let after : IsSound used (record { next = n; reserved = n }) = record {
      falling = s.falling;
      below = below_more c.next n used (omega (arith, goes.0, s.within)) s.below;
      within = omega arith;
    } in
    rw (goes.1, goes.2) after

sound_all : (used used' : List ℕ) (c c' : Counter) (moves : List Move) → IsSound used c → MovesLead used c moves used' c' → IsSound used' c'
sound_all used used' c c' [] s leads = rw (leads.0, leads.1) s
sound_all used used' c c' (move ∷ moves) s leads = sound_all leads.0 used' leads.1 c' moves (sound_after used leads.0 c leads.1 move s leads.2) leads.3

pub counters_never_repeat : CountersNeverRepeat
counters_never_repeat start moves used now leads =
    let first : IsSound [] (record { next = start; reserved = start }) = record { falling = tt; below = tt; within = omega arith } in
    (sound_all [] used (record { next = start; reserved = start }) now moves first leads).falling
