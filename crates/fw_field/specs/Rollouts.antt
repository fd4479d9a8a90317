-- Public vocabulary: a rollout of a head end as moves of a field: it leads, gives up rows, and comes to ask other meters.
use Rattle.std.specs.Prelude.{◌≡◌, ◌⊎◌, ℕ, List, [], ◌∷◌, ◌++◌, Some, Contains}
use Rattle.std.specs.declared.net.socket_addr.SocketAddr.{SocketAddr}
use Rattle.fw_ledger.specs.declared.record.Ending.TheVariants.{Done}
use Rattle.fw_port.specs.Acts.{told}
use Rattle.fw_rollout.specs.declared.ended.Ended.{Ended}
use Rattle.fw_rollout.specs.declared.link.Listed.{Listed}
use Rattle.fw_rollout.specs.Leading.{Leader, hears, sends, tells, acts_of, IsListed}
use Rattle.fw_rollout.specs.Rollout.{Deed, Lists, RollsOut, asks, gives_up, makes, steps_of}
use Rattle.fw_world.specs.Headline.{IsDoneSafely}
use Rattle.fw_field.specs.Field.{Field, IsBeginning, world_of}
use Rattle.fw_field.specs.Moves.{Move, step, give_up, ask_others, MovesLead, to_meter, to_head}

-- a rollout that may come to ask any list
abbrev pub any_list : Lists
any_list meters = Unit {0}

-- the head end ever asked a meter at this address: it is in the list that it began with, or in one that it came to ask
abbrev pub EverAsked : Leader → List Deed → ℕ → SocketAddr → Type 0
EverAsked start deeds meter address =
    IsListed start meter address
    ⊎ ((meters : List Listed) × Contains deeds (asks meters) × Contains meters (record { meter = meter; address = address }))

-- each datagram that came to a head end in a rollout, from the address of a meter that it ever asked, was sent to it by that meter in a field
abbrev pub CameInRollout : Field → ℕ → Leader → List Deed → Type 0
CameInRollout f number start deeds =
    (from : SocketAddr) (datagram : List ℕ) (meter : ℕ) → Contains (steps_of deeds) (hears from datagram) → EverAsked start deeds meter from
    → Contains f.sent (to_head number meter datagram)

-- these deeds as moves, the oldest first
abbrev pub rollout_moves : ℕ → List Deed → List Move
rollout_moves number [] = []
rollout_moves number (makes made ∷ deeds) = rollout_moves number deeds ++ step number made ∷ []
rollout_moves number (gives_up meter at ∷ deeds) = rollout_moves number deeds ++ give_up number meter ∷ []
rollout_moves number (asks meters ∷ deeds) = rollout_moves number deeds ++ ask_others number meters ∷ []

-- all that a rollout sends was sent there, to a meter that it ever asked at that address, and all that it reports was reported there
pub record RolloutDoesAll (number : ℕ) (start : Leader) (deeds : List Deed) (f : Field) : Type 0 where
  pub sent_all : (to : SocketAddr) (bytes : List ℕ) → Contains (steps_of deeds) (sends to bytes)
      → (meter : ℕ) × EverAsked start deeds meter to × Contains f.sent (to_meter number meter bytes)
  pub told_all : (ended : Ended) → Contains (steps_of deeds) (tells ended) → Contains f.told ended

-- then what the head end did is these moves
abbrev pub RolloutIsMoves : Lists → Type 0
RolloutIsMoves lists =
    (addresses : ℕ → List SocketAddr) (f : Field) (number : ℕ) (start now : Leader) (deeds : List Deed) → f.heads number ≡ Some start → start.going ≡ []
    → RollsOut lists start deeds now → CameInRollout f number start deeds
    → (new : Field) × MovesLead addresses f (rollout_moves number deeds) new × (new.heads number ≡ Some now) × RolloutDoesAll number start deeds new

-- in a field that moves lead to, it reports a row as done only if it is done safely in the field that the rollout leads to
abbrev pub RolloutToldIsTrue : Lists → Type 0
RolloutToldIsTrue lists =
    (addresses : ℕ → List SocketAddr) (beginning f : Field) (moves : List Move) (number : ℕ) (start now : Leader) (deeds : List Deed)
    → IsBeginning beginning → MovesLead addresses beginning moves f → f.heads number ≡ Some start → start.going ≡ []
    → RollsOut lists start deeds now → CameInRollout f number start deeds
    → (new : Field) × MovesLead addresses f (rollout_moves number deeds) new × (new.heads number ≡ Some now)
    × ((ended : Ended) → Contains (acts_of (steps_of deeds)) (told ended) → ended.ending ≡ Done → IsDoneSafely (world_of new) ended.campaign ended.meter)
