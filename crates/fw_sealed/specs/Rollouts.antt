-- Public vocabulary: a rollout of a head end behind a sealing port, as moves of the field.
use Rattle.std.specs.Prelude.{◌≡◌, ℕ, List, [], Contains, Some}
use Rattle.std.specs.declared.net.socket_addr.SocketAddr.{SocketAddr}
use Rattle.fw_ledger.specs.declared.record.Ending.TheVariants.{Done}
use Rattle.fw_port.specs.Acts.{told}
use Rattle.fw_rollout.specs.Leading.{Leader, acts_of}
use Rattle.fw_rollout.specs.Rollout.{Deed, Lists, RollsOut, steps_of}
use Rattle.fw_rollout.specs.declared.ended.Ended.{Ended}
use Rattle.fw_world.specs.Headline.{IsDoneSafely}
use Rattle.fw_field.specs.Field.{Field, world_of}
use Rattle.fw_field.specs.Moves.{MovesLead}
use Rattle.fw_field.specs.Rollouts.{EverAsked, RolloutDoesAll, rollout_moves}
use Rattle.fw_sealed.specs.Laws.{IsSealed}
use Rattle.fw_sealed.specs.Links.{Links, head_end}
use Rattle.fw_sealed.specs.Moves.{IsSealedBeginning, SealedField, SealedMove, SealedMovesLead}
use Rattle.fw_sealed.specs.Ports.{OpensOnly, Peer}

-- the peers of the port are meters that the head end ever asks: each that has the address of one has what the head end knows of their link
abbrev pub ArePeersOfRollout : Links → ℕ → Leader → List Deed → List Peer → Type 0
ArePeersOfRollout links number start deeds peers =
    (peer : Peer) → Contains peers peer → (meter : ℕ) → EverAsked start deeds meter peer.address → peer.ends ≡ head_end links number meter

-- whatever it does in a rollout is moves of the field
abbrev pub SealedRolloutIsMoves : Lists → Type 0
SealedRolloutIsMoves lists =
    (addresses : ℕ → List SocketAddr) (links : Links) (s : SealedField) (number : ℕ) (start now : Leader) (peers : List Peer) (deeds : List Deed)
    → s.field.heads number ≡ Some start → start.going ≡ [] → RollsOut lists start deeds now
    → IsSealed links s → ArePeersOfRollout links number start deeds peers → OpensOnly peers s.arrived (acts_of (steps_of deeds))
    → (new : Field) × MovesLead addresses s.field (rollout_moves number deeds) new × (new.heads number ≡ Some now) × RolloutDoesAll number start deeds new

-- in a field that moves behind sealing ports lead to, it reports a row as done only if it is done safely
abbrev pub SealedRolloutToldIsTrue : Lists → Type 0
SealedRolloutToldIsTrue lists =
    (addresses : ℕ → List SocketAddr) (links : Links) (beginning s : SealedField) (moves : List SealedMove) (number : ℕ) (start now : Leader)
    (peers : List Peer) (deeds : List Deed)
    → IsSealedBeginning beginning → SealedMovesLead addresses links beginning moves s
    → s.field.heads number ≡ Some start → start.going ≡ [] → RollsOut lists start deeds now
    → ArePeersOfRollout links number start deeds peers → OpensOnly peers s.arrived (acts_of (steps_of deeds))
    → (new : Field) × MovesLead addresses s.field (rollout_moves number deeds) new × (new.heads number ≡ Some now)
    × ((ended : Ended) → Contains (acts_of (steps_of deeds)) (told ended) → ended.ending ≡ Done → IsDoneSafely (world_of new) ended.campaign ended.meter)
