-- Public vocabulary: the laws of sealed links. They speak of definitions alone.
use Rattle.std.specs.Prelude.{◌≡◌, ℕ, List, [], Contains, Some}
use Rattle.std.specs.declared.net.socket_addr.SocketAddr.{SocketAddr}
use Rattle.fw_ledger.specs.declared.record.Ending.TheVariants.{Done}
use Rattle.fw_port.specs.Acts.{Act as PortAct, came, told}
use Rattle.fw_port.specs.declared.port.NoReport.{NoReport}
use Rattle.fw_seal.specs.Sealing.{Ends}
use Rattle.fw_sealport.specs.Histories.{WasOpened}
use Rattle.fw_sealport.specs.Peers.{link_at}
use Rattle.fw_sealport.specs.declared.links.Links.{Links as PortLinks}
use Rattle.fw_daemon.specs.Acts.{Act}
use Rattle.fw_daemon.specs.Daemon.{Daemon}
use Rattle.fw_daemon.specs.Serving.{Serving}
use Rattle.fw_rollout.specs.Leading.{Leader, Leading, Step, acts_of}
use Rattle.fw_rollout.specs.declared.ended.Ended.{Ended}
use Rattle.fw_world.specs.Headline.{IsDoneSafely}
use Rattle.fw_field.specs.Field.{Field, world_of}
use Rattle.fw_field.specs.Moves.{MovesLead}
use Rattle.fw_field.specs.Laws.{AnswersAll, CameToMeter, CameToHead, DoesAll, moves_of, rounds_of}
use Rattle.fw_sealed.specs.Links.{Links, NoneForged, Seal, SealsWhatIsSent, plain_of}
use Rattle.fw_sealed.specs.Ports.{Peer, OpensOnly, ArePeersOfMeter, ArePeersOfHead, IsSealedAnswer, IsSealedRequest}
use Rattle.fw_sealed.specs.Moves.{IsSealedBeginning, SealedField, SealedMove, SealedMovesLead, field_moves}
use Rattle.fw_sealed.specs.Counting.{AreTitles, HaveFourBytes, IvsDiffer}

-- what holds of each field that moves behind sealing ports lead to, with the beginning one
abbrev pub AfterSealedMoves : (SealedField → SealedField → Type 0) → Type 0
AfterSealedMoves P =
    (addresses : ℕ → List SocketAddr) (links : Links) (beginning now : SealedField) (moves : List SealedMove)
    → IsSealedBeginning beginning → SealedMovesLead addresses links beginning moves now → P beginning now

-- behind sealing ports a field makes moves of a field
abbrev pub SealedMovesAreMoves : Type 0
SealedMovesAreMoves =
    (addresses : ℕ → List SocketAddr) (links : Links) (beginning now : SealedField) (moves : List SealedMove)
    → IsSealedBeginning beginning → SealedMovesLead addresses links beginning moves now → MovesLead addresses beginning.field (field_moves moves) now.field

-- ends sealed only what they sent, and nothing that came was forged
pub record IsSealed (links : Links) (s : SealedField) : Type 0 where
  pub sent : SealsWhatIsSent s.seals s.field
  pub genuine : NoneForged links s.seals s.arrived

-- so it stays
abbrev pub LinksStaySealed : Type 0
LinksStaySealed =
    (addresses : ℕ → List SocketAddr) (links : Links) (beginning now : SealedField) (moves : List SealedMove)
    → IsSealedBeginning beginning → SealedMovesLead addresses links beginning moves now → IsSealed links now

-- if titles and counters have their sizes, counters that rise make vectors that differ
abbrev pub IvsNeverRepeat : Type 0
IvsNeverRepeat =
    (addresses : ℕ → List SocketAddr) (links : Links) (beginning now : SealedField) (moves : List SealedMove)
    → IsSealedBeginning beginning → SealedMovesLead addresses links beginning moves now → AreTitles links → HaveFourBytes now.seals
    → IvsDiffer links now.seals

-- ---- what ports give

-- what the port of a meter let through was sent to that meter
abbrev pub PortsKeepMeters : Type 0
PortsKeepMeters =
    (addresses : ℕ → List SocketAddr) (links : Links) (s : SealedField) (number : ℕ) (heads : List SocketAddr) (peers : List Peer) (acts : List Act)
    → IsSealed links s → ArePeersOfMeter addresses links number peers → OpensOnly peers s.arrived acts
    → CameToMeter addresses s.field number heads acts

-- what the port of a head end let through was sent to that head end, by the meter that it is heard as
abbrev pub PortsKeepHeads : Type 0
PortsKeepHeads =
    (links : Links) (s : SealedField) (number : ℕ) (leader : Leader) (peers : List Peer) (steps : List Step)
    → IsSealed links s → ArePeersOfHead links number leader peers → OpensOnly peers s.arrived (acts_of steps)
    → CameToHead s.field number leader steps

-- A sealing port is such a port, by what `fw_sealport` has as a law of it: if its links are those of these peers, and what came to the
-- port below it is among these bytes.
abbrev pub PortsOpenOnly : Type 0 → Type 0
PortsOpenOnly Report =
    (links : PortLinks) (peers : List Peer) (below : List (PortAct NoReport)) (arrived : List (List ℕ)) (acts : List (PortAct Report))
    → ((from : SocketAddr) (datagram : List ℕ) → Contains acts (came from datagram) → WasOpened links below from datagram)
    → ((address : SocketAddr) (ends : Ends) → link_at links address ≡ Some ends → Contains peers (record { address = address; ends = ends }))
    → ((from : SocketAddr) (wire : List ℕ) → Contains below (came from wire) → Contains arrived wire)
    → OpensOnly peers arrived acts

-- what the ports of ends seal was sent by these, in the field that what they did leads to
abbrev pub AnswersAreSealed : Type 0
AnswersAreSealed =
    (addresses : ℕ → List SocketAddr) (f : Field) (number : ℕ) (acts : List Act) (s : Seal)
    → AnswersAll addresses number acts f → IsSealedAnswer addresses number acts s → Contains f.sent (plain_of s)

abbrev pub RequestsAreSealed : Type 0
RequestsAreSealed =
    (f : Field) (number : ℕ) (start : Leader) (steps : List Step) (s : Seal)
    → DoesAll number start steps f → IsSealedRequest number start steps s → Contains f.sent (plain_of s)

-- ---- what the loops of daemons do behind such ports, as moves

abbrev pub SealedServingIsMoves : Type 0
SealedServingIsMoves =
    (addresses : ℕ → List SocketAddr) (links : Links) (s : SealedField) (number : ℕ) (start now : Daemon) (peers : List Peer) (acts : List Act)
    → s.field.meters number ≡ Some start → Serving start acts now
    → IsSealed links s → ArePeersOfMeter addresses links number peers → OpensOnly peers s.arrived acts
    → (new : Field) × MovesLead addresses s.field (rounds_of number acts) new × (new.meters number ≡ Some now) × AnswersAll addresses number acts new

abbrev pub SealedLeadingIsMoves : Type 0
SealedLeadingIsMoves =
    (addresses : ℕ → List SocketAddr) (links : Links) (s : SealedField) (number : ℕ) (start now : Leader) (peers : List Peer) (steps : List Step)
    → s.field.heads number ≡ Some start → start.going ≡ [] → Leading start steps now
    → IsSealed links s → ArePeersOfHead links number start peers → OpensOnly peers s.arrived (acts_of steps)
    → (new : Field) × MovesLead addresses s.field (moves_of number steps) new × (new.heads number ≡ Some now) × DoesAll number start steps new

-- in a field that moves behind sealing ports lead to, a head end behind such a port reports a row as done only if it is done safely
abbrev pub SealedToldIsTrue : Type 0
SealedToldIsTrue =
    (addresses : ℕ → List SocketAddr) (links : Links) (beginning s : SealedField) (moves : List SealedMove) (number : ℕ) (start now : Leader)
    (peers : List Peer) (steps : List Step)
    → IsSealedBeginning beginning → SealedMovesLead addresses links beginning moves s
    → s.field.heads number ≡ Some start → start.going ≡ [] → Leading start steps now
    → ArePeersOfHead links number start peers → OpensOnly peers s.arrived (acts_of steps)
    → (new : Field) × MovesLead addresses s.field (moves_of number steps) new × (new.heads number ≡ Some now)
    × ((ended : Ended) → Contains (acts_of steps) (told ended) → ended.ending ≡ Done → IsDoneSafely (world_of new) ended.campaign ended.meter)
