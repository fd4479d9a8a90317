-- Public vocabulary: what may happen in a field whose links are sealed: the moves of a field, where what comes to a daemon came through its
-- port, what ends seal, and what comes from the network.
use Rattle.std.specs.Prelude.{◌≡◌, ◌⊎◌, ◌++◌, ℕ, Bool, true, List, [], ◌∷◌, Option, Some, Contains, nat_eq}
use Rattle.std.specs.declared.net.socket_addr.SocketAddr.{SocketAddr}
use Rattle.fw_counter.specs.Moves as counting
use Rattle.fw_names.specs.Name.{Name}
use Rattle.fw_image.specs.Meter.{Meter, restarted}
use Rattle.fw_image.specs.Step.{Turn}
use Rattle.fw_meter.specs.Laws.{Stops, TearsBlock}
use Rattle.fw_daemon.specs.Daemon.{Daemon, MayAsk}
use Rattle.fw_rollout.specs.Leading.{Leader, Step, hears, IsListed, Steps}
use Rattle.fw_world.specs.World.{Datagram, put}
use Rattle.fw_world.specs.Step.{activated, replies}
use Rattle.fw_world.specs.declared.datagram.Direction.{Direction}
use Rattle.fw_world.specs.declared.datagram.Direction.TheVariants.{ToMeter, ToHead}
use Rattle.fw_field.specs.Field.{Field, Has, IsBeginning, with_daemon, with_leader}
use Rattle.fw_field.specs.Moves.{Move, round, kill_meter, step, open_campaign, cancel_campaign, give_up, ask_others, kill_head, TurnsAt, TakesAs, GoesOut, told_by, OpensAt, CancelsAt, GivesRowUp, AsksOthers, HeadIsKilledAt, to_meter}
use Rattle.fw_sealed.specs.Links.{Links, Seal, CameSealed, IsGenuine, plain_of, sealer}

pub record SealedField : Type 0 where
  pub field : Field
  -- all that was ever sealed, the newest first
  pub seals : List Seal
  -- all bytes that ever came to ports, from wherever, the newest first
  pub arrived : List (List ℕ)
  -- the counter of each end that sends this way, under its number: head ends send to meters, and meters to head ends
  pub counters : Direction → ℕ → counting.Counter

-- a field at its beginning, in which nothing was sealed and nothing came; no counter was used that an end may give
pub record IsSealedBeginning (s : SealedField) : Type 0 where
  pub field : IsBeginning s.field
  pub seals : s.seals ≡ []
  pub arrived : s.arrived ≡ []
  pub counters : (direction : Direction) (number : ℕ) → (s.counters direction number).next ≡ (s.counters direction number).reserved

-- ---- meters behind ports: the moves of meters in a field, with this premise on what comes

-- what came to this meter on the link of a head end, which has the address that its port says
pub record CameToMeterFrom (addresses : ℕ → List SocketAddr) (links : Links) (arrived : List (List ℕ)) (meter head : ℕ) (from : SocketAddr) (datagram : List ℕ) : Type 0 where
  pub at : Contains (addresses head) from
  pub came : CameSealed links arrived head meter ToMeter datagram

-- a datagram came
pub record HearsSealed (addresses : ℕ → List SocketAddr) (links : Links) (arrived : List (List ℕ)) (old : Field) (number : ℕ) (new : Field) : Type 0 where
  pub before : Daemon
  pub after : Daemon
  pub from : SocketAddr
  pub datagram : List ℕ
  pub reply : Option (List ℕ)
  pub activates : Option Name
  pub head : ℕ
  pub there : old.meters number ≡ Some before
  pub takes : TakesAs before from datagram reply activates after
  pub came : MayAsk before.heads from → CameToMeterFrom addresses links arrived number head from datagram
  pub new_is : new ≡ record (with_daemon old number after) {
    sent = old.sent ++ replies (to_meter head number datagram) reply;
    activations = old.activations ++ activated number activates after.state.meter;
  }

-- what a power cut leaves of blocks that were sent again
abbrev pub TearsSealed : Links → List (List ℕ) → ℕ → Meter → List (List ℕ) → Meter → Type 0
TearsSealed links arrived number old [] new = new ≡ old
TearsSealed links arrived number old (datagram ∷ others) new =
    ((head : ℕ) × CameSealed links arrived head number ToMeter datagram)
    × (next : Meter) × TearsBlock old datagram next × TearsSealed links arrived number next others new

-- what is started again after a kill or a power cut
pub record StartsSealed (links : Links) (arrived : List (List ℕ)) (number : ℕ) (left : Meter) (after : Daemon) : Type 0 where
  pub datagrams : List (List ℕ)
  pub cut : Meter
  pub torn : TearsSealed links arrived number (restarted left) datagrams cut
  pub again : Has after cut

-- a daemon is killed while it takes a turn, or before or after one, and starts again
pub record IsKilledSealed (links : Links) (arrived : List (List ℕ)) (old : Field) (number : ℕ) (new : Field) : Type 0 where
  pub before : Daemon
  pub left : Meter
  pub after : Daemon
  pub there : old.meters number ≡ Some before
  pub leaves : (left ≡ before.state.meter) ⊎ ((faultless : Bool) × Turn true before.state.meter faultless left)
  pub starts : StartsSealed links arrived number left after
  pub new_is : new ≡ with_daemon old number after

-- a daemon is killed while its meter handles a datagram, and starts again
pub record IsKilledHearing (addresses : ℕ → List SocketAddr) (links : Links) (arrived : List (List ℕ)) (old : Field) (number : ℕ) (new : Field) : Type 0 where
  pub before : Daemon
  pub from : SocketAddr
  pub datagram : List ℕ
  pub head : ℕ
  pub left : Meter
  pub activates : Option Name
  pub after : Daemon
  pub there : old.meters number ≡ Some before
  pub may_ask : MayAsk before.heads from
  pub came : CameToMeterFrom addresses links arrived number head from datagram
  pub stops : Stops before.state.meter datagram activates left
  pub starts : StartsSealed links arrived number left after
  pub new_is : new ≡ record (with_daemon old number after) { activations = old.activations ++ activated number activates left }

-- ---- head ends behind ports

-- what comes to a head end as a meter's came on their link
abbrev pub ComesSealed : Links → List (List ℕ) → ℕ → Leader → Step → Type 0
ComesSealed links arrived head leader (hears from datagram) =
    (meter : ℕ) → IsListed leader meter from → CameSealed links arrived head meter ToHead datagram
ComesSealed links arrived head leader made = Unit {0}

-- a head end makes a step
pub record StepsSealed (links : Links) (arrived : List (List ℕ)) (old : Field) (number : ℕ) (made : Step) (new : Field) : Type 0 where
  pub before : Leader
  pub after : Leader
  pub out : List Datagram
  pub there : old.heads number ≡ Some before
  pub steps : Steps before made after
  pub came : ComesSealed links arrived number before made
  pub goes_out : GoesOut number before made out
  pub new_is : new ≡ record (with_leader old number after) { sent = old.sent ++ out; told = old.told ++ told_by made }

abbrev pub GoesSealed : (ℕ → List SocketAddr) → Links → List (List ℕ) → Field → Move → Field → Type 0
GoesSealed addresses links arrived old (round number) new = TurnsAt old number new ⊎ HearsSealed addresses links arrived old number new
GoesSealed addresses links arrived old (kill_meter number) new = IsKilledSealed links arrived old number new ⊎ IsKilledHearing addresses links arrived old number new
GoesSealed addresses links arrived old (step number made) new = StepsSealed links arrived old number made new
GoesSealed addresses links arrived old (open_campaign campaign release image meters) new = OpensAt old campaign release image meters new
GoesSealed addresses links arrived old (cancel_campaign campaign) new = CancelsAt old campaign new
GoesSealed addresses links arrived old (give_up number meter) new = GivesRowUp old number meter new
GoesSealed addresses links arrived old (ask_others number meters) new = AsksOthers old number meters new
GoesSealed addresses links arrived old (kill_head number) new = HeadIsKilledAt old number new

-- ---- moves

pub data SealedMove : Type 0 where
  -- the field makes a move
  moves_on : Move → SealedMove
  -- an end seals what it sent, maybe again
  seals_one : Seal → SealedMove
  -- bytes come to a port, from wherever
  arrives : List ℕ → SealedMove
  -- The counter of the end with this number that sends this way goes on: counters are reserved, one is used for nothing, or the end is killed
  -- and begins again behind those that are reserved.
  counts : Direction → ℕ → counting.Move → SealedMove

-- the same counters, except for this one
abbrev pub put_counter : (Direction → ℕ → counting.Counter) → Direction → ℕ → counting.Counter → Direction → ℕ → counting.Counter
put_counter counters ToMeter number counter ToMeter = put nat_eq (counters ToMeter) number counter
put_counter counters ToMeter number counter ToHead = counters ToHead
put_counter counters ToHead number counter ToMeter = counters ToMeter
put_counter counters ToHead number counter ToHead = put nat_eq (counters ToHead) number counter

-- an end seals what it sent, with its next counter
pub record SealsAt (old : SealedField) (s : Seal) (new : SealedField) : Type 0 where
  pub was_sent : Contains old.field.sent (plain_of s)
  pub counter : counting.Counter
  pub takes : counting.Goes [] (old.counters s.direction (sealer s)) counting.uses (s.counter ∷ []) counter
  pub new_is : new ≡ record old { seals = s ∷ old.seals; counters = put_counter old.counters s.direction (sealer s) counter }

-- a counter goes on, and nothing is sealed
pub record CountsAt (old : SealedField) (direction : Direction) (number : ℕ) (move : counting.Move) (new : SealedField) : Type 0 where
  pub used : List ℕ
  pub counter : counting.Counter
  pub goes : counting.Goes [] (old.counters direction number) move used counter
  pub new_is : new ≡ record old { counters = put_counter old.counters direction number counter }

abbrev pub SealedGoes : (ℕ → List SocketAddr) → Links → SealedField → SealedMove → SealedField → Type 0
SealedGoes addresses links old (moves_on move) new =
    (next : Field) × GoesSealed addresses links old.arrived old.field move next × (new ≡ record old { field = next })
SealedGoes addresses links old (seals_one s) new = SealsAt old s new
SealedGoes addresses links old (arrives wire) new = IsGenuine links old.seals wire × (new ≡ record old { arrived = wire ∷ old.arrived })
SealedGoes addresses links old (counts direction number move) new = CountsAt old direction number move new

-- these moves lead from a field to another one, each from the field that the one before it led to
abbrev pub SealedMovesLead : (ℕ → List SocketAddr) → Links → SealedField → List SealedMove → SealedField → Type 0
SealedMovesLead addresses links old [] new = new ≡ old
SealedMovesLead addresses links old (move ∷ moves) new =
    (next : SealedField) × SealedGoes addresses links old move next × SealedMovesLead addresses links next moves new

-- the moves of the field among them
abbrev pub field_moves : List SealedMove → List Move
field_moves [] = []
field_moves (moves_on move ∷ moves) = move ∷ field_moves moves
field_moves (seals_one s ∷ moves) = field_moves moves
field_moves (arrives wire ∷ moves) = field_moves moves
field_moves (counts direction number move ∷ moves) = field_moves moves
