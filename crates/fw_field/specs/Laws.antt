-- Public vocabulary: the laws of a field. They speak of definitions alone.
use Rattle.std.specs.Prelude.{◌≡◌, ◌⊎◌, ℕ, List, [], ◌∷◌, ◌++◌, true, Contains, Option, Some, None}
use Rattle.std.specs.declared.net.socket_addr.SocketAddr.{SocketAddr}
use Rattle.fw_ledger.specs.declared.record.Ending.TheVariants.{Done}
use Rattle.fw_port.specs.Acts.{came, quiet, sent, told}
use Rattle.fw_daemon.specs.Acts.{Act}
use Rattle.fw_daemon.specs.Daemon.{Daemon, MayAsk, TakesTurn}
use Rattle.fw_daemon.specs.Events.{switched_by}
use Rattle.fw_daemon.specs.Rounds.{IsRound, with_reply}
use Rattle.fw_daemon.specs.Serving.{Serving}
use Rattle.fw_daemon.specs.declared.event.MeterEvent.{MeterEvent}
use Rattle.fw_rollout.specs.Leading.{Leader, Leading, Step, hears, sends, tells, acts_of, IsListed}
use Rattle.fw_rollout.specs.declared.ended.Ended.{Ended}
use Rattle.fw_world.specs.Headline.{IsDoneSafely}
use Rattle.fw_world.specs.Step.{Event, IsOpening, Run}
use Rattle.fw_world.specs.World.{Datagram}
use Rattle.fw_field.specs.Field.{Field, IsBeginning, is_saved, world_of}
use Rattle.fw_field.specs.Moves.{Move, round, step, MovesLead, TakesAs, WasAnswered, WasSent, to_meter, to_head}

-- what holds of each field that moves lead to, with the beginning one
abbrev pub AfterMoves : (Field → Field → Type 0) → Type 0
AfterMoves P =
    (addresses : ℕ → List SocketAddr) (beginning now : Field) (moves : List Move) → IsBeginning beginning → MovesLead addresses beginning moves now → P beginning now

-- the world that the one field is leads to that of the other
abbrev pub IsRun : Field → Field → Type 0
IsRun beginning now = IsOpening (world_of beginning) × (events : List Event) × Run (world_of beginning) events (world_of now)

-- a row that was reported as done is done in the book that every power cut leaves, and in that in memory
pub record IsKeptDone (f : Field) (ended : Ended) : Type 0 where
  pub saved : is_saved f ended.campaign ended.meter ≡ true
  pub done : (world_of f).done ended.campaign ended.meter ≡ true

abbrev pub ReportsAreKept : Field → Type 0
ReportsAreKept f = (ended : Ended) → Contains f.told ended → ended.ending ≡ Done → IsKeptDone f ended

-- and its meter switched to the image of that campaign
abbrev pub ReportsAreTrue : Field → Type 0
ReportsAreTrue f = (ended : Ended) → Contains f.told ended → ended.ending ≡ Done → IsDoneSafely (world_of f) ended.campaign ended.meter

-- ---- what the loops of daemons do, as moves

-- a round is a turn, or a datagram that was taken, and the image is told that the meter switched to by it
abbrev pub RoundsAreTaken : Type 0
RoundsAreTaken =
    (before after : Daemon) (earlier later : List Act) (event : Option MeterEvent) → IsRound before earlier later event after
    → ((later ≡ quiet ∷ earlier) × (switched_by event ≡ None) × TakesTurn before after)
    ⊎ ((from : SocketAddr) × (datagram : List ℕ) × (reply : Option (List ℕ)) × (later ≡ with_reply from datagram reply earlier)
    × TakesAs before from datagram reply (switched_by event) after)

-- each datagram that came to the daemon of a meter from an address that may ask was sent to it in a field
abbrev pub CameToMeter : (ℕ → List SocketAddr) → Field → ℕ → List SocketAddr → List Act → Type 0
CameToMeter addresses f number heads acts =
    (from : SocketAddr) (datagram : List ℕ) → Contains acts (came from datagram) → MayAsk heads from
    → (head : ℕ) × WasSent addresses f number head from datagram

-- a round each time that the daemon waited for a datagram
abbrev pub rounds_of : ℕ → List Act → List Move
rounds_of number [] = []
rounds_of number (came from datagram ∷ acts) = rounds_of number acts ++ round number ∷ []
rounds_of number (quiet ∷ acts) = rounds_of number acts ++ round number ∷ []
rounds_of number (sent to bytes ∷ acts) = rounds_of number acts
rounds_of number (told report ∷ acts) = rounds_of number acts

-- all that a daemon sent was sent there, to the head end that has that address
abbrev pub AnswersAll : (ℕ → List SocketAddr) → ℕ → List Act → Field → Type 0
AnswersAll addresses number acts f =
    (to : SocketAddr) (bytes : List ℕ) → Contains acts (sent to bytes)
    → (head : ℕ) × Contains (addresses head) to × Contains f.sent (to_head head number bytes)

-- then what the daemon did is these rounds
abbrev pub ServingIsMoves : Type 0
ServingIsMoves =
    (addresses : ℕ → List SocketAddr) (f : Field) (number : ℕ) (start now : Daemon) (acts : List Act) → f.meters number ≡ Some start
    → Serving start acts now → CameToMeter addresses f number start.heads acts
    → (new : Field) × MovesLead addresses f (rounds_of number acts) new × (new.meters number ≡ Some now) × AnswersAll addresses number acts new

-- each datagram that came to a head end from the address of a meter was sent to it by that meter in a field
abbrev pub CameToHead : Field → ℕ → Leader → List Step → Type 0
CameToHead f number leader steps =
    (from : SocketAddr) (datagram : List ℕ) → Contains steps (hears from datagram) → WasAnswered f number leader from datagram

-- these steps as moves, the oldest first
abbrev pub moves_of : ℕ → List Step → List Move
moves_of number [] = []
moves_of number (made ∷ steps) = moves_of number steps ++ step number made ∷ []

-- all that the steps of a head end send was sent there, to a meter at that address, and all that they report was reported there
pub record DoesAll (number : ℕ) (start : Leader) (steps : List Step) (f : Field) : Type 0 where
  pub sent_all : (to : SocketAddr) (bytes : List ℕ) → Contains steps (sends to bytes)
      → (meter : ℕ) × IsListed start meter to × Contains f.sent (to_meter number meter bytes)
  pub told_all : (ended : Ended) → Contains steps (tells ended) → Contains f.told ended

-- then what the head end did is these moves
abbrev pub LeadingIsMoves : Type 0
LeadingIsMoves =
    (addresses : ℕ → List SocketAddr) (f : Field) (number : ℕ) (start now : Leader) (steps : List Step) → f.heads number ≡ Some start → start.going ≡ []
    → Leading start steps now → CameToHead f number start steps
    → (new : Field) × MovesLead addresses f (moves_of number steps) new × (new.heads number ≡ Some now) × DoesAll number start steps new

-- in a field that moves lead to, such a head end reports a row as done only if it is done safely in the field that it leads to
abbrev pub ToldIsTrue : Type 0
ToldIsTrue =
    (addresses : ℕ → List SocketAddr) (beginning f : Field) (moves : List Move) (number : ℕ) (start now : Leader) (steps : List Step)
    → IsBeginning beginning → MovesLead addresses beginning moves f → f.heads number ≡ Some start → start.going ≡ []
    → Leading start steps now → CameToHead f number start steps
    → (new : Field) × MovesLead addresses f (moves_of number steps) new × (new.heads number ≡ Some now)
    × ((ended : Ended) → Contains (acts_of steps) (told ended) → ended.ending ≡ Done → IsDoneSafely (world_of new) ended.campaign ended.meter)

-- ---- what one end sent comes to the other

-- what was sent stays so
abbrev pub SentStays : Type 0
SentStays =
    (addresses : ℕ → List SocketAddr) (f new : Field) (moves : List Move) (d : Datagram) → MovesLead addresses f moves new → Contains f.sent d → Contains new.sent d

-- What a head end sent to the address of a meter was sent to that meter, also after any moves: this is what is asked of all that comes to the
-- meter's daemon. No other meter has that address in the list of the head end.
abbrev pub SentComes : Type 0
SentComes =
    (addresses : ℕ → List SocketAddr) (f new : Field) (moves : List Move) (number meter : ℕ) (from at : SocketAddr) (start : Leader) (steps : List Step) (bytes : List ℕ)
    → DoesAll number start steps f → MovesLead addresses f moves new → Contains (addresses number) from
    → ((other : ℕ) → IsListed start other at → other ≡ meter) → Contains steps (sends at bytes)
    → WasSent addresses new meter number from bytes

-- What the daemon of a meter sent to an address of a head end was sent to that head end, also after any moves: this is what is asked of all
-- that comes to the head end. No other head end ever had that address, and no other meter has this one in the list of the head end.
abbrev pub AnswersCome : Type 0
AnswersCome =
    (addresses : ℕ → List SocketAddr) (f new : Field) (moves : List Move) (number head : ℕ) (to from : SocketAddr) (leader : Leader) (acts : List Act) (bytes : List ℕ)
    → AnswersAll addresses number acts f → MovesLead addresses f moves new → ((other : ℕ) → Contains (addresses other) to → other ≡ head)
    → ((other : ℕ) → IsListed leader other from → other ≡ number) → Contains acts (sent to bytes)
    → WasAnswered new head leader from bytes
