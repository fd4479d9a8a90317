-- For private clauses alone: the addresses of several meters in one process, their files, who may ask them, and their rounds.
use Rattle.std.specs.Prelude.{◌≡◌, ℕ, zero, suc, ◌+◌, ◌-◌, ◌<◌, ◌≤◌, ◌==◌, if◌then◌else◌, List, [], ◌∷◌, ◌++◌, Bool, Option, Some, codes, decimal, get_or, length, map, set}
use Rattle.std.specs.declared.net.socket_addr.SocketAddr.{SocketAddr}
use Rattle.std.specs.Net.Socket.{socket_ip, socket_port, SameFlowAndScope}
use Rattle.fw_daemon.specs.Daemon.{Daemon, daemon_of}
use Rattle.fw_daemon.specs.Rounds.{GoesRounds, events_in}
use Rattle.fw_daemon.specs.declared.event.MeterEvent.{MeterEvent}
use Rattle.fw_cli.specs.Telling.{Happening, IsSaid, happenings_by}
use Rattle.fw_cli.specs.declared.fleet.Member.{Member}

-- The ports of --count: that of the meter of this number, from 1 on, if the first meter has this one. Of port 0 the system picks one for
-- each.
abbrev pub port_of : ℕ → ℕ → ℕ
port_of first number = if first == 0 then 0 else first + (number - 1)

-- the address of the meter of this number, where the first meter has this address
pub record IsAddressOf (first : SocketAddr) (number : ℕ) (at : SocketAddr) : Type 0 where
  pub ip : socket_ip at ≡ socket_ip first
  pub port : socket_port at ≡ port_of (socket_port first) number
  pub others : SameFlowAndScope first at

-- the path of the file of the meter of this number, where that of the options is `store`
abbrev pub path_of : List ℕ → ℕ → List ℕ
path_of store number = store ++ (codes "." ++ decimal number)

-- just these addresses may ask a meter
abbrev pub HasHeads : List SocketAddr → Member → Type 0
HasHeads heads member = (daemon_of member.daemon).heads ≡ heads

-- ---- their turns

-- the most rounds of one meter before the others have their turn
abbrev pub most_rounds : ℕ
most_rounds = 16

abbrev pub daemons_of : List Member → List Daemon
daemons_of members = map (λ (member : Member). daemon_of member.daemon) members

-- A turn of the meter at a place, from 0 on: the rounds that it makes one after another, the newest first, each with what there is to tell of it.
abbrev pub FleetTurn : Type 0
FleetTurn = ℕ × List (Option MeterEvent)

-- the meter at its place has this turn
pub record OneGoes (old : List Daemon) (turn : FleetTurn) (new : List Daemon) : Type 0 where
  pub before : Daemon
  pub after : Daemon
  pub within : turn.0 < length old
  pub there : get_or old turn.0 before ≡ before
  pub goes : GoesRounds before turn.1 after
  pub few : length turn.1 ≤ most_rounds
  pub others : new ≡ set old turn.0 after

-- meters had these turns, the newest first
abbrev pub AllGo : List Daemon → List FleetTurn → List Daemon → Type 0
AllGo start [] now = now ≡ start
AllGo start (turn ∷ turns) now = (before : List Daemon) × AllGo start turns before × OneGoes before turn now

-- what happened in them, the oldest first: the number of a meter is one more than its place
abbrev pub happenings_of : List FleetTurn → List Happening
happenings_of [] = []
happenings_of (turn ∷ turns) = happenings_of turns ++ happenings_by (Some (turn.0 + 1)) (events_in turn.1)

-- ---- who watches them

-- who watches was told of this meanwhile, the oldest first
abbrev pub IsTold : {W : Type 0} → (W → List Happening → W → Type 0) → List Happening → W → W → Type 0
IsTold {W} tells happenings old new =
    (start : W) (before : List Happening) → tells start before old → tells start (before ++ happenings) new

-- the meter of this number made a turn's rounds, and who watches was told of just what happened in them
pub record OneIsWatched {W : Type 0} (tells : W → List Happening → W → Type 0) (number : ℕ) (start : Daemon) (old : W) (now : Daemon) (new : W) : Type 0 where
  pub rounds : List (Option MeterEvent)
  pub made : GoesRounds start rounds now
  pub few : length rounds ≤ most_rounds
  pub told : IsTold tells (happenings_by (Some number) (events_in rounds)) old new

-- meters had turns, and who watches them was told of just what happened in them
pub record AreWatched {W : Type 0} (tells : W → List Happening → W → Type 0) (start : List Daemon) (old : W) (now : List Daemon) (new : W) : Type 0 where
  pub turns : List FleetTurn
  pub made : AllGo start turns now
  pub told : IsTold tells (happenings_of turns) old new

-- the places below one, the last first
abbrev pub places_below : ℕ → List ℕ
places_below zero = []
places_below (suc place) = place ∷ places_below place

-- a pass: each of so many meters had one turn, in their order
pub record HadPass {W : Type 0} (tells : W → List Happening → W → Type 0) (count : ℕ) (start : List Daemon) (old : W) (now : List Daemon) (new : W) : Type 0 where
  pub turns : List FleetTurn
  pub made : AllGo start turns now
  pub each : map (λ (turn : FleetTurn). turn.0) turns ≡ places_below count
  pub told : IsTold tells (happenings_of turns) old new

-- meters had turns, and just what happened in them was told
pub record TellsAll (start now : List Daemon) (was_lost is_lost : Bool) (before after : Option (List ℕ)) : Type 0 where
  pub turns : List FleetTurn
  pub made : AllGo start turns now
  pub said : IsSaid (happenings_of turns) was_lost is_lost before after
