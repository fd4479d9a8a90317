-- Public vocabulary: the log of what was sent and of what happened.
use Rattle.std.specs.Prelude.{Option, Some, None, Result, IsSome, MatchResult, ◌≡◌, ℕ, ◌-◌, ◌^◌, min, List, ◌∷◌, ◌++◌, length, All}
use Rattle.std.specs.List.{sum_by}
use Rattle.fw_world.specs.declared.datagram.Actor.{Actor}
use Rattle.fw_world.specs.View.{sender, addressee}
use Rattle.fw_world.specs.World.{Datagram}
use Rattle.fw_world.specs.Step.{Event}

-- an event, and how many datagrams it added to what was sent
pub record Entry : Type 0 where
  pub event : Event
  pub count : ℕ

-- all datagrams that were sent, and all events that happened, each in order
pub record Log : Type 0 where
  pub sent : List Datagram
  pub entries : List Entry

-- an event that was added, under its number
pub record Appended : Type 0 where
  pub number : ℕ
  pub event : Event

-- the numbers of datagrams that the events added sum to how many were sent
abbrev pub IsCounted : Log → Type 0
IsCounted log = sum_by (λ e. e.count) log.entries ≡ length log.sent

-- A copy of the datagram that is wanted, or nothing if there is none. Only a copy takes memory.
abbrev pub IsCopy : {E : Type 0} → Result (Option Datagram) E → Option Datagram → Type 0
IsCopy result wanted = MatchResult result (λ found. found ≡ wanted) (λ _. IsSome wanted)

-- a number stays at 2^64 - 1 once it is there
abbrev pub capped : ℕ → ℕ
capped n = min n (2 ^ 64 - 1)

-- a datagram with these bytes, by this sender for this addressee
pub record IsSent (from to : Actor) (bytes : List ℕ) (datagram : Datagram) : Type 0 where
  pub by : sender datagram ≡ from
  pub goes_to : addressee datagram ≡ to
  pub says : datagram.bytes ≡ bytes

-- P holds of the datagram of this number, from 0 on, and of none after it
pub record IsLast (all : List Datagram) (P : Datagram → Type 0) (number : ℕ) : Type 0 where
  pub before : List Datagram
  pub found : Datagram
  pub later : List Datagram
  pub all_are : all ≡ before ++ found ∷ later
  pub number_is : number ≡ length before
  pub holds : P found
  pub none_later : All (λ d. ¬ P d) later

-- the greatest number of a datagram of which P holds, if there is one
abbrev pub FindsLast : Option ℕ → List Datagram → (Datagram → Type 0) → Type 0
FindsLast None all P = All (λ d. ¬ P d) all
FindsLast (Some number) all P = IsLast all P number
