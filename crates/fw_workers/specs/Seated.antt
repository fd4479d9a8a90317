-- Public vocabulary: which head end or meter an event of a worker is at, and what it leaves at the seat.
use Rattle.std.specs.List.{find}
use Rattle.std.specs.Prelude.{◌≡◌, ◌⊎◌, ℕ, ◌≤◌, ◌==◌, List, Option}
use Rattle.fw_head.specs.declared.news.News.{News}
use Rattle.fw_shared.specs.Acts.{Desk, HasHeard}
use Rattle.fw_shared.specs.Seat.{Seat, noted}
use Rattle.fw_world.specs.Step.{Event, turn}

-- of the head ends that workers share, the one of this number
abbrev pub desk_of : List Desk → ℕ → Option Desk
desk_of desks head = find (λ (desk : Desk). desk.book.head == head) desks

-- of the numbers of the meters that workers share, this one
abbrev pub meter_of : List ℕ → ℕ → Option ℕ
meter_of meters meter = find (λ (number : ℕ). number == meter) meters

-- a seat that has looked at the board at most, as it does for the gate
abbrev pub HasLooked : Seat → Seat → Type 0
HasLooked old new = (old.seen ≤ new.seen) × (new ≡ record old { seen = new.seen })

-- the seat of a worker that was at the gate and made this event, under this number
abbrev pub HasMade : Seat → ℕ → Event → Seat → Type 0
HasMade old number event new = (seat : Seat) × HasLooked old seat × (new ≡ noted seat number event)

-- the seat of a worker that was at the gate and let a head end hear the datagram of this number
abbrev pub HasLetHear : Seat → ℕ → Seat → Type 0
HasLetHear old number new = (seat : Seat) × (told : News) × HasLooked old seat × HasHeard told seat number new

-- the seat of a worker that made a turn of this meter, where it verified
abbrev pub HasTurned : Seat → ℕ → Seat → Type 0
HasTurned old meter new = ((number : ℕ) × HasMade old number (turn meter) new) ⊎ HasLooked old new
