-- Private vocabulary: what was added to a log, part by part.
use Rattle.std.specs.Prelude.{◌≡◌, ◌≤◌, ℕ, ◌-◌, Option, Some, None, List, [], ◌∷◌, ◌++◌, length, map, All}
use Rattle.fw_world.specs.View.{event_of}
use Rattle.fw_world.specs.World.{Datagram}
use Rattle.fw_air.specs.declared.log.Part.{Part}
use Rattle.fw_air.specs.declared.log.Chain.{Chain, End, Link'}
use Rattle.fw_air.specs.Logs.{Entry, IsCounted, IsLast, capped}

-- the oldest first
abbrev pub parts : Chain → List Part
parts End = []
parts (Link' part p older) = parts older ++ part ∷ []

abbrev pub datagrams_of : List Part → List Datagram
datagrams_of [] = []
datagrams_of (part ∷ others) = part.sent.items ++ datagrams_of others

abbrev pub entry_of : Part → Entry
entry_of part = record { event = event_of part.event; count = length part.sent.items }

abbrev pub entries_of : List Part → List Entry
entries_of all = map entry_of all

-- what was sent and what happened, with how many of both there are
pub record IsKept (sent : List Datagram) (entries : List Entry) (events datagrams : ℕ) : Type 0 where
  pub counted : IsCounted (record { sent = sent; entries = entries })
  pub events_are : events ≡ capped (length entries)
  pub datagrams_are : datagrams ≡ capped (length sent)

-- the greatest number of a datagram of which P holds, where the first has this number
abbrev pub FindsLastFrom : ℕ → Option ℕ → List Datagram → (Datagram → Type 0) → Type 0
FindsLastFrom first None all P = All (λ d. ¬ P d) all
FindsLastFrom first (Some number) all P = (first ≤ number) × IsLast all P (number - first)
