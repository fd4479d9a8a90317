-- Public vocabulary: links whose ends seal what they send. Whoever is on the network may send what he likes from any address, and change, hold
-- back, repeat and reorder what was sent. The one premise is on what he makes: of the bytes that came, none that are a sealing under the keys
-- of a link were made by others than the ends of that link.
use Rattle.std.specs.Prelude.{◌≡◌, ℕ, List, Contains}
use Rattle.fw_seal.specs.Sealing.{Ends, IsSealing, Keys}
use Rattle.fw_wrapper.specs.Wrapper.{Wraps, wrapped, wport}
use Rattle.fw_world.specs.World.{Datagram}
use Rattle.fw_world.specs.declared.datagram.Direction.{Direction}
use Rattle.fw_world.specs.declared.datagram.Direction.TheVariants.{ToMeter, ToHead}
use Rattle.fw_field.specs.Field.{Field}

-- the keys of the link of each head end and each meter, which only these two have, and the system title of the end that sends this way on it
pub record Links : Type 0 where
  pub keys : ℕ → ℕ → Keys
  pub title : ℕ → ℕ → Direction → List ℕ

-- what the head end of a link knows of it, and what the meter does
abbrev pub head_end : Links → ℕ → ℕ → Ends
head_end links head meter = record { keys = links.keys head meter; own = links.title head meter ToMeter; other = links.title head meter ToHead }

abbrev pub meter_end : Links → ℕ → ℕ → Ends
meter_end links head meter = record { keys = links.keys head meter; own = links.title head meter ToHead; other = links.title head meter ToMeter }

-- an APDU that an end of a link sealed, which way it goes there, and the counter that it was sealed with
pub record Seal : Type 0 where
  pub head : ℕ
  pub meter : ℕ
  pub direction : Direction
  pub counter : ℕ
  pub apdu : List ℕ

-- the number of the end that sealed it
abbrev pub end_of : Direction → ℕ → ℕ → ℕ
end_of ToMeter head meter = head
end_of ToHead head meter = meter

abbrev pub sealer : Seal → ℕ
sealer s = end_of s.direction s.head s.meter

-- the datagram whose APDU it is, as its end sent it in plain words: each end has wPort 1 there, whatever stands on the wire
abbrev pub plain_of : Seal → Datagram
plain_of s = record { head = s.head; meter = s.meter; direction = s.direction; bytes = wrapped wport wport s.apdu }

-- ends seal only what they sent
abbrev pub SealsWhatIsSent : List Seal → Field → Type 0
SealsWhatIsSent seals f = (s : Seal) → Contains seals s → Contains f.sent (plain_of s)

-- bytes on the wire that carry, between whatever wPorts, a sealing of this APDU, under these keys, by the end with this title
pub record Opens (keys : Keys) (title : List ℕ) (counter : ℕ) (apdu wire : List ℕ) : Type 0 where
  pub source : ℕ
  pub dest : ℕ
  pub sealing : List ℕ
  pub wraps : Wraps wire source dest sealing
  pub opens : IsSealing keys title counter apdu sealing

-- they are this one, under the keys of its link
abbrev pub IsOn : Links → Seal → List ℕ → Type 0
IsOn links s wire = Opens (links.keys s.head s.meter) (links.title s.head s.meter s.direction) s.counter s.apdu wire

-- No forgery: whatever sealing on whatever link these bytes are, the end of that link made it. It is asked of bytes that came, and not of all
-- strings: some string that nobody sealed has a right tag.
abbrev pub IsGenuine : Links → List Seal → List ℕ → Type 0
IsGenuine links seals wire = (s : Seal) → IsOn links s wire → Contains seals s

abbrev pub NoneForged : Links → List Seal → List (List ℕ) → Type 0
NoneForged links seals arrived = (wire : List ℕ) → Contains arrived wire → IsGenuine links seals wire

-- a datagram came as one on this link this way: bytes that came carry a sealing of its APDU by the end that sends so
pub record CameSealed (links : Links) (arrived : List (List ℕ)) (head meter : ℕ) (direction : Direction) (datagram : List ℕ) : Type 0 where
  pub wire : List ℕ
  pub there : Contains arrived wire
  pub counter : ℕ
  pub apdu : List ℕ
  pub opens : IsOn links (record { head = head; meter = meter; direction = direction; counter = counter; apdu = apdu }) wire
  pub plain : datagram ≡ wrapped wport wport apdu
