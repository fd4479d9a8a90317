-- Public vocabulary: a fleet, the ends whose logs are audited together, and what an audit finds of it.
use Rattle.std.specs.Prelude.{◌≡◌, ◌≢◌, ◌++◌, ℕ, List, map, All, AllPairs, Contains}
use Rattle.std.specs.declared.net.socket_addr.SocketAddr.{SocketAddr}
use Rattle.fw_store.specs.Setup.{IsSetup}
use Rattle.fw_store.specs.declared.version.HeaderVersion.{HeaderVersion}
use Rattle.fw_image.specs.Fresh.{fresh_meter}
use Rattle.fw_image.specs.Meter.{Meter}
use Rattle.fw_book.specs.Contents.{Contents, IsBook}
use Rattle.fw_audit.specs.Log.{Item}
use Rattle.fw_audit.specs.Stands.{IsMeterLog, MayAsk}
use Rattle.fw_fleet_audit.specs.Laws.{Told}
use Rattle.fw_head_audit.specs.Heads.{IsHeadLog}
use Rattle.fw_head_audit.specs.declared.meter.AskedMeter.{AskedMeter}
use Rattle.fw_order.specs.Order.{End, HasOrder}

-- a head end: the address that others see of it, its book, which has its number, the meters that it asks, and its log
pub record HeadEnd : Type 0 where
  pub at : SocketAddr
  pub book : Contents
  pub asked : List AskedMeter
  pub log : List Item

-- a meter: the address that others see of it, and what its audit was given and found, with its number and its log
pub record MeterEnd : Type 0 where
  pub at : SocketAddr
  pub told : Told

pub record Fleet : Type 0 where
  pub heads : List HeadEnd
  pub meters : List MeterEnd

abbrev pub end_of_head : HeadEnd → End
end_of_head head = record { at = head.at; log = head.log }

abbrev pub end_of_meter : MeterEnd → End
end_of_meter meter = record { at = meter.at; log = meter.told.log }

-- all ends, with their logs
abbrev pub ends_in : Fleet → List End
ends_in fleet = map end_of_meter fleet.meters ++ map end_of_head fleet.heads

abbrev pub address_of_end : End → SocketAddr
address_of_end end = end.at

abbrev pub number_of_meter : MeterEnd → ℕ
number_of_meter meter = meter.told.meter

abbrev pub book_of_head : HeadEnd → Contents
book_of_head head = head.book

abbrev pub books_in : Fleet → List Contents
books_in fleet = map book_of_head fleet.heads

abbrev pub number_of_book : Contents → ℕ
number_of_book book = book.head

-- a meter of the fleet has this number
abbrev pub IsNumber : Fleet → ℕ → Type 0
IsNumber fleet number = (meter : MeterEnd) × Contains fleet.meters meter × (meter.told.meter ≡ number)

-- ---- who knows whom

-- a head end has this address
abbrev pub IsHeadAt : Fleet → SocketAddr → Type 0
IsHeadAt fleet address = (head : HeadEnd) × Contains fleet.heads head × (head.at ≡ address)

-- who may ask a meter is a head end of the fleet
abbrev pub IsAskedByHeads : Fleet → MeterEnd → Type 0
IsAskedByHeads fleet meter = (from : SocketAddr) → MayAsk meter.told.heads from → IsHeadAt fleet from

-- it is a meter of the fleet, at its address
abbrev pub IsMeterOf : Fleet → AskedMeter → Type 0
IsMeterOf fleet asked = (meter : MeterEnd) × Contains fleet.meters meter × ((meter.told.meter ≡ asked.meter) × (meter.at ≡ asked.at))

-- whom a head end asks is a meter of the fleet
abbrev pub AsksMeters : Fleet → HeadEnd → Type 0
AsksMeters fleet head = All (IsMeterOf fleet) head.asked

-- ---- the premises

-- a new meter, as any store that can be made holds it
abbrev pub IsNew : Meter → Type 0
IsNew meter =
    (version : HeaderVersion) × (block_size capacity : ℕ) × (factory : List ℕ) × IsSetup version block_size capacity factory
    × (meter ≡ fresh_meter version block_size capacity factory)

-- It is the log of a meter, which began as a new one.
pub record IsMeterSound (fleet : Fleet) (meter : MeterEnd) : Type 0 where
  pub begins : IsNew meter.told.begin
  pub log : IsMeterLog meter.told.heads meter.told.begin meter.told.log meter.told.images meter.told.end
  pub asked : IsAskedByHeads fleet meter

-- It is the log of a head end with its book.
pub record IsHeadSound (fleet : Fleet) (head : HeadEnd) : Type 0 where
  pub book : IsBook head.book
  pub log : IsHeadLog head.book head.asked head.log
  pub asks : AsksMeters fleet head

-- Each log is that of its end, and all of them have one order. No two ends have one address, no two meters one number, and no two books.
pub record IsAudited (fleet : Fleet) : Type 0 where
  pub meters : All (IsMeterSound fleet) fleet.meters
  pub heads : All (IsHeadSound fleet) fleet.heads
  pub order : HasOrder (ends_in fleet)
  pub addresses : AllPairs ◌≢◌ (map address_of_end (ends_in fleet))
  pub numbers : AllPairs ◌≢◌ (map number_of_meter fleet.meters)
  pub books : AllPairs ◌≢◌ (map number_of_book (books_in fleet))
