-- Public vocabulary: the laws of a meter.
use Rattle.std.specs.Prelude.{◌≡◌, ◌⊎◌, Bool, true, IsTrue, List, ℕ, length, Option, Some, None}
use Rattle.std.specs.FinMap.{get}
use Rattle.fw_axdr.specs.Value.{octet_string}
use Rattle.fw_wrapper.specs.Wrapper.{Wraps}
use Rattle.fw_apdu.specs.Request.{RequestContent}
use Rattle.fw_apdu.specs.Response.{value, get_response, SpellsResponse}
use Rattle.fw_names.specs.Name.{Name, IsName, SpellsName}
use Rattle.fw_server.specs.Meaning.{meaning_of, block}
use Rattle.fw_store.specs.declared.header.Goal.{Goal}
use Rattle.fw_image.specs.Meter.{Meter, receiving, reopened}
use Rattle.fw_image.specs.State.{State, Counts}
use Rattle.fw_image.specs.Step.{IsBlock, with_cell, Turn}
use Rattle.fw_meter.specs.Handling.{Brings, Handles}
use Rattle.fw_meter.specs.Stopping.{StopsAfter}

-- over an honest store that doesn't fail, a meter and a datagram determine the reply, the activation and the meter afterwards
abbrev pub OneAnswer : Type 0
OneAnswer =
    (old new other : Meter) (datagram : List ℕ) (r s : Option (List ℕ)) (a b : Option Name)
    → Handles true IsTrue old datagram r a new → Handles true IsTrue old datagram s b other → (r ≡ s) × (a ≡ b) × (new ≡ other)

-- over an honest store that doesn't fail, whatever a meter does with a datagram leaves it its capacity
abbrev pub KeepsSize : Type 0
KeepsSize = (old new : Meter) (datagram : List ℕ) (reply : Option (List ℕ)) (activated : Option Name) → Handles true IsTrue old datagram reply activated new
    → new.capacity ≡ old.capacity

-- over an honest store that doesn't fail, a datagram is handled without a hardware fault
abbrev pub Faultless : Type 0
Faultless =
    (old new : State) (datagram : List ℕ) (reply : Option (List ℕ)) (activated : Option Name) → IsTrue old.honest → IsTrue old.sound
    → Handles old.honest (Counts old new) old.meter datagram reply activated new.meter → Handles true IsTrue old.meter datagram reply activated new.meter

-- a block of the goal that was there is written again, and the write is cut: any bytes of its length stand in its cell
pub record TearsBlock (old : Meter) (datagram : List ℕ) (new : Meter) : Type 0 where
  pub source : ℕ
  pub invoke : ℕ
  pub content : RequestContent
  pub goal : Goal
  pub number : ℕ
  pub value : List ℕ
  pub there : List ℕ
  pub left : List ℕ
  pub brings : Brings datagram source invoke content
  pub asks : meaning_of content ≡ block number value
  pub receives : old.phase ≡ receiving goal
  pub is_block : IsBlock old.block_size goal.size number value
  pub was : get old.cells number ≡ Some there
  pub size : length left ≡ length value
  pub torn : new ≡ with_cell old number left

-- What a stop may leave of a meter over an honest store while it handles a datagram, at whatever call of its store: the meter as it was,
-- or as it was except for the block that is being written, or as it is without the stop. An activation is one that took effect.
abbrev pub Stops : Meter → List ℕ → Option Name → Meter → Type 0
Stops old datagram activated new =
    ((new ≡ old) × (activated ≡ None))
    ⊎ ((TearsBlock old datagram new × (activated ≡ None))
    ⊎ ((reply : Option (List ℕ)) × Handles true IsTrue old datagram reply activated new))

-- whichever call of an honest store fails, the meter is left as a stop may leave it
abbrev pub FaultIsStop : Type 0
FaultIsStop =
    (old new : State) (datagram : List ℕ) (reply : Option (List ℕ)) (activated : Option Name) → IsTrue old.honest
    → Handles old.honest (Counts old new) old.meter datagram reply activated new.meter → Stops old.meter datagram activated new.meter

-- what a stop after some calls leaves is what a stop may leave
abbrev pub StopAfterIsStop : Type 0
StopAfterIsStop =
    (calls torn : ℕ) (old new : Meter) (datagram : List ℕ) (activated : Option Name) → StopsAfter calls torn old datagram activated new → Stops old datagram activated new

-- a meter, a datagram, the number of calls and the torn byte determine what a stop leaves
abbrev pub OneStop : Type 0
OneStop =
    (calls torn : ℕ) (old new other : Meter) (datagram : List ℕ) (a b : Option Name)
    → StopsAfter calls torn old datagram a new → StopsAfter calls torn old datagram b other → (a ≡ b) × (new ≡ other)

-- Whichever call of an honest store fails in a turn, the meter is left in one of two ways: as it was, except that no verification goes on;
-- or as it is without the failure.
abbrev pub TurnFaultIsStop : Type 0
TurnFaultIsStop =
    (old new : State) (faultless : Bool) → IsTrue old.honest → Turn old.honest old.meter faultless new.meter
    → (new.meter ≡ reopened old.meter) ⊎ Turn true old.meter true new.meter

-- a datagram, between whatever wPorts, carries an answer to a GET: an octet-string of these bytes
pub record TellsString (datagram bytes : List ℕ) : Type 0 where
  pub source : ℕ
  pub dest : ℕ
  pub invoke : ℕ
  pub apdu : List ℕ
  pub wraps : Wraps datagram source dest apdu
  pub spells : SpellsResponse apdu invoke (get_response (value (octet_string bytes)))

-- Of all that a meter replies to a GET, an octet-string of 41 or 45 bytes spells the name of the image that runs, where that has a spelling.
-- No call of the store failed: after one that did, no value is returned. The store may be honest or not.
abbrev pub TellsRunning : Type 0
TellsRunning =
    (honest : Bool) (old new : Meter) (datagram reply bytes : List ℕ) (activated : Option Name) → IsName old.running.name
    → Handles honest IsTrue old datagram (Some reply) activated new → TellsString reply bytes
    → (length bytes ≡ 41) ⊎ (length bytes ≡ 45) → SpellsName bytes old.running.name
