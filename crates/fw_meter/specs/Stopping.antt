-- Public vocabulary: how many calls of its store a meter makes for a datagram, and what a stop after some of them leaves.
use Rattle.std.specs.Prelude.{◌≡◌, ◌⊎◌, ◌<◌, ◌≤◌, ℕ, Bool, true, IsTrue, List, Option, None}
use Rattle.fw_names.specs.Name.{Name, SpellsName}
use Rattle.fw_apdu.specs.Request.{RequestContent}
use Rattle.fw_store.specs.Faults.{Spends}
use Rattle.fw_server.specs.Meaning as meaning
use Rattle.fw_server.specs.Meaning.{Meaning, meaning_of}
use Rattle.fw_image.specs.Calls.{calls_for, left_by_fault}
use Rattle.fw_image.specs.Meter.{Meter}
use Rattle.fw_image.specs.State.{State, Counts}
use Rattle.fw_image.specs.Step as image
use Rattle.fw_image.specs.Step.{Operation, Serves}
use Rattle.fw_meter.specs.Handling.{Brings, Handles}

-- the operation that a request asks for: an initiate whose identifier is no name asks for none
abbrev pub AsksFor : Meaning → Operation → Type 0
AsksFor (meaning.enable b) operation = operation ≡ image.enable b
AsksFor (meaning.initiate identifier size) operation = (name : Name) × SpellsName identifier name × (operation ≡ image.initiate name size)
AsksFor (meaning.block i value) operation = operation ≡ image.block i value
AsksFor meaning.verify operation = operation ≡ image.verify
AsksFor meaning.activate operation = operation ≡ image.activate
AsksFor asked operation = ⊥

-- a datagram brings a request for an operation, which no line refuses
pub record IsServed (m : Meter) (datagram : List ℕ) (operation : Operation) : Type 0 where
  pub source : ℕ
  pub invoke : ℕ
  pub content : RequestContent
  pub brings : Brings datagram source invoke content
  pub asks : AsksFor (meaning_of content) operation
  pub serves : Serves m operation

-- the calls of its store that a meter makes for a datagram: those of the operation that it serves, or none
abbrev pub MakesCalls : Meter → List ℕ → ℕ → Type 0
MakesCalls m datagram calls =
    ((operation : Operation) × IsServed m datagram operation × (calls ≡ calls_for m operation))
    ⊎ (((operation : Operation) → ¬ IsServed m datagram operation) × (calls ≡ 0))

-- a meter made these calls of its store for a datagram, and one that failed is the last of them
pub record CallsStore (old : State) (datagram : List ℕ) (new : State) : Type 0 where
  pub calls : ℕ
  pub faultless : Bool
  pub makes : MakesCalls old.meter datagram calls
  pub counts : Counts old new faultless
  pub spends : Spends calls old.fuse new.fuse faultless

-- ---- stops

-- the operation needs more calls: the first one after these fails
pub record IsCutShort (calls torn : ℕ) (old : Meter) (datagram : List ℕ) (activated : Option Name) (new : Meter) : Type 0 where
  pub operation : Operation
  pub served : IsServed old datagram operation
  pub short : calls < calls_for old operation
  pub none : activated ≡ None
  pub left : new ≡ left_by_fault torn old operation

-- the calls are enough, and the datagram is handled as without a stop
pub record IsWhole (calls : ℕ) (old : Meter) (datagram : List ℕ) (activated : Option Name) (new : Meter) : Type 0 where
  pub reply : Option (List ℕ)
  pub handles : Handles true IsTrue old datagram reply activated new
  pub enough : (operation : Operation) → IsServed old datagram operation → calls_for old operation ≤ calls

-- A meter over an honest store handles a datagram, and the calls of its store fail after the first `calls` of them, with the byte `torn` in
-- what was being written. An activation is one that took effect.
abbrev pub StopsAfter : ℕ → ℕ → Meter → List ℕ → Option Name → Meter → Type 0
StopsAfter calls torn old datagram activated new =
    IsCutShort calls torn old datagram activated new ⊎ IsWhole calls old datagram activated new
