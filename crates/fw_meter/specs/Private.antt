-- For private clauses alone: what the types of the code stand for.
use Rattle.std.specs.Prelude.{◌≡◌, ◌≤◌, ◌⊎◌, ℕ, Bool, false, IsTrue, List, [], Option, Some, None, vec_capacity}
use Rattle.std.specs.Global.{Vec}
use Rattle.std.specs.FinMap.{empty}
use Rattle.fw_names.specs.Name.{factory}
use Rattle.fw_image.specs.Meter.{Meter, idle}
use Rattle.fw_image.specs.Calls.{calls_for, left_by_fault}
use Rattle.fw_store.specs.Faults.{Spends}
use Rattle.fw_store.specs.declared.fuse.Fuse.{Fuse}
use Rattle.fw_apdu.specs.Request.{is_confirmed}
use Rattle.fw_apdu.specs.View.{request_content, request_invoke}
use Rattle.fw_server.specs.Meaning.{Meaning}
use Rattle.fw_image.specs.Phases.{state_in, IsInPhase}
use Rattle.fw_image.specs.State.{State, Follows, Counts, Makes}
use Rattle.fw_image.specs.Step as image
use Rattle.fw_image.specs.declared.phase.Phase.{Phase}
use Rattle.fw_meter.specs.Step.{coded, tells_no_fault, operation_code, MeterStep}
use Rattle.fw_meter.specs.Handling.{Brings, BringsNothing}
use Rattle.fw_meter.specs.Stopping.{AsksFor}
use Rattle.fw_meter.specs.declared.serving.Heard.{Heard}

-- what a datagram brought
abbrev pub IsHeard : List ℕ → Option Heard → Type 0
IsHeard datagram (Some heard) = Brings datagram heard.source (request_invoke heard.request) (request_content heard.request)
IsHeard datagram None = BringsNothing datagram

-- room for the datagram that carries a code back, of 13 bytes at most, just if a response was asked for
abbrev pub IsRoomFor : Heard → Option (Vec ℕ) → Type 0
IsRoomFor heard None = is_confirmed (request_invoke heard.request) ≡ false
IsRoomFor heard (Some room) = IsTrue (is_confirmed (request_invoke heard.request)) × (room.items ≡ []) × (13 ≤ vec_capacity room)

-- an operation is made, and has this code
abbrev pub IsMade : State → image.Operation → ℕ → State → Type 0
IsMade old operation c new = (outcome : image.OperationOutcome) × Makes old operation outcome new × (c ≡ operation_code outcome)

-- the calls of its store that a meter makes for an operation: those that it takes, or none if a line refuses it
abbrev pub CallsFor : Meter → image.Operation → ℕ → Type 0
CallsFor m operation calls = (image.Serves m operation × (calls ≡ calls_for m operation)) ⊎ (¬ image.Serves m operation × (calls ≡ 0))

-- and for a request: none if it asks for no operation
abbrev pub CallsOf : Meter → Meaning → ℕ → Type 0
CallsOf m asked calls =
    ((operation : image.Operation) × AsksFor asked operation × CallsFor m operation calls)
    ⊎ (((operation : image.Operation) → ¬ AsksFor asked operation) × (calls ≡ 0))

-- the operation that a request asks for was served, a call of the store failed and left this byte, and the meter is as that leaves it
pub record IsLeftBy (torn : ℕ) (old : Meter) (asked : Meaning) (new : Meter) : Type 0 where
  pub operation : image.Operation
  pub asks : AsksFor asked operation
  pub serves : image.Serves old operation
  pub left : new ≡ left_by_fault torn old operation

-- what is known of the store's calls for a request, of which none failed or one did
pub record IsCalled (old : State) (asked : Meaning) (new : State) (faultless : Bool) : Type 0 where
  pub counts : Counts old new faultless
  pub calls : ℕ
  pub makes : CallsOf old.meter asked calls
  pub spends : Spends calls old.fuse new.fuse faultless
  pub left : IsTrue old.honest → (set : Fuse) → old.fuse ≡ Some set → faultless ≡ false → IsLeftBy set.torn old.meter asked new.meter

-- the meter's step on a meaning, with this code
pub record Steps (old : State) (asked : Meaning) (c : ℕ) (new : State) : Type 0 where
  pub step : MeterStep old.honest old.meter asked (coded c) new.meter
  pub follows : Follows old new
  pub called : IsCalled old asked new (tells_no_fault (coded c))

-- a phase is there
abbrev pub IsThere : {S : Type 0} → Option (Phase S) → Type 0
IsThere None = ⊥
IsThere (Some phase) = IsInPhase phase

-- what stands for the state while the phase is out, which no clause sees
abbrev pub no_state : State
no_state = record {
  meter = record { block_size = 0; capacity = 0; limit = 0; enabled = false; phase = idle; cells = empty; running = record { name = record { campaign = factory; release = 0; digest = [] }; bytes = [] } };
  device = record { head = []; first = []; second = [] };
  honest = false;
  sound = false;
  faults = 0;
  fuse = None;
}

-- the state of the phase
abbrev pub state_there : {S : Type 0} → Option (Phase S) → State
state_there None = no_state
state_there (Some phase) = state_in phase
