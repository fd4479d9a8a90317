-- Public vocabulary: why a meter refused an initiate that a datagram answers (IEC 62056-6-2, image_transfer_initiate; own rules of which
-- images can be initiated).
use Rattle.std.specs.Prelude.{◌≡◌, ℕ, ◌<◌, ◌≤◌, ◌==◌, ◌⊎◌, if◌then◌else◌, List, [], ◌∷◌, ◌++◌, take, length, slice_get, slice_index_or, Option, Some, None, codes, decimal}
use Rattle.fw_names.specs.Name.{is_risen}
use Rattle.fw_apdu.specs.Cosem.{other_reason}
use Rattle.fw_image.specs.Meter.{Meter}
use Rattle.fw_world.specs.declared.datagram.Direction.{Direction}
use Rattle.fw_world.specs.declared.datagram.Direction.TheVariants.{ToMeter}
use Rattle.fw_world.specs.declared.error.StepError.{StepError}
use Rattle.fw_world.specs.declared.setup.Setup.{Setup}
use Rattle.fw_world.specs.Refusals.{refusal_of}
use Rattle.fw_world.specs.Setup.{opening_state}
use Rattle.fw_world.specs.State.{State, meter_at}
use Rattle.fw_world.specs.Step.{Event, deliver}
use Rattle.fw_world.specs.World.{Datagram}
use Rattle.fw_air.specs.Rounds.{Admits, AdmittedRun}
use Rattle.fw_report.specs.declared.reason.Reason.{Reason}
use Rattle.fw_report.specs.declared.reason.Reason.TheVariants as reason
use Rattle.fw_report.specs.declared.message.Message.{Message}
use Rattle.fw_report.specs.declared.message.Message.TheVariants as message
use Rattle.fw_report.specs.declared.message.Title.{Title}
use Rattle.fw_report.specs.Message.{Says}

-- ---- what a meter can't be initiated with

-- The first that applies: no campaign offers an image of such a name, it has a release below that of the image that runs, its size isn't
-- within the limits.
abbrev pub reason_of_title : ℕ → Title → Reason
reason_of_title running title =
    if title.campaign.serial == 0 then reason.Unopened
    else (if is_risen running title.release then reason.Limits else reason.Below title.release running)

-- where a meter that runs this release refuses what it is asked for
abbrev pub reason_of : ℕ → Message → Option Reason
reason_of running (message.InitiateUnnamed size) = Some reason.Unnamed
reason_of running (message.Initiate title size) = Some (reason_of_title running title)
reason_of running s = None

-- ---- what an event brings

-- where a datagram comes to this meter
abbrev pub HasReasonAt : Direction → List ℕ → Option Meter → Option Reason → Type 0
HasReasonAt ToMeter bytes (Some meter) r = (s : Message) × Says ToMeter bytes s × (r ≡ reason_of meter.running.name.release s)
HasReasonAt direction bytes meter r = r ≡ None

-- where it is this one of a world
abbrev pub HasReasonIn : State → Option Datagram → Option Reason → Type 0
HasReasonIn world None r = r ≡ None
HasReasonIn world (Some d) r = HasReasonAt d.direction d.bytes (meter_at world d.meter) r

-- if the event brings one to a meter, as it is then
abbrev pub HasReason : State → Event → Option Reason → Type 0
HasReason world (deliver number) r = HasReasonIn world (slice_get world.sent number) r
HasReason world event r = r ≡ None

-- ---- what datagrams answer

-- The datagram of this number is sent by one of the events, as the answer to what that event brings.
pub record Answers (setup : Setup) (events : List Event) (number : ℕ) (r : Option Reason) : Type 0 where
  pub before : List Event
  pub event : Event
  pub later : List Event
  pub world : State
  pub next : State
  pub all_are : events ≡ before ++ event ∷ later
  pub run : AdmittedRun (opening_state setup) before world
  pub step : Admits world event next
  pub begins : length world.sent ≤ number
  pub ends : number < length next.sent
  pub reason_is : HasReason world event r

-- All events happen, or the one of this number is refused.
abbrev pub HappenUpTo : List Event → ℕ → State → Type 0
HappenUpTo events count world =
    (count ≡ length events) ⊎ ((event : Event) × (cause : StepError) × (slice_get events count ≡ Some event) × (refusal_of world event ≡ Some cause))

-- for each datagram that is sent in a run of the events, which ends where one is refused
pub record AreReasons (setup : Setup) (events : List Event) (reasons : List (Option Reason)) : Type 0 where
  pub count : ℕ
  pub world : State
  pub run : AdmittedRun (opening_state setup) (take count events) world
  pub happen : HappenUpTo events count world
  pub long : length reasons ≡ length world.sent
  pub each : (number : ℕ) (r : Option Reason) → slice_get reasons number ≡ Some r → Answers setup events number r

abbrev pub reason_at : List (Option Reason) → ℕ → Option Reason
reason_at reasons number = slice_index_or reasons number None

-- ---- the words

abbrev pub cause_words : Reason → List ℕ
cause_words reason.Unnamed = codes ": no name"
cause_words reason.Unopened = codes ": the name of a factory image"
cause_words (reason.Below release running) = codes ": release " ++ (decimal release ++ (codes " is below the running " ++ decimal running))
cause_words reason.Limits = codes ": not within the limits of the meter"

abbrev pub reason_words : Option Reason → List ℕ
reason_words None = []
reason_words (Some r) = cause_words r

-- other-reason is the code of an initiate that can't be
abbrev pub reason_told : Message → Option Reason → Option Reason
reason_told (message.ActionCode c) r = if c == other_reason then r else None
reason_told s r = None
