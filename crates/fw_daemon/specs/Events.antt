-- Public vocabulary: what there is to tell of a meter, of each datagram and of each turn one event at most (IEC 62056-6-2, Image transfer).
use Rattle.std.specs.Prelude.{◌≡◌, ◌==◌, ◌⊎◌, ℕ, zero, suc, Bool, true, false, if◌then◌else◌, List, Option, Some, None}
use Rattle.std.specs.Option.{option_map}
use Rattle.fw_wrapper.specs.Wrapper.{Wraps}
use Rattle.fw_apdu.specs.Cosem.{read_write_denied}
use Rattle.fw_apdu.specs.Request.{RequestContent}
use Rattle.fw_apdu.specs.Response.{ResponseContent, get_response, set_response, action_response, SpellsResponse}
use Rattle.fw_names.specs.Name.{Name, SpellsName, is_risen}
use Rattle.fw_server.specs.Meaning as meaning
use Rattle.fw_server.specs.Meaning.{Meaning, meaning_of}
use Rattle.fw_store.specs.declared.header.Goal.{Goal}
use Rattle.fw_image.specs.Meter.{Meter, goal_of, status_of}
use Rattle.fw_image.specs.declared.status.TransferStatus.{TransferStatus}
use Rattle.fw_image.specs.declared.status.TransferStatus.TheVariants as status
use Rattle.fw_meter.specs.Handling.{Brings}
use Rattle.fw_daemon.specs.declared.event.Cause.{Cause}
use Rattle.fw_daemon.specs.declared.event.Cause.TheVariants as cause
use Rattle.fw_daemon.specs.declared.event.Work.{Work}
use Rattle.fw_daemon.specs.declared.event.Work.TheVariants as work
use Rattle.fw_daemon.specs.declared.event.MeterEvent.{MeterEvent}
use Rattle.fw_daemon.specs.declared.event.MeterEvent.TheVariants as event

-- ---- an image that is judged

-- it is being received or verified
abbrev pub is_unjudged : TransferStatus → Bool
is_unjudged status.Initiated = true
is_unjudged status.VerificationInitiated = true
is_unjudged other = false

-- the name of the image that is to be received, or was received
abbrev pub goal_name : Meter → Option Name
goal_name m = option_map (λ (goal : Goal). goal.name) (goal_of m.phase)

-- it has the digest of its name, or another
abbrev pub verdict : TransferStatus → Option Name → Option MeterEvent
verdict status.VerificationSuccessful name = option_map (λ (n : Name). event.Verified n) name
verdict status.VerificationFailed name = option_map (λ (n : Name). event.Differs n) name
verdict other name = None

-- it is judged now, and wasn't in this status before
abbrev pub judged_event : TransferStatus → Meter → Option MeterEvent
judged_event before m = if is_unjudged before then verdict (status_of m.phase) (goal_name m) else None

-- a verification that was given up leaves an image that is received
abbrev pub gives_up : TransferStatus → TransferStatus → Bool
gives_up status.VerificationInitiated status.Initiated = true
gives_up before after = false

-- What there is to tell of a turn that led to this meter, whose status was this before: the image is judged; or a call of the store failed, and
-- so the verification was given up.
abbrev pub turn_event : TransferStatus → Meter → Option MeterEvent
turn_event before m = if gives_up before (status_of m.phase) then Some (event.Failed work.Verify) else judged_event before m

-- ---- a request that is answered by a code

-- what a call of the store is for
abbrev pub work_of : Meaning → Option Work
work_of (meaning.enable b) = Some work.Enable
work_of (meaning.initiate identifier size) = Some work.Initiate
work_of (meaning.block number value) = Some (work.Block number)
work_of meaning.verify = Some work.Verify
work_of meaning.activate = Some work.Activate
work_of asked = None

-- the name that an identifier is, if it is one
abbrev pub IsNamed : List ℕ → Option Name → Type 0
IsNamed identifier (Some name) = SpellsName identifier name
IsNamed identifier None = (name : Name) → ¬ SpellsName identifier name

-- Why a meter that runs this release refuses an initiate while transfer is enabled: the first that applies. If no other does, the size isn't
-- within its limits.
abbrev pub cause_in : ℕ → Option Name → Cause
cause_in running None = cause.Unnamed
cause_in running (Some name) =
    if name.campaign.serial == 0 then cause.Unopened else (if is_risen running name.release then cause.Limits else cause.Below name.release running)

-- read-write-denied says that it is disabled
abbrev pub cause_of : ℕ → ℕ → Option Name → Cause
cause_of running c name = if c == read_write_denied then cause.Disabled else cause_in running name

-- an initiate is refused by this code
abbrev pub IsRefusal : ℕ → ℕ → Meaning → Option MeterEvent → Type 0
IsRefusal running c (meaning.initiate identifier size) told =
    (name : Option Name) × IsNamed identifier name × (told ≡ Some (event.Refused name size (cause_of running c name)))
IsRefusal running c asked told = told ≡ None

-- What there is to tell of a request that a meter which runs this release answers by this code: 0 is success, and 1 says that a call of the
-- store failed.
abbrev pub IsAnswerEvent : ℕ → ℕ → Meaning → Option MeterEvent → Type 0
IsAnswerEvent running zero asked told = told ≡ None
IsAnswerEvent running (suc zero) asked told = told ≡ option_map (λ (w : Work). event.Failed w) (work_of asked)
IsAnswerEvent running c asked told = IsRefusal running c asked told

-- the code by which a response answers a SET or an ACTION
abbrev pub code_in : ResponseContent → Option ℕ
code_in (get_response result) = None
code_in (set_response c) = Some c
code_in (action_response c None) = Some c
code_in (action_response c (Some result)) = None

-- a datagram carries such a response
pub record CarriesCode (datagram : List ℕ) (c : ℕ) : Type 0 where
  pub source : ℕ
  pub dest : ℕ
  pub invoke : ℕ
  pub apdu : List ℕ
  pub response : ResponseContent
  pub wraps : Wraps datagram source dest apdu
  pub spells : SpellsResponse apdu invoke response
  pub coded : code_in response ≡ Some c

-- a datagram brings a request that asks this, and the reply to it carries this code
pub record IsCoded (datagram : List ℕ) (reply : Option (List ℕ)) (asked : Meaning) (c : ℕ) : Type 0 where
  pub source : ℕ
  pub invoke : ℕ
  pub content : RequestContent
  pub bytes : List ℕ
  pub brings : Brings datagram source invoke content
  pub asks : asked ≡ meaning_of content
  pub replied : reply ≡ Some bytes
  pub carries : CarriesCode bytes c

-- What there is to tell of how a meter that runs this release answers a datagram. One without a reply, or with another reply, tells nothing.
abbrev pub AnswerTells : ℕ → List ℕ → Option (List ℕ) → Option MeterEvent → Type 0
AnswerTells running datagram reply told =
    ((asked : Meaning) × (c : ℕ) × IsCoded datagram reply asked c × IsAnswerEvent running c asked told)
    ⊎ (((asked : Meaning) (c : ℕ) → ¬ IsCoded datagram reply asked c) × (told ≡ None))

-- ---- a datagram

-- an image that is judged is told, or else the answer
abbrev pub JudgedOrAnswered : Option MeterEvent → ℕ → List ℕ → Option (List ℕ) → Option MeterEvent → Type 0
JudgedOrAnswered (Some judged) running datagram reply told = told ≡ Some judged
JudgedOrAnswered None running datagram reply told = AnswerTells running datagram reply told

-- What there is to tell of a datagram that led to this meter, whose status was this before: it switched to an image, its image is judged, or it
-- answered so.
abbrev pub IsEvent : TransferStatus → List ℕ → Option (List ℕ) → Option Name → Meter → Option MeterEvent → Type 0
IsEvent before datagram reply (Some name) m told = told ≡ Some (event.Activated name)
IsEvent before datagram reply None m told = JudgedOrAnswered (judged_event before m) m.running.name.release datagram reply told

-- the image that was switched to, if that is told
abbrev pub switched_by : Option MeterEvent → Option Name
switched_by (Some (event.Activated name)) = Some name
switched_by told = None
