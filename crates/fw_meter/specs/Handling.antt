-- Public vocabulary: what a meter does with a datagram, from bytes to bytes.
use Rattle.std.specs.Prelude.{◌≡◌, ℕ, Bool, true, IsTrue, ◌⊎◌, List, Option, Some, None, if◌then◌else◌}
use Rattle.std.specs.Option.{option_map}
use Rattle.std.specs.Global.{Vec}
use Rattle.fw_wrapper.specs.Wrapper.{Wraps, wrapped, wport}
use Rattle.fw_apdu.specs.Request.{RequestContent, get_request, set_request, action_request, SpellsRequest, MayHoldData, is_confirmed}
use Rattle.fw_apdu.specs.Response.{response_bytes}
use Rattle.fw_names.specs.Name.{Name}
use Rattle.fw_server.specs.Meaning.{meaning_of}
use Rattle.fw_server.specs.Answer.{response_of}
use Rattle.fw_server.specs.declared.outcome.Outcome.{Outcome}
use Rattle.fw_server.specs.declared.outcome.Outcome.TheVariants.{Got, GetCode, SetCode, ActionCode}
use Rattle.fw_image.specs.Meter.{Meter}
use Rattle.fw_meter.specs.Step.{MeterResult, got, coded, tells_no_fault, MeterStep, activation_of}

-- a datagram carries a request, with its invoke byte, from a source to the wPort of the meter, 1
pub record Brings (datagram : List ℕ) (source invoke : ℕ) (content : RequestContent) : Type 0 where
  pub apdu : List ℕ
  pub wraps : Wraps datagram source wport apdu
  pub spells : SpellsRequest apdu invoke content

abbrev pub BringsNothing : List ℕ → Type 0
BringsNothing datagram = (source invoke : ℕ) (content : RequestContent) → Brings datagram source invoke content → ⊥

-- a code answers each request in its form
abbrev pub outcome_in : RequestContent → MeterResult → Outcome
outcome_in content (got answer) = Got answer
outcome_in (get_request d) (coded c) = GetCode c
outcome_in (set_request d v) (coded c) = SetCode c
outcome_in (action_request d parameter) (coded c) = ActionCode c

-- the datagram that carries the result back, where the request asked for a response
abbrev pub reply_to : ℕ → ℕ → RequestContent → MeterResult → Option (List ℕ)
reply_to source invoke content result =
    if is_confirmed invoke then Some (wrapped wport source (response_bytes invoke (response_of (outcome_in content result)))) else None

-- The meter makes the step of a request, with this invoke byte from this source, and replies with its result. Faults says what is known of
-- the store's faults if none of its calls failed, or one did.
pub record Responds (honest : Bool) (Faults : Bool → Type 0) (old : Meter) (source invoke : ℕ) (content : RequestContent) (reply : Option (List ℕ)) (activated : Option Name) (new : Meter) : Type 0 where
  pub result : MeterResult
  pub steps : MeterStep honest old (meaning_of content) result new
  pub replies : reply ≡ reply_to source invoke content result
  pub activates : activated ≡ activation_of (meaning_of content) result new
  pub faults : Faults (tells_no_fault result)

-- so it does with the request that it is brought
pub record HandlesRequest (honest : Bool) (Faults : Bool → Type 0) (old : Meter) (datagram : List ℕ) (reply : Option (List ℕ)) (activated : Option Name) (new : Meter) : Type 0 where
  pub source : ℕ
  pub invoke : ℕ
  pub content : RequestContent
  pub brings : Brings datagram source invoke content
  pub responds : Responds honest Faults old source invoke content reply activated new

-- the meter is brought no request, stays as it was and gives no reply
pub record Drops (Faults : Bool → Type 0) (old : Meter) (datagram : List ℕ) (reply : Option (List ℕ)) (activated : Option Name) (new : Meter) : Type 0 where
  pub nothing : BringsNothing datagram
  pub silent : reply ≡ None
  pub none_activated : activated ≡ None
  pub same : new ≡ old
  pub faults : Faults true

-- From old, a meter that hears this datagram gives this reply, activates this image or none, and becomes new. Over two states, Faults is
-- what the store counted between them (`Counts`); over a store that doesn't fail, it is that none failed (`IsTrue`).
abbrev pub Handles : Bool → (Bool → Type 0) → Meter → List ℕ → Option (List ℕ) → Option Name → Meter → Type 0
Handles honest Faults old datagram reply activated new =
    HandlesRequest honest Faults old datagram reply activated new ⊎ Drops Faults old datagram reply activated new

-- a reply without where it lies in memory
abbrev pub reply_bytes : Option (Vec ℕ) → Option (List ℕ)
reply_bytes reply = option_map (λ v. v.items) reply

-- ---- if memory may be taken

-- a datagram brings a request that asks for a response
pub record AsksForResponse (datagram : List ℕ) : Type 0 where
  pub source : ℕ
  pub invoke : ℕ
  pub content : RequestContent
  pub brings : Brings datagram source invoke content
  pub confirmed : IsTrue (is_confirmed invoke)

-- a datagram carries an APDU to the wPort of the meter that may hold a Data
pub record MayBringData (datagram : List ℕ) : Type 0 where
  pub source : ℕ
  pub apdu : List ℕ
  pub wraps : Wraps datagram source wport apdu
  pub holds : MayHoldData apdu

-- only these take memory: for the Data that is read, or for the reply
abbrev pub MayWantMemory : List ℕ → Type 0
MayWantMemory datagram = MayBringData datagram ⊎ AsksForResponse datagram
