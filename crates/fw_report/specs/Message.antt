-- Public vocabulary: what a datagram says. One to a meter says what it asks of the meter, one to a head end what it answers
-- (IEC 62056-5-3; IEC 62056-6-2, Image transfer), of an attribute or a method that it has or of a foreign one. What carries nothing of the
-- kind can't be read, for its leftmost fault.
use Rattle.std.specs.Prelude.{◌≡◌, ◌⊎◌, ℕ, List, length, Option, Some, None}
use Rattle.fw_axdr.specs.Value.{Value, array, boolean, bit_string, double_long_unsigned, octet_string, enumerated, count}
use Rattle.fw_wrapper.specs.Wrapper.{Wraps, fault_of}
use Rattle.fw_names.specs.Name.{Name, SpellsName}
use Rattle.fw_apdu.specs.declared.error.ApduError.{ApduError}
use Rattle.fw_apdu.specs.Fault.{RequestFails, ResponseFails}
use Rattle.fw_apdu.specs.Request.{RequestContent, get_request, set_request, action_request, SpellsRequest}
use Rattle.fw_apdu.specs.Response.{ResponseContent, value, code, get_response, set_response, action_response, SpellsResponse}
use Rattle.fw_server.specs.Meaning.{Meaning, read, enable, initiate, block, verify, activate, refused, meaning_of}
use Rattle.fw_world.specs.declared.datagram.Direction.{Direction}
use Rattle.fw_world.specs.declared.datagram.Direction.TheVariants.{ToMeter, ToHead}
use Rattle.fw_report.specs.declared.message.Addressed.{Addressed}
use Rattle.fw_report.specs.declared.message.Service.TheVariants as service
use Rattle.fw_report.specs.declared.message.ShownValue.{ShownValue}
use Rattle.fw_report.specs.declared.message.ShownValue.TheVariants as shown
use Rattle.fw_report.specs.declared.message.Message.{Message}
use Rattle.fw_report.specs.declared.message.Message.TheVariants as message
use Rattle.fw_report.specs.declared.message.Title.{Title}
use Rattle.fw_report.specs.declared.message.Unread.{Unread}
use Rattle.fw_report.specs.declared.message.Unread.TheVariants as unread

-- what a name tells beside the digest
abbrev pub title_of : Name → Title
title_of name = record { campaign = name.campaign; release = name.release }

-- what the name tells that the bytes spell, if they spell one
abbrev pub NamesImage : List ℕ → Option Title → Type 0
NamesImage bytes None = (name : Name) → ¬ SpellsName bytes name
NamesImage bytes (Some title) = (name : Name) × SpellsName bytes name × (title_of name ≡ title)

-- an initiate of an image with a name, or with none
abbrev pub initiate_message : ℕ → Option Title → Message
initiate_message size None = message.InitiateUnnamed size
initiate_message size (Some title) = message.Initiate title size

-- what a request is about
abbrev pub addressed_by : RequestContent → Addressed
addressed_by (get_request d) = record { service = service.Get; class = d.class; instance = d.instance; number = d.number }
addressed_by (set_request d v) = record { service = service.Set; class = d.class; instance = d.instance; number = d.number }
addressed_by (action_request d p) = record { service = service.Action; class = d.class; instance = d.instance; number = d.number }

-- a request to a meter, about this; one that any meter refuses for itself is foreign
abbrev pub SaysAsk : Addressed → Meaning → Message → Type 0
SaysAsk about (read attribute) s = s ≡ message.Get attribute
SaysAsk about (enable enabled) s = s ≡ message.Enable enabled
SaysAsk about (initiate identifier n) s = (title : Option Title) × NamesImage identifier title × (s ≡ initiate_message n title)
SaysAsk about (block number bytes) s = s ≡ message.Block number (length bytes)
SaysAsk about verify s = s ≡ message.Verify
SaysAsk about activate s = s ≡ message.Activate
SaysAsk about (refused refusal) s = s ≡ message.Foreign about

-- an octet-string in short: what a name tells, or how many bytes there are
abbrev pub shown_octets : ℕ → Option Title → ShownValue
shown_octets size None = shown.Octets size
shown_octets size (Some title) = shown.Name title

-- a value in short; that of image_to_activate_info is an array with an element for each image
abbrev pub IsShownAs : Value → ShownValue → Type 0
IsShownAs (double_long_unsigned n) b = b ≡ shown.Number n
IsShownAs (boolean flag) b = b ≡ shown.Flag flag
IsShownAs (bit_string bits) b = b ≡ shown.Bits (length bits)
IsShownAs (enumerated n) b = b ≡ shown.Status n
IsShownAs (octet_string bytes) b = (title : Option Title) × NamesImage bytes title × (b ≡ shown_octets (length bytes) title)
IsShownAs (array vs) b = b ≡ shown.Images (count vs)
IsShownAs v b = b ≡ shown.Other

-- an answer of a meter; what an ACTION returns beside its code isn't said
abbrev pub SaysAnswer : ResponseContent → Message → Type 0
SaysAnswer (get_response (value v)) s = (b : ShownValue) × IsShownAs v b × (s ≡ message.Got b)
SaysAnswer (get_response (code c)) s = s ≡ message.GotCode c
SaysAnswer (set_response c) s = s ≡ message.SetCode c
SaysAnswer (action_response c returned) s = s ≡ message.ActionCode c

-- a datagram carries this between two wPorts, in an APDU that spells it
pub record Carries {C : Type 0} (Spells : List ℕ → ℕ → C → Type 0) (bytes : List ℕ) (content : C) : Type 0 where
  pub source : ℕ
  pub dest : ℕ
  pub apdu : List ℕ
  pub invoke : ℕ
  pub wraps : Wraps bytes source dest apdu
  pub spells : Spells apdu invoke content

-- why a datagram can't be read: its wrapper has this fault, or the APDU in it does
abbrev pub IsUnread : (List ℕ → ApduError → Type 0) → List ℕ → Unread → Type 0
IsUnread Fails bytes (unread.Wrapper e) = fault_of bytes ≡ Some e
IsUnread Fails bytes (unread.Apdu e) = (source dest : ℕ) × (apdu : List ℕ) × Wraps bytes source dest apdu × Fails apdu e

-- the datagram says what it carries, or can't be read
abbrev pub SaysCarried : {C : Type 0} → (List ℕ → ℕ → C → Type 0) → (List ℕ → ApduError → Type 0) → (C → Message → Type 0) → List ℕ → Message → Type 0
SaysCarried {C} Spells Fails SaysIt bytes s =
    ((content : C) × Carries Spells bytes content × SaysIt content s)
    ⊎ (((content : C) → ¬ Carries Spells bytes content) × ((why : Unread) × IsUnread Fails bytes why × (s ≡ message.Unread (length bytes) why)))

abbrev pub Says : Direction → List ℕ → Message → Type 0
Says ToMeter bytes s = SaysCarried SpellsRequest RequestFails (λ content. SaysAsk (addressed_by content) (meaning_of content)) bytes s
Says ToHead bytes s = SaysCarried SpellsResponse ResponseFails SaysAnswer bytes s
