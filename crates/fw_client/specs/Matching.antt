-- Public vocabulary: which responses answer an ask, and what is heard by them (IEC 62056-5-3; IEC 62056-6-2, the types of the
-- attributes).
use Rattle.std.specs.Prelude.{◌≡◌, ℕ, List, length, Option, Some, None}
use Rattle.fw_axdr.specs.Value.{Value, Values, array, structure, bit_string, double_long_unsigned, octet_string, enumerated, none, more}
use Rattle.fw_names.specs.Name.{Name, SpellsName}
use Rattle.fw_apdu.specs.Response.{value, code, ResponseContent, get_response, set_response, action_response}
use Rattle.fw_client.specs.declared.ask.Asked.{Asked}
use Rattle.fw_client.specs.declared.ask.Asked.TheVariants as asked
use Rattle.fw_client.specs.declared.ask.Service.{Service}
use Rattle.fw_client.specs.declared.ask.Service.TheVariants.{Get, Set, Action}
use Rattle.fw_client.specs.declared.heard.Heard.{Heard}
use Rattle.fw_client.specs.declared.heard.Heard.TheVariants as heard

-- the service by which it is asked, and by which it is answered
abbrev pub service_of : Asked → Service
service_of asked.BlockSize = Get
service_of asked.FirstMissing = Get
service_of asked.Blocks = Get
service_of asked.Status = Get
service_of asked.Info = Get
service_of asked.ActiveName = Get
service_of asked.Enable = Set
service_of asked.Initiate = Action
service_of (asked.Block number) = Action
service_of asked.Verify = Action
service_of asked.Activate = Action

-- ---- the values of attributes

abbrev pub IsNumber : Value → Heard → Type 0
IsNumber (double_long_unsigned n) h = h ≡ heard.Number n
IsNumber v h = ⊥

abbrev pub IsBits : Value → Heard → Type 0
IsBits (bit_string bits) h = h ≡ heard.BitSet bits
IsBits v h = ⊥

abbrev pub IsStatus : Value → Heard → Type 0
IsStatus (enumerated status) h = h ≡ heard.Status status
IsStatus v h = ⊥

-- the element of image_to_activate_info: the size, the identification and the signature
abbrev pub element : ℕ → List ℕ → List ℕ → Value
element size identification signature = structure (more (double_long_unsigned size) (more (octet_string identification) (more (octet_string signature) none)))

-- The elements of image_to_activate_info describe one image, whose identification spells this name. The signature has 32 bytes, and
-- isn't compared with the name's digest (own).
pub record TellsOf (vs : Values) (name : Name) : Type 0 where
  pub size : ℕ
  pub identification : List ℕ
  pub signature : List ℕ
  pub one : vs ≡ more (element size identification signature) none
  pub spells : SpellsName identification name
  pub long : length signature ≡ 32

-- one image, or else none
abbrev pub IsInfoOf : Values → Option Name → Type 0
IsInfoOf vs (Some name) = TellsOf vs name
IsInfoOf vs None = (name : Name) → TellsOf vs name → ⊥

abbrev pub IsInfo : Value → Heard → Type 0
IsInfo (array vs) h = (info : Option Name) × IsInfoOf vs info × (h ≡ heard.Info info)
IsInfo v h = ⊥

-- an octet-string that spells a name; by any other, nothing is heard
abbrev pub IsActive : ℕ → Value → Heard → Type 0
IsActive meter (octet_string bytes) h = (name : Name) × SpellsName bytes name × (h ≡ heard.Active (record { meter = meter; name = name }))
IsActive meter v h = ⊥

-- what is heard by a value that has the type of what was asked
abbrev pub IsValue : ℕ → Asked → Value → Heard → Type 0
IsValue meter asked.BlockSize v h = IsNumber v h
IsValue meter asked.FirstMissing v h = IsNumber v h
IsValue meter asked.Blocks v h = IsBits v h
IsValue meter asked.Status v h = IsStatus v h
IsValue meter asked.Info v h = IsInfo v h
IsValue meter asked.ActiveName v h = IsActive meter v h
IsValue meter asked.Enable v h = ⊥
IsValue meter asked.Initiate v h = ⊥
IsValue meter (asked.Block number) v h = ⊥
IsValue meter asked.Verify v h = ⊥
IsValue meter asked.Activate v h = ⊥

-- ---- responses

abbrev pub IsCode : Service → Asked → ℕ → Heard → Type 0
IsCode service a c h = (service_of a ≡ service) × (h ≡ heard.Code a c)

-- This is what is heard by this response of a meter to this ask. The service is that of the ask. A GET answered by a value is heard by its
-- value; one answered by a code, and each SET and ACTION, is heard by its code. What else an ACTION returns is ignored (own).
abbrev pub Matches : ℕ → Asked → ResponseContent → Heard → Type 0
Matches meter a (get_response (value v)) h = IsValue meter a v h
Matches meter a (get_response (code c)) h = IsCode Get a c h
Matches meter a (set_response c) h = IsCode Set a c h
Matches meter a (action_response c returned) h = IsCode Action a c h
