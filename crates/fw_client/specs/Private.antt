-- For private clauses alone: what the parts of a client find.
use Rattle.std.specs.Prelude.{◌≡◌, ◌==◌, ℕ, suc, List, [], ◌∷◌, length, Option, Some, None, if◌then◌else◌}
use Rattle.std.specs.Option.{option_and_then}
use Rattle.fw_axdr.specs.Value.{Value, Values, structure, double_long_unsigned, octet_string, none, more}
use Rattle.fw_apdu.specs.View.{response_content, response_invoke}
use Rattle.fw_apdu.specs.Response.{ResponseContent}
use Rattle.fw_apdu.specs.declared.response.Response.{Response}
use Rattle.std.specs.FinMap.{get, empty, insert}
use Rattle.fw_names.specs.Name.{IsName}
use Rattle.fw_client.specs.Ask.{Ask, initiate}
use Rattle.fw_client.specs.State.{State, Asks, invoke_byte}
use Rattle.fw_client.specs.Hearing.{CarriesResponse}
use Rattle.fw_client.specs.Matching.{Matches}
use Rattle.fw_client.specs.declared.ask.Asked.{Asked}
use Rattle.fw_client.specs.declared.heard.Heard.{Heard}

-- the name in an ask has a spelling
abbrev pub IsNamed : Ask → Type 0
IsNamed (initiate name size) = IsName name
IsNamed ask = Unit {0}

-- what has the property is found, or there is none
abbrev pub Finds : {A : Type 0} → (A → Type 0) → Option A → Type 0
Finds P (Some a) = P a
Finds {A = A} P None = (a : A) → P a → ⊥

-- the response that a datagram carries, or there is none
abbrev pub IsResponseIn : List ℕ → Option Response → Type 0
IsResponseIn datagram (Some r) = CarriesResponse datagram (response_invoke r) (response_content r)
IsResponseIn datagram None = (invoke : ℕ) (content : ResponseContent) → CarriesResponse datagram invoke content → ⊥

-- a response with this invoke byte answers the ask that is outstanding at this id, and this is heard by it
pub record AnsweredBy (c : State) (invoke : ℕ) (content : ResponseContent) (id : ℕ) (heard : Heard) : Type 0 where
  pub asked : Asked
  pub outstanding : get c.asks id ≡ Some asked
  pub byte : invoke ≡ invoke_byte id
  pub matches : Matches c.meter asked content heard

-- ---- outstanding asks

-- the asks at the places of a list, the first of which is that of an id
abbrev pub asks_from : ℕ → List (Option Asked) → Asks
asks_from id [] = empty
asks_from id (None ∷ rest) = asks_from (suc id) rest
asks_from id (Some asked ∷ rest) = insert (asks_from (suc id) rest) id asked

-- ---- the shape of image_to_activate_info

abbrev pub one_of : Values → Option Value
one_of none = None
one_of (more a none) = Some a
one_of (more a (more b vs)) = None

abbrev pub three_of : Values → Option (Value × Value × Value)
three_of none = None
three_of (more a none) = None
three_of (more a (more b none)) = None
three_of (more a (more b (more c none))) = Some (a, b, c)
three_of (more a (more b (more c (more d vs)))) = None

abbrev pub fields_in : Value → Option Values
fields_in (structure vs) = Some vs
fields_in _ = None

abbrev pub size_in : Value → Option ℕ
size_in (double_long_unsigned n) = Some n
size_in _ = None

abbrev pub octets_in : Value → Option (List ℕ)
octets_in (octet_string o) = Some o
octets_in _ = None

-- the identification before a signature of 32 bytes
abbrev pub signed_by : List ℕ → List ℕ → Option (List ℕ)
signed_by identification signature = if length signature == 32 then Some identification else None

abbrev pub signed_of : Values → Option (List ℕ)
signed_of vs =
    option_and_then (λ x. option_and_then (λ size. option_and_then (λ identification. option_and_then (λ signature. signed_by identification signature) (octets_in x.2)) (octets_in x.1)) (size_in x.0)) (three_of vs)

abbrev pub identification_of : Values → Option (List ℕ)
identification_of vs = option_and_then (λ value. option_and_then (λ fields. signed_of fields) (fields_in value)) (one_of vs)
