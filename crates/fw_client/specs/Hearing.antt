-- Public vocabulary: what a client hears of a datagram.
use Rattle.std.specs.Prelude.{◌≡◌, ℕ, ◌⊎◌, List, Some}
use Rattle.std.specs.FinMap.{get}
use Rattle.fw_axdr.specs.Value.{octet_string}
use Rattle.fw_wrapper.specs.Wrapper.{Wraps, wport}
use Rattle.fw_names.specs.Name.{SpellsName}
use Rattle.fw_apdu.specs.Response.{value, ResponseContent, get_response, SpellsResponse, MayReturnData}
use Rattle.fw_client.specs.Claim.{Claim}
use Rattle.fw_client.specs.State.{State, invoke_byte, without}
use Rattle.fw_client.specs.Matching.{Matches}
use Rattle.fw_client.specs.declared.ask.Asked.{Asked}
use Rattle.fw_client.specs.declared.ask.Asked.TheVariants.{ActiveName}
use Rattle.fw_client.specs.declared.heard.Heard.{Heard}
use Rattle.fw_client.specs.declared.heard.Heard.TheVariants.{Stranger}

-- a datagram carries a response, with its invoke byte, between the ports 1
pub record CarriesResponse (datagram : List ℕ) (invoke : ℕ) (content : ResponseContent) : Type 0 where
  pub apdu : List ℕ
  pub wraps : Wraps datagram wport wport apdu
  pub spells : SpellsResponse apdu invoke content

-- a datagram carries an APDU between the ports 1 that may return a Data that takes memory, whatever it spells
abbrev pub MayCarryData : List ℕ → Type 0
MayCarryData datagram = (apdu : List ℕ) × Wraps datagram wport wport apdu × MayReturnData apdu

-- The datagram answers the ask that is outstanding at this id, and this is heard by it. The whole invoke byte is that of the ask.
pub record Answers (c : State) (datagram : List ℕ) (id : ℕ) (heard : Heard) : Type 0 where
  pub asked : Asked
  pub content : ResponseContent
  pub outstanding : get c.asks id ≡ Some asked
  pub carries : CarriesResponse datagram (invoke_byte id) content
  pub matches : Matches c.meter asked content heard

-- the datagram answers no outstanding ask
abbrev pub AnswersNone : State → List ℕ → Type 0
AnswersNone c datagram = (id : ℕ) (heard : Heard) → Answers c datagram id heard → ⊥

-- an ask is answered and taken out
abbrev pub Takes : State → List ℕ → Heard → State → Type 0
Takes old datagram heard new = (id : ℕ) × Answers old datagram id heard × (new ≡ without old id)

-- a datagram that answers no ask is a stranger's, and the client stays as it was
abbrev pub Ignores : State → List ℕ → Heard → State → Type 0
Ignores old datagram heard new = AnswersNone old datagram × (heard ≡ Stranger) × (new ≡ old)

-- from old, a client that is given this datagram hears this, and becomes new
abbrev pub Hears : State → List ℕ → Heard → State → Type 0
Hears old datagram heard new = Takes old datagram heard new ⊎ Ignores old datagram heard new

-- The claim that a client is given. An ask for the active name was outstanding, and to it came the response to a GET. Its Data is an
-- octet-string that spells the name, and the meter is the client's.
pub record IsClaimed (c : State) (datagram : List ℕ) (claim : Claim) : Type 0 where
  pub id : ℕ
  pub bytes : List ℕ
  pub outstanding : get c.asks id ≡ Some ActiveName
  pub carries : CarriesResponse datagram (invoke_byte id) (get_response (value (octet_string bytes)))
  pub spells : SpellsName bytes claim.name
  pub meter : claim.meter ≡ c.meter
