-- The laws of requests and responses.
use Rattle.std.specs.Prelude.{◌≡◌, ℕ, List}
use Rattle.fw_apdu.specs.declared.error.ApduError.{ApduError}
use Rattle.fw_apdu.specs.Request.{RequestContent, SpellsRequest, NoRequest}
use Rattle.fw_apdu.specs.Response.{ResponseContent, SpellsResponse, NoResponse}
use Rattle.fw_apdu.specs.Fault.{RequestFails, ResponseFails}

-- a byte string spells at most one request
abbrev pub OneRequest : Type 0
OneRequest = (s : List ℕ) (i j : ℕ) (a b : RequestContent) → SpellsRequest s i a → SpellsRequest s j b → (i ≡ j) × (a ≡ b)

-- a byte string spells at most one response
abbrev pub OneResponse : Type 0
OneResponse = (s : List ℕ) (i j : ℕ) (a b : ResponseContent) → SpellsResponse s i a → SpellsResponse s j b → (i ≡ j) × (a ≡ b)

-- a byte string that spells a request spells no response
abbrev pub RequestIsNoResponse : Type 0
RequestIsNoResponse = (s : List ℕ) (i : ℕ) (a : RequestContent) → SpellsRequest s i a → NoResponse s

-- a byte string that has a fault spells no request, and has no other fault
abbrev pub OneRequestFault : Type 0
OneRequestFault = (s : List ℕ) (e f : ApduError) → RequestFails s e → NoRequest s × (RequestFails s f → e ≡ f)

-- a byte string that has a fault spells no response, and has no other fault
abbrev pub OneResponseFault : Type 0
OneResponseFault = (s : List ℕ) (e f : ApduError) → ResponseFails s e → NoResponse s × (ResponseFails s f → e ≡ f)
