-- What a server answers, and the byte strings that spell it (IEC 62056-5-3, the normal forms of GET, SET and ACTION).
-- A response repeats the invoke byte of its request (own).
use Rattle.std.specs.Prelude.{◌≡◌, ◌≢◌, ◌⊎◌, ℕ, List, [], ◌∷◌, Option, Some, None}
use Rattle.fw_axdr.specs.Value.{Value}
use Rattle.fw_axdr.specs.Spelling.{IsData, max_depth, short}
use Rattle.fw_axdr.specs.Fault.{unwritable}
use Rattle.fw_axdr.specs.Memory.{MayTakeMemory}
use Rattle.fw_axdr.specs.declared.error.AxdrError.{AxdrError}

-- Get-Data-Result: a value, or the code of a Data-Access-Result
pub data GetResult : Type 0 where
  value : Value → GetResult
  code : ℕ → GetResult

-- what a response answers: a GET by its result, a SET by a code, an ACTION by a code, with return parameters or without
pub data ResponseContent : Type 0 where
  get_response : GetResult → ResponseContent
  set_response : ℕ → ResponseContent
  action_response : ℕ → Option GetResult → ResponseContent

-- a value after 00, or a code after 01
abbrev pub SpellsResult : List ℕ → GetResult → Type 0
SpellsResult s (value v) = (body : List ℕ) × (s ≡ 0x00 ∷ body) × IsData max_depth body v
SpellsResult s (code c) = s ≡ 0x01 ∷ c ∷ []

-- A byte string spells a response with this invoke byte. The return parameters of an ACTION follow any byte except 00 (own).
abbrev pub SpellsResponse : List ℕ → ℕ → ResponseContent → Type 0
SpellsResponse s invoke (get_response r) = (body : List ℕ) × (s ≡ 0xc4 ∷ 0x01 ∷ invoke ∷ body) × SpellsResult body r
SpellsResponse s invoke (set_response c) = s ≡ 0xc5 ∷ 0x01 ∷ invoke ∷ c ∷ []
SpellsResponse s invoke (action_response c None) = s ≡ 0xc7 ∷ 0x01 ∷ invoke ∷ c ∷ 0x00 ∷ []
SpellsResponse s invoke (action_response c (Some r)) =
    (present : ℕ) × (body : List ℕ) × (s ≡ 0xc7 ∷ 0x01 ∷ invoke ∷ c ∷ present ∷ body) × (present ≢ 0) × SpellsResult body r

-- where a response holds a Data: in the result of a GET, and in that of an ACTION if any byte except 00 says that there is one
abbrev pub ReturnsDataAt : List ℕ → List ℕ → Type 0
ReturnsDataAt s body =
    (invoke : ℕ)
    × ((s ≡ 0xc4 ∷ 0x01 ∷ invoke ∷ 0x00 ∷ body) ⊎ ((c present : ℕ) × (s ≡ 0xc7 ∷ 0x01 ∷ invoke ∷ c ∷ present ∷ 0x00 ∷ body) × (present ≢ 0)))

-- a response may hold a Data that takes memory: at its place stand bytes for which reading may take some
abbrev pub MayReturnData : List ℕ → Type 0
MayReturnData s = (body : List ℕ) × ReturnsDataAt s body × MayTakeMemory max_depth body

-- the byte string spells no response
abbrev pub NoResponse : List ℕ → Type 0
NoResponse s = (invoke : ℕ) (content : ResponseContent) → SpellsResponse s invoke content → ⊥

-- the short spelling: that of a value is its short spelling, and 01 says that return parameters are present
abbrev pub result_bytes : GetResult → List ℕ
result_bytes (value v) = 0x00 ∷ short v
result_bytes (code c) = 0x01 ∷ c ∷ []

abbrev pub response_bytes : ℕ → ResponseContent → List ℕ
response_bytes invoke (get_response r) = 0xc4 ∷ 0x01 ∷ invoke ∷ result_bytes r
response_bytes invoke (set_response c) = 0xc5 ∷ 0x01 ∷ invoke ∷ c ∷ []
response_bytes invoke (action_response c None) = 0xc7 ∷ 0x01 ∷ invoke ∷ c ∷ 0x00 ∷ []
response_bytes invoke (action_response c (Some r)) = 0xc7 ∷ 0x01 ∷ invoke ∷ c ∷ 0x01 ∷ result_bytes r

-- what in a response has no spelling: a value that is too deep or has a part that is too long
abbrev pub unwritable_result : GetResult → Option AxdrError
unwritable_result (value v) = unwritable v max_depth
unwritable_result (code c) = None

abbrev pub unwritable_response : ResponseContent → Option AxdrError
unwritable_response (get_response r) = unwritable_result r
unwritable_response (set_response c) = None
unwritable_response (action_response c None) = None
unwritable_response (action_response c (Some r)) = unwritable_result r
