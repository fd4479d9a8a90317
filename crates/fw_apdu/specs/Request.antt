-- What a client asks of a server, and the byte strings that spell it (IEC 62056-5-3, the normal forms of GET, SET and
-- ACTION with logical names). "Own" marks a rule of this profile.
use Rattle.std.specs.Prelude.{◌≡◌, ◌≢◌, ◌⊎◌, ℕ, ℤ, Bool, ◌==◌, ◌/◌, ◌%◌, ◌<◌, ◌^◌, List, [], ◌∷◌, ◌++◌, length, Option, Some, None, FitsSigned}
use Rattle.std.specs.Int.{w8, w16, to_be_bytes, cast_unsigned}
use Rattle.fw_axdr.specs.Value.{Value}
use Rattle.fw_axdr.specs.Spelling.{IsData, max_depth, short}
use Rattle.fw_axdr.specs.Fault.{unwritable}
use Rattle.fw_axdr.specs.Memory.{MayTakeMemory}
use Rattle.fw_axdr.specs.declared.error.AxdrError.{AxdrError}

-- an attribute or a method: its object's class and logical name, and its own number
pub record Descriptor : Type 0 where
  pub class : ℕ
  pub instance : List ℕ
  pub number : ℤ

-- what a request asks: to read an attribute, to set one to a value, or to invoke a method, with a parameter or without
pub data RequestContent : Type 0 where
  get_request : Descriptor → RequestContent
  set_request : Descriptor → Value → RequestContent
  action_request : Descriptor → Option Value → RequestContent

-- the attribute or method that a request is about
abbrev pub request_descriptor : RequestContent → Descriptor
request_descriptor (get_request d) = d
request_descriptor (set_request d v) = d
request_descriptor (action_request d p) = d

-- each field has its range
pub record IsDescriptor (d : Descriptor) : Type 0 where
  pub class_fits : d.class < 2 ^ 16
  pub six_bytes : length d.instance ≡ 6
  pub number_fits : FitsSigned w8 d.number

-- class (2 bytes), logical name (6), and the number as a signed byte
abbrev pub descriptor_bytes : Descriptor → List ℕ
descriptor_bytes d = to_be_bytes w16 d.class ++ d.instance ++ cast_unsigned w8 d.number ∷ []

-- after the byte of the service: the normal form, the invoke byte, and the descriptor
abbrev pub head_bytes : ℕ → Descriptor → List ℕ
head_bytes invoke d = 0x01 ∷ invoke ∷ descriptor_bytes d

-- A byte string spells a request with this invoke byte. GET and SET have no selective access (00); the parameter of an
-- ACTION follows any byte except 00 (own).
abbrev pub SpellsRequest : List ℕ → ℕ → RequestContent → Type 0
SpellsRequest s invoke (get_request d) = IsDescriptor d × (s ≡ 0xc0 ∷ head_bytes invoke d ++ 0x00 ∷ [])
SpellsRequest s invoke (set_request d v) = IsDescriptor d × ((body : List ℕ) × (s ≡ 0xc1 ∷ head_bytes invoke d ++ 0x00 ∷ body) × IsData max_depth body v)
SpellsRequest s invoke (action_request d None) = IsDescriptor d × (s ≡ 0xc3 ∷ head_bytes invoke d ++ 0x00 ∷ [])
SpellsRequest s invoke (action_request d (Some v)) =
    IsDescriptor d × ((present : ℕ) × (body : List ℕ) × (s ≡ 0xc3 ∷ head_bytes invoke d ++ present ∷ body) × (present ≢ 0) × IsData max_depth body v)

-- the short spelling: that of a value is its short one, and 01 says that a parameter is present
abbrev pub request_bytes : ℕ → RequestContent → List ℕ
request_bytes invoke (get_request d) = 0xc0 ∷ head_bytes invoke d ++ 0x00 ∷ []
request_bytes invoke (set_request d v) = 0xc1 ∷ head_bytes invoke d ++ 0x00 ∷ short v
request_bytes invoke (action_request d None) = 0xc3 ∷ head_bytes invoke d ++ 0x00 ∷ []
request_bytes invoke (action_request d (Some v)) = 0xc3 ∷ head_bytes invoke d ++ 0x01 ∷ short v

-- what in a request has no spelling: a value that is too deep or has a part that is too long
abbrev pub unwritable_request : RequestContent → Option AxdrError
unwritable_request (get_request d) = None
unwritable_request (set_request d v) = unwritable v max_depth
unwritable_request (action_request d None) = None
unwritable_request (action_request d (Some v)) = unwritable v max_depth

-- where a request holds a Data: after the head of a SET and 00, and after that of an ACTION and any byte except 00
abbrev pub HoldsDataAt : List ℕ → List ℕ → Type 0
HoldsDataAt s body =
    (invoke : ℕ) × (d : Descriptor) × IsDescriptor d
    × ((s ≡ 0xc1 ∷ head_bytes invoke d ++ 0x00 ∷ body) ⊎ ((present : ℕ) × (s ≡ 0xc3 ∷ head_bytes invoke d ++ present ∷ body) × (present ≢ 0)))

-- a request may hold a Data that takes memory: at its place stand bytes for which reading may take some
abbrev pub MayHoldData : List ℕ → Type 0
MayHoldData s = (body : List ℕ) × HoldsDataAt s body × MayTakeMemory max_depth body

-- the byte string spells no request
abbrev pub NoRequest : List ℕ → Type 0
NoRequest s = (invoke : ℕ) (content : RequestContent) → SpellsRequest s invoke content → ⊥

-- how many invoke-ids there are
abbrev pub invoke_ids : ℕ
invoke_ids = 16

-- The invoke byte: bits 0 to 3 are the invoke-id, bit 6 is the service class, bit 7 the priority; the others are ignored (own).
abbrev pub invoke_id : ℕ → ℕ
invoke_id invoke = invoke % invoke_ids

-- the service class: whether the sender waits for a response
abbrev pub is_confirmed : ℕ → Bool
is_confirmed invoke = invoke / 64 % 2 == 1
