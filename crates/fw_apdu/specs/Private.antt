-- For private clauses alone: what the parts of the readers give, and where they may take memory.
use Rattle.std.specs.Prelude.{◌≡◌, ◌≢◌, ℕ, List, [], ◌∷◌, ◌++◌, Option, Some, None}
use Rattle.fw_axdr.specs.Value.{Value}
use Rattle.fw_axdr.specs.Spelling.{IsData, max_depth}
use Rattle.fw_axdr.specs.Memory.{MayTakeMemory}
use Rattle.fw_apdu.specs.declared.error.ApduError.{ApduError}
use Rattle.fw_apdu.specs.declared.request.Head.{Head}
use Rattle.fw_apdu.specs.Request.{Descriptor, IsDescriptor, head_bytes}
use Rattle.fw_apdu.specs.Response.{GetResult, SpellsResult}
use Rattle.fw_apdu.specs.Fault.{BytesFail, HeadFails, SelectionFails, AnswerFails}

abbrev pub descriptor_of : Head → Descriptor
descriptor_of head = record { class = head.class; instance = head.instance.0; number = head.number }

-- the bytes begin with this head, and the rest follows it
pub record HeadRead (s : List ℕ) (head : Head) (rest : List ℕ) : Type 0 where
  pub fits : IsDescriptor (descriptor_of head)
  pub parts : s ≡ head_bytes head.invoke.0 (descriptor_of head) ++ rest

-- the fault lies within the head
abbrev pub HeadStops : List ℕ → ApduError → Type 0
HeadStops s e = HeadFails (λ t f. ⊥) s e

-- the bytes begin with the normal form and this invoke byte, and the rest follows them
abbrev pub AnswerRead : List ℕ → ℕ → List ℕ → Type 0
AnswerRead s invoke rest = s ≡ 0x01 ∷ invoke ∷ rest

-- the fault lies there
abbrev pub AnswerStops : List ℕ → ApduError → Type 0
AnswerStops s e = AnswerFails (λ t f. ⊥) s e

-- the fault lies in a code
abbrev pub CodeStops : List ℕ → ApduError → Type 0
CodeStops s e = BytesFail 1 (λ t f. ⊥) s e

-- 00 and nothing after it, or any other byte and a Get-Data-Result
abbrev pub IsReturned : List ℕ → Option GetResult → Type 0
IsReturned s None = s ≡ 0x00 ∷ []
IsReturned s (Some r) = (present : ℕ) × (body : List ℕ) × (s ≡ present ∷ body) × (present ≢ 0) × SpellsResult body r

-- the fault lies in the access selection
abbrev pub SelectionStops : List ℕ → ApduError → Type 0
SelectionStops s e = SelectionFails (λ t f. ⊥) s e

-- 00 and nothing after it, or any other byte and a Data
abbrev pub IsParameter : List ℕ → Option Value → Type 0
IsParameter s None = s ≡ 0x00 ∷ []
IsParameter s (Some v) = (present : ℕ) × (body : List ℕ) × (s ≡ present ∷ body) × (present ≢ 0) × IsData max_depth body v

-- ---- if memory may be taken

-- for a parameter, which stands after any byte except 00
abbrev pub ParameterTakes : List ℕ → Type 0
ParameterTakes s = (present : ℕ) × (body : List ℕ) × (s ≡ present ∷ body) × (present ≢ 0) × MayTakeMemory max_depth body

-- for the value of a Get-Data-Result, which stands after 00
abbrev pub ResultTakes : List ℕ → Type 0
ResultTakes s = (body : List ℕ) × (s ≡ 0x00 ∷ body) × MayTakeMemory max_depth body

-- for return parameters, which stand after any byte except 00
abbrev pub ReturnedTakes : List ℕ → Type 0
ReturnedTakes s = (present : ℕ) × (body : List ℕ) × (s ≡ present ∷ body) × (present ≢ 0) × ResultTakes body
