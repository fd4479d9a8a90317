-- Why a byte string is no request, or no response: of its faults the leftmost one. Reading goes from left to right, and
-- each definition here says what may be wrong at one place, and passes on to what follows it.
use Rattle.std.specs.Prelude.{◌≡◌, ℕ, Bool, List, [], ◌∷◌, ◌++◌, length, drop, nat_lt, ◌==◌, ◌⊎◌, Option, Some, None, MatchBool}
use Rattle.fw_axdr.specs.Value.{Value}
use Rattle.fw_axdr.specs.Spelling.{IsData, max_depth}
use Rattle.fw_axdr.specs.Fault.{Fails}
use Rattle.fw_axdr.specs.declared.error.AxdrError.{AxdrError}
use Rattle.fw_apdu.specs.declared.error.ApduError.{ApduError}
use Rattle.fw_apdu.specs.declared.error.ApduError.TheVariants.{Truncated, UnknownService, UnsupportedForm, BadData, Trailing, OutOfMemory}

-- nothing may stand here
abbrev pub EndFails : List ℕ → ApduError → Type 0
EndFails [] e = ⊥
EndFails (b ∷ s) e = e ≡ Trailing

-- a Data must stand here, and nothing after it
abbrev pub DataFails : List ℕ → ApduError → Type 0
DataFails s e =
    ((fault : AxdrError) × Fails max_depth s fault × (e ≡ BadData fault))
    ⊎ ((v : Value) × (front : List ℕ) × (b : ℕ) × (rest : List ℕ) × IsData max_depth front v × (s ≡ front ++ b ∷ rest) × (e ≡ Trailing))

-- a byte that passes the test must stand here, and then what follows it
abbrev pub ByteFails : (ℕ → Bool) → ApduError → (List ℕ → ApduError → Type 0) → List ℕ → ApduError → Type 0
ByteFails test other behind [] e = e ≡ Truncated
ByteFails test other behind (b ∷ s) e = MatchBool (test b) (behind s e) (e ≡ other)

-- `n` bytes of any kind must stand here, and then what follows them
abbrev pub BytesFail : ℕ → (List ℕ → ApduError → Type 0) → List ℕ → ApduError → Type 0
BytesFail n behind s e = MatchBool (nat_lt (length s) n) (e ≡ Truncated) (behind (drop n s) e)

-- after the byte of the service: the normal form, 01, and ten bytes of invoke byte and descriptor
abbrev pub HeadFails : (List ℕ → ApduError → Type 0) → List ℕ → ApduError → Type 0
HeadFails behind s e = ByteFails (λ b. b == 0x01) UnsupportedForm (λ t f. BytesFail 10 behind t f) s e

-- no selective access, 00
abbrev pub SelectionFails : (List ℕ → ApduError → Type 0) → List ℕ → ApduError → Type 0
SelectionFails behind s e = ByteFails (λ b. b == 0x00) UnsupportedForm behind s e

-- 00 and nothing after it, or any other byte and a Data
abbrev pub ParameterFails : List ℕ → ApduError → Type 0
ParameterFails [] e = e ≡ Truncated
ParameterFails (b ∷ s) e = MatchBool (b == 0x00) (EndFails s e) (DataFails s e)

-- after the byte of each service
abbrev pub GetFails : List ℕ → ApduError → Type 0
GetFails s e = HeadFails (λ t f. SelectionFails (λ u g. EndFails u g) t f) s e

abbrev pub SetFails : List ℕ → ApduError → Type 0
SetFails s e = HeadFails (λ t f. SelectionFails (λ u g. DataFails u g) t f) s e

abbrev pub ActionFails : List ℕ → ApduError → Type 0
ActionFails s e = HeadFails (λ t f. ParameterFails t f) s e

-- the fault of a byte string that is to be a request
abbrev pub RequestFails : List ℕ → ApduError → Type 0
RequestFails [] e = e ≡ Truncated
RequestFails (b ∷ s) e =
    MatchBool (b == 0xc0) (GetFails s e) (MatchBool (b == 0xc1) (SetFails s e) (MatchBool (b == 0xc3) (ActionFails s e) (e ≡ UnknownService)))

-- a Get-Data-Result: 00 and a Data, or 01 and a code, and nothing after either
abbrev pub ResultFails : List ℕ → ApduError → Type 0
ResultFails [] e = e ≡ Truncated
ResultFails (b ∷ s) e = MatchBool (b == 0x00) (DataFails s e) (MatchBool (b == 0x01) (BytesFail 1 (λ t f. EndFails t f) s e) (e ≡ UnsupportedForm))

-- 00 and nothing after it, or any other byte and a Get-Data-Result
abbrev pub ReturnedFails : List ℕ → ApduError → Type 0
ReturnedFails [] e = e ≡ Truncated
ReturnedFails (b ∷ s) e = MatchBool (b == 0x00) (EndFails s e) (ResultFails s e)

-- after the byte of the service: the normal form, 01, and the invoke byte
abbrev pub AnswerFails : (List ℕ → ApduError → Type 0) → List ℕ → ApduError → Type 0
AnswerFails behind s e = ByteFails (λ b. b == 0x01) UnsupportedForm (λ t f. BytesFail 1 behind t f) s e

-- after the byte of each service: a result, a code alone, or a code and return parameters
abbrev pub GetAnswerFails : List ℕ → ApduError → Type 0
GetAnswerFails s e = AnswerFails (λ t f. ResultFails t f) s e

abbrev pub SetAnswerFails : List ℕ → ApduError → Type 0
SetAnswerFails s e = AnswerFails (λ t f. BytesFail 1 (λ u g. EndFails u g) t f) s e

abbrev pub ActionAnswerFails : List ℕ → ApduError → Type 0
ActionAnswerFails s e = AnswerFails (λ t f. BytesFail 1 (λ u g. ReturnedFails u g) t f) s e

-- the fault of a byte string that is to be a response
abbrev pub ResponseFails : List ℕ → ApduError → Type 0
ResponseFails [] e = e ≡ Truncated
ResponseFails (b ∷ s) e =
    MatchBool (b == 0xc4) (GetAnswerFails s e) (MatchBool (b == 0xc5) (SetAnswerFails s e) (MatchBool (b == 0xc7) (ActionAnswerFails s e) (e ≡ UnknownService)))

-- P, where the error is a fault and not OutOfMemory
abbrev pub IfFault : ApduError → Type 0 → Type 0
IfFault OutOfMemory P = Unit {0}
IfFault Truncated P = P
IfFault UnknownService P = P
IfFault UnsupportedForm P = P
IfFault (BadData fault) P = P
IfFault Trailing P = P

-- P, where the error is OutOfMemory
abbrev pub IfMemory : ApduError → Type 0 → Type 0
IfMemory OutOfMemory P = P
IfMemory Truncated P = Unit {0}
IfMemory UnknownService P = Unit {0}
IfMemory UnsupportedForm P = Unit {0}
IfMemory (BadData fault) P = Unit {0}
IfMemory Trailing P = Unit {0}

-- what has this unwritable part is refused for it
abbrev pub IsBadData : Option AxdrError → ApduError → Type 0
IsBadData None e = ⊥
IsBadData (Some fault) e = e ≡ BadData fault
