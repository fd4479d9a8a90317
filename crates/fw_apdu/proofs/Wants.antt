-- Where memory may be taken.
use Rattle.std.proofs.Common.{◌≡◌, ℕ, List, ◌∷◌, ◌++◌, inl, inr, ap, ◌∙◌}
use Rattle.fw_axdr.specs.Spelling.{max_depth}
use Rattle.fw_axdr.specs.Memory.{MayTakeMemory}
use Rattle.fw_axdr.specs.Fault as axdr
use Rattle.fw_axdr.specs.declared.error.AxdrError.{AxdrError}
use Rattle.fw_axdr.specs.declared.error.AxdrError.TheVariants as fault
use Rattle.fw_apdu.specs.declared.error.ApduError.{ApduError}
use Rattle.fw_apdu.specs.declared.error.ApduError.TheVariants.{Truncated, UnknownService, UnsupportedForm, BadData, Trailing, OutOfMemory}
use Rattle.fw_apdu.specs.declared.request.Head.{Head}
use Rattle.fw_apdu.specs.Cause.{fault_from}
use Rattle.fw_apdu.specs.Fault.{IfMemory}
use Rattle.fw_apdu.specs.Request.{head_bytes, MayHoldData}
use Rattle.fw_apdu.specs.Response.{MayReturnData}
use Rattle.fw_apdu.specs.Private.{descriptor_of, HeadRead, AnswerRead, ParameterTakes, ResultTakes, ReturnedTakes}

pub IfMemory-map : (e : ApduError) (P Q : Type 0) → (P → Q) → IfMemory e P → IfMemory e Q
IfMemory-map OutOfMemory P Q f h = f h
IfMemory-map Truncated P Q f h = tt
IfMemory-map UnknownService P Q f h = tt
IfMemory-map UnsupportedForm P Q f h = tt
IfMemory-map (BadData fault) P Q f h = tt
IfMemory-map Trailing P Q f h = tt

-- what takes no memory
pub IfMemory-none : (e : ApduError) (Q : Type 0) → IfMemory e ⊥ → IfMemory e Q
IfMemory-none e Q h = IfMemory-map e ⊥ Q (λ no. absurd no) h

-- what holds in any case
pub IfMemory-all : (e : ApduError) (Q : Type 0) → Q → IfMemory e Q
IfMemory-all OutOfMemory Q h = h
IfMemory-all Truncated Q h = tt
IfMemory-all UnknownService Q h = tt
IfMemory-all UnsupportedForm Q h = tt
IfMemory-all (BadData fault) Q h = tt
IfMemory-all Trailing Q h = tt

-- the error of an APDU for that of its Data
pub data_wants : (f : AxdrError) (P : Type 0) → axdr.IfMemory f P → IfMemory (fault_from f) P
data_wants fault.OutOfMemory P h = h
data_wants fault.Truncated P h = tt
data_wants fault.UnknownTag P h = tt
data_wants fault.BadLength P h = tt
data_wants fault.TooDeep P h = tt

pub set_takes : (s : List ℕ) (head : Head) (rest body : List ℕ) → HeadRead s head rest → rest ≡ 0x00 ∷ body → MayTakeMemory max_depth body → MayHoldData (0xc1 ∷ s)
set_takes s head rest body read e takes =
    let parts : s ≡ head_bytes head.invoke.0 (descriptor_of head) ++ 0x00 ∷ body = read.parts ∙ ap (λ (x : List ℕ). head_bytes head.invoke.0 (descriptor_of head) ++ x) e in
    (body, (head.invoke.0, descriptor_of head, read.fits, inl (ap (λ (x : List ℕ). 0xc1 ∷ x) parts)), takes)

pub action_takes : (s : List ℕ) (head : Head) (rest : List ℕ) → HeadRead s head rest → ParameterTakes rest → MayHoldData (0xc3 ∷ s)
action_takes s head rest read h =
    let parts : s ≡ head_bytes head.invoke.0 (descriptor_of head) ++ h.0 ∷ h.1 = read.parts ∙ ap (λ (x : List ℕ). head_bytes head.invoke.0 (descriptor_of head) ++ x) h.2 in
    (h.1, (head.invoke.0, descriptor_of head, read.fits, inr (h.0, ap (λ (x : List ℕ). 0xc3 ∷ x) parts, h.3)), h.4)

pub answer_takes : (s : List ℕ) (invoke : ℕ) (rest : List ℕ) → AnswerRead s invoke rest → ResultTakes rest → MayReturnData (0xc4 ∷ s)
answer_takes s invoke rest read h =
    let parts : s ≡ 0x01 ∷ invoke ∷ 0x00 ∷ h.0 = read ∙ ap (λ (x : List ℕ). 0x01 ∷ invoke ∷ x) h.1 in
    (h.0, (invoke, inl (ap (λ (x : List ℕ). 0xc4 ∷ x) parts)), h.2)

pub returned_takes : (s : List ℕ) (invoke c : ℕ) (rest behind : List ℕ) → AnswerRead s invoke rest → rest ≡ c ∷ behind → ReturnedTakes behind → MayReturnData (0xc7 ∷ s)
returned_takes s invoke c rest behind read e h =
    let parts : s ≡ 0x01 ∷ invoke ∷ c ∷ h.0 ∷ 0x00 ∷ h.4.0 =
    read ∙ ap (λ (x : List ℕ). 0x01 ∷ invoke ∷ x) (e ∙ ap (λ (x : List ℕ). c ∷ x) (h.2 ∙ ap (λ (x : List ℕ). h.0 ∷ x) h.4.1)) in
    (h.4.0, (invoke, inr (c, h.0, ap (λ (x : List ℕ). 0xc7 ∷ x) parts, h.3)), h.4.2)
