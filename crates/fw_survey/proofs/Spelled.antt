-- Each question has a spelling, and it fits one APDU.
use Rattle.std.proofs.Common.{◌≡◌, ℕ, ◌≤◌, length, Option, None, Result, Ok, Err, refl, subst, ap}
use Rattle.std.specs.Prelude.{IfOk, IfErr, List}
use Rattle.std.specs.Global.{Vec}
use Rattle.fw_axdr.specs.declared.error.AxdrError.{AxdrError}
use Rattle.fw_apdu.specs.declared.error.ApduError.{ApduError}
use Rattle.fw_apdu.specs.declared.error.ApduError.TheVariants.{Truncated, UnknownService, UnsupportedForm, BadData, Trailing, OutOfMemory}
use Rattle.fw_apdu.specs.Fault.{IfFault, IfMemory, IsBadData}
use Rattle.fw_apdu.specs.Request.{RequestContent, get_request, request_bytes, unwritable_request}
use Rattle.fw_apdu.specs.Response.{MayReturnData}
use Rattle.fw_wrapper.specs.Wrapper.{Wraps, max_apdu, wport}
use Rattle.fw_survey.specs.Answers.{MayCarryData}
use Rattle.fw_survey.specs.Questions.{attribute_of, invoke_byte}
use Rattle.fw_survey.specs.declared.question.Question.{Question}
use Rattle.fw_survey.proofs.Questions.{question_fits}

-- what has no unwritable part is refused for no fault
none_bad : (e : ApduError) {u : Option AxdrError} → u ≡ None → IsBadData u e → ⊥
none_bad e is h = subst (λ (x : Option AxdrError). IsBadData x e) is h

no_fault : (e : ApduError) {u : Option AxdrError} → u ≡ None → IfFault e (IsBadData u e) → e ≡ OutOfMemory
no_fault Truncated is h = absurd (none_bad Truncated is h)
no_fault UnknownService is h = absurd (none_bad UnknownService is h)
no_fault UnsupportedForm is h = absurd (none_bad UnsupportedForm is h)
no_fault (BadData fault) is h = absurd (none_bad (BadData fault) is h)
no_fault Trailing is h = absurd (none_bad Trailing is h)
no_fault OutOfMemory is h = refl

pub written_size : (r : Result (Vec ℕ) ApduError) (i : ℕ) (k : RequestContent) (q : Question) → i ≡ invoke_byte q → k ≡ get_request (attribute_of q)
    → IfOk r (λ v. v.items ≡ request_bytes i k) → IfOk r (λ v. length v.items ≤ max_apdu)
written_size (Ok v) i k q invoke content written = rw (written, invoke, content) (question_fits q)
written_size (Err e) i k q invoke content written = tt

pub refused_for_memory : (r : Result (Vec ℕ) ApduError) (k : RequestContent) (q : Question) → k ≡ get_request (attribute_of q)
    → IfErr r (λ e. IfFault e (IsBadData (unwritable_request k) e)) → IfErr r (λ e. e ≡ OutOfMemory)
refused_for_memory (Ok v) k q content refused = tt
refused_for_memory (Err e) k q content refused = no_fault e (ap unwritable_request content) refused

-- a datagram from and to the wPort of both ends carries the Data that its APDU may return
pub data_carried : (datagram apdu : List ℕ) (source dest : ℕ) (e : ApduError) → source ≡ wport → dest ≡ wport → Wraps datagram source dest apdu → e ≡ OutOfMemory
    → IfMemory e (MayReturnData apdu) → MayCarryData datagram
data_carried datagram apdu source dest e from to wraps is takes =
    let wraps' : Wraps datagram wport dest apdu = subst (λ (p : ℕ). Wraps datagram p dest apdu) from wraps in
    let T : ApduError → Type 0 = λ x. IfMemory x (MayReturnData apdu) in
    (apdu, subst (λ (p : ℕ). Wraps datagram wport p apdu) to wraps', subst T is takes)
