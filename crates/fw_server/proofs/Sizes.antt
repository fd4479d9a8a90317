-- Which outcomes can be spelled, and in how many bytes.
use Rattle.std.proofs.Common.{◌≡◌, ℕ, ◌+◌, ◌<◌, ◌≤◌, ◌^◌, ◌⊎◌, length, Option, Some, None, Result, Ok, Err, refl, subst, ap, ◌∙◌, ⊎_elim, arith}
use Rattle.std.proofs.lemmas.Grind.{common_steps}
use Rattle.std.specs.Prelude.{IfOk, IfErr}
use Rattle.std.specs.Global.{Vec}
use Rattle.fw_wrapper.specs.Wrapper.{max_apdu}
use Rattle.fw_blocks.specs.Cuts.{max_blocks}
use Rattle.fw_axdr.specs.Spelling.{short, max_depth}
use Rattle.fw_axdr.specs.Fault.{unwritable}
use Rattle.fw_axdr.specs.Bits.{bytes_for}
use Rattle.fw_axdr.specs.declared.error.AxdrError.{AxdrError}
use Rattle.fw_names.specs.Name.{Name, IsName, name_bytes}
use Rattle.fw_apdu.specs.declared.error.ApduError.{ApduError}
use Rattle.fw_apdu.specs.declared.error.ApduError.TheVariants.{Truncated, UnknownService, UnsupportedForm, BadData, Trailing, OutOfMemory}
use Rattle.fw_apdu.specs.Fault.{IfFault, IsBadData}
use Rattle.fw_apdu.specs.Response.{ResponseContent, response_bytes, unwritable_response}
use Rattle.fw_server.specs.Answer.{value_of_answer, response_of, HasSizes, HasAnswerSizes, bits_in_answer, bits_in}
use Rattle.fw_server.specs.declared.outcome.Answer.{Answer}
use Rattle.fw_server.specs.declared.outcome.Answer.TheVariants.{LogicalName, BlockSize, TransferredBlocks, FirstNotTransferred, TransferEnabled, TransferStatus, ToActivate, ActiveName, ActiveDigest}
use Rattle.fw_server.specs.declared.outcome.Outcome.{Outcome}
use Rattle.fw_server.specs.declared.outcome.Outcome.TheVariants.{Got, GetCode, SetCode, ActionCode}
use Rattle.fw_server.proofs.Packing.{length_packed}

-- a name is spelled in 41 bytes, or in 45
pub name_size : (name : Name) → IsName name → (length (name_bytes name) ≡ 41) ⊎ (length (name_bytes name) ≡ 45)
name_size name h = let digest : length name.digest ≡ 32 = h.digest_size in grind (arith, common_steps)

-- so in 45 at most
most : (name : Name) → IsName name → length (name_bytes name) ≤ 45
most name h = ⊎_elim (λ short. omega (arith, short)) (λ long. omega (arith, long)) (name_size name h)

answer_size : (a : Answer) → HasSizes a → length (short (value_of_answer a)) ≤ 90 + bytes_for (bits_in_answer a)
answer_size (LogicalName bytes) h = grind (arith, common_steps)
answer_size (BlockSize bytes) h = grind (arith, common_steps)
answer_size (TransferredBlocks marks) h = let size = length_packed marks in grind (arith, common_steps)
answer_size (FirstNotTransferred number) h = grind (arith, common_steps)
answer_size (TransferEnabled enabled) h = grind (arith, common_steps)
answer_size (TransferStatus status) h = grind (arith, common_steps)
answer_size (ToActivate None) h = grind (arith, common_steps)
answer_size (ToActivate (Some info)) h = let digest : length info.name.digest ≡ 32 = h.digest_size in let name = most info.name h in grind (arith, common_steps)
answer_size (ActiveName name) h = let size = most name h in grind (arith, common_steps)
answer_size (ActiveDigest digest) h = grind (arith, common_steps)

answer_writable : (a : Answer) → HasSizes a → bits_in_answer a < 2 ^ 32 → unwritable (value_of_answer a) max_depth ≡ None
answer_writable (LogicalName bytes) h few = grind (arith, common_steps)
answer_writable (BlockSize bytes) h few = refl
answer_writable (TransferredBlocks marks) h few = grind (arith, common_steps)
answer_writable (FirstNotTransferred number) h few = refl
answer_writable (TransferEnabled enabled) h few = refl
answer_writable (TransferStatus status) h few = refl
answer_writable (ToActivate None) h few = refl
answer_writable (ToActivate (Some info)) h few = let digest : length info.name.digest ≡ 32 = h.digest_size in let name = most info.name h in grind (arith, common_steps)
answer_writable (ActiveName name) h few = let size = most name h in grind (arith, common_steps)
answer_writable (ActiveDigest digest) h few = grind (arith, common_steps)

outcome_size : (invoke : ℕ) (o : Outcome) → HasAnswerSizes o → length (response_bytes invoke (response_of o)) ≤ 94 + bytes_for (bits_in o)
outcome_size invoke (Got a) h = let size = answer_size a h in omega (arith, size)
outcome_size invoke (GetCode c) h = omega arith
outcome_size invoke (SetCode c) h = omega arith
outcome_size invoke (ActionCode c) h = omega arith

outcome_writable : (o : Outcome) → HasAnswerSizes o → bits_in o < 2 ^ 32 → unwritable_response (response_of o) ≡ None
outcome_writable (Got a) h few = answer_writable a h few
outcome_writable (GetCode c) h few = refl
outcome_writable (SetCode c) h few = refl
outcome_writable (ActionCode c) h few = refl

-- ---- of what was written

pub written_size : (r : Result (Vec ℕ) ApduError) (invoke : ℕ) (k : ResponseContent) (o : Outcome) → HasAnswerSizes o → k ≡ response_of o
    → IfOk r (λ v. v.items ≡ response_bytes invoke k) → IfOk r (λ v. length v.items ≤ 94 + bytes_for (bits_in o))
written_size (Ok v) invoke k o h same written = rw (written, same) (outcome_size invoke o h)
written_size (Err e) invoke k o h same written = tt

pub size_fits : (r : Result (Vec ℕ) ApduError) (n : ℕ) → IfOk r (λ v. length v.items ≤ 94 + bytes_for n) → n ≤ max_blocks → IfOk r (λ v. length v.items ≤ max_apdu)
size_fits (Ok v) n size few = omega (arith, size, few)
size_fits (Err e) n size few = tt

-- what has no unwritable part is refused for no fault
none_bad : (e : ApduError) {u : Option AxdrError} → u ≡ None → IsBadData u e → ⊥
none_bad e writable h = subst (λ (x : Option AxdrError). IsBadData x e) writable h

only_memory : (e : ApduError) {u : Option AxdrError} → u ≡ None → IfFault e (IsBadData u e) → e ≡ OutOfMemory
only_memory Truncated writable h = absurd (none_bad Truncated writable h)
only_memory UnknownService writable h = absurd (none_bad UnknownService writable h)
only_memory UnsupportedForm writable h = absurd (none_bad UnsupportedForm writable h)
only_memory (BadData fault) writable h = absurd (none_bad (BadData fault) writable h)
only_memory Trailing writable h = absurd (none_bad Trailing writable h)
only_memory OutOfMemory writable h = refl

pub refused_for_memory : (r : Result (Vec ℕ) ApduError) (k : ResponseContent) (o : Outcome) → HasAnswerSizes o → k ≡ response_of o
    → IfErr r (λ e. IfFault e (IsBadData (unwritable_response k) e)) → bits_in o < 2 ^ 32 → IfErr r (λ e. e ≡ OutOfMemory)
refused_for_memory (Ok v) k o h same refused few = tt
refused_for_memory (Err e) k o h same refused few = only_memory e (ap unwritable_response same ∙ outcome_writable o h few) refused
