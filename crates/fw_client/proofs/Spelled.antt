-- Each ask has a spelling, and it fits one APDU.
use Rattle.std.proofs.Common.{◌≡◌, ℕ, ◌≤◌, length, Option, None, Result, Ok, Err, refl, subst, ap, ◌∙◌, arith}
use Rattle.std.specs.Prelude.{IfOk, IfErr}
use Rattle.std.specs.Global.{Vec}
use Rattle.std.proofs.lemmas.Grind.{common_steps}
use Rattle.fw_axdr.specs.declared.error.AxdrError.{AxdrError}
use Rattle.fw_apdu.specs.declared.error.ApduError.{ApduError}
use Rattle.fw_apdu.specs.declared.error.ApduError.TheVariants.{Truncated, UnknownService, UnsupportedForm, BadData, Trailing, OutOfMemory}
use Rattle.fw_apdu.specs.Fault.{IfFault, IsBadData}
use Rattle.fw_apdu.specs.Request.{RequestContent, request_bytes, unwritable_request}
use Rattle.fw_names.specs.Name.{Name, IsName, name_bytes}
use Rattle.fw_wrapper.specs.Wrapper.{max_apdu}
use Rattle.fw_client.specs.Ask.{Ask, block_size, first_missing, blocks, status, info, active_name, enable, initiate, block, verify, activate, request_of, Fits}
use Rattle.fw_client.specs.Private.{IsNamed}

-- a name is spelled in 45 bytes at most
most : (name : Name) → IsName name → length (name_bytes name) ≤ 45
most name h = let digest : length name.digest ≡ 32 = h.digest_size in grind (arith, common_steps)

writable : (a : Ask) → Fits a → IsNamed a → unwritable_request (request_of a) ≡ None
writable block_size fits named = refl
writable first_missing fits named = refl
writable blocks fits named = refl
writable status fits named = refl
writable info fits named = refl
writable active_name fits named = refl
writable enable fits named = refl
writable (initiate name size) fits named = let spelled = most name named in grind (arith, common_steps)
writable (block number value) fits named = grind (arith, common_steps)
writable verify fits named = refl
writable activate fits named = refl

bytes_fit : (invoke : ℕ) (a : Ask) → Fits a → IsNamed a → length (request_bytes invoke (request_of a)) ≤ max_apdu
bytes_fit invoke block_size fits named = omega arith
bytes_fit invoke first_missing fits named = omega arith
bytes_fit invoke blocks fits named = omega arith
bytes_fit invoke status fits named = omega arith
bytes_fit invoke info fits named = omega arith
bytes_fit invoke active_name fits named = omega arith
bytes_fit invoke enable fits named = omega arith
bytes_fit invoke (initiate name size) fits named = let spelled = most name named in grind (arith, common_steps)
bytes_fit invoke (block number value) fits named = grind (arith, common_steps)
bytes_fit invoke verify fits named = omega arith
bytes_fit invoke activate fits named = omega arith

-- what has no unwritable part is refused for no fault
none_bad : (e : ApduError) {u : Option AxdrError} → u ≡ None → IsBadData u e → ⊥
none_bad e is h = subst (λ (x : Option AxdrError). IsBadData x e) is h

no_fault : (e : ApduError) {u : Option AxdrError} → u ≡ None → IfFault e (IsBadData u e) → e ≡ OutOfMemory
no_fault Truncated is h = absurd (none_bad Truncated is h)
no_fault UnknownService is h = absurd (none_bad UnknownService is h)
no_fault UnsupportedForm is h = absurd (none_bad UnsupportedForm is h)
no_fault (BadData fault) is h = absurd (none_bad (BadData fault) is h)
no_fault Trailing is h = absurd (none_bad Trailing is h)
no_fault OutOfMemory is h = refl

only_memory : (e : ApduError) (k : RequestContent) (a : Ask) → Fits a → IsNamed a → k ≡ request_of a → IfFault e (IsBadData (unwritable_request k) e) → e ≡ OutOfMemory
only_memory e k a fits named same h = no_fault e (ap unwritable_request same ∙ writable a fits named) h

-- ---- of what was written

pub written_size : (r : Result (Vec ℕ) ApduError) (invoke : ℕ) (k : RequestContent) (a : Ask) → Fits a → IsNamed a → k ≡ request_of a
    → IfOk r (λ v. v.items ≡ request_bytes invoke k) → IfOk r (λ v. length v.items ≤ max_apdu)
written_size (Ok v) invoke k a fits named same written = rw (written, same) (bytes_fit invoke a fits named)
written_size (Err e) invoke k a fits named same written = tt

pub refused_for_memory : (r : Result (Vec ℕ) ApduError) (k : RequestContent) (a : Ask) → Fits a → IsNamed a → k ≡ request_of a
    → IfErr r (λ e. IfFault e (IsBadData (unwritable_request k) e)) → IfErr r (λ e. e ≡ OutOfMemory)
refused_for_memory (Ok v) k a fits named same refused = tt
refused_for_memory (Err e) k a fits named same refused = only_memory e k a fits named same refused
