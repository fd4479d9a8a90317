-- Operations that are refused, and those that a status lacks.
use Rattle.std.proofs.Common.{◌≡◌, ◌≢◌, ℕ, Bool, true, false, IsTrue, List, if◌then◌else◌, ◌⊎◌, inl, inr, refl, sym, ap, ◌∙◌, arith}
use Rattle.fw_store.specs.Faults.{count_after}
use Rattle.fw_server.specs.Meaning.{code_number}
use Rattle.fw_server.specs.declared.code.ResultCode.TheVariants as code
use Rattle.fw_image.specs.declared.status.TransferStatus.TheVariants as status
use Rattle.fw_image.specs.Meter.{Meter, Phase, idle, receiving, verifying, verified, spoilt, switched, status_of}
use Rattle.fw_image.specs.State.{State}
use Rattle.fw_image.specs.Phases.{state_in, IsInPhase}
use Rattle.fw_image.specs.declared.phase.Phase.{Phase as Core}
use Rattle.fw_image.specs.declared.phase.Phase.TheVariants as core
use Rattle.fw_image.specs.Step.{Operation, enable, initiate, block, verify, activate, refused, refusal_in, Admits, Refuses, Serves, is_operation_faultless}
use Rattle.fw_image.specs.declared.error.Refusal.{Refusal}
use Rattle.fw_image.specs.declared.error.Refusal.TheVariants.{Disabled, Missing}
use Rattle.fw_meter.specs.Step.{refusal_code}
use Rattle.fw_meter.specs.Private.{IsMade}

refused_method : (m : Meter) (operation : Operation) (r : Refusal) → ((m.enabled ≡ false) × (r ≡ Disabled)) ⊎ ((m.enabled ≡ true) × (r ≡ refusal_in m.phase operation) × ¬ Admits m m.phase operation)
    → (m.enabled ≡ true) × Admits m m.phase operation → ⊥
refused_method m operation r (inl line) serves = let bad : true ≡ false = sym serves.0 ∙ line.0 in cc
refused_method m operation r (inr line) serves = line.2 serves.1

-- what a line refuses is not served
pub not_served : (m : Meter) (operation : Operation) (r : Refusal) → Refuses m operation r → Serves m operation → ⊥
not_served m (enable b) r line serves = elim line [ ]
not_served m (initiate name size) r line serves = refused_method m (initiate name size) r line serves
not_served m (block i value) r line serves = refused_method m (block i value) r line serves
not_served m verify r line serves = refused_method m verify r line serves
not_served m activate r line serves = refused_method m activate r line serves

-- a line refuses the operation
refused_by : (s : State) (operation : Operation) (r : Refusal) (n : ℕ) → Refuses s.meter operation r → IsTrue (is_operation_faultless (refused r)) → n ≡ code_number (refusal_code r) → IsMade s operation n s
refused_by s operation r n line faultless told = (
  refused r,
  record {
    step = inl (record { refusal = r; line = line; told = refl; same = record { shows = refl; is = λ _. refl } });
    untouched = λ _ _. refl;
    follows = record { honesty = refl; soundness = λ h. h; later = omega arith };
    counts = record { counted = ap (λ (ok : Bool). count_after ok s.faults) (sym faultless); never = λ _. faultless };
    spends = λ serves. absurd (not_served s.meter operation r line serves);
    left = λ honest set is failed. let bad : true ≡ false = sym faultless ∙ failed in absurd cc;
  },
  told,
)

-- a status that lacks the call
pub lacks_block : (s : State) (i : ℕ) (value : List ℕ) (e : Bool) (p : Phase) → s.meter.enabled ≡ e → s.meter.phase ≡ p → status_of p ≢ status.Initiated
    → IsMade s (block i value) (code_number (if e then code.TemporaryFailure else code.ReadWriteDenied)) s
lacks_block s i value false p off phase other = refused_by s (block i value) Disabled 3 (inl (off, refl)) refl refl
lacks_block s i value true idle on phase other = refused_by s (block i value) Missing 2 (inr (on, rw phase refl, rw phase (λ h. h))) refl refl
lacks_block s i value true (receiving goal) on phase other = absurd (other refl)
lacks_block s i value true (verifying goal taken) on phase other = refused_by s (block i value) Missing 2 (inr (on, rw phase refl, rw phase (λ h. h))) refl refl
lacks_block s i value true (verified goal) on phase other = refused_by s (block i value) Missing 2 (inr (on, rw phase refl, rw phase (λ h. h))) refl refl
lacks_block s i value true (spoilt goal) on phase other = refused_by s (block i value) Missing 2 (inr (on, rw phase refl, rw phase (λ h. h))) refl refl
lacks_block s i value true switched on phase other = refused_by s (block i value) Missing 2 (inr (on, rw phase refl, rw phase (λ h. h))) refl refl

pub lacks_verify : (s : State) (e : Bool) (p : Phase) → s.meter.enabled ≡ e → s.meter.phase ≡ p → status_of p ≢ status.Initiated
    → IsMade s verify (code_number (if e then code.TemporaryFailure else code.ReadWriteDenied)) s
lacks_verify s false p off phase other = refused_by s verify Disabled 3 (inl (off, refl)) refl refl
lacks_verify s true idle on phase other = refused_by s verify Missing 2 (inr (on, refl, rw phase (λ h. h))) refl refl
lacks_verify s true (receiving goal) on phase other = absurd (other refl)
lacks_verify s true (verifying goal taken) on phase other = refused_by s verify Missing 2 (inr (on, refl, rw phase (λ h. h))) refl refl
lacks_verify s true (verified goal) on phase other = refused_by s verify Missing 2 (inr (on, refl, rw phase (λ h. h))) refl refl
lacks_verify s true (spoilt goal) on phase other = refused_by s verify Missing 2 (inr (on, refl, rw phase (λ h. h))) refl refl
lacks_verify s true switched on phase other = refused_by s verify Missing 2 (inr (on, refl, rw phase (λ h. h))) refl refl

pub lacks_activate : (s : State) (e : Bool) (p : Phase) → s.meter.enabled ≡ e → s.meter.phase ≡ p → status_of p ≢ status.VerificationSuccessful
    → IsMade s activate (code_number (if e then code.TemporaryFailure else code.ReadWriteDenied)) s
lacks_activate s false p off phase other = refused_by s activate Disabled 3 (inl (off, refl)) refl refl
lacks_activate s true idle on phase other = refused_by s activate Missing 2 (inr (on, refl, rw phase (λ h. h))) refl refl
lacks_activate s true (receiving goal) on phase other = refused_by s activate Missing 2 (inr (on, refl, rw phase (λ h. h))) refl refl
lacks_activate s true (verifying goal taken) on phase other = refused_by s activate Missing 2 (inr (on, refl, rw phase (λ h. h))) refl refl
lacks_activate s true (verified goal) on phase other = absurd (other refl)
lacks_activate s true (spoilt goal) on phase other = refused_by s activate Missing 2 (inr (on, refl, rw phase (λ h. h))) refl refl
lacks_activate s true switched on phase other = refused_by s activate Missing 2 (inr (on, refl, rw phase (λ h. h))) refl refl

-- the type of the phase says its status
pub not_receiving : {S : Type 0} (p : Core S) → IsInPhase p → ((t : State) → p ≡ core.Receiving t → ⊥) → status_of (state_in p).meter.phase ≢ status.Initiated
not_receiving (core.Idle t) is none e = cc
not_receiving (core.Receiving t) is none e = none t refl
not_receiving (core.Verifying t) is none e = cc
not_receiving (core.Verified t) is none e = cc
not_receiving (core.Spoilt t) is none e = cc
not_receiving (core.Switched t) is none e = cc

pub not_verified : {S : Type 0} (p : Core S) → IsInPhase p → ((t : State) → p ≡ core.Verified t → ⊥) → status_of (state_in p).meter.phase ≢ status.VerificationSuccessful
not_verified (core.Idle t) is none e = cc
not_verified (core.Receiving t) is none e = cc
not_verified (core.Verifying t) is none e = cc
not_verified (core.Verified t) is none e = none t refl
not_verified (core.Spoilt t) is none e = cc
not_verified (core.Switched t) is none e = cc
