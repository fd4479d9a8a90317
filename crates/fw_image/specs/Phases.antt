-- Public vocabulary: the state of a transfer whose status is only known when the program runs, and what a verification leaves.
use Rattle.std.specs.Prelude.{◌≡◌, ◌≢◌, Result, Ok, Err}
use Rattle.fw_image.specs.Meter.{status_of}
use Rattle.fw_image.specs.Step.{OperationOutcome, done, refused, verification_initiated}
use Rattle.fw_image.specs.State.{State}
use Rattle.fw_image.specs.declared.error.Refusal.{Refusal}
use Rattle.fw_image.specs.declared.error.Refusal.TheVariants as refusal
use Rattle.fw_image.specs.declared.status.TransferStatus.TheVariants as status
use Rattle.fw_image.specs.declared.transfer.NotVerified.{NotVerified}
use Rattle.fw_image.specs.declared.transfer.NotVerified.TheVariants.{Refused, Differs}
use Rattle.fw_image.specs.declared.phase.Phase.{Phase}
use Rattle.fw_image.specs.declared.phase.Phase.TheVariants.{Idle, Receiving, Verifying, Verified, Spoilt, Switched}

-- ---- a transfer in some status

abbrev pub state_in : {S : Type 0} → Phase S → State
state_in (Idle state) = state
state_in (Receiving state) = state
state_in (Verifying state) = state
state_in (Verified state) = state
state_in (Spoilt state) = state
state_in (Switched state) = state

-- the type of the state says its status
abbrev pub IsInPhase : {S : Type 0} → Phase S → Type 0
IsInPhase (Idle state) = status_of state.meter.phase ≡ status.NotInitiated
IsInPhase (Receiving state) = status_of state.meter.phase ≡ status.Initiated
IsInPhase (Verifying state) = status_of state.meter.phase ≡ status.VerificationInitiated
IsInPhase (Verified state) = status_of state.meter.phase ≡ status.VerificationSuccessful
IsInPhase (Spoilt state) = status_of state.meter.phase ≡ status.VerificationFailed
IsInPhase (Switched state) = status_of state.meter.phase ≡ status.ActivationSuccessful

-- ---- what a verify answers, and the state that it leaves

abbrev pub told_verified : {S : Type 0} → Result (Phase S) (NotVerified S) → OperationOutcome
told_verified (Ok (Verifying state)) = verification_initiated
told_verified (Ok phase) = done
told_verified (Err (Refused r back)) = refused r
told_verified (Err (Differs spoilt)) = refused refusal.Differs

abbrev pub left_verified : {S : Type 0} → Result (Phase S) (NotVerified S) → State
left_verified (Ok phase) = state_in phase
left_verified (Err (Refused r back)) = back
left_verified (Err (Differs spoilt)) = spoilt

-- what is not refused leaves the verified state, or the verifying one
abbrev pub IsVerified : {S : Type 0} → Phase S → Type 0
IsVerified (Verified state) = status_of state.meter.phase ≡ status.VerificationSuccessful
IsVerified (Verifying state) = status_of state.meter.phase ≡ status.VerificationInitiated
IsVerified phase = ⊥

-- a refusal without a judgement leaves the receiving state, and a digest that differs the spoilt one
abbrev pub IsNotVerified : {S : Type 0} → NotVerified S → Type 0
IsNotVerified (Refused r back) = (r ≢ refusal.Differs) × (status_of back.meter.phase ≡ status.Initiated)
IsNotVerified (Differs spoilt) = status_of spoilt.meter.phase ≡ status.VerificationFailed

-- ---- the state that a call on it leaves

abbrev pub left_in : {S : Type 0} → Result (Phase S) (Refusal × Phase S) → State
left_in (Ok phase) = state_in phase
left_in (Err e) = state_in e.1

-- and an initiate, which goes on to a receiving state
abbrev pub left_begun : {S : Type 0} → Result State (Refusal × Phase S) → State
left_begun (Ok next) = next
left_begun (Err e) = state_in e.1
