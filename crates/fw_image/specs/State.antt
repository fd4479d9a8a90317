-- Public vocabulary: a meter and the store that holds it, as callers see them.
use Rattle.std.specs.Prelude.{◌≡◌, ◌≢◌, ◌≤◌, ℕ, Bool, false, IsTrue, Option, Some, Result, Ok, Err}
use Rattle.fw_store.specs.Device.{Device}
use Rattle.fw_store.specs.Faults.{count_after, Spends}
use Rattle.fw_store.specs.Known.{Known}
use Rattle.fw_store.specs.declared.fuse.Fuse.{Fuse}
use Rattle.fw_image.specs.Meter.{Meter, status_of, reopened}
use Rattle.fw_image.specs.Step.{Operation, OperationOutcome, done, refused, Refuses, Serves, Step, Turn, is_operation_faultless}
use Rattle.fw_image.specs.Calls.{calls_for, left_by_fault, turn_calls}
use Rattle.fw_image.specs.declared.error.Refusal.{Refusal}
use Rattle.fw_image.specs.declared.status.TransferStatus.TheVariants.{VerificationInitiated}

pub record State : Type 0 where
  -- what the header and the slots mean
  pub meter : Meter
  -- what the store holds, as far as that is known
  pub device : Device
  -- the store gives what was written
  pub honest : Bool
  -- no call of the store fails
  pub sound : Bool
  -- how often the store has failed
  pub faults : ℕ
  -- how many calls of the store succeed before all fail, and the byte that a failing write leaves, if that is known
  pub fuse : Option Fuse

-- what every call keeps, whatever it answers
pub record Follows (old new : State) : Type 0 where
  pub honesty : new.honest ≡ old.honest
  pub soundness : IsTrue old.sound → IsTrue new.sound
  pub later : old.faults ≤ new.faults

-- What a store counted while none of its calls failed, or one did: that failure, once, up to the greatest number. A sound store doesn't
-- fail.
pub record Counts (old new : State) (faultless : Bool) : Type 0 where
  pub counted : new.faults ≡ count_after faultless old.faults
  pub never : IsTrue old.sound → IsTrue faultless

-- From old, a state makes the step of this operation with this outcome and becomes new. What a line refuses makes no call of the store.
-- Any other operation makes its calls, and one that fails is the last of them. A fault is reported just if one failed. What it left is
-- known if the store is honest and its fuse is known.
pub record Makes (old : State) (operation : Operation) (outcome : OperationOutcome) (new : State) : Type 0 where
  pub step : Step old.honest old.meter operation outcome new.meter
  pub untouched : (r : Refusal) → Refuses old.meter operation r → new ≡ old
  pub follows : Follows old new
  pub counts : Counts old new (is_operation_faultless outcome)
  pub spends : Serves old.meter operation → Spends (calls_for old.meter operation) old.fuse new.fuse (is_operation_faultless outcome)
  pub left : IsTrue old.honest → (set : Fuse) → old.fuse ≡ Some set → is_operation_faultless outcome ≡ false
      → new.meter ≡ left_by_fault set.torn old.meter operation

-- From old, a state takes a turn and becomes new. If no verification goes on, nothing is done. A turn makes its calls of the store, and
-- one that fails is the last of them.
pub record Turns (old new : State) : Type 0 where
  pub faultless : Bool
  pub turn : Turn old.honest old.meter faultless new.meter
  pub untouched : status_of old.meter.phase ≢ VerificationInitiated → new ≡ old
  pub follows : Follows old new
  pub counts : Counts old new faultless
  pub spends : Spends (turn_calls old.meter.phase) old.fuse new.fuse faultless

-- A state is that of a store of this type: as honest and as sound, with as many faults counted and as many calls left.
pub record IsOver {S : Type 0} (known : S → Known) (state : State) : Type 0 where
  pub store : S
  pub honesty : state.honest ≡ (known store).honest
  pub soundness : state.sound ≡ (known store).sound
  pub count : state.faults ≡ (known store).faults
  pub calls : state.fuse ≡ (known store).fuse

-- the state as its store keeps it
abbrev pub stored : State → State
stored s = record s { meter = reopened s.meter }

-- ---- what a call answers, and the state that it leaves

-- where the transfer stays where it stands
abbrev pub outcome_of : {A : Type 0} → Result A Refusal → OperationOutcome
outcome_of (Ok a) = done
outcome_of (Err refusal) = refused refusal

-- and where it moves
abbrev pub told : {A B : Type 0} → Result A (Refusal × B) → OperationOutcome
told (Ok next) = done
told (Err e) = refused e.0

abbrev pub left : Result State (Refusal × State) → State
left (Ok next) = next
left (Err e) = e.1
