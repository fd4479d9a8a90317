-- Counters that are used, and why none is.
use Rattle.std.proofs.Common.{◌≡◌, ◌⊎◌, inr, ℕ, ◌≤◌, List, Option, IsTrue, refl, ◌∙◌}
use Rattle.fw_journal.specs.declared.device.JournalDevice
use Rattle.fw_wrapper.specs.Laws.{OneFrame}
use Rattle.fw_wrapper.specs.Wrapper.{Wraps, wport}
use Rattle.fw_seal.specs.Sealing.{Ends}
use Rattle.fw_counter.specs.Counters.{counter_of, device_of, is_broken, IsFull}
use Rattle.fw_counter.specs.Moves.{limit}
use Rattle.fw_counter.specs.Refusals.{IsTakingRefusal}
use Rattle.fw_counter.specs.declared.counters.KeptCounters.{KeptCounters}
use Rattle.fw_counter.specs.declared.error.CounterError.{CounterError}
use Rattle.fw_counter.specs.declared.error.CounterError.TheVariants as counter
use Rattle.fw_sealport.proofs.WireFacts.{none_plain}
use Rattle.fw_sealport.specs.Counts.{IfUnsealed}
use Rattle.fw_sealport.specs.Sealed.{NoneSeals}
use Rattle.fw_sealport.specs.Sealing.{Unused, UsesCounter, WhyNoCounter, WhyUnsealed, fault_by}
use Rattle.fw_sealport.specs.declared.sealer.Sealer.{Sealer}
use Rattle.fw_sealport.specs.declared.unsealed.Unsealed.{Unsealed}
use Rattle.fw_sealport.specs.declared.unsealed.Unsealed.TheVariants as unsent

pub why_none : {D : Type 0} (J : JournalDevice.Ghosts D) (counters : KeptCounters D) (error : CounterError) → IsTakingRefusal error
    → (error ≡ counter.CounterSpent → (counter_of counters).next ≡ limit)
    → (IsTrue (J.sound (device_of counters)) → error ≡ counter.CounterFault → IsTrue (is_broken counters) ⊎ IsFull counters)
    → (error ≡ counter.OutOfMemory → (counter_of counters).reserved ≤ (counter_of counters).next) → WhyNoCounter J counters error
why_none J counters counter.NoCounter refusal spent never memory = absurd refusal
why_none J counters counter.CounterFault refusal spent never memory = λ sound. never sound refl
why_none J counters counter.CounterSpent refusal spent never memory = spent refl
why_none J counters counter.OutOfMemory refusal spent never memory = memory refl

-- an APDU isn't sealed although a counter was used
module _ {D : Type 0} (J : JournalDevice.Ghosts D) (ends : Ends) (old : Sealer D) (datagram apdu : List ℕ) (one : OneFrame) (wraps : Wraps datagram wport wport apdu) where
  pub why_unsealed : (reason : Unsealed) → IfUnsealed reason (NoneSeals ends apdu) → WhyUnsealed J ends old datagram reason
  why_unsealed unsent.Stranger is = absurd is
  why_unsealed unsent.NotPlain none = none_plain one ends datagram apdu wraps none
  why_unsealed (unsent.Counter error) is = absurd is
  why_unsealed unsent.OutOfMemory is = (apdu, wraps)

pub same_fault : (A : Type 0) (reason : Unsealed) (fault : Option CounterError) → IfUnsealed reason A → fault ≡ fault_by reason fault
same_fault A unsent.Stranger fault is = absurd is
same_fault A unsent.NotPlain fault is = refl
same_fault A (unsent.Counter error) fault is = absurd is
same_fault A unsent.OutOfMemory fault is = refl

pub used_for_nothing : {D : Type 0} (J : JournalDevice.Ghosts D) (A : Type 0) (old new : Sealer D) (reason : Unsealed) → UsesCounter J old new → IfUnsealed reason A → Unused J old reason new
used_for_nothing J A old new reason uses is =
    record { used = inr uses; kept = uses.kept; fault = uses.fault ∙ same_fault A reason old.fault is }
