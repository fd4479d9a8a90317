-- Public vocabulary: what is sealed with which counter, and why nothing is.
use Rattle.std.specs.Prelude.{◌≡◌, ◌⊎◌, ℕ, ◌+◌, ◌≤◌, List, [], ◌∷◌, IsTrue, Option, Some}
use Rattle.fw_journal.specs.declared.device.JournalDevice
use Rattle.fw_seal.specs.Sealing.{Ends}
use Rattle.fw_counter.specs.Counters.{counter_of, device_of, is_broken, IsFull, IsKept}
use Rattle.fw_counter.specs.Moves.{MovesLead, limit, reserved_after, reserves, taken, uses}
use Rattle.fw_counter.specs.Reserved.{HasReserved}
use Rattle.fw_counter.specs.declared.counters.KeptCounters.{KeptCounters}
use Rattle.fw_counter.specs.declared.error.CounterError.{CounterError}
use Rattle.fw_counter.specs.declared.error.CounterError.TheVariants as counter
use Rattle.fw_sealport.specs.Sealed.{HasNoSealing, IsPlain}
use Rattle.fw_sealport.specs.declared.unsealed.Unsealed.{Unsealed}
use Rattle.fw_sealport.specs.declared.unsealed.Unsealed.TheVariants.{Stranger, NotPlain, Counter, OutOfMemory}
use Rattle.fw_sealport.specs.declared.sealer.Sealer.{Sealer}

-- The next counter of a sealer. It is below all that comes after it.
abbrev pub next_of : {D : Type 0} → Sealer D → ℕ
next_of sealer = (counter_of sealer.counters).next

-- A sealer uses its next counter: a reservation, which may be of none, and a use. From then on every power cut leaves it reserved, so it is
-- never used again.
pub record UsesCounter {D : Type 0} (J : JournalDevice.Ghosts D) (old new : Sealer D) : Type 0 where
  pub used : counter_of new.counters ≡ taken (counter_of old.counters)
  pub goes : (before : List ℕ) → MovesLead before (counter_of old.counters) (reserves (reserved_after (counter_of old.counters)) ∷ uses ∷ [])
      (next_of old ∷ before) (counter_of new.counters)
  pub reserved : IsKept J old.counters → (left : List ℕ) → J.may_leave (device_of new.counters) left → HasReserved left (next_of old + 1)
  pub kept : IsKept J old.counters → IsKept J new.counters
  pub fault : new.fault ≡ old.fault

-- why counters give none
abbrev pub WhyNoCounter : {D : Type 0} → JournalDevice.Ghosts D → KeptCounters D → CounterError → Type 0
WhyNoCounter J counters counter.NoCounter = ⊥
WhyNoCounter J counters counter.CounterFault = IsTrue (J.sound (device_of counters)) → IsTrue (is_broken counters) ⊎ IsFull counters
WhyNoCounter J counters counter.CounterSpent = (counter_of counters).next ≡ limit
WhyNoCounter J counters counter.OutOfMemory = (counter_of counters).reserved ≤ (counter_of counters).next

-- why nothing is sealed of a datagram
abbrev pub WhyUnsealed : {D : Type 0} → JournalDevice.Ghosts D → Ends → Sealer D → List ℕ → Unsealed → Type 0
WhyUnsealed J ends sealer datagram Stranger = ⊥
WhyUnsealed J ends sealer datagram NotPlain = HasNoSealing ends datagram
WhyUnsealed J ends sealer datagram (Counter error) = IsPlain datagram × WhyNoCounter J sealer.counters error
WhyUnsealed J ends sealer datagram OutOfMemory = IsPlain datagram

-- a sealer ends where a counter isn't given, unless that was for memory
abbrev pub fault_after : CounterError → Option CounterError → Option CounterError
fault_after counter.NoCounter fault = Some counter.NoCounter
fault_after counter.CounterFault fault = Some counter.CounterFault
fault_after counter.CounterSpent fault = Some counter.CounterSpent
fault_after counter.OutOfMemory fault = fault

abbrev pub fault_by : Unsealed → Option CounterError → Option CounterError
fault_by Stranger fault = fault
fault_by NotPlain fault = fault
fault_by (Counter error) fault = fault_after error fault
fault_by OutOfMemory fault = fault

-- what a sealer is where nothing was sealed for this reason: a counter may be used all the same
pub record Unused {D : Type 0} (J : JournalDevice.Ghosts D) (old : Sealer D) (reason : Unsealed) (new : Sealer D) : Type 0 where
  pub used : (counter_of new.counters ≡ counter_of old.counters) ⊎ UsesCounter J old new
  pub kept : IsKept J old.counters → IsKept J new.counters
  pub fault : new.fault ≡ fault_by reason old.fault
