-- Public vocabulary: the open counters of a sealer, and what a power cut leaves of them.
use Rattle.std.specs.Prelude.{◌≡◌, ◌⊎◌, ℕ, ◌+◌, ◌≤◌, ◌^◌, List, [], length, Bool, IsTrue}
use Rattle.fw_journal.specs.Journal as journal
use Rattle.fw_journal.specs.declared.device.JournalDevice
use Rattle.fw_journal.specs.declared.journal.Journal.{Journal}
use Rattle.fw_counter.specs.Reserved.{AreReservations, reserved_by, HasReserved}
use Rattle.fw_counter.specs.Moves.{Counter}
use Rattle.fw_counter.specs.declared.counters.KeptCounters.{KeptCounters}

abbrev pub counter_of : {D : Type 0} → KeptCounters D → Counter
counter_of counters = record { next = counters.next; reserved = counters.reserved }

abbrev pub journal_of : {D : Type 0} → KeptCounters D → Journal D
journal_of counters = counters.journal

abbrev pub device_of : {D : Type 0} → KeptCounters D → D
device_of counters = journal.device_of counters.journal

-- a commit has failed, so that no more are reserved
abbrev pub is_broken : {D : Type 0} → KeptCounters D → Bool
is_broken counters = journal.is_broken counters.journal

-- the journal, or what waits in it with a record more, has 2^60 bytes or more
abbrev pub IsFull : {D : Type 0} → KeptCounters D → Type 0
IsFull counters = (2 ^ 60 ≤ journal.end_of counters.journal) ⊎ (2 ^ 60 ≤ length (journal.waiting_of counters.journal) + 41)

-- the device is honest, and every power cut leaves records that reserve just what is reserved here
pub record Holds {D : Type 0} (J : JournalDevice.Ghosts D) (counters : KeptCounters D) : Type 0 where
  pub done : List (List ℕ)
  pub has : journal.Has J.honest J.contents J.may_leave counters.journal done []
  pub fit : AreReservations done
  pub reserved_is : counters.reserved ≡ reserved_by done
  pub within : counters.next ≤ counters.reserved

-- a commit has failed, and every power cut leaves records that reserve all that is reserved here
pub record HasFailed {D : Type 0} (J : JournalDevice.Ghosts D) (counters : KeptCounters D) : Type 0 where
  pub broken : IsTrue (is_broken counters)
  pub leaves : (left : List ℕ) → J.may_leave (device_of counters) left → HasReserved left counters.reserved
  pub within : counters.next ≤ counters.reserved

-- what is known of counters after each call
abbrev pub IsKept : {D : Type 0} → JournalDevice.Ghosts D → KeptCounters D → Type 0
IsKept J counters = Holds J counters ⊎ HasFailed J counters
