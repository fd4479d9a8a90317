-- Public vocabulary: what opening counters, and taking one, is refused for.
use Rattle.fw_journal.specs.declared.error.DeviceError.{DeviceError}
use Rattle.fw_journal.specs.declared.error.DeviceError.TheVariants as device
use Rattle.fw_journal.specs.declared.error.JournalError.{JournalError}
use Rattle.fw_journal.specs.declared.error.JournalError.TheVariants as journal
use Rattle.fw_journal.specs.declared.error.ReplaceError.{ReplaceError}
use Rattle.fw_journal.specs.declared.error.ReplaceError.TheVariants as replacing
use Rattle.fw_counter.specs.declared.error.CounterError.{CounterError}
use Rattle.fw_counter.specs.declared.error.CounterError.TheVariants.{NoCounter, CounterFault, CounterSpent, OutOfMemory}
use Rattle.fw_counter.specs.declared.error.OpeningError.{OpeningError}
use Rattle.fw_counter.specs.declared.error.OpeningError.TheVariants.{Counter, NotReplaced}

-- what a refusal of the device is
abbrev pub device_error : DeviceError → CounterError
device_error device.Fault = CounterFault
device_error device.OutOfMemory = OutOfMemory

-- what a refusal of the journal is
abbrev pub counter_error : JournalError → CounterError
counter_error (journal.BadBook offset) = NoCounter
counter_error journal.NotEmpty = CounterFault
counter_error journal.TooLong = CounterFault
counter_error journal.Full = CounterFault
counter_error journal.Locked = CounterFault
counter_error journal.BookFault = CounterFault
counter_error journal.OutOfMemory = OutOfMemory

-- what a refusal of the replacer is
abbrev pub replace_error : ReplaceError → OpeningError
replace_error replacing.NotReplaced = NotReplaced
replace_error replacing.Fault = Counter CounterFault
replace_error replacing.OutOfMemory = Counter OutOfMemory

-- a reading of what a device has
abbrev pub IsReadingRefusal : CounterError → Type 0
IsReadingRefusal NoCounter = Unit {0}
IsReadingRefusal CounterFault = Unit {0}
IsReadingRefusal CounterSpent = ⊥
IsReadingRefusal OutOfMemory = Unit {0}

-- an opening
abbrev pub IsOpeningRefusal : OpeningError → Type 0
IsOpeningRefusal (Counter error) = IsReadingRefusal error
IsOpeningRefusal NotReplaced = Unit {0}

-- a taking
abbrev pub IsTakingRefusal : CounterError → Type 0
IsTakingRefusal NoCounter = ⊥
IsTakingRefusal CounterFault = Unit {0}
IsTakingRefusal CounterSpent = Unit {0}
IsTakingRefusal OutOfMemory = Unit {0}
