-- Public vocabulary: the fault that each error of input and of the libraries below is to a command.
use Rattle.fw_store.specs.declared.error.FileStoreError.{FileStoreError}
use Rattle.fw_store.specs.declared.error.FileStoreError.TheVariants as file
use Rattle.fw_image.specs.declared.error.OpenError.{OpenError}
use Rattle.fw_image.specs.declared.error.OpenError.TheVariants as opening
use Rattle.fw_journal.specs.declared.error.JournalError.{JournalError}
use Rattle.fw_journal.specs.declared.error.JournalError.TheVariants as journal
use Rattle.fw_kept.specs.declared.error.OpenError.{OpenError as ReopenError}
use Rattle.fw_kept.specs.declared.error.OpenError.TheVariants as reopening
use Rattle.fw_rollout.specs.declared.error.Stop.{Stop}
use Rattle.fw_rollout.specs.declared.error.Stop.TheVariants as stop
use Rattle.fw_keys.specs.declared.error.KeysError.{KeysError}
use Rattle.fw_keys.specs.declared.error.KeysError.TheVariants as keys
use Rattle.fw_counter.specs.declared.error.CounterError.{CounterError}
use Rattle.fw_counter.specs.declared.error.CounterError.TheVariants as counter
use Rattle.fw_faults.specs.declared.error.InputError.{InputError}
use Rattle.fw_faults.specs.declared.error.InputError.TheVariants as input
use Rattle.fw_faults.specs.declared.fault.Fault.{Fault}
use Rattle.fw_faults.specs.declared.fault.Fault.TheVariants.{BadSetup, Input, TooMuchInput, StoreFault, Device, BadFile, BadHeader, BadImage, Socket, BookExists, Locked, BookFault, BadBook, BadRecord, ForeignHead, Full, BadKeys, CounterFault, CounterSpent, OutOfMemory}

-- the fault that says why input was not read
abbrev pub fault_of_input : InputError → Fault
fault_of_input input.Input = Input
fault_of_input input.TooMuchInput = TooMuchInput
fault_of_input input.OutOfMemory = OutOfMemory

-- the fault that says why a file was not made or opened
abbrev pub fault_of_file : FileStoreError → Fault
fault_of_file file.StoreFault = StoreFault
fault_of_file file.BadSetup = BadSetup
fault_of_file file.OutOfMemory = OutOfMemory
fault_of_file file.BadFile = BadFile

-- the fault that says why a store was not opened
abbrev pub fault_of_opening : OpenError → Fault
fault_of_opening opening.Fault = Device
fault_of_opening opening.BadHeader = BadHeader
fault_of_opening opening.BadImage = BadImage

-- the fault that says why the file of a book was not made or opened
abbrev pub fault_of_device : JournalError → Fault
fault_of_device (journal.BadBook offset) = BadBook offset
fault_of_device journal.NotEmpty = BookExists
fault_of_device journal.TooLong = Full
fault_of_device journal.Full = Full
fault_of_device journal.Locked = Locked
fault_of_device journal.BookFault = BookFault
fault_of_device journal.OutOfMemory = OutOfMemory

-- the fault that says why what a file holds is no book of the head end
abbrev pub fault_of_reopening : ReopenError → Fault
fault_of_reopening (reopening.BadBook offset) = BadBook offset
fault_of_reopening (reopening.BadRecord index) = BadRecord index
fault_of_reopening reopening.ForeignHead = ForeignHead
fault_of_reopening reopening.BookFault = BookFault
fault_of_reopening reopening.OutOfMemory = OutOfMemory

-- the fault that says why a head end stopped
abbrev pub fault_of_stop : Stop → Fault
fault_of_stop stop.Closed = Socket
fault_of_stop stop.Full = Full
fault_of_stop stop.BookFault = BookFault
fault_of_stop stop.OutOfMemory = OutOfMemory

-- the fault that says why a text is no key file
abbrev pub fault_of_keys : KeysError → Fault
fault_of_keys (keys.BadKeys line cause) = BadKeys line cause
fault_of_keys keys.OutOfMemory = OutOfMemory

-- The fault that says why counters weren't opened, or gave none. Where the file of a counter is missing is told before it is opened: one that
-- is there and holds no counter is a fault of it.
abbrev pub fault_of_counter : CounterError → Fault
fault_of_counter counter.NoCounter = CounterFault
fault_of_counter counter.CounterFault = CounterFault
fault_of_counter counter.CounterSpent = CounterSpent
fault_of_counter counter.OutOfMemory = OutOfMemory
