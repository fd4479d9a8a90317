-- Public vocabulary: the errors of `meter`: what each comes from, which of them come when, and the fault that each is.
use Rattle.std.specs.Prelude.{◌≡◌, ◌≢◌, ◌≤◌, ℕ, Option, None, Some, IfSome, IsTrue, is_some}
use Rattle.fw_store.specs.Setup.{IsSetup}
use Rattle.fw_store.specs.declared.version.HeaderVersion.TheVariants.{Two}
use Rattle.fw_faults.specs.declared.fault.Fault.{Fault}
use Rattle.fw_faults.specs.declared.fault.Fault.TheVariants as fault
use Rattle.fw_host.specs.Meters.{default_factory}
use Rattle.fw_host.specs.declared.error.CaptureFileError.{CaptureFileError}
use Rattle.fw_host.specs.declared.error.CaptureFileError.TheVariants as capture
use Rattle.fw_host.specs.declared.error.MeterKeysError.{MeterKeysError}
use Rattle.fw_host.specs.declared.error.MeterKeysError.TheVariants as keys
use Rattle.fw_host.specs.declared.error.NewCounterError.{NewCounterError}
use Rattle.fw_host.specs.declared.error.NewCounterError.TheVariants as new_counter
use Rattle.fw_host.specs.declared.error.NewStoreError.{NewStoreError}
use Rattle.fw_host.specs.declared.error.NewStoreError.TheVariants as new_store
use Rattle.fw_host.specs.declared.error.StoreFileError.{StoreFileError}
use Rattle.fw_host.specs.declared.error.StoreFileError.TheVariants as store
use Rattle.fw_host.specs.declared.meter_store.NewMeter.{NewMeter}
use Rattle.fw_host.specs.declared.sealing.SealingOptions.{SealingOptions}
use Rattle.fw_cli.specs.declared.error.ClosingError.{ClosingError}
use Rattle.fw_cli.specs.declared.error.ClosingError.TheVariants as closing
use Rattle.fw_cli.specs.declared.error.SealingError.{SealingError}
use Rattle.fw_cli.specs.declared.error.SealingError.TheVariants as sealed
use Rattle.fw_cli.specs.declared.error.TellingError.{TellingError}
use Rattle.fw_cli.specs.declared.error.TellingError.TheVariants as telling
use Rattle.fw_cli.specs.declared.meter.MeterOptions.{MeterOptions}
use Rattle.fw_cli.specs.declared.meter_error.MeterError.{MeterError}
use Rattle.fw_cli.specs.declared.meter_error.MeterError.TheVariants.{StoreFault, Device, BadFile, BadHeader, BadImage, FactoryFault, BadSetup, CaptureFault, ForeignCapture, Socket, KeysFault, KeysReadable, BadKeys, NoCounter, CounterExists, CounterLocked, CounterFault, CounterSpent, Output, OutOfMemory}
use Rattle.fw_cli.specs.declared.meter_error.MeterFailure.{MeterFailure}
use Rattle.fw_cli.specs.Faults.{FindsCounter, MakesCounter}

-- ---- what each comes from

-- why the command ended, if the file of a meter has none, or isn't made
abbrev pub meter_of_store : StoreFileError → MeterError
meter_of_store store.StoreFault = StoreFault
meter_of_store store.Device = Device
meter_of_store store.BadFile = BadFile
meter_of_store store.BadHeader = BadHeader
meter_of_store store.BadImage = BadImage

-- if there is nothing that a new meter is made with
abbrev pub meter_of_new_store : NewStoreError → MeterError
meter_of_new_store new_store.BadSetup = BadSetup
meter_of_new_store new_store.FactoryFault = FactoryFault
meter_of_new_store new_store.OutOfMemory = OutOfMemory

-- if its links have no keys
abbrev pub meter_of_keys : MeterKeysError → MeterError
meter_of_keys keys.KeysFault = KeysFault
meter_of_keys keys.KeysReadable = KeysReadable
meter_of_keys (keys.BadKeys line why) = BadKeys line why
meter_of_keys keys.OutOfMemory = OutOfMemory

-- if there are no counters, or there are some where new ones are to be made
abbrev pub meter_of_sealing : SealingError → MeterError
meter_of_sealing sealed.NoCounter = NoCounter
meter_of_sealing sealed.CounterExists = CounterExists
meter_of_sealing sealed.CounterLocked = CounterLocked
meter_of_sealing sealed.CounterFault = CounterFault
meter_of_sealing sealed.OutOfMemory = OutOfMemory

-- if no new counters are made
abbrev pub meter_of_new_counter : NewCounterError → MeterError
meter_of_new_counter new_counter.CounterExists = CounterExists
meter_of_new_counter new_counter.CounterLocked = CounterLocked
meter_of_new_counter new_counter.CounterFault = CounterFault
meter_of_new_counter new_counter.OutOfMemory = OutOfMemory

-- if its capture isn't gone on with
abbrev pub meter_of_capture : CaptureFileError → MeterError
meter_of_capture capture.CaptureFault = CaptureFault
meter_of_capture capture.ForeignCapture = ForeignCapture

-- if its port is closed
abbrev pub meter_of_closing : ClosingError → MeterError
meter_of_closing closing.Socket = Socket
meter_of_closing closing.CaptureFault = CaptureFault
meter_of_closing closing.CounterFault = CounterFault
meter_of_closing closing.CounterSpent = CounterSpent

-- if its first line isn't written
abbrev pub meter_of_telling : TellingError → MeterError
meter_of_telling telling.Output = Output
meter_of_telling telling.OutOfMemory = OutOfMemory

-- the fault that says so
abbrev pub fault_of_meter : MeterError → Fault
fault_of_meter StoreFault = fault.StoreFault
fault_of_meter Device = fault.Device
fault_of_meter BadFile = fault.BadFile
fault_of_meter BadHeader = fault.BadHeader
fault_of_meter BadImage = fault.BadImage
fault_of_meter FactoryFault = fault.FactoryFault
fault_of_meter BadSetup = fault.BadSetup
fault_of_meter CaptureFault = fault.CaptureFault
fault_of_meter ForeignCapture = fault.ForeignCapture
fault_of_meter Socket = fault.Socket
fault_of_meter KeysFault = fault.KeysFault
fault_of_meter KeysReadable = fault.KeysReadable
fault_of_meter (BadKeys line why) = fault.BadKeys line why
fault_of_meter NoCounter = fault.NoCounter
fault_of_meter CounterExists = fault.CounterExists
fault_of_meter CounterLocked = fault.CounterLocked
fault_of_meter CounterFault = fault.CounterFault
fault_of_meter CounterSpent = fault.CounterSpent
fault_of_meter Output = fault.Output
fault_of_meter OutOfMemory = fault.OutOfMemory

-- ---- which of them come when

-- of the file of a meter
abbrev pub IsOfStore : MeterError → Type 0
IsOfStore StoreFault = Unit {0}
IsOfStore Device = Unit {0}
IsOfStore BadFile = Unit {0}
IsOfStore BadHeader = Unit {0}
IsOfStore BadImage = Unit {0}
IsOfStore error = ⊥

-- Of the set-up of a meter in a file. Without the file of a factory image these describe no meter then.
abbrev pub IsOfSetup : NewMeter → MeterError → Type 0
IsOfSetup fresh BadSetup = fresh.factory_file ≡ None → ¬ IsSetup Two fresh.block_size fresh.capacity default_factory
IsOfSetup fresh FactoryFault = Unit {0}
IsOfSetup fresh OutOfMemory = Unit {0}
IsOfSetup fresh error = IsOfStore error

-- once it is set up, with a capture and keys, if these are there
abbrev pub IsOfServing : {A B : Type 0} → Option A → Option B → MeterError → Type 0
IsOfServing file links Socket = Unit {0}
IsOfServing file links CaptureFault = IsTrue (is_some file)
IsOfServing file links CounterFault = IsTrue (is_some links)
IsOfServing file links CounterSpent = IsTrue (is_some links)
IsOfServing file links Output = Unit {0}
IsOfServing file links OutOfMemory = Unit {0}
IsOfServing file links error = ⊥

-- Those that only these options bring about: what is of a capture comes where one is asked for, and what is of sealed links where keys are
-- given.
abbrev pub IsBroughtBy : MeterOptions → MeterError → Type 0
IsBroughtBy options BadSetup = options.fresh.factory_file ≡ None → ¬ IsSetup Two options.fresh.block_size options.fresh.capacity default_factory
IsBroughtBy options CaptureFault = IsTrue (is_some options.capture)
IsBroughtBy options ForeignCapture = IsTrue (is_some options.capture)
IsBroughtBy options KeysFault = IsTrue (is_some options.sealing)
IsBroughtBy options KeysReadable = IsTrue (is_some options.sealing)
IsBroughtBy options (BadKeys line why) = IsTrue (is_some options.sealing)
IsBroughtBy options NoCounter = FindsCounter options.sealing
IsBroughtBy options CounterExists = MakesCounter options.sealing
IsBroughtBy options CounterLocked = IsTrue (is_some options.sealing)
IsBroughtBy options CounterFault = IsTrue (is_some options.sealing)
IsBroughtBy options CounterSpent = IsTrue (is_some options.sealing)
IsBroughtBy options error = Unit {0}

-- ---- which meter is meant

-- how many meters there are that have numbers: with keys there is one, without a number
abbrev pub count_with : Option SealingOptions → Option ℕ → Option ℕ
count_with None count = count
count_with (Some options) count = None

abbrev pub count_of : MeterOptions → Option ℕ
count_of options = count_with options.sealing options.count

-- Of `count` meters, the number of one stands with the error, where it is that of a file. Without a count none does.
abbrev pub NamesMeter : Option ℕ → MeterFailure → Type 0
NamesMeter None ended = ended.number ≡ None
NamesMeter (Some count) ended = (IsOfStore ended.error → ended.number ≢ None) × IfSome ended.number (λ number. (1 ≤ number) × (number ≤ count))
