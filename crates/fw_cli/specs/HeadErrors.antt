-- Public vocabulary: the errors of `head`: what each comes from, which of them come when, and the fault that each is.
use Rattle.std.specs.Prelude.{◌≡◌, ◌≢◌, List, [], Option, IsTrue, false, is_some}
use Rattle.fw_kept.specs.declared.error.KeptError.{KeptError}
use Rattle.fw_kept.specs.declared.error.KeptError.TheVariants as kept
use Rattle.fw_plan.specs.declared.error.PlanError.{PlanError}
use Rattle.fw_plan.specs.declared.error.PlanError.TheVariants as plan
use Rattle.fw_rollout.specs.declared.error.Stop.{Stop}
use Rattle.fw_rollout.specs.declared.error.Stop.TheVariants as stop
use Rattle.fw_faults.specs.declared.fault.Fault.{Fault}
use Rattle.fw_faults.specs.declared.fault.Fault.TheVariants as fault
use Rattle.fw_host.specs.declared.error.BookFileError.{BookFileError}
use Rattle.fw_host.specs.declared.error.BookFileError.TheVariants as old_book
use Rattle.fw_host.specs.declared.error.CancelsError.{CancelsError}
use Rattle.fw_host.specs.declared.error.CancelsError.TheVariants as cancels_error
use Rattle.fw_host.specs.declared.error.CaptureFileError.{CaptureFileError}
use Rattle.fw_host.specs.declared.error.CaptureFileError.TheVariants as capture
use Rattle.fw_host.specs.declared.error.HeadKeysError.{HeadKeysError}
use Rattle.fw_host.specs.declared.error.HeadKeysError.TheVariants as keys
use Rattle.fw_host.specs.declared.error.NewBookError.{NewBookError}
use Rattle.fw_host.specs.declared.error.NewBookError.TheVariants as new_book
use Rattle.fw_host.specs.declared.error.NewCounterError.{NewCounterError}
use Rattle.fw_host.specs.declared.error.NewCounterError.TheVariants as new_counter
use Rattle.fw_cli.specs.declared.error.ClosingError.{ClosingError}
use Rattle.fw_cli.specs.declared.error.ClosingError.TheVariants as closing
use Rattle.fw_cli.specs.declared.error.ListFileError.{ListFileError}
use Rattle.fw_cli.specs.declared.error.ListFileError.TheVariants as list_file
use Rattle.fw_cli.specs.declared.error.SealingError.{SealingError}
use Rattle.fw_cli.specs.declared.error.SealingError.TheVariants as sealed
use Rattle.fw_cli.specs.declared.error.TellingError.{TellingError}
use Rattle.fw_cli.specs.declared.error.TellingError.TheVariants as telling
use Rattle.fw_cli.specs.declared.head.HeadOptions.{HeadOptions}
use Rattle.fw_cli.specs.declared.head_error.HeadError.{HeadError}
use Rattle.fw_cli.specs.declared.head_error.HeadError.TheVariants.{ListFault, BadList, ImageFault, BadSetup, NoBook, BookExists, Locked, BookFault, BadBook, BadRecord, ForeignHead, Full, OpenRefused, CancelRefused, TooManyFailed, CaptureFault, ForeignCapture, Socket, KeysFault, KeysReadable, BadKeys, NoKey, NoCounter, CounterExists, CounterLocked, CounterFault, CounterSpent, Output, OutOfMemory}
use Rattle.fw_cli.specs.Faults.{FindsCounter, MakesCounter}

-- ---- what each comes from

-- why the command ended, if no list is read
abbrev pub head_of_list : ListFileError → HeadError
head_of_list list_file.ListFault = ListFault
head_of_list (list_file.BadList line) = BadList line
head_of_list list_file.OutOfMemory = OutOfMemory

-- if its book isn't opened
abbrev pub head_of_old_book : BookFileError → HeadError
head_of_old_book old_book.NoBook = NoBook
head_of_old_book old_book.Locked = Locked
head_of_old_book old_book.BookFault = BookFault
head_of_old_book (old_book.BadBook offset) = BadBook offset
head_of_old_book (old_book.BadRecord index) = BadRecord index
head_of_old_book old_book.ForeignHead = ForeignHead
head_of_old_book old_book.OutOfMemory = OutOfMemory

-- if no new book is made
abbrev pub head_of_new_book : NewBookError → HeadError
head_of_new_book new_book.BookExists = BookExists
head_of_new_book new_book.Locked = Locked
head_of_new_book new_book.BookFault = BookFault
head_of_new_book new_book.OutOfMemory = OutOfMemory

-- if its links have no keys
abbrev pub head_of_keys : HeadKeysError → HeadError
head_of_keys keys.KeysFault = KeysFault
head_of_keys keys.KeysReadable = KeysReadable
head_of_keys (keys.BadKeys line why) = BadKeys line why
head_of_keys (keys.NoKey meter) = NoKey meter
head_of_keys keys.OutOfMemory = OutOfMemory

-- if there are no counters, or there are some where new ones are to be made
abbrev pub head_of_sealing : SealingError → HeadError
head_of_sealing sealed.NoCounter = NoCounter
head_of_sealing sealed.CounterExists = CounterExists
head_of_sealing sealed.CounterLocked = CounterLocked
head_of_sealing sealed.CounterFault = CounterFault
head_of_sealing sealed.OutOfMemory = OutOfMemory

-- if no new counters are made
abbrev pub head_of_new_counter : NewCounterError → HeadError
head_of_new_counter new_counter.CounterExists = CounterExists
head_of_new_counter new_counter.CounterLocked = CounterLocked
head_of_new_counter new_counter.CounterFault = CounterFault
head_of_new_counter new_counter.OutOfMemory = OutOfMemory

-- if its capture isn't gone on with
abbrev pub head_of_capture : CaptureFileError → HeadError
head_of_capture capture.CaptureFault = CaptureFault
head_of_capture capture.ForeignCapture = ForeignCapture

-- if its port is closed
abbrev pub head_of_closing : ClosingError → HeadError
head_of_closing closing.Socket = Socket
head_of_closing closing.CaptureFault = CaptureFault
head_of_closing closing.CounterFault = CounterFault
head_of_closing closing.CounterSpent = CounterSpent

-- if its first line isn't written
abbrev pub head_of_telling : TellingError → HeadError
head_of_telling telling.Output = Output
head_of_telling telling.OutOfMemory = OutOfMemory

-- if a campaign isn't cancelled
abbrev pub not_cancelled : KeptError → HeadError
not_cancelled (kept.Refused refusal) = CancelRefused refusal
not_cancelled kept.Full = Full
not_cancelled kept.BookFault = BookFault
not_cancelled kept.OutOfMemory = OutOfMemory

-- if one isn't opened
abbrev pub not_opened : KeptError → HeadError
not_opened (kept.Refused refusal) = OpenRefused refusal
not_opened kept.Full = Full
not_opened kept.BookFault = BookFault
not_opened kept.OutOfMemory = OutOfMemory

-- if one isn't let be cancelled
abbrev pub head_of_cancels : CancelsError → HeadError
head_of_cancels (cancels_error.Refused refusal) = CancelRefused refusal
head_of_cancels cancels_error.OutOfMemory = OutOfMemory

-- if no serial numbers are free for those that are opened
abbrev pub head_of_plan : PlanError → HeadError
head_of_plan plan.NoSerial = BadSetup
head_of_plan plan.OutOfMemory = OutOfMemory

-- if the head end stopped
abbrev pub head_of_stop : Stop → HeadError
head_of_stop stop.Closed = Socket
head_of_stop stop.Full = Full
head_of_stop stop.BookFault = BookFault
head_of_stop stop.OutOfMemory = OutOfMemory

-- the fault that says so
abbrev pub fault_of_head : HeadError → Fault
fault_of_head ListFault = fault.ListFault
fault_of_head (BadList line) = fault.BadList line
fault_of_head ImageFault = fault.ImageFault
fault_of_head BadSetup = fault.BadSetup
fault_of_head NoBook = fault.NoBook
fault_of_head BookExists = fault.BookExists
fault_of_head Locked = fault.Locked
fault_of_head BookFault = fault.BookFault
fault_of_head (BadBook offset) = fault.BadBook offset
fault_of_head (BadRecord index) = fault.BadRecord index
fault_of_head ForeignHead = fault.ForeignHead
fault_of_head Full = fault.Full
fault_of_head (OpenRefused refusal) = fault.OpenRefused refusal
fault_of_head (CancelRefused refusal) = fault.CancelRefused refusal
fault_of_head (TooManyFailed failed) = fault.TooManyFailed failed
fault_of_head CaptureFault = fault.CaptureFault
fault_of_head ForeignCapture = fault.ForeignCapture
fault_of_head Socket = fault.Socket
fault_of_head KeysFault = fault.KeysFault
fault_of_head KeysReadable = fault.KeysReadable
fault_of_head (BadKeys line why) = fault.BadKeys line why
fault_of_head (NoKey meter) = fault.NoKey meter
fault_of_head NoCounter = fault.NoCounter
fault_of_head CounterExists = fault.CounterExists
fault_of_head CounterLocked = fault.CounterLocked
fault_of_head CounterFault = fault.CounterFault
fault_of_head CounterSpent = fault.CounterSpent
fault_of_head Output = fault.Output
fault_of_head OutOfMemory = fault.OutOfMemory

-- ---- which of them come when

-- those that come before anything is written, whatever else may come then
abbrev pub ComesBeforeLines : HeadError → Type 0
ComesBeforeLines ListFault = Unit {0}
ComesBeforeLines (BadList line) = Unit {0}
ComesBeforeLines ImageFault = Unit {0}
ComesBeforeLines BadSetup = Unit {0}
ComesBeforeLines NoBook = Unit {0}
ComesBeforeLines BookExists = Unit {0}
ComesBeforeLines Locked = Unit {0}
ComesBeforeLines (BadBook offset) = Unit {0}
ComesBeforeLines (BadRecord index) = Unit {0}
ComesBeforeLines ForeignHead = Unit {0}
ComesBeforeLines ForeignCapture = Unit {0}
ComesBeforeLines KeysFault = Unit {0}
ComesBeforeLines KeysReadable = Unit {0}
ComesBeforeLines (BadKeys line why) = Unit {0}
ComesBeforeLines (NoKey meter) = Unit {0}
ComesBeforeLines NoCounter = Unit {0}
ComesBeforeLines CounterExists = Unit {0}
ComesBeforeLines CounterLocked = Unit {0}
ComesBeforeLines error = ⊥

-- those that only these options bring about
abbrev pub IsAskedFor : HeadOptions → HeadError → Type 0
IsAskedFor options BadSetup = IsTrue (is_some options.opening)
IsAskedFor options ImageFault = IsTrue (is_some options.opening)
IsAskedFor options (OpenRefused refusal) = IsTrue (is_some options.opening)
IsAskedFor options (CancelRefused refusal) = options.cancel.items ≢ []
IsAskedFor options BookExists = IsTrue options.book.is_new
IsAskedFor options NoBook = options.book.is_new ≡ false
IsAskedFor options (BadBook offset) = options.book.is_new ≡ false
IsAskedFor options (BadRecord index) = options.book.is_new ≡ false
IsAskedFor options ForeignHead = options.book.is_new ≡ false
IsAskedFor options CaptureFault = IsTrue (is_some options.capture)
IsAskedFor options ForeignCapture = IsTrue (is_some options.capture)
IsAskedFor options KeysFault = IsTrue (is_some options.sealing)
IsAskedFor options KeysReadable = IsTrue (is_some options.sealing)
IsAskedFor options (BadKeys line why) = IsTrue (is_some options.sealing)
IsAskedFor options (NoKey meter) = IsTrue (is_some options.sealing)
IsAskedFor options NoCounter = FindsCounter options.sealing
IsAskedFor options CounterExists = MakesCounter options.sealing
IsAskedFor options CounterLocked = IsTrue (is_some options.sealing)
IsAskedFor options CounterFault = IsTrue (is_some options.sealing)
IsAskedFor options CounterSpent = IsTrue (is_some options.sealing)
IsAskedFor options error = Unit {0}

-- of what is opened, before it is
abbrev pub IsOfOpeningSetup : HeadError → Type 0
IsOfOpeningSetup ImageFault = Unit {0}
IsOfOpeningSetup (OpenRefused refusal) = Unit {0}
IsOfOpeningSetup OutOfMemory = Unit {0}
IsOfOpeningSetup error = ⊥

-- of what is opened, once the book is there
abbrev pub IsOfOpened : {X : Type 0} → Option X → HeadError → Type 0
IsOfOpened opened BadSetup = IsTrue (is_some opened)
IsOfOpened opened (OpenRefused refusal) = IsTrue (is_some opened)
IsOfOpened opened OutOfMemory = Unit {0}
IsOfOpened opened error = ⊥

-- of what is judged: the campaigns that these name, which are cancelled first, and what is opened then
abbrev pub IsOfJudging : {X Y : Type 0} → List Y → Option X → HeadError → Type 0
IsOfJudging named opened (CancelRefused refusal) = named ≢ []
IsOfJudging named opened error = IsOfOpened opened error

-- of what is cancelled and opened
abbrev pub IsOfBeginning : {X Y : Type 0} → List Y → Option X → HeadError → Type 0
IsOfBeginning cancels opened (CancelRefused refusal) = cancels ≢ []
IsOfBeginning cancels opened (OpenRefused refusal) = IsTrue (is_some opened)
IsOfBeginning cancels opened BookFault = Unit {0}
IsOfBeginning cancels opened Full = Unit {0}
IsOfBeginning cancels opened OutOfMemory = Unit {0}
IsOfBeginning cancels opened error = ⊥

-- of the opening of campaigns
abbrev pub IsOfOpening : HeadError → Type 0
IsOfOpening (OpenRefused refusal) = Unit {0}
IsOfOpening BookFault = Unit {0}
IsOfOpening Full = Unit {0}
IsOfOpening OutOfMemory = Unit {0}
IsOfOpening error = ⊥

-- of a head end that leads, with a capture and keys, if these are there
abbrev pub IsOfLeading : {A B : Type 0} → Option A → Option B → HeadError → Type 0
IsOfLeading file links Socket = Unit {0}
IsOfLeading file links CounterFault = IsTrue (is_some links)
IsOfLeading file links CounterSpent = IsTrue (is_some links)
IsOfLeading file links CaptureFault = IsTrue (is_some file)
IsOfLeading file links BookFault = Unit {0}
IsOfLeading file links Full = Unit {0}
IsOfLeading file links (TooManyFailed failed) = Unit {0}
IsOfLeading file links OutOfMemory = Unit {0}
IsOfLeading file links error = ⊥
