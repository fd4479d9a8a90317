-- What a fault is about: an address, a file or one beside it, a capacity, or the serial number of a campaign.
use Rattle.std.specs.Prelude.{◌≡◌, ℕ, Option, None, Some}
use Rattle.std.specs.Option.{option_map, option_map_or}
use Rattle.fw_book.specs.declared.error.BookError.TheVariants as refused
use Rattle.fw_disk.specs.declared.reason.Because.{Because}
use Rattle.fw_disk.specs.declared.reason.Reason.{Reason}
use Rattle.fw_disk.specs.declared.name.Name.{Name}
use Rattle.fw_disk.specs.declared.name.Name.TheVariants.{Main}
use Rattle.fw_faults.specs.declared.fault.Fault.{Fault}
use Rattle.fw_faults.specs.declared.fault.Fault.TheVariants.{StoreFault, Device, BadFile, BadHeader, BadImage, Socket, NoBook, BookExists, Locked, BookFault, BadBook, BadRecord, ForeignHead, Full, ListFault, BadList, ImageFault, EmptyImage, ImageTooLong, BadSetup, OpenRefused, CancelRefused, TooManyFailed, CaptureFault, ForeignCapture, KeysFault, KeysReadable, BadKeys, NoKey, NoCounter, CounterExists, CounterLocked, CounterFault, CounterSpent}
use Rattle.fw_cli.specs.declared.input_cause.InputCause.{InputCause}
use Rattle.fw_cli.specs.declared.meter_error.MeterError.{MeterError}
use Rattle.fw_cli.specs.declared.meter_error.MeterError.TheVariants as meter
use Rattle.fw_cli.specs.declared.meter_error.MeterFailure.{MeterFailure}
use Rattle.dlmsfw.specs.declared.cause.BookPlaces.{BookPlaces}
use Rattle.dlmsfw.specs.declared.cause.BookPlace.{BookPlace}
use Rattle.dlmsfw.specs.declared.cause.BookPlace.TheVariants.{Book, HeadListen, Meters, Image, Open, Cancel, Campaign, Threshold, HeadCapture, HeadKeys, HeadCounter}
use Rattle.dlmsfw.specs.declared.cause.MeterPlaces.{MeterPlaces}
use Rattle.dlmsfw.specs.declared.cause.NamedFile.{NamedFile}
use Rattle.dlmsfw.specs.declared.cause.Place.{Place}
use Rattle.dlmsfw.specs.declared.cause.Place.TheVariants.{Listen, ListenOf, Store, FactoryFile, Capacity, Capture, Keys, Counter}
use Rattle.dlmsfw.specs.declared.refusal.Refusal.{Refusal}
use Rattle.dlmsfw.specs.Refusals.{book_told, input_told, reason_told}

-- the name of a file that a reason is about
abbrev pub name_in : Option Reason → Name
name_in None = Main
name_in (Some reason) = reason.name

-- where a meter listens, or the one of this number
abbrev pub listen_of : Option ℕ → MeterPlaces → Place
listen_of None places = Listen places.listen
listen_of (Some number) places = ListenOf places.listen number

-- the file of a store
abbrev pub store_place_of : Fault → NamedFile → Option Place
store_place_of StoreFault file = Some (Store file)
store_place_of Device file = Some (Store file)
store_place_of BadFile file = Some (Store file)
store_place_of BadHeader file = Some (Store file)
store_place_of BadImage file = Some (Store file)
store_place_of fault file = None

-- the file of the image that a new meter runs, or its capacity, which the image that it runs without a file doesn't fit
abbrev pub factory_of : MeterPlaces → Place
factory_of places = option_map_or FactoryFile places.factory_file (Capacity places.capacity)

-- the file of the counters beside that of the keys of a meter
abbrev pub counter_of : Name → MeterPlaces → Option Place
counter_of name places = option_map (λ path. Counter (record { path = path; name = name })) places.keys

-- the file that has a meter
abbrev pub meter_file : Option ℕ → Name → MeterPlaces → Option Place
meter_file number name places = Some (Store (record { path = places.store; number = number; name = name }))

abbrev pub place_in : MeterError → Option ℕ → Name → MeterPlaces → Option Place
place_in meter.Socket number name places = Some (listen_of number places)
place_in meter.FactoryFault number name places = option_map FactoryFile places.factory_file
place_in meter.BadSetup number name places = Some (factory_of places)
place_in meter.CaptureFault number name places = option_map (λ path. Capture (record { path = path; number = None; name = name })) places.capture
place_in meter.ForeignCapture number name places = option_map (λ path. Capture (record { path = path; number = None; name = name })) places.capture
place_in meter.KeysFault number name places = option_map Keys places.keys
place_in meter.KeysReadable number name places = option_map Keys places.keys
place_in (meter.BadKeys line why) number name places = option_map Keys places.keys
place_in meter.NoCounter number name places = counter_of name places
place_in meter.CounterExists number name places = counter_of name places
place_in meter.CounterLocked number name places = counter_of name places
place_in meter.CounterFault number name places = counter_of name places
place_in meter.CounterSpent number name places = counter_of name places
place_in meter.StoreFault number name places = meter_file number name places
place_in meter.Device number name places = meter_file number name places
place_in meter.BadFile number name places = meter_file number name places
place_in meter.BadHeader number name places = meter_file number name places
place_in meter.BadImage number name places = meter_file number name places
place_in error number name places = None

abbrev pub place_of : MeterFailure → MeterPlaces → Option Place
place_of ended places = place_in ended.error ended.number (name_in ended.reason) places

abbrev pub answer_place_of : Because Fault → NamedFile → Option Place
answer_place_of because store = store_place_of because.error (record store { name = name_in because.reason })

-- the file of a book
abbrev pub book_file : Name → BookPlaces → BookPlace
book_file name places = Book (record { path = places.book; number = None; name = name })

-- the file of the counters beside that of the keys of a head end
abbrev pub book_counter : Name → BookPlaces → Option BookPlace
book_counter name places = option_map (λ path. HeadCounter (record { path = path; name = name })) places.keys

-- the campaigns that are cancelled first, or the one that a cancelling is of
abbrev pub cancelled_place : Option BookPlace → Option BookPlace → Option BookPlace
cancelled_place (Some first) campaign = Some first
cancelled_place None campaign = campaign

abbrev pub book_place_in : Fault → Name → BookPlaces → Option BookPlace
book_place_in NoBook name places = Some (book_file name places)
book_place_in BookExists name places = Some (book_file name places)
book_place_in Locked name places = Some (book_file name places)
book_place_in BookFault name places = Some (book_file name places)
book_place_in (BadBook offset) name places = Some (book_file name places)
book_place_in (BadRecord index) name places = Some (book_file name places)
book_place_in ForeignHead name places = Some (book_file name places)
book_place_in Full name places = Some (book_file name places)
book_place_in Socket name places = option_map HeadListen places.listen
book_place_in ListFault name places = option_map Meters places.meters
book_place_in (BadList line) name places = option_map Meters places.meters
book_place_in ImageFault name places = option_map Image places.image
book_place_in EmptyImage name places = option_map Image places.image
book_place_in ImageTooLong name places = option_map Image places.image
book_place_in BadSetup name places = option_map Open places.opened
book_place_in (OpenRefused refused.EmptyImage) name places = option_map Image places.image
book_place_in (OpenRefused refused.ImageTooLong) name places = option_map Image places.image
book_place_in (OpenRefused refusal) name places = option_map Open places.opened
book_place_in (CancelRefused refusal) name places = cancelled_place (option_map Cancel places.cancel) (option_map Campaign places.campaign)
book_place_in (TooManyFailed failed) name places = option_map Threshold places.max_failed
book_place_in CaptureFault name places = option_map (λ path. HeadCapture (record { path = path; number = None; name = name })) places.capture
book_place_in ForeignCapture name places = option_map (λ path. HeadCapture (record { path = path; number = None; name = name })) places.capture
book_place_in KeysFault name places = option_map HeadKeys places.keys
book_place_in KeysReadable name places = option_map HeadKeys places.keys
book_place_in (BadKeys line why) name places = option_map HeadKeys places.keys
book_place_in (NoKey meter) name places = option_map HeadKeys places.keys
book_place_in NoCounter name places = book_counter name places
book_place_in CounterExists name places = book_counter name places
book_place_in CounterLocked name places = book_counter name places
book_place_in CounterFault name places = book_counter name places
book_place_in CounterSpent name places = book_counter name places
book_place_in fault name places = None

abbrev pub book_place_of : Because Fault → BookPlaces → Option BookPlace
book_place_of because places = book_place_in because.error (name_in because.reason) places

-- the status that a fault of a book ends the program with: a rollout that stops since too many rows failed has one of its own
abbrev pub book_status : Fault → ℕ
book_status (TooManyFailed failed) = 6
book_status fault = 1

-- Of a store, a capture, keys and counters what is told is the reason that came with the fault, or nothing if none did.
abbrev pub TellsReason : Option Place → Option Reason → Option Refusal → Type 0
TellsReason (Some (Store file)) reason told = told ≡ reason_told reason
TellsReason (Some (Capture file)) reason told = told ≡ reason_told reason
TellsReason (Some (Keys file)) reason told = told ≡ reason_told reason
TellsReason (Some (Counter file)) reason told = told ≡ reason_told reason
TellsReason place reason told = Unit {0}

-- Of a book it is that reason, and without one what the book shows. Of a threshold it is what the book shows.
abbrev pub TellsBookReason : Option BookPlace → Option Reason → Option InputCause → Option Refusal → Type 0
TellsBookReason (Some (Book file)) reason input told = told ≡ book_told reason input
TellsBookReason (Some (HeadCapture file)) reason input told = told ≡ reason_told reason
TellsBookReason (Some (HeadKeys file)) reason input told = told ≡ reason_told reason
TellsBookReason (Some (HeadCounter file)) reason input told = told ≡ reason_told reason
TellsBookReason (Some (Open serial)) reason input told = told ≡ input_told input
TellsBookReason (Some (Threshold max_failed)) reason input told = told ≡ input_told input
TellsBookReason place reason input told = Unit {0}
