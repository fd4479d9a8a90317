-- Public vocabulary: why a list, a book or the waves of a rollout refuse what a head end was to do.
use Rattle.std.specs.Prelude.{◌≢◌, ℕ, List, IsSomeAnd}
use Rattle.std.specs.declared.net.socket_addr.SocketAddr.{SocketAddr}
use Rattle.fw_book.specs.Contents.{Contents}
use Rattle.fw_book.specs.declared.error.BookError.TheVariants.{MeterBusy}
use Rattle.fw_faults.specs.declared.fault.Fault.{Fault}
use Rattle.fw_faults.specs.declared.fault.Fault.TheVariants as fault
use Rattle.fw_host.specs.Busy.{IsFirstBusy}
use Rattle.fw_host.specs.ListCauses.{HasCause}
use Rattle.fw_host.specs.declared.busy.BusyMeter.{BusyMeter}
use Rattle.fw_host.specs.declared.head_opening.Opening.{Opening}
use Rattle.fw_host.specs.declared.list_cause.ListCause.{ListCause}
use Rattle.fw_plan.specs.Openings.{lacking}
use Rattle.fw_plan.specs.Waves.{IsGate, wave_rows}
use Rattle.fw_plan.specs.declared.gate.Gate.TheVariants as gate
use Rattle.fw_plan.specs.declared.gate.TooManyFailed.{TooManyFailed as Stopped}
use Rattle.fw_plan.specs.declared.gate.WaveRow.{WaveRow}
use Rattle.fw_plan.specs.declared.rows.WaveMeter.{WaveMeter}
use Rattle.fw_plan.specs.declared.threshold.MaxFailed.{MaxFailed}
use Rattle.fw_cli.specs.declared.head.HeadOptions.{HeadOptions}
use Rattle.fw_cli.specs.declared.head_error.HeadError.{HeadError}
use Rattle.fw_cli.specs.declared.head_error.HeadError.TheVariants.{BadList, ForeignHead, OpenRefused, TooManyFailed}
use Rattle.fw_cli.specs.declared.input_cause.InputCause.{InputCause}
use Rattle.fw_cli.specs.declared.input_cause.InputCause.TheVariants.{Busy, Failed, Line, Owner}
use Rattle.fw_cli.specs.declared.keys.KeyMakingError.{KeyMakingError}
use Rattle.fw_cli.specs.declared.keys.KeyMakingError.TheVariants as keys

-- Of the files nothing is known here, so a text, an image, a book and the meters of a list are some.

-- a text is no list for this cause
abbrev pub IsOfText : SocketAddr → ListCause → Type 0
IsOfText own cause = (text : List ℕ) × HasCause own text cause

-- the first meter that is to be opened for and is live in a campaign
abbrev pub IsOfBook : Opening → BusyMeter → Type 0
IsOfBook opening busy =
    (book : Contents) × (image : List ℕ) × (meters : List ℕ) × IsFirstBusy book (lacking book opening.serial opening.release image meters) busy

-- more of these rows failed before a wave than may
abbrev pub IsStopOf : MaxFailed → List WaveRow → Stopped → Type 0
IsStopOf max_failed rows stop = IsGate max_failed rows (gate.TooManyFailed stop)

-- more rows of the meters of a list did, by a book
abbrev pub IsOfWaves : MaxFailed → Stopped → Type 0
IsOfWaves max_failed stop = (book : Contents) × (meters : List WaveMeter) × IsStopOf max_failed (wave_rows book meters) stop

-- why a head end with these options ended by this error
abbrev pub IsCauseOf : HeadOptions → HeadError → InputCause → Type 0
IsCauseOf options (BadList line) (Line cause) = IsOfText options.listen cause
IsCauseOf options (OpenRefused MeterBusy) (Busy busy) = IsSomeAnd options.opening (λ opening. IsOfBook opening busy)
IsCauseOf options (TooManyFailed failed) (Failed stop) = IsOfWaves options.max_failed stop
IsCauseOf options ForeignHead (Owner owner) = owner ≢ options.head
IsCauseOf options error cause = ⊥

-- why `cancel` or `give-up` of this head end ended by this fault
abbrev pub IsCauseOfBook : ℕ → Fault → InputCause → Type 0
IsCauseOfBook head fault.ForeignHead (Owner owner) = owner ≢ head
IsCauseOfBook head error cause = ⊥

-- why keys for the meters of a list weren't made
abbrev pub IsCauseOfKeys : SocketAddr → KeyMakingError → InputCause → Type 0
IsCauseOfKeys own (keys.BadList line) (Line cause) = IsOfText own cause
IsCauseOfKeys own error cause = ⊥
