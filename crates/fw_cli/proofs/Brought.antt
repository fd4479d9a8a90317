-- Which errors of `meter` come when, and which options they need.
use Rattle.std.proofs.Common.{◌≡◌, ◌≤◌, ℕ, List, Option, Some, None, inl, inr, refl, sym, subst}
use Rattle.std.specs.Prelude.{IfSome, IsTrue, is_some, ◌⊎◌, ◌≢◌}
use Rattle.std.specs.Io.KnownBytes.{Keeps}
use Rattle.fw_disk.specs.declared.reason.Reason.{Reason}
use Rattle.fw_store.specs.Setup.{IsSetup}
use Rattle.fw_store.specs.declared.version.HeaderVersion.TheVariants.{Two}
use Rattle.fw_host.specs.Meters.{default_factory}
use Rattle.fw_host.specs.declared.error.CaptureFileError.{CaptureFileError}
use Rattle.fw_host.specs.declared.error.CaptureFileError.TheVariants as capture
use Rattle.fw_host.specs.declared.error.MeterKeysError.{MeterKeysError}
use Rattle.fw_host.specs.declared.error.MeterKeysError.TheVariants as keys
use Rattle.fw_host.specs.declared.error.NewCounterError.{NewCounterError}
use Rattle.fw_host.specs.declared.error.NewCounterError.TheVariants as new_counter
use Rattle.fw_host.specs.declared.error.NewStoreError.{NewStoreError}
use Rattle.fw_host.specs.declared.error.NewStoreError.TheVariants as new_store
use Rattle.fw_host.specs.declared.error.StoreFileError.{StoreFileError}
use Rattle.fw_host.specs.declared.error.StoreFileError.TheVariants as store
use Rattle.fw_host.specs.declared.meter_store.NewMeter.{NewMeter}
use Rattle.fw_cli.specs.Faults.{MakesCounter}
use Rattle.fw_cli.specs.MeterErrors.{IsBroughtBy, IsOfServing, IsOfSetup, IsOfStore, NamesMeter, meter_of_capture, meter_of_closing, meter_of_keys, meter_of_new_counter, meter_of_new_store, meter_of_sealing, meter_of_store, meter_of_telling}
use Rattle.fw_cli.specs.Reasons.{IsClosingKeyed}
use Rattle.fw_cli.specs.Sealing.{IsKeyed}
use Rattle.fw_cli.specs.declared.error.ClosingError.{ClosingError}
use Rattle.fw_cli.specs.declared.error.ClosingError.TheVariants as closing
use Rattle.fw_cli.specs.declared.error.SealingError.{SealingError}
use Rattle.fw_cli.specs.declared.error.SealingError.TheVariants as sealed
use Rattle.fw_cli.specs.declared.error.TellingError.{TellingError}
use Rattle.fw_cli.specs.declared.error.TellingError.TheVariants as telling
use Rattle.fw_cli.specs.declared.meter.MeterOptions.{MeterOptions}
use Rattle.fw_cli.specs.declared.meter_error.MeterError.{MeterError}
use Rattle.fw_cli.specs.declared.meter_error.MeterError.TheVariants as meter
use Rattle.fw_cli.specs.declared.meter_error.MeterFailure.{MeterFailure}
use Rattle.fw_cli.proofs.Linked.{some_makes}

-- ---- the set-up of a meter

pub of_store : (e : StoreFileError) → IsOfStore (meter_of_store e)
of_store store.StoreFault = tt
of_store store.Device = tt
of_store store.BadFile = tt
of_store store.BadHeader = tt
of_store store.BadImage = tt

store_is_setup : (fresh : NewMeter) (e : StoreFileError) → IsOfSetup fresh (meter_of_store e)
store_is_setup fresh store.StoreFault = tt
store_is_setup fresh store.Device = tt
store_is_setup fresh store.BadFile = tt
store_is_setup fresh store.BadHeader = tt
store_is_setup fresh store.BadImage = tt

pub store_in_setup : (fresh : NewMeter) (e : StoreFileError) (told : MeterError) → told ≡ meter_of_store e → IsOfSetup fresh told
store_in_setup fresh e told is = subst (λ (x : MeterError). IsOfSetup fresh x) (sym is) (store_is_setup fresh e)

pub new_in_setup : (fresh : NewMeter) (e : NewStoreError)
    → (fresh.factory_file ≡ None → e ≡ new_store.BadSetup → ¬ IsSetup Two fresh.block_size fresh.capacity default_factory) → IsOfSetup fresh (meter_of_new_store e)
new_in_setup fresh new_store.BadSetup bad = λ none. bad none refl
new_in_setup fresh new_store.FactoryFault bad = tt
new_in_setup fresh new_store.OutOfMemory bad = tt

-- it is the same of another meter that is made with the same
pub setup_of : (shown fresh : NewMeter) (e told : MeterError) → shown ≡ fresh → told ≡ e → IsOfSetup shown e → IsOfSetup fresh told
setup_of shown fresh e told same is of = subst (λ (n : NewMeter). IsOfSetup n told) same (subst (λ (x : MeterError). IsOfSetup shown x) (sym is) of)

-- ---- what only some options bring about

pub store_brought : (o : MeterOptions) (e : StoreFileError) → IsBroughtBy o (meter_of_store e)
store_brought o store.StoreFault = tt
store_brought o store.Device = tt
store_brought o store.BadFile = tt
store_brought o store.BadHeader = tt
store_brought o store.BadImage = tt

pub setup_brought : (o : MeterOptions) (e : MeterError) → IsOfSetup o.fresh e → IsBroughtBy o e
setup_brought o meter.BadSetup is = is
setup_brought o meter.FactoryFault is = tt
setup_brought o meter.OutOfMemory is = tt
setup_brought o meter.StoreFault is = tt
setup_brought o meter.Device is = tt
setup_brought o meter.BadFile is = tt
setup_brought o meter.BadHeader is = tt
setup_brought o meter.BadImage is = tt
setup_brought o e is = absurd is

pub keys_brought : (o : MeterOptions) (e : MeterKeysError) → IsTrue (is_some o.sealing) → IsBroughtBy o (meter_of_keys e)
keys_brought o keys.KeysFault some = some
keys_brought o keys.KeysReadable some = some
keys_brought o (keys.BadKeys line why) some = some
keys_brought o keys.OutOfMemory some = tt

pub sealing_brought : (o : MeterOptions) (e : SealingError) → IsKeyed o.sealing e → IsBroughtBy o (meter_of_sealing e)
sealing_brought o sealed.NoCounter is = is
sealing_brought o sealed.CounterExists is = is
sealing_brought o sealed.CounterLocked is = is
sealing_brought o sealed.CounterFault is = is
sealing_brought o sealed.OutOfMemory is = tt

pub counters_brought : (o : MeterOptions) (e : NewCounterError) → MakesCounter o.sealing → IsBroughtBy o (meter_of_new_counter e)
counters_brought o new_counter.CounterExists makes = makes
counters_brought o new_counter.CounterLocked makes = some_makes o.sealing makes
counters_brought o new_counter.CounterFault makes = some_makes o.sealing makes
counters_brought o new_counter.OutOfMemory makes = tt

pub capture_brought : (o : MeterOptions) (e : CaptureFileError) → IsTrue (is_some o.capture) → IsBroughtBy o (meter_of_capture e)
capture_brought o capture.CaptureFault asked = asked
capture_brought o capture.ForeignCapture asked = asked

pub ports_brought : (o : MeterOptions) (e : MeterError) → (e ≡ meter.Socket) ⊎ (e ≡ meter.OutOfMemory) → IsBroughtBy o e
ports_brought o e (inl socket) = subst (λ (x : MeterError). IsBroughtBy o x) (sym socket) tt
ports_brought o e (inr memory) = subst (λ (x : MeterError). IsBroughtBy o x) (sym memory) tt

store_is_brought : (o : MeterOptions) (e : MeterError) → IsOfStore e → IsBroughtBy o e
store_is_brought o meter.StoreFault is = tt
store_is_brought o meter.Device is = tt
store_is_brought o meter.BadFile is = tt
store_is_brought o meter.BadHeader is = tt
store_is_brought o meter.BadImage is = tt
store_is_brought o e is = absurd is

pub members_brought : (o : MeterOptions) (e : MeterError) → (e ≡ meter.OutOfMemory) ⊎ IsOfStore e → IsBroughtBy o e
members_brought o e (inl memory) = subst (λ (x : MeterError). IsBroughtBy o x) (sym memory) tt
members_brought o e (inr of) = store_is_brought o e of

pub serving_brought : (o : MeterOptions) (e : MeterError) → IsOfServing o.capture o.sealing e → IsBroughtBy o e
serving_brought o meter.Socket is = tt
serving_brought o meter.CaptureFault is = is
serving_brought o meter.CounterFault is = is
serving_brought o meter.CounterSpent is = is
serving_brought o meter.Output is = tt
serving_brought o meter.OutOfMemory is = tt
serving_brought o e is = absurd is

-- ---- while a meter serves

start_is_serving : {A B : Type 0} (file : Option A) (links : Option B) (e : ClosingError) → (e ≡ closing.CaptureFault → IsTrue (is_some file))
    → (e ≡ closing.Socket) ⊎ (e ≡ closing.CaptureFault) → IsOfServing file links (meter_of_closing e)
start_is_serving {A} {B} file links e asked (inl socket) = subst (λ (x : ClosingError). IsOfServing file links (meter_of_closing x)) (sym socket) tt
start_is_serving {A} {B} file links e asked (inr capture_bad) = subst (λ (x : ClosingError). IsOfServing file links (meter_of_closing x)) (sym capture_bad) (asked capture_bad)

pub start_serving : {A B : Type 0} (file : Option A) (links : Option B) (e : ClosingError) (told : MeterError) → told ≡ meter_of_closing e
    → (e ≡ closing.CaptureFault → IsTrue (is_some file)) → (e ≡ closing.Socket) ⊎ (e ≡ closing.CaptureFault) → IsOfServing file links told
start_serving {A} {B} file links e told is asked plain =
    subst (λ (x : MeterError). IsOfServing file links x) (sym is) (start_is_serving file links e asked plain)

closing_is_serving : {A B : Type 0} (file : Option A) (links : Option B) (e : ClosingError) → (e ≡ closing.CaptureFault → IsTrue (is_some file)) → IsClosingKeyed links e
    → IsOfServing file links (meter_of_closing e)
closing_is_serving {A} {B} file links closing.Socket asked keyed = tt
closing_is_serving {A} {B} file links closing.CaptureFault asked keyed = asked refl
closing_is_serving {A} {B} file links closing.CounterFault asked keyed = keyed
closing_is_serving {A} {B} file links closing.CounterSpent asked keyed = keyed

pub closing_serving : {A B : Type 0} (file : Option A) (links : Option B) (e : ClosingError) (told : MeterError) → told ≡ meter_of_closing e
    → (e ≡ closing.CaptureFault → IsTrue (is_some file)) → IsClosingKeyed links e → IsOfServing file links told
closing_serving {A} {B} file links e told is asked keyed =
    subst (λ (x : MeterError). IsOfServing file links x) (sym is) (closing_is_serving file links e asked keyed)

pub telling_serving : {A B : Type 0} (file : Option A) (links : Option B) (e : TellingError) → IsOfServing file links (meter_of_telling e)
telling_serving {A} {B} file links telling.Output = tt
telling_serving {A} {B} file links telling.OutOfMemory = tt

-- the first line is written, or nothing is
pub telling_silent : (e : TellingError) (a b : Option (List ℕ)) → (e ≢ telling.Output → Keeps a b) → meter_of_telling e ≢ meter.Output → Keeps a b
telling_silent telling.Output a b silent other = absurd (other refl)
telling_silent telling.OutOfMemory a b silent other = silent (λ is. absurd (cc is))

-- what closes a port comes after the first line
closed : (e : ClosingError) → meter_of_closing e ≢ meter.Socket → meter_of_closing e ≢ meter.CaptureFault → meter_of_closing e ≢ meter.CounterFault
    → meter_of_closing e ≢ meter.CounterSpent → ⊥
closed closing.Socket socket capture_bad counter spent = socket refl
closed closing.CaptureFault socket capture_bad counter spent = capture_bad refl
closed closing.CounterFault socket capture_bad counter spent = counter refl
closed closing.CounterSpent socket capture_bad counter spent = spent refl

pub closing_told : (e : ClosingError) (told : MeterError) → told ≡ meter_of_closing e → told ≢ meter.Socket → told ≢ meter.CaptureFault → told ≢ meter.CounterFault
    → told ≢ meter.CounterSpent → ⊥
closing_told e told is = subst (λ (x : MeterError). x ≢ meter.Socket → x ≢ meter.CaptureFault → x ≢ meter.CounterFault → x ≢ meter.CounterSpent → ⊥) (sym is) (closed e)

plain_closed : (e : ClosingError) → (e ≡ closing.Socket) ⊎ (e ≡ closing.CaptureFault) → meter_of_closing e ≢ meter.Socket → meter_of_closing e ≢ meter.CaptureFault → ⊥
plain_closed closing.Socket plain socket capture_bad = socket refl
plain_closed closing.CaptureFault plain socket capture_bad = capture_bad refl
plain_closed closing.CounterFault (inl is) socket capture_bad = absurd (cc is)
plain_closed closing.CounterFault (inr is) socket capture_bad = absurd (cc is)
plain_closed closing.CounterSpent (inl is) socket capture_bad = absurd (cc is)
plain_closed closing.CounterSpent (inr is) socket capture_bad = absurd (cc is)

pub plain_told : (e : ClosingError) (told : MeterError) → told ≡ meter_of_closing e → (e ≡ closing.Socket) ⊎ (e ≡ closing.CaptureFault) → told ≢ meter.Socket
    → told ≢ meter.CaptureFault → ⊥
plain_told e told is plain = subst (λ (x : MeterError). x ≢ meter.Socket → x ≢ meter.CaptureFault → ⊥) (sym is) (plain_closed e plain)

-- ---- which meter is meant

pub capture_names : (count : ℕ) (e : CaptureFileError) (why : Option Reason) → NamesMeter (Some count) (record { error = meter_of_capture e; number = None; reason = why })
capture_names count capture.CaptureFault why = (λ of. absurd of, tt)
capture_names count capture.ForeignCapture why = (λ of. absurd of, tt)

serving_no_store : {A B : Type 0} (file : Option A) (links : Option B) (e : MeterError) → IsOfServing file links e → IsOfStore e → ⊥
serving_no_store {A} {B} file links meter.StoreFault is of = is
serving_no_store {A} {B} file links meter.Device is of = is
serving_no_store {A} {B} file links meter.BadFile is of = is
serving_no_store {A} {B} file links meter.BadHeader is of = is
serving_no_store {A} {B} file links meter.BadImage is of = is
serving_no_store {A} {B} file links e is of = of

pub serving_names : {A B : Type 0} (file : Option A) (links : Option B) (count : ℕ) (f : MeterFailure) → f.number ≡ None → IsOfServing file links f.error → NamesMeter (Some count) f
serving_names {A} {B} file links count f none is = (
  λ of. absurd (serving_no_store file links f.error is of),
  subst (λ (n : Option ℕ). IfSome n (λ number. (1 ≤ number) × (number ≤ count))) (sym none) tt,
)
