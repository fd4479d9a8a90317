-- Which errors of the command `head` come when, and which options they need.
use Rattle.std.proofs.Common.{◌≡◌, ℕ, List, [], Option, Contains, inl, inr, refl, sym, subst}
use Rattle.std.specs.Prelude.{IsTrue, is_some, ◌⊎◌, ◌≢◌, false}
use Rattle.std.proofs.lemmas.List.Elements.{All-contains, All-nil}
use Rattle.fw_book.specs.Contents.{Contents}
use Rattle.fw_book.specs.declared.error.BookError.{BookError}
use Rattle.fw_kept.specs.declared.error.KeptError.{KeptError}
use Rattle.fw_kept.specs.declared.error.KeptError.TheVariants as kept
use Rattle.fw_plan.specs.Ranges.{serials_of}
use Rattle.fw_plan.specs.declared.error.PlanError.{PlanError}
use Rattle.fw_plan.specs.declared.error.PlanError.TheVariants as plan
use Rattle.fw_plan.specs.declared.part.Part.{Part}
use Rattle.fw_plan.specs.declared.ranges.SerialRange.{SerialRange}
use Rattle.fw_rollout.specs.declared.error.Stop.{Stop}
use Rattle.fw_rollout.specs.declared.error.Stop.TheVariants as stop
use Rattle.fw_host.specs.Openings.{CancelsRefused, RefusesOne, RefusesOneCancel}
use Rattle.fw_host.specs.declared.error.BookFileError.{BookFileError}
use Rattle.fw_host.specs.declared.error.BookFileError.TheVariants as old_book
use Rattle.fw_host.specs.declared.error.CancelsError.{CancelsError}
use Rattle.fw_host.specs.declared.error.CancelsError.TheVariants as cancels_error
use Rattle.fw_host.specs.declared.error.CaptureFileError.{CaptureFileError}
use Rattle.fw_host.specs.declared.error.CaptureFileError.TheVariants as capture
use Rattle.fw_host.specs.declared.error.HeadKeysError.{HeadKeysError}
use Rattle.fw_host.specs.declared.error.HeadKeysError.TheVariants as keys
use Rattle.fw_host.specs.declared.error.NewBookError.{NewBookError}
use Rattle.fw_host.specs.declared.error.NewBookError.TheVariants as new_book
use Rattle.fw_host.specs.declared.error.NewCounterError.{NewCounterError}
use Rattle.fw_host.specs.declared.error.NewCounterError.TheVariants as new_counter
use Rattle.fw_cli.specs.Faults.{MakesCounter}
use Rattle.fw_cli.specs.HeadErrors.{ComesBeforeLines, IsAskedFor, IsOfBeginning, IsOfJudging, IsOfLeading, IsOfOpened, IsOfOpening, IsOfOpeningSetup, head_of_cancels, head_of_capture, head_of_closing, head_of_keys, head_of_list, head_of_new_book, head_of_new_counter, head_of_old_book, head_of_plan, head_of_sealing, head_of_stop, head_of_telling, not_cancelled, not_opened}
use Rattle.fw_cli.specs.Reasons.{IsClosingKeyed}
use Rattle.fw_cli.specs.Sealing.{IsKeyed}
use Rattle.fw_cli.specs.declared.error.ClosingError.{ClosingError}
use Rattle.fw_cli.specs.declared.error.ClosingError.TheVariants as closing
use Rattle.fw_cli.specs.declared.error.ListFileError.{ListFileError}
use Rattle.fw_cli.specs.declared.error.ListFileError.TheVariants as list_file
use Rattle.fw_cli.specs.declared.error.SealingError.{SealingError}
use Rattle.fw_cli.specs.declared.error.SealingError.TheVariants as sealed
use Rattle.fw_cli.specs.declared.error.TellingError.{TellingError}
use Rattle.fw_cli.specs.declared.error.TellingError.TheVariants as telling
use Rattle.fw_cli.specs.declared.head.HeadOptions.{HeadOptions}
use Rattle.fw_cli.specs.declared.head_error.HeadError.{HeadError}
use Rattle.fw_cli.specs.declared.head_error.HeadError.TheVariants as head
use Rattle.fw_cli.proofs.Linked.{some_makes}

-- ---- what comes before the first line

pub list_is_asked : (options : HeadOptions) (e : ListFileError) → IsAskedFor options (head_of_list e)
list_is_asked options list_file.ListFault = tt
list_is_asked options (list_file.BadList line) = tt
list_is_asked options list_file.OutOfMemory = tt

pub opening_is_asked : (options : HeadOptions) (e : HeadError) → IsTrue (is_some options.opening) → IsOfOpeningSetup e → IsAskedFor options e
opening_is_asked options head.ImageFault some is = some
opening_is_asked options (head.OpenRefused refusal) some is = some
opening_is_asked options head.OutOfMemory some is = tt
opening_is_asked options e some is = absurd is

pub keys_are_asked : (options : HeadOptions) (e : HeadKeysError) → IsTrue (is_some options.sealing) → IsAskedFor options (head_of_keys e)
keys_are_asked options keys.KeysFault some = some
keys_are_asked options keys.KeysReadable some = some
keys_are_asked options (keys.BadKeys line why) some = some
keys_are_asked options (keys.NoKey meter) some = some
keys_are_asked options keys.OutOfMemory some = tt

pub sealing_is_asked : (options : HeadOptions) (e : SealingError) → IsKeyed options.sealing e → IsAskedFor options (head_of_sealing e)
sealing_is_asked options sealed.NoCounter is = is
sealing_is_asked options sealed.CounterExists is = is
sealing_is_asked options sealed.CounterLocked is = is
sealing_is_asked options sealed.CounterFault is = is
sealing_is_asked options sealed.OutOfMemory is = tt

pub counters_are_asked : (options : HeadOptions) (e : NewCounterError) → MakesCounter options.sealing → IsAskedFor options (head_of_new_counter e)
counters_are_asked options new_counter.CounterExists makes = makes
counters_are_asked options new_counter.CounterLocked makes = some_makes options.sealing makes
counters_are_asked options new_counter.CounterFault makes = some_makes options.sealing makes
counters_are_asked options new_counter.OutOfMemory makes = tt

pub capture_is_asked : (options : HeadOptions) (e : CaptureFileError) → IsTrue (is_some options.capture) → IsAskedFor options (head_of_capture e)
capture_is_asked options capture.CaptureFault asked = asked
capture_is_asked options capture.ForeignCapture asked = asked

pub old_is_asked : (options : HeadOptions) (e : BookFileError) → options.book.is_new ≡ false → IsAskedFor options (head_of_old_book e)
old_is_asked options old_book.NoBook old = old
old_is_asked options old_book.Locked old = tt
old_is_asked options old_book.BookFault old = tt
old_is_asked options (old_book.BadBook offset) old = old
old_is_asked options (old_book.BadRecord index) old = old
old_is_asked options old_book.ForeignHead old = old
old_is_asked options old_book.OutOfMemory old = tt

pub new_is_asked : (options : HeadOptions) (e : NewBookError) → IsTrue options.book.is_new → IsAskedFor options (head_of_new_book e)
new_is_asked options new_book.BookExists new = new
new_is_asked options new_book.Locked new = tt
new_is_asked options new_book.BookFault new = tt
new_is_asked options new_book.OutOfMemory new = tt

pub judging_is_asked : {X : Type 0} (options : HeadOptions) (opened : Option X) (e : HeadError) → (IsTrue (is_some opened) → IsTrue (is_some options.opening))
    → IsOfJudging options.cancel.items opened e → IsAskedFor options e
judging_is_asked {X} options opened (head.CancelRefused refusal) asked is = is
judging_is_asked {X} options opened head.BadSetup asked is = asked is
judging_is_asked {X} options opened (head.OpenRefused refusal) asked is = asked is
judging_is_asked {X} options opened head.OutOfMemory asked is = tt
judging_is_asked {X} options opened e asked is = absurd is

-- ---- what is judged

-- nothing stands in an empty list
contains_none : (n : ℕ) → Contains [] n → ⊥
contains_none n there = All-contains (λ (m : ℕ). ⊥) [] n (All-nil (λ (m : ℕ). ⊥)) there

-- what is refused to be cancelled was named
refused_is_named : (book : Contents) (named : List SerialRange) (refusal : BookError) → RefusesOneCancel book (serials_of book named) refusal → named ≢ []
refused_is_named book named refusal one none = contains_none one.serial (subst (λ (l : List SerialRange). Contains (serials_of book l) one.serial) none one.within)

pub cancels_are_judged : {X : Type 0} (book : Contents) (named : List SerialRange) (opened : Option X) (e : CancelsError) → CancelsRefused book (serials_of book named) e
    → IsOfJudging named opened (head_of_cancels e)
cancels_are_judged {X} book named opened (cancels_error.Refused refusal) one = refused_is_named book named refusal one
cancels_are_judged {X} book named opened cancels_error.OutOfMemory is = tt

pub opened_is_judged : {X Y : Type 0} (named : List Y) (opened : Option X) (e : HeadError) → IsOfOpened opened e → IsOfJudging named opened e
opened_is_judged {X} {Y} named opened (head.CancelRefused refusal) is = absurd is
opened_is_judged {X} {Y} named opened e is = is

pub plan_is_opened : {X : Type 0} (opened : Option X) (e : PlanError) → IsTrue (is_some opened) → IsOfOpened opened (head_of_plan e)
plan_is_opened {X} opened plan.NoSerial some = some
plan_is_opened {X} opened plan.OutOfMemory some = tt

pub refused_is_opened : {X : Type 0} (opened : Option X) (book : Contents) (image : List ℕ) (parts : List Part) (e : HeadError) → IsTrue (is_some opened)
    → ((refusal : BookError) × (e ≡ head.OpenRefused refusal) × RefusesOne book image parts refusal) → IsOfOpened opened e
refused_is_opened {X} opened book image parts e some (refusal, is, one) = subst (λ (x : HeadError). IsOfOpened opened x) (sym is) some

pub refused_is_opening : (book : Contents) (image : List ℕ) (parts : List Part) (e : HeadError)
    → ((refusal : BookError) × (e ≡ head.OpenRefused refusal) × RefusesOne book image parts refusal) → IsOfOpening e
refused_is_opening book image parts e (refusal, is, one) = subst (λ (x : HeadError). IsOfOpening x) (sym is) tt

-- ---- what comes after the first line

pub record IsLater (options : HeadOptions) (e : HeadError) : Type 0 where
  pub asked : IsAskedFor options e
  pub later : ¬ ComesBeforeLines e

pub not_opened_opening : (e : KeptError) → IsOfOpening (not_opened e)
not_opened_opening (kept.Refused refusal) = tt
not_opened_opening kept.Full = tt
not_opened_opening kept.BookFault = tt
not_opened_opening kept.OutOfMemory = tt

pub cancelling : {X Y : Type 0} (cancels : List Y) (opened : Option X) (e : KeptError) → cancels ≢ [] → IsOfBeginning cancels opened (not_cancelled e)
cancelling {X} {Y} cancels opened (kept.Refused refusal) some = some
cancelling {X} {Y} cancels opened kept.Full some = tt
cancelling {X} {Y} cancels opened kept.BookFault some = tt
cancelling {X} {Y} cancels opened kept.OutOfMemory some = tt

pub opening : {X Y : Type 0} (cancels : List Y) (opened : Option X) (e : HeadError) → IsTrue (is_some opened) → IsOfOpening e → IsOfBeginning cancels opened e
opening {X} {Y} cancels opened (head.OpenRefused refusal) some is = some
opening {X} {Y} cancels opened head.BookFault some is = tt
opening {X} {Y} cancels opened head.Full some is = tt
opening {X} {Y} cancels opened head.OutOfMemory some is = tt
opening {X} {Y} cancels opened e some is = absurd is

pub beginning : {X Y : Type 0} (options : HeadOptions) (cancels : List Y) (opened : Option X) (e : HeadError) → (cancels ≢ [] → options.cancel.items ≢ [])
    → (IsTrue (is_some opened) → IsTrue (is_some options.opening)) → IsOfBeginning cancels opened e → IsLater options e
beginning {X} {Y} options cancels opened (head.CancelRefused refusal) named asked is = record { asked = named is; later = λ h. h }
beginning {X} {Y} options cancels opened (head.OpenRefused refusal) named asked is = record { asked = asked is; later = λ h. h }
beginning {X} {Y} options cancels opened head.BookFault named asked is = record { asked = tt; later = λ h. h }
beginning {X} {Y} options cancels opened head.Full named asked is = record { asked = tt; later = λ h. h }
beginning {X} {Y} options cancels opened head.OutOfMemory named asked is = record { asked = tt; later = λ h. h }
beginning {X} {Y} options cancels opened e named asked is = absurd is

pub line_lost : (options : HeadOptions) (e : TellingError) → IsLater options (head_of_telling e)
line_lost options telling.Output = record { asked = tt; later = λ h. h }
line_lost options telling.OutOfMemory = record { asked = tt; later = λ h. h }

pub files_lost : (options : HeadOptions) (e : HeadError) → e ≡ head.Output → IsLater options e
files_lost options e is = subst (λ (x : HeadError). IsLater options x) (sym is) (record { asked = tt; later = λ h. h })

pub no_memory : (options : HeadOptions) → IsLater options head.OutOfMemory
no_memory options = record { asked = tt; later = λ h. h }

pub stop_later : (options : HeadOptions) (s : Stop) → IsLater options (head_of_stop s)
stop_later options stop.Closed = record { asked = tt; later = λ h. h }
stop_later options stop.Full = record { asked = tt; later = λ h. h }
stop_later options stop.BookFault = record { asked = tt; later = λ h. h }
stop_later options stop.OutOfMemory = record { asked = tt; later = λ h. h }

pub leading : (options : HeadOptions) (e : HeadError) → IsOfLeading options.capture options.sealing e → IsLater options e
leading options head.CaptureFault is = record { asked = is; later = λ h. h }
leading options head.CounterFault is = record { asked = is; later = λ h. h }
leading options head.CounterSpent is = record { asked = is; later = λ h. h }
leading options head.Socket is = record { asked = tt; later = λ h. h }
leading options head.BookFault is = record { asked = tt; later = λ h. h }
leading options head.Full is = record { asked = tt; later = λ h. h }
leading options (head.TooManyFailed failed) is = record { asked = tt; later = λ h. h }
leading options head.OutOfMemory is = record { asked = tt; later = λ h. h }
leading options e is = absurd is

-- ---- while it leads

pub stop_leading : {A B : Type 0} (file : Option A) (links : Option B) (s : Stop) → IsOfLeading file links (head_of_stop s)
stop_leading {A} {B} file links stop.Closed = tt
stop_leading {A} {B} file links stop.Full = tt
stop_leading {A} {B} file links stop.BookFault = tt
stop_leading {A} {B} file links stop.OutOfMemory = tt

plain_is_leading : {A B : Type 0} (file : Option A) (links : Option B) (e : ClosingError) → (e ≡ closing.CaptureFault → IsTrue (is_some file))
    → (e ≡ closing.Socket) ⊎ (e ≡ closing.CaptureFault) → IsOfLeading file links (head_of_closing e)
plain_is_leading {A} {B} file links e asked (inl socket) = subst (λ (x : ClosingError). IsOfLeading file links (head_of_closing x)) (sym socket) tt
plain_is_leading {A} {B} file links e asked (inr capture_bad) = subst (λ (x : ClosingError). IsOfLeading file links (head_of_closing x)) (sym capture_bad) (asked capture_bad)

pub plain_leading : {A B : Type 0} (file : Option A) (links : Option B) (e : ClosingError) (told : HeadError) → told ≡ head_of_closing e
    → (e ≡ closing.CaptureFault → IsTrue (is_some file)) → (e ≡ closing.Socket) ⊎ (e ≡ closing.CaptureFault) → IsOfLeading file links told
plain_leading {A} {B} file links e told is asked plain =
    subst (λ (x : HeadError). IsOfLeading file links x) (sym is) (plain_is_leading file links e asked plain)

closing_is_leading : {A B : Type 0} (file : Option A) (links : Option B) (e : ClosingError) → (e ≡ closing.CaptureFault → IsTrue (is_some file)) → IsClosingKeyed links e
    → IsOfLeading file links (head_of_closing e)
closing_is_leading {A} {B} file links closing.Socket asked keyed = tt
closing_is_leading {A} {B} file links closing.CaptureFault asked keyed = asked refl
closing_is_leading {A} {B} file links closing.CounterFault asked keyed = keyed
closing_is_leading {A} {B} file links closing.CounterSpent asked keyed = keyed

pub closing_leading : {A B : Type 0} (file : Option A) (links : Option B) (e : ClosingError) (told : HeadError) → told ≡ head_of_closing e
    → (e ≡ closing.CaptureFault → IsTrue (is_some file)) → IsClosingKeyed links e → IsOfLeading file links told
closing_leading {A} {B} file links e told is asked keyed =
    subst (λ (x : HeadError). IsOfLeading file links x) (sym is) (closing_is_leading file links e asked keyed)
