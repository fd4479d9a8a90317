-- Public vocabulary: what the command `answer` does to its reader and its writer, where the bytes that these hold are known: what the reader
-- has left before and after, and what the writer holds at first and at last.
use Rattle.std.specs.Prelude.{◌≡◌, ℕ, List, Option}
use Rattle.std.specs.Io.KnownBytes.{Appends}
use Rattle.fw_image.specs.Meter.{Meter, restarted}
use Rattle.fw_image.specs.State.{State}
use Rattle.fw_faults.specs.declared.fault.Fault.{Fault}
use Rattle.fw_faults.specs.declared.fault.Fault.TheVariants as fault
use Rattle.fw_host.specs.declared.error.StoreFileError.{StoreFileError}
use Rattle.fw_host.specs.declared.error.StoreFileError.TheVariants as file
use Rattle.fw_cli.specs.declared.answer.AnswerError.{AnswerError}
use Rattle.fw_cli.specs.declared.answer.AnswerError.TheVariants as answer
use Rattle.fw_cli.specs.declared.answer.AnswerOptions.{AnswerOptions}
use Rattle.fw_cli.specs.declared.stored.StoredAnswerError.{StoredAnswerError}
use Rattle.fw_cli.specs.declared.stored.StoredAnswerError.TheVariants as stored
use Rattle.fw_cli.specs.Options.{Describes}
use Rattle.fw_cli.specs.Session.{AnswersLine, AnswersLineOver, Session}
use Rattle.fw_faults.specs.Reading.{ReadsAll}

-- All input was read, and the meter's answer to it was written. The bad line, if there is one, ended that.
pub record WritesSession {M : Type 0} (Answers : M → List ℕ → List ℕ → M → Type 0) (meter : M) (bad_line : Option ℕ) (before after first last : Option (List ℕ)) : Type 0 where
  pub input : List ℕ
  pub text : List ℕ
  pub read : ReadsAll before after input
  pub session : Session Answers meter input text bad_line
  pub written : Appends first last text

-- the same by the meter that the options describe
abbrev pub Answers : AnswerOptions → Option ℕ → Option (List ℕ) → Option (List ℕ) → Option (List ℕ) → Option (List ℕ) → Type 0
Answers options bad_line before after first last =
    (meter : Meter) × Describes options meter × WritesSession AnswersLine meter bad_line before after first last

-- the same by a meter that was opened from a store: at first no verification goes on in it, its header is one of version 2, and no call
-- of the store failed
pub record AnswersOpened (bad_line : Option ℕ) (before after first last : Option (List ℕ)) : Type 0 where
  pub meter : State
  pub begins : restarted meter.meter ≡ meter.meter
  pub faultless : meter.faults ≡ 0
  pub writes : WritesSession AnswersLineOver meter bad_line before after first last

-- the fault that says why it ended early
abbrev pub fault_of_answer : AnswerError → Fault
fault_of_answer answer.BadSetup = fault.BadSetup
fault_of_answer answer.Input = fault.Input
fault_of_answer answer.TooMuchInput = fault.TooMuchInput
fault_of_answer (answer.BadLine number) = fault.BadLine number
fault_of_answer answer.Output = fault.Output
fault_of_answer answer.OutOfMemory = fault.OutOfMemory

-- ---- over the store in a file

-- why it ended early, if its file has no meter, or isn't made
abbrev pub stored_of_file : StoreFileError → StoredAnswerError
stored_of_file file.StoreFault = stored.StoreFault
stored_of_file file.Device = stored.Device
stored_of_file file.BadFile = stored.BadFile
stored_of_file file.BadHeader = stored.BadHeader
stored_of_file file.BadImage = stored.BadImage

-- and if the session did
abbrev pub stored_of_answer : AnswerError → StoredAnswerError
stored_of_answer answer.BadSetup = stored.BadSetup
stored_of_answer answer.Input = stored.Input
stored_of_answer answer.TooMuchInput = stored.TooMuchInput
stored_of_answer (answer.BadLine number) = stored.BadLine number
stored_of_answer answer.Output = stored.Output
stored_of_answer answer.OutOfMemory = stored.OutOfMemory

-- the fault that says so
abbrev pub fault_of_stored : StoredAnswerError → Fault
fault_of_stored stored.StoreFault = fault.StoreFault
fault_of_stored stored.Device = fault.Device
fault_of_stored stored.BadFile = fault.BadFile
fault_of_stored stored.BadHeader = fault.BadHeader
fault_of_stored stored.BadImage = fault.BadImage
fault_of_stored stored.BadSetup = fault.BadSetup
fault_of_stored stored.Input = fault.Input
fault_of_stored stored.TooMuchInput = fault.TooMuchInput
fault_of_stored (stored.BadLine number) = fault.BadLine number
fault_of_stored stored.Output = fault.Output
fault_of_stored stored.OutOfMemory = fault.OutOfMemory
