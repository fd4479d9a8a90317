-- The errors of a session, and of the file of its store, as those of the command.
use Rattle.std.proofs.Common.{◌≡◌, ◌∙◌, ℕ, List, Option, ap, refl, subst, sym}
use Rattle.std.specs.Io.KnownBytes.{Keeps}
use Rattle.fw_faults.specs.Reading.{ReadsUntil}
use Rattle.fw_faults.specs.declared.fault.Fault.{Fault}
use Rattle.fw_host.specs.declared.error.StoreFileError.{StoreFileError}
use Rattle.fw_host.specs.declared.error.StoreFileError.TheVariants as file
use Rattle.fw_cli.specs.Answering.{fault_of_answer, fault_of_stored, stored_of_answer, stored_of_file}
use Rattle.fw_cli.specs.Faults.{ComesBeforeInput, ComesBeforeOutput}
use Rattle.fw_cli.specs.declared.answer.AnswerError.{AnswerError}
use Rattle.fw_cli.specs.declared.answer.AnswerError.TheVariants as answer
use Rattle.fw_cli.specs.declared.stored.StoredAnswerError.{StoredAnswerError}
use Rattle.fw_cli.specs.declared.stored.StoredAnswerError.TheVariants as stored

-- ---- the session

-- a bad line is one of the session
pub line_of : (e : AnswerError) (number : ℕ) → stored_of_answer e ≡ stored.BadLine number → e ≡ answer.BadLine number
line_of answer.BadSetup number is = absurd (cc is)
line_of answer.Input number is = absurd (cc is)
line_of answer.TooMuchInput number is = absurd (cc is)
line_of (answer.BadLine n) number is = cc
line_of answer.Output number is = absurd (cc is)
line_of answer.OutOfMemory number is = absurd (cc is)

-- so is want of memory
pub memory_of : (e : AnswerError) → stored_of_answer e ≡ stored.OutOfMemory → e ≡ answer.OutOfMemory
memory_of answer.BadSetup is = absurd (cc is)
memory_of answer.Input is = absurd (cc is)
memory_of answer.TooMuchInput is = absurd (cc is)
memory_of (answer.BadLine n) is = absurd (cc is)
memory_of answer.Output is = absurd (cc is)
memory_of answer.OutOfMemory is = refl

-- options that describe no meter come before anything is read
pub setup_of : (e : AnswerError) → stored_of_answer e ≡ stored.BadSetup → ComesBeforeInput (fault_of_answer e)
setup_of answer.BadSetup is = tt
setup_of answer.Input is = absurd (cc is)
setup_of answer.TooMuchInput is = absurd (cc is)
setup_of (answer.BadLine n) is = absurd (cc is)
setup_of answer.Output is = absurd (cc is)
setup_of answer.OutOfMemory is = absurd (cc is)

-- it is the same fault
same_fault : (e : AnswerError) → fault_of_stored (stored_of_answer e) ≡ fault_of_answer e
same_fault answer.BadSetup = refl
same_fault answer.Input = refl
same_fault answer.TooMuchInput = refl
same_fault (answer.BadLine n) = refl
same_fault answer.Output = refl
same_fault answer.OutOfMemory = refl

told_fault : (e : AnswerError) (told : StoredAnswerError) → told ≡ stored_of_answer e → fault_of_stored told ≡ fault_of_answer e
told_fault e told is = ap (λ (s : StoredAnswerError). fault_of_stored s) is ∙ same_fault e

pub early_of : (e : AnswerError) (told : StoredAnswerError) → told ≡ stored_of_answer e → ComesBeforeInput (fault_of_stored told) → ComesBeforeInput (fault_of_answer e)
early_of e told is early = subst (λ (f : Fault). ComesBeforeInput f) (told_fault e told is) early

pub reads_of : (e : AnswerError) (told : StoredAnswerError) (a b : Option (List ℕ)) → told ≡ stored_of_answer e → ReadsUntil (fault_of_answer e) a b
    → ReadsUntil (fault_of_stored told) a b
reads_of e told a b is reads = subst (λ (f : Fault). ReadsUntil f a b) (sym (told_fault e told is)) reads

pub silent_of : (e : AnswerError) (told : StoredAnswerError) (a b : Option (List ℕ)) → told ≡ stored_of_answer e → (ComesBeforeOutput (fault_of_answer e) → Keeps a b)
    → ComesBeforeOutput (fault_of_stored told) → Keeps a b
silent_of e told a b is silent before = silent (subst (λ (f : Fault). ComesBeforeOutput f) (told_fault e told is) before)

-- ---- the file

-- what its refusal is comes before anything is read
first_of : (e : StoreFileError) → ComesBeforeInput (fault_of_stored (stored_of_file e))
first_of file.StoreFault = tt
first_of file.Device = tt
first_of file.BadFile = tt
first_of file.BadHeader = tt
first_of file.BadImage = tt

pub file_first : (e : StoreFileError) (told : StoredAnswerError) → told ≡ stored_of_file e → ComesBeforeInput (fault_of_stored told)
file_first e told is = subst (λ (s : StoredAnswerError). ComesBeforeInput (fault_of_stored s)) (sym is) (first_of e)

-- it is no bad setup, and no want of memory
no_setup : (e : StoreFileError) → stored_of_file e ≡ stored.BadSetup → ⊥
no_setup file.StoreFault is = absurd (cc is)
no_setup file.Device is = absurd (cc is)
no_setup file.BadFile is = absurd (cc is)
no_setup file.BadHeader is = absurd (cc is)
no_setup file.BadImage is = absurd (cc is)

pub file_no_setup : (e : StoreFileError) (told : StoredAnswerError) → told ≡ stored_of_file e → told ≡ stored.BadSetup → ⊥
file_no_setup e told is setup = no_setup e (sym is ∙ setup)

no_memory : (e : StoreFileError) → stored_of_file e ≡ stored.OutOfMemory → ⊥
no_memory file.StoreFault is = absurd (cc is)
no_memory file.Device is = absurd (cc is)
no_memory file.BadFile is = absurd (cc is)
no_memory file.BadHeader is = absurd (cc is)
no_memory file.BadImage is = absurd (cc is)

pub file_no_memory : (e : StoreFileError) (told : StoredAnswerError) → told ≡ stored_of_file e → told ≡ stored.OutOfMemory → ⊥
file_no_memory e told is memory = no_memory e (sym is ∙ memory)
