-- Public vocabulary: what a journal answers if its device failed, or its file can't be opened, begun or named.
use Rattle.std.specs.Prelude.{◌≡◌, Some}
use Rattle.fw_disk.specs.declared.cause.Cause.{Cause}
use Rattle.fw_disk.specs.declared.cause.Cause.TheVariants.{Locked, Exists}
use Rattle.fw_disk.specs.declared.cause.NamingError.{NamingError}
use Rattle.fw_disk.specs.declared.cause.NamingError.TheVariants.{NotNamed, NotSynced}
use Rattle.fw_disk.specs.declared.name.Name.{Name}
use Rattle.fw_disk.specs.declared.reason.Because.{Because}
use Rattle.fw_journal.specs.declared.error.DeviceError.{DeviceError}
use Rattle.fw_journal.specs.declared.error.DeviceError.TheVariants as device
use Rattle.fw_journal.specs.declared.error.JournalError.{JournalError}
use Rattle.fw_journal.specs.declared.error.JournalError.TheVariants as journal
use Rattle.fw_journal.specs.declared.error.ReplaceError.{ReplaceError}
use Rattle.fw_journal.specs.declared.error.ReplaceError.TheVariants as replacing
use Rattle.fw_journal.specs.declared.error.RewriteError.{RewriteError}
use Rattle.fw_journal.specs.declared.error.RewriteError.TheVariants as rewriting

abbrev pub book_error : DeviceError → JournalError
book_error device.Fault = journal.BookFault
book_error device.OutOfMemory = journal.OutOfMemory

-- what gets no name isn't replaced, and what may lose it again is a fault of the device
abbrev pub replace_error : NamingError → ReplaceError
replace_error (NotNamed cause) = replacing.NotReplaced
replace_error (NotSynced cause) = replacing.Fault

abbrev pub rewrite_error : ReplaceError → RewriteError
rewrite_error replacing.NotReplaced = rewriting.NotReplaced
rewrite_error replacing.Fault = rewriting.BookFault
rewrite_error replacing.OutOfMemory = rewriting.OutOfMemory

-- what a file that can't be opened or begun is refused for
abbrev pub file_error : Cause → JournalError
file_error Locked = journal.Locked
file_error _ = journal.BookFault

-- what a file that doesn't get its name is refused for
abbrev pub naming_error : Cause → JournalError
naming_error Exists = journal.NotEmpty
naming_error _ = journal.BookFault

-- the refusal is what its cause is told as, and has that for its reason, of the file with this name
pub record IsToldAs (told : Cause → JournalError) (file : Name) (refusal : Because JournalError) : Type 0 where
  pub why : Cause
  pub error : refusal.error ≡ told why
  pub reason : refusal.reason ≡ Some (record { name = file; cause = why })

-- the file of a journal can't be opened or begun: another journal has it open, or it failed
abbrev pub IsFileRefusal : JournalError → Type 0
IsFileRefusal (journal.BadBook offset) = ⊥
IsFileRefusal journal.NotEmpty = ⊥
IsFileRefusal journal.TooLong = ⊥
IsFileRefusal journal.Full = ⊥
IsFileRefusal journal.Locked = Unit {0}
IsFileRefusal journal.BookFault = Unit {0}
IsFileRefusal journal.OutOfMemory = ⊥

-- a journal that was begun doesn't get its name: something has it, or the file or its folder failed
abbrev pub IsNamingRefusal : JournalError → Type 0
IsNamingRefusal (journal.BadBook offset) = ⊥
IsNamingRefusal journal.NotEmpty = Unit {0}
IsNamingRefusal journal.TooLong = ⊥
IsNamingRefusal journal.Full = ⊥
IsNamingRefusal journal.Locked = ⊥
IsNamingRefusal journal.BookFault = Unit {0}
IsNamingRefusal journal.OutOfMemory = ⊥

-- what a making is refused for
abbrev pub IsMakingRefusal : JournalError → Type 0
IsMakingRefusal (journal.BadBook offset) = ⊥
IsMakingRefusal journal.NotEmpty = Unit {0}
IsMakingRefusal journal.TooLong = ⊥
IsMakingRefusal journal.Full = ⊥
IsMakingRefusal journal.Locked = ⊥
IsMakingRefusal journal.BookFault = Unit {0}
IsMakingRefusal journal.OutOfMemory = Unit {0}

-- what an opening is refused for
abbrev pub IsOpeningRefusal : JournalError → Type 0
IsOpeningRefusal (journal.BadBook offset) = Unit {0}
IsOpeningRefusal journal.NotEmpty = ⊥
IsOpeningRefusal journal.TooLong = ⊥
IsOpeningRefusal journal.Full = ⊥
IsOpeningRefusal journal.Locked = ⊥
IsOpeningRefusal journal.BookFault = Unit {0}
IsOpeningRefusal journal.OutOfMemory = Unit {0}

-- what a commit is refused for
abbrev pub IsCommitRefusal : JournalError → Type 0
IsCommitRefusal (journal.BadBook offset) = ⊥
IsCommitRefusal journal.NotEmpty = ⊥
IsCommitRefusal journal.TooLong = ⊥
IsCommitRefusal journal.Full = Unit {0}
IsCommitRefusal journal.Locked = ⊥
IsCommitRefusal journal.BookFault = Unit {0}
IsCommitRefusal journal.OutOfMemory = Unit {0}
