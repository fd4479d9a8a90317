-- Public vocabulary: what the calls of a kept head end are refused for. The refusals of the book come first.
use Rattle.std.specs.Prelude.{◌≡◌, Option, Some, None}
use Rattle.fw_book.specs.declared.error.BookError.{BookError}
use Rattle.fw_journal.specs.declared.error.JournalError.{JournalError}
use Rattle.fw_journal.specs.declared.error.JournalError.TheVariants as journal
use Rattle.fw_kept.specs.declared.error.KeptError.{KeptError}
use Rattle.fw_kept.specs.declared.error.KeptError.TheVariants.{Refused, Full, BookFault, OutOfMemory}
use Rattle.fw_kept.specs.declared.error.OpenError.{OpenError}
use Rattle.fw_kept.specs.declared.error.OpenError.TheVariants as opened

-- a call that is committed at once: the book's first refusal; if it has none, what the commit is refused for
abbrev pub IsRefusedFor : Option BookError → KeptError → Type 0
IsRefusedFor refusal (Refused e) = refusal ≡ Some e
IsRefusedFor refusal Full = refusal ≡ None
IsRefusedFor refusal BookFault = refusal ≡ None
IsRefusedFor refusal OutOfMemory = refusal ≡ None

-- a commit
abbrev pub IsCommitRefusal : KeptError → Type 0
IsCommitRefusal (Refused e) = ⊥
IsCommitRefusal Full = Unit {0}
IsCommitRefusal BookFault = Unit {0}
IsCommitRefusal OutOfMemory = Unit {0}

-- what a refusal of the journal is in a call of the head end
abbrev pub kept_error : JournalError → KeptError
kept_error (journal.BadBook offset) = BookFault
kept_error journal.NotEmpty = BookFault
kept_error journal.TooLong = Full
kept_error journal.Full = Full
kept_error journal.Locked = BookFault
kept_error journal.BookFault = BookFault
kept_error journal.OutOfMemory = OutOfMemory

-- what a refusal to open the journal is for the book
abbrev pub open_error : JournalError → OpenError
open_error (journal.BadBook offset) = opened.BadBook offset
open_error journal.NotEmpty = opened.BookFault
open_error journal.TooLong = opened.BookFault
open_error journal.Full = opened.BookFault
open_error journal.Locked = opened.BookFault
open_error journal.BookFault = opened.BookFault
open_error journal.OutOfMemory = opened.OutOfMemory
