-- Public vocabulary: the report of `status`, and the fault that each of its errors is.
use Rattle.std.specs.Prelude.{◌≡◌, ◌≢◌, ◌⊎◌, ℕ, List, [], Option, None, Some}
use Rattle.fw_book.specs.Contents.{Contents}
use Rattle.fw_disk.specs.declared.cause.Cause.{Cause}
use Rattle.fw_disk.specs.declared.cause.Cause.TheVariants.{Missing}
use Rattle.fw_disk.specs.declared.reason.Reason.{Reason}
use Rattle.fw_disk.specs.declared.name.Name.TheVariants.{Main}
use Rattle.fw_journal.specs.Book.{Stands}
use Rattle.fw_book.specs.Notes.{Known}
use Rattle.fw_kept.specs.Kept.{HasBook, HasNotes}
use Rattle.fw_kept.specs.declared.error.ReadingError.{ReadingError}
use Rattle.fw_kept.specs.declared.error.ReadingError.TheVariants as reading
use Rattle.fw_faults.specs.declared.fault.Fault.{Fault}
use Rattle.fw_faults.specs.declared.fault.Fault.TheVariants.{BookFault, BadBook, BadRecord, NoBook, Output, OutOfMemory}
use Rattle.fw_rows.specs.Noted.{Noted, noted_of_book}
use Rattle.fw_status.specs.Campaigns.{campaigns_of}
use Rattle.fw_status.specs.declared.campaign.CampaignStatus.{CampaignStatus}
use Rattle.fw_cli.specs.declared.status.StatusError.{StatusError}
use Rattle.fw_cli.specs.declared.status.StatusError.TheVariants as status

-- what the book that bytes hold tells of its campaigns and its rows, with what is known from its notes: nothing, if it has no record
abbrev pub HasStatus : List ℕ → List CampaignStatus → List Noted → Type 0
HasStatus bytes campaigns rows =
    (Stands bytes [] × (campaigns ≡ []) × (rows ≡ []))
    ⊎ ((book : Contents) × (known : Known) × HasBook book.head bytes book × HasNotes bytes known
    × (campaigns ≡ campaigns_of known book) × (rows ≡ noted_of_book known book))

-- A book that isn't read has a reason: no file is there, or another cause of the system's. No other error has one.
abbrev pub SaysWhy : StatusError → Option Reason → Type 0
SaysWhy status.NoBook reason = reason ≡ Some (record { name = Main; cause = Missing })
SaysWhy status.BookFault reason = (cause : Cause) × (cause ≢ Missing) × (reason ≡ Some (record { name = Main; cause = cause }))
SaysWhy error reason = reason ≡ None

-- why a book has no status, for why its bytes hold none
abbrev pub status_error : ReadingError → StatusError
status_error (reading.BadBook offset) = status.BadBook offset
status_error (reading.BadRecord index) = status.BadRecord index
status_error reading.OutOfMemory = status.OutOfMemory

-- the fault that says why a book has none
abbrev pub fault_of_status : StatusError → Fault
fault_of_status status.NoBook = NoBook
fault_of_status status.BookFault = BookFault
fault_of_status (status.BadBook offset) = BadBook offset
fault_of_status (status.BadRecord index) = BadRecord index
fault_of_status status.Output = Output
fault_of_status status.OutOfMemory = OutOfMemory
