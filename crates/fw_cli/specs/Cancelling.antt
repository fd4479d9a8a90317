-- Public vocabulary: what `cancel` leaves of a book, what it tells, and the fault that each of its errors is.
use Rattle.std.specs.Prelude.{◌≡◌, ◌≤◌, ℕ, Bool, List, [], ◌∷◌, ◌++◌, map, Option, None, Some}
use Rattle.fw_book.specs.Changes.{cancel_refusal}
use Rattle.fw_book.specs.declared.error.BookError.{BookError}
use Rattle.fw_head.specs.Head.{Head, campaign_at, cancelled_head}
use Rattle.fw_journal.specs.declared.file.FileDevice.{FileDevice}
use Rattle.fw_kept.specs.Head.{book_of, head_of}
use Rattle.fw_kept.specs.declared.error.KeptError.{KeptError}
use Rattle.fw_kept.specs.declared.error.KeptError.TheVariants as kept
use Rattle.fw_kept.specs.declared.head.KeptHead.{KeptHead}
use Rattle.fw_plan.specs.Ranges.{serials_of}
use Rattle.fw_faults.specs.declared.fault.Fault.{Fault}
use Rattle.fw_faults.specs.declared.fault.Fault.TheVariants as fault
use Rattle.fw_host.specs.Heads.{cancelled_line}
use Rattle.fw_host.specs.Telling.{Told}
use Rattle.fw_host.specs.declared.error.BookFileError.{BookFileError}
use Rattle.fw_host.specs.declared.error.BookFileError.TheVariants as file
use Rattle.fw_cli.specs.declared.cancel.CancelError.{CancelError}
use Rattle.fw_cli.specs.declared.cancel.CancelError.TheVariants.{NoBook, Locked, BookFault, BadBook, BadRecord, ForeignHead, CancelRefused, Full, OutOfMemory}
use Rattle.fw_cli.specs.declared.cancel.CancelOptions.{CancelOptions}

-- why the command ended early, if its book wasn't opened
abbrev pub cancel_of_book : BookFileError → CancelError
cancel_of_book file.NoBook = NoBook
cancel_of_book file.Locked = Locked
cancel_of_book file.BookFault = BookFault
cancel_of_book (file.BadBook offset) = BadBook offset
cancel_of_book (file.BadRecord index) = BadRecord index
cancel_of_book file.ForeignHead = ForeignHead
cancel_of_book file.OutOfMemory = OutOfMemory

-- and if a campaign wasn't cancelled
abbrev pub cancel_of_kept : KeptError → CancelError
cancel_of_kept (kept.Refused refusal) = CancelRefused refusal
cancel_of_kept kept.Full = Full
cancel_of_kept kept.BookFault = BookFault
cancel_of_kept kept.OutOfMemory = OutOfMemory

-- the fault that says so
abbrev pub fault_of_cancel : CancelError → Fault
fault_of_cancel NoBook = fault.NoBook
fault_of_cancel Locked = fault.Locked
fault_of_cancel BookFault = fault.BookFault
fault_of_cancel (BadBook offset) = fault.BadBook offset
fault_of_cancel (BadRecord index) = fault.BadRecord index
fault_of_cancel ForeignHead = fault.ForeignHead
fault_of_cancel (CancelRefused refusal) = fault.CancelRefused refusal
fault_of_cancel Full = fault.Full
fault_of_cancel OutOfMemory = fault.OutOfMemory

-- a campaign isn't cancelled: for what the book refuses it for, if it does
abbrev pub IsNotCancelledFor : Option BookError → CancelError → Type 0
IsNotCancelledFor refusal (CancelRefused e) = refusal ≡ Some e
IsNotCancelledFor refusal BookFault = refusal ≡ None
IsNotCancelledFor refusal Full = refusal ≡ None
IsNotCancelledFor refusal OutOfMemory = refusal ≡ None
IsNotCancelledFor refusal error = ⊥

-- the head end once the campaigns of these serial numbers are cancelled, one after the other
abbrev pub cancelled_all : List ℕ → Head → Head
cancelled_all [] head = head
cancelled_all (serial ∷ serials) head = cancelled_all serials (cancelled_head head serial)

-- the line of each of these campaigns of a head end
abbrev pub cancelled_lines : ℕ → List ℕ → List (List ℕ)
cancelled_lines head serials = map (λ (serial : ℕ). cancelled_line (record { head = head; serial = serial })) serials

-- Of these campaigns all but the last ones, `others`, are cancelled, one after the other, and just their lines were told.
pub record Cancels (serials others : List ℕ) (found last : Head) (was_lost is_lost : Bool) (before after : Option (List ℕ)) : Type 0 where
  pub done : List ℕ
  pub split : serials ≡ done ++ others
  pub cancelled : last ≡ cancelled_all done found
  pub told : Told (cancelled_lines found.book.head done) was_lost is_lost before after

-- And then this one was refused: for what the book refuses it for, if it does.
pub record StopsAt (serials : List ℕ) (serial : ℕ) (error : CancelError) (found last : Head) (was_lost is_lost : Bool) (before after : Option (List ℕ)) : Type 0 where
  pub others : List ℕ
  pub before_it : Cancels serials (serial ∷ others) found last was_lost is_lost before after
  pub refused : 1 ≤ serial → IsNotCancelledFor (cancel_refusal last.book (campaign_at last serial)) error

-- A head end of that number had a book, and the campaigns that are named there are cancelled in it.
pub record HasCancelled (options : CancelOptions) : Type 0 where
  pub found : KeptHead FileDevice
  pub number : (book_of found).head ≡ options.head
  pub last : KeptHead FileDevice
  pub cancelled : head_of last ≡ cancelled_all (serials_of (book_of found) options.campaigns.items) (head_of found)

-- What an error leaves: where it is of a campaign, those before that one are cancelled and told. Otherwise none is.
abbrev pub Stopped : List ℕ → Option ℕ → CancelError → Head → Head → Bool → Bool → Option (List ℕ) → Option (List ℕ) → Type 0
Stopped serials None error found last was_lost is_lost before after = (last ≡ found) × (is_lost ≡ was_lost) × (after ≡ before)
Stopped serials (Some serial) error found last was_lost is_lost before after = StopsAt serials serial error found last was_lost is_lost before after

-- A head end of that number had a book. Of the campaigns that are named there those before this one are cancelled in it, and then this one was
-- refused.
pub record HasStopped (options : CancelOptions) (serial : ℕ) (error : CancelError) : Type 0 where
  pub found : KeptHead FileDevice
  pub number : (book_of found).head ≡ options.head
  pub last : KeptHead FileDevice
  pub done : List ℕ
  pub others : List ℕ
  pub split : serials_of (book_of found) options.campaigns.items ≡ done ++ serial ∷ others
  pub cancelled : head_of last ≡ cancelled_all done (head_of found)
  pub refused : 1 ≤ serial → IsNotCancelledFor (cancel_refusal (book_of last) (campaign_at (head_of last) serial)) error

-- a campaign is refused
abbrev pub IsOfCampaign : CancelError → Type 0
IsOfCampaign (CancelRefused refusal) = Unit {0}
IsOfCampaign error = ⊥
