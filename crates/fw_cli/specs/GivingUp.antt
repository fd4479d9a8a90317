-- Public vocabulary: what `give-up` leaves of a book, what it tells, and the fault that each of its errors is.
use Rattle.std.specs.Prelude.{◌≡◌, ◌≢◌, ℕ, List, [], ◌∷◌, ◌++◌, Option, Some, None}
use Rattle.fw_head.specs.Head.{Head, GivesUpRow, row_of}
use Rattle.fw_head.specs.declared.giving_up.GivenUp.{GivenUp}
use Rattle.fw_head.specs.declared.giving_up.WhyGivenUp.TheVariants.{ByHand}
use Rattle.fw_journal.specs.declared.file.FileDevice.{FileDevice}
use Rattle.fw_kept.specs.Head.{book_of, head_of}
use Rattle.fw_kept.specs.declared.head.KeptHead.{KeptHead}
use Rattle.fw_ledger.specs.declared.record.Ending.TheVariants.{Failed}
use Rattle.fw_plan.specs.Meters.{meters_of}
use Rattle.fw_rollout.specs.declared.ended.Ended.{Ended}
use Rattle.fw_faults.specs.declared.fault.Fault.{Fault}
use Rattle.fw_faults.specs.declared.fault.Fault.TheVariants as fault
use Rattle.fw_host.specs.declared.error.BookFileError.{BookFileError}
use Rattle.fw_host.specs.declared.error.BookFileError.TheVariants as file
use Rattle.fw_cli.specs.declared.give_up.GiveUpError.{GiveUpError}
use Rattle.fw_cli.specs.declared.give_up.GiveUpError.TheVariants.{NoBook, Locked, BookFault, BadBook, BadRecord, ForeignHead, Full, OutOfMemory}
use Rattle.fw_cli.specs.declared.give_up.GiveUpOptions.{GiveUpOptions}
use Rattle.fw_cli.specs.declared.give_up.GaveUp.{GaveUp}
use Rattle.fw_cli.specs.declared.give_up.GaveUp.TheVariants.{Each, NotEach}

-- the row of a meter that is given up at this time, as it is told
abbrev pub given_row : ℕ → GivenUp → ℕ → Ended
given_row meter given at =
    record { campaign = given.campaign; meter = meter; ending = Failed; end = record { at = at; reason = Some given.reason } }

-- The live row of a meter is given up by hand, and is told then. Or it has none, is named as one that lacks it, and nothing changes.
abbrev pub GivesUpOne : Head → ℕ → ℕ → List Ended → List ℕ → Head → Type 0
GivesUpOne old meter at [] lacking new = (row_of old.rows meter ≡ None) × (lacking ≡ meter ∷ []) × (new ≡ old)
GivesUpOne old meter at (row ∷ more) lacking new =
    (given : GivenUp) × GivesUpRow old meter ByHand given new × (row ≡ given_row meter given at) × (more ≡ []) × (lacking ≡ [])

-- these meters, one after the other
abbrev pub GivesUpAll : Head → List ℕ → ℕ → List Ended → List ℕ → Head → Type 0
GivesUpAll old [] at rows lacking new = (rows ≡ []) × (lacking ≡ []) × (new ≡ old)
GivesUpAll old (meter ∷ meters) at rows lacking new =
    (next : Head) × (row : List Ended) × (rows_then : List Ended) × (none : List ℕ) × (none_then : List ℕ)
    × GivesUpOne old meter at row none next × GivesUpAll next meters at rows_then none_then new
    × (rows ≡ row ++ rows_then) × (lacking ≡ none ++ none_then)

-- what is told of a meter stands behind the rows of before, or its number behind those without a row
abbrev pub AddsTold : ℕ → Option GivenUp → ℕ → List Ended → List Ended → List ℕ → List ℕ → Type 0
AddsTold meter None at rows rows_then lacking lacking_then = (rows_then ≡ rows) × (lacking_then ≡ lacking ++ meter ∷ [])
AddsTold meter (Some given) at rows rows_then lacking lacking_then = (rows_then ≡ rows ++ given_row meter given at ∷ []) × (lacking_then ≡ lacking)

-- one meter more: the rows and the meters without one are those of before, and then its own
pub record AddsOne (old : Head) (meter at : ℕ) (rows rows_then : List Ended) (lacking lacking_then : List ℕ) (new : Head) : Type 0 where
  pub row : List Ended
  pub none : List ℕ
  pub gives_up : GivesUpOne old meter at row none new
  pub rows_are : rows_then ≡ rows ++ row
  pub lacking_are : lacking_then ≡ lacking ++ none

-- what is said of meters of which these had no live row
abbrev pub Says : List ℕ → GaveUp → Type 0
Says lacking Each = lacking ≡ []
Says lacking NotEach = lacking ≢ []

-- A head end of that number had a book, and the live rows of the meters that are named there were given up in it at some time.
pub record GivesUpIn (options : GiveUpOptions) (rows : List Ended) (lacking : List ℕ) : Type 0 where
  pub found : KeptHead FileDevice
  pub number : (book_of found).head ≡ options.head
  pub at : ℕ
  pub last : KeptHead FileDevice
  pub gives_up : GivesUpAll (head_of found) (meters_of (book_of found) options.meters.items) at rows lacking (head_of last)

-- And the result says whether some had none.
pub record HasGivenUp (options : GiveUpOptions) (gave : GaveUp) : Type 0 where
  pub rows : List Ended
  pub lacking : List ℕ
  pub given : GivesUpIn options rows lacking
  pub says : Says lacking gave

-- why the command ended early, if its book wasn't opened
abbrev pub give_up_of_book : BookFileError → GiveUpError
give_up_of_book file.NoBook = NoBook
give_up_of_book file.Locked = Locked
give_up_of_book file.BookFault = BookFault
give_up_of_book (file.BadBook offset) = BadBook offset
give_up_of_book (file.BadRecord index) = BadRecord index
give_up_of_book file.ForeignHead = ForeignHead
give_up_of_book file.OutOfMemory = OutOfMemory

-- the fault that says why
abbrev pub fault_of_give_up : GiveUpError → Fault
fault_of_give_up NoBook = fault.NoBook
fault_of_give_up Locked = fault.Locked
fault_of_give_up BookFault = fault.BookFault
fault_of_give_up (BadBook offset) = fault.BadBook offset
fault_of_give_up (BadRecord index) = fault.BadRecord index
fault_of_give_up ForeignHead = fault.ForeignHead
fault_of_give_up Full = fault.Full
fault_of_give_up OutOfMemory = fault.OutOfMemory
