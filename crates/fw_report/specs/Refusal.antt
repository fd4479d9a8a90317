-- Public vocabulary: the words for an event that was refused.
use Rattle.std.specs.Prelude.{ℕ, List, [], ◌++◌, Option, None, Some, codes, decimal}
use Rattle.fw_book.specs.declared.error.BookError.{BookError}
use Rattle.fw_book.specs.declared.error.BookError.TheVariants as book
use Rattle.fw_world.specs.declared.error.StepError.{StepError}
use Rattle.fw_world.specs.declared.error.StepError.TheVariants.{NoSuchDatagram, NoSuchActor, Book, OutOfMemory}
use Rattle.fw_report.specs.declared.refusal.Refusal.{Refusal}

abbrev pub refusal_name : BookError → List ℕ
refusal_name book.ForeignHead = codes "ForeignHead"
refusal_name book.SerialUsed = codes "SerialUsed"
refusal_name book.EmptyImage = codes "EmptyImage"
refusal_name book.ImageTooLong = codes "ImageTooLong"
refusal_name book.NoMeters = codes "NoMeters"
refusal_name book.TooManyMeters = codes "TooManyMeters"
refusal_name book.MeterTwice = codes "MeterTwice"
refusal_name book.MeterBusy = codes "MeterBusy"
refusal_name book.NoSuchCampaign = codes "NoSuchCampaign"
refusal_name book.WrongCampaign = codes "WrongCampaign"
refusal_name book.NotLive = codes "NotLive"
refusal_name book.BadBook = codes "BadBook"
refusal_name book.OutOfMemory = codes "OutOfMemory"

abbrev pub cause_name : StepError → List ℕ
cause_name NoSuchDatagram = codes "NoSuchDatagram"
cause_name NoSuchActor = codes "NoSuchActor"
cause_name (Book refusal) = refusal_name refusal
cause_name OutOfMemory = codes "OutOfMemory"

-- the number of the event, from 0 on, and why it was refused
abbrev pub refusal_line : Refusal → List ℕ
refusal_line refusal = codes "refused " ++ (decimal refusal.at ++ (codes " " ++ (cause_name refusal.cause ++ codes "\n")))

abbrev pub refusal_line_if : Option Refusal → List ℕ
refusal_line_if None = []
refusal_line_if (Some refusal) = refusal_line refusal
