-- What the code's records say.
use Rattle.fw_ledger.specs.Entry.{Source, whole, earlier, Entry, opening, mark, cancelling, endings, note}
use Rattle.fw_ledger.specs.declared.record.Image.{Image}
use Rattle.fw_ledger.specs.declared.record.Image.TheVariants as place
use Rattle.fw_ledger.specs.declared.record.Record.{Record}
use Rattle.fw_ledger.specs.declared.record.Record.TheVariants as told

abbrev pub source_of : Image → Source
source_of (place.Whole bytes) = whole bytes.now
source_of (place.Earlier serial) = earlier serial

abbrev pub entry_of : Record → Entry
entry_of (told.Opening campaign release image meters) = opening campaign release (source_of image) meters.items
entry_of (told.Mark campaign meter ending) = mark campaign meter ending
entry_of (told.Cancelling campaign) = cancelling campaign
entry_of (told.Endings campaign numbers) = endings campaign numbers.now
entry_of (told.Note campaign noted) = note campaign noted
