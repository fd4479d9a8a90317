use Rattle.fw_book.proofs.Noted.{notes_say}
use Rattle.fw_book.proofs.laws.notes_say.Goals as goal

pub returns : goal.returns
returns c = notes_say
