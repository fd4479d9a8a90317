use Rattle.fw_ledger.proofs.Known.{books_have_notes}
use Rattle.fw_ledger.proofs.laws.books_have_notes.Goals as goal

pub returns : goal.returns
returns c = books_have_notes c.images_stay.ensures c.states_follow.ensures c.admitted_opens.ensures c.notes_say.ensures
