-- Public vocabulary: the words for how far a row is.
use Rattle.std.specs.Prelude.{ℕ, List, codes}
use Rattle.fw_book.specs.declared.row.RowState.{RowState}
use Rattle.fw_book.specs.declared.row.RowState.TheVariants.{Live, Done, Failed, Cancelled}

abbrev pub state_word : RowState → List ℕ
state_word Live = codes "live"
state_word Done = codes "done"
state_word Failed = codes "failed"
state_word Cancelled = codes "cancelled"
