-- Public vocabulary: why an audit ends early.
use Rattle.fw_kept.specs.declared.error.ReadingError.{ReadingError}
use Rattle.fw_kept.specs.declared.error.ReadingError.TheVariants as reading
use Rattle.fw_auditor.specs.declared.error.Unaudited.{Unaudited}
use Rattle.fw_auditor.specs.declared.error.Unaudited.TheVariants as unaudited

-- for why the bytes of a file hold no book
abbrev pub unaudited_book : ReadingError → Unaudited
unaudited_book (reading.BadBook offset) = unaudited.BadBook offset
unaudited_book (reading.BadRecord index) = unaudited.BadRecord index
unaudited_book reading.OutOfMemory = unaudited.OutOfMemory
