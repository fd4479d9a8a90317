-- The fault of a Data that has this fault in a number or a length.
use Rattle.fw_axdr.specs.declared.reader.ReadError.{ReadError}
use Rattle.fw_axdr.specs.declared.reader.ReadError.TheVariants as read
use Rattle.fw_axdr.specs.declared.error.AxdrError.{AxdrError}
use Rattle.fw_axdr.specs.declared.error.AxdrError.TheVariants.{Truncated, BadLength}

abbrev pub fault_from : ReadError → AxdrError
fault_from read.Truncated = Truncated
fault_from read.BadLength = BadLength
