-- The error that an APDU has for the cause that its Data has.
use Rattle.fw_axdr.specs.declared.error.AxdrError.{AxdrError}
use Rattle.fw_axdr.specs.declared.error.AxdrError.TheVariants as axdr
use Rattle.fw_apdu.specs.declared.error.ApduError.{ApduError}
use Rattle.fw_apdu.specs.declared.error.ApduError.TheVariants.{BadData, OutOfMemory}

-- the error of an APDU whose Data is refused so
abbrev pub fault_from : AxdrError → ApduError
fault_from axdr.OutOfMemory = OutOfMemory
fault_from axdr.Truncated = BadData axdr.Truncated
fault_from axdr.UnknownTag = BadData axdr.UnknownTag
fault_from axdr.BadLength = BadData axdr.BadLength
fault_from axdr.TooDeep = BadData axdr.TooDeep
