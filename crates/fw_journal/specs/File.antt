-- Public vocabulary: what is known of a journal's file.
use Rattle.std.specs.Prelude.{Option}
use Rattle.fw_disk.specs.declared.cause.Cause.{Cause}
use Rattle.fw_journal.specs.declared.file.FileDevice.{FileDevice}

-- why the last call that failed did
abbrev pub cause_of : FileDevice → Option Cause
cause_of device = device.cause
