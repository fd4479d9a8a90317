-- The refusal of a text as that of its file.
use Rattle.std.proofs.Common.{◌≡◌, ℕ}
use Rattle.fw_keys.specs.declared.error.BadLine.{BadLine}
use Rattle.fw_keys.specs.declared.error.KeysError.{KeysError}
use Rattle.fw_keys.specs.declared.error.KeysError.TheVariants as keys
use Rattle.fw_key_files.specs.Refusals.{error_of}
use Rattle.fw_key_files.specs.declared.error.KeyFileError.TheVariants.{BadKeys}

pub refused_line : (error : KeysError) (line : ℕ) (why : BadLine) → error_of error ≡ BadKeys line why → error ≡ keys.BadKeys line why
refused_line (keys.BadKeys l w) line why is = cc is
refused_line keys.OutOfMemory line why is = cc is
