-- Why files of keys aren't read or made.
use Rattle.std.specs.Prelude.{◌≡◌, ℕ, bit_and}
use Rattle.std.specs.Fs.{file_type, metadata_mode, IsFile}
use Rattle.std.specs.declared.fs.attrs.Metadata.{Metadata}
use Rattle.fw_keys.specs.declared.error.KeysError.{KeysError}
use Rattle.fw_keys.specs.declared.error.KeysError.TheVariants as keys
use Rattle.fw_key_files.specs.declared.error.KeyFileError.{KeyFileError}
use Rattle.fw_key_files.specs.declared.error.KeyFileError.TheVariants.{KeysFault, KeysReadable, BadKeys, NoRandomness, OutOfMemory}

-- the refusal of a text, as that of its file
abbrev pub error_of : KeysError → KeyFileError
error_of (keys.BadKeys line why) = BadKeys line why
error_of keys.OutOfMemory = OutOfMemory

-- of a file that is read
abbrev pub IsOfSystemFile : KeyFileError → Type 0
IsOfSystemFile KeysFault = Unit {0}
IsOfSystemFile KeysReadable = Unit {0}
IsOfSystemFile OutOfMemory = Unit {0}
IsOfSystemFile error = ⊥

-- of keys that are read
abbrev pub IsOfReading : KeyFileError → Type 0
IsOfReading (BadKeys line why) = Unit {0}
IsOfReading error = IsOfSystemFile error

-- of keys that are made
abbrev pub IsOfMaking : KeyFileError → Type 0
IsOfMaking (BadKeys line why) = Unit {0}
IsOfMaking NoRandomness = Unit {0}
IsOfMaking OutOfMemory = Unit {0}
IsOfMaking error = ⊥

-- a regular file of which nobody but its owner may do anything: the nine permission bits end in six zeros
pub record IsPrivate (metadata : Metadata) : Type 0 where
  pub file : IsFile (file_type metadata)
  pub mode : bit_and (metadata_mode metadata) 0o077 ≡ 0
