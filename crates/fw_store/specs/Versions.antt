-- Public vocabulary: the two versions of a header, which differ in how many blocks they have marks for (own).
use Rattle.std.specs.Prelude.{ℕ, List}
use Rattle.fw_blocks.specs.Cuts.{max_blocks}
use Rattle.fw_store.specs.declared.version.HeaderVersion.{HeaderVersion}
use Rattle.fw_store.specs.declared.version.HeaderVersion.TheVariants.{One, Two}
use Rattle.fw_store.specs.declared.version.HeaderBytes.{HeaderBytes}
use Rattle.fw_store.specs.declared.version.HeaderBytes.TheVariants as bytes

-- how many blocks version 1 has marks for
abbrev pub first_limit : ℕ
first_limit = 4096

-- how many blocks a version has marks for: the most that an image may have in a store with such a header
abbrev pub block_limit : HeaderVersion → ℕ
block_limit One = first_limit
block_limit Two = max_blocks

-- how many bytes a header of a version has
abbrev pub header_size : HeaderVersion → ℕ
header_size One = 622
header_size Two = 2158

-- the bytes that are written to a store as its header
abbrev pub bytes_of : HeaderBytes → List ℕ
bytes_of (bytes.One items) = items
bytes_of (bytes.Two items) = items

-- and the version with that number of bytes
abbrev pub version_of : HeaderBytes → HeaderVersion
version_of (bytes.One items) = One
version_of (bytes.Two items) = Two
