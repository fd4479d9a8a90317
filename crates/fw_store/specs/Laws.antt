-- Public vocabulary: the laws of headers. They speak of definitions alone.
use Rattle.std.specs.Prelude.{◌≡◌, ℕ, ◌<◌, ◌≤◌, ◌^◌, length, IsTrue}
use Rattle.fw_blocks.specs.Cuts.{max_block_size}
use Rattle.fw_blocks.specs.Members.{first_missing}
use Rattle.fw_names.specs.Name.{Name, IsName}
use Rattle.fw_store.specs.Versions.{header_size}
use Rattle.fw_store.specs.declared.version.HeaderVersion.{HeaderVersion}
use Rattle.fw_store.specs.declared.header.Header.{Header}
use Rattle.fw_store.specs.Layout.{header_bytes}
use Rattle.fw_store.specs.Header.{FieldsFit, IsHeader, fresh_header, goal_count, is_verified, migrated}

-- a byte string is at most one header's
abbrev pub OneHeader : Type 0
OneHeader = (a b : Header) → FieldsFit a → FieldsFit b → header_bytes a ≡ header_bytes b → a ≡ b

-- every header has 622 bytes in version 1, and 2,158 in version 2
abbrev pub HeaderSize : Type 0
HeaderSize = (h : Header) → FieldsFit h → length (header_bytes h) ≡ header_size h.version

-- a new store can have its header, where block size and running size are within their limits
abbrev pub FreshIsHeader : Type 0
FreshIsHeader = (version : HeaderVersion) (capacity block_size running_size : ℕ) (running_name : Name) → capacity < 2 ^ 32 → 1 ≤ block_size → block_size ≤ max_block_size
    → 1 ≤ running_size → running_size ≤ capacity → IsName running_name → IsHeader capacity (fresh_header version block_size running_size running_name)

-- of a goal that was verified, no block is missing
abbrev pub VerifiedIsComplete : Type 0
VerifiedIsComplete = (capacity : ℕ) (h : Header) → IsHeader capacity h → IsTrue (is_verified h.status)
    → first_missing h.marks ≡ goal_count h.block_size h.goal

-- what a store can have in version 1, it can have in version 2
abbrev pub MigratedIsHeader : Type 0
MigratedIsHeader = (capacity : ℕ) (h : Header) → IsHeader capacity h → IsHeader capacity (migrated h)
