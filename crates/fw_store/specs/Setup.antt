-- Public vocabulary: what a store can be made with.
use Rattle.std.specs.Prelude.{ℕ, ◌*◌, ◌≤◌, List, length}
use Rattle.fw_blocks.specs.Cuts.{IsImageSize, max_block_size}
use Rattle.fw_store.specs.Versions.{block_limit}
use Rattle.fw_store.specs.declared.version.HeaderVersion.{HeaderVersion}

-- the largest one that a new store with a header of this version has room for: as many of the largest blocks as it has marks for
abbrev pub capacity_limit : HeaderVersion → ℕ
capacity_limit version = block_limit version * max_block_size

-- the size of a slot: one that an image can have
abbrev pub IsCapacity : ℕ → Type 0
IsCapacity capacity = IsImageSize capacity

-- for a header of this version: a block of 1 to 1,024 bytes, room for images of at most as many such blocks as it has marks for, and a
-- factory image that fits
pub record IsSetup (version : HeaderVersion) (block_size capacity : ℕ) (factory : List ℕ) : Type 0 where
  pub some_block : 1 ≤ block_size
  pub block_in_range : block_size ≤ max_block_size
  pub room : IsCapacity capacity
  pub within : capacity ≤ capacity_limit version
  pub some_bytes : 1 ≤ length factory
  pub fits : length factory ≤ capacity
