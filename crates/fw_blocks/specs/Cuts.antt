-- Public vocabulary: block cuts (IEC 62056-6-2, Image transfer). An image is a byte string, cut into blocks of one size that are
-- numbered from 0.
use Rattle.std.specs.Prelude.{ℕ, ◌+◌, ◌*◌, ◌≤◌, List, length, min, slice_range}
use Rattle.std.specs.Int.{div_ceil}

-- a block size and an image's size, in bytes
pub record Partition : Type 0 where
  pub block_size : ℕ
  pub size : ℕ

-- where block i begins
abbrev pub block_start : ℕ → ℕ → ℕ
block_start block_size i = i * block_size

-- where block i of `size` bytes ends: where the next one begins, or with the last byte
abbrev pub block_end : ℕ → ℕ → ℕ → ℕ
block_end block_size size i = min ((i + 1) * block_size) size

-- block i of a byte string
abbrev pub cut : ℕ → List ℕ → ℕ → List ℕ
cut block_size bytes i = slice_range bytes (block_start block_size i) (block_end block_size (length bytes) i)

-- how many blocks of `size` bytes have a byte: the size over the block size, rounded up. That the cuts below it are those that
-- are not empty is the law `NonemptyBelowCount`.
abbrev pub block_count : ℕ → ℕ → ℕ
block_count block_size size = div_ceil size block_size

-- ---- limits (own)

abbrev pub max_block_size : ℕ
max_block_size = 1024

abbrev pub max_blocks : ℕ
max_blocks = 16384

-- the most bytes that an image has: 16 MiB, those of the most blocks of the most bytes
abbrev pub max_image : ℕ
max_image = max_blocks * max_block_size

-- an image has 1 to 16,777,216 bytes
pub record IsImageSize (size : ℕ) : Type 0 where
  pub begins : 1 ≤ size
  pub ends : size ≤ max_image

-- blocks of 1 to 1,024 bytes, and 1 to 16,384 of them
pub record IsWithinLimits (block_size size : ℕ) : Type 0 where
  pub block_begins : 1 ≤ block_size
  pub block_ends : block_size ≤ max_block_size
  pub begins : 1 ≤ size
  pub most : block_count block_size size ≤ max_blocks
