-- Public vocabulary: what the limits of a store say of each meter, whether the store is honest or not.
use Rattle.std.specs.Prelude.{◌≡◌, ℕ, ◌-◌, ◌≤◌, List, length, Some}
use Rattle.std.specs.FinMap.{get}
use Rattle.fw_names.specs.Name.{IsName}
use Rattle.fw_blocks.specs.Cuts.{max_block_size, block_start, block_end}
use Rattle.fw_store.specs.Versions.{block_limit}
use Rattle.fw_store.specs.declared.version.HeaderVersion.{HeaderVersion}
use Rattle.fw_store.specs.declared.header.Goal.{Goal}
use Rattle.fw_image.specs.Meter.{Cells, Meter, goal_of}
use Rattle.fw_image.specs.Step.{IsOffer}

-- each block that is there has its length
abbrev pub CellsFit : ℕ → ℕ → Cells → Type 0
CellsFit block_size size cells =
    (number : ℕ) (cell : List ℕ) → get cells number ≡ Some cell → length cell ≡ block_end block_size size number - block_start block_size number

-- A block has 1 to 1,024 bytes, and an image may have as many blocks as a version of a header has marks for. The name of the image that
-- runs has a spelling. A goal is one that can be initiated, so its release is not below that of the image that runs. Its blocks have their
-- lengths.
pub record IsFit (m : Meter) : Type 0 where
  pub block_begins : 1 ≤ m.block_size
  pub block_ends : m.block_size ≤ max_block_size
  pub version : HeaderVersion
  pub limited : m.limit ≡ block_limit version
  pub named : IsName m.running.name
  pub goal : (goal : Goal) → goal_of m.phase ≡ Some goal → IsOffer m.limit m.block_size m.capacity m.running.name.release goal.name goal.size
  pub cells : (goal : Goal) → goal_of m.phase ≡ Some goal → CellsFit m.block_size goal.size m.cells
