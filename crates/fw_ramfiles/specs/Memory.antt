-- Public vocabulary: files in memory as a value.
use Rattle.std.specs.Prelude.{ℕ, length}
use Rattle.fw_cuts.specs.Both.{Both}
use Rattle.fw_cuts.specs.Cuts.{Seen}
use Rattle.fw_ramfiles.specs.declared.memory.MemoryFiles.{MemoryFiles}
use Rattle.fw_ramfiles.specs.Past.{seen_after}

-- what they held at first
abbrev pub start_of : MemoryFiles → Both
start_of files = record { store = files.store.items; journal = files.journal.items }

abbrev pub seen_of : MemoryFiles → Seen
seen_of files = seen_after (start_of files) files.events.items

-- what is read
abbrev pub held_of : MemoryFiles → Both
held_of files = (seen_of files).held

abbrev pub moments_of : MemoryFiles → ℕ
moments_of files = length files.events.items
