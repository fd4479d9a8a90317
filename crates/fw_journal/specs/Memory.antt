-- Public vocabulary: a device in memory as a value.
use Rattle.std.specs.Prelude.{◌≡◌, ℕ, List, Bool, Option, is_none}
use Rattle.fw_journal.specs.Past.{Held, MayLeave, IsSince}
use Rattle.fw_journal.specs.declared.fuse.Fuse.{Fuse}
use Rattle.fw_journal.specs.declared.memory.MemoryDevice.{MemoryDevice}
use Rattle.fw_journal.specs.declared.memory.MemoryKeeper.{MemoryKeeper}

-- what it holds now
abbrev pub held_of : MemoryDevice → Held
held_of m = m.disk

-- what reads give
abbrev pub bytes_of : MemoryDevice → List ℕ
bytes_of m = (held_of m).bytes

-- what it has held before, one for each change and each sync
abbrev pub past_of : MemoryDevice → List Held
past_of m = m.past.items

abbrev pub fuse_of : MemoryDevice → Option Fuse
fuse_of m = m.fuse

-- no fuse is set
abbrev pub is_sound : MemoryDevice → Bool
is_sound m = is_none (fuse_of m)

-- what a power cut may leave
abbrev pub leaves : MemoryDevice → List ℕ → Type 0
leaves m left = MayLeave (held_of m) left

abbrev pub left_since : MemoryDevice → ℕ → List ℕ → Type 0
left_since m since left = IsSince (past_of m) (held_of m) since left

-- all except the fuse is as before
pub record KeepsAllButFuse (old new : MemoryDevice) : Type 0 where
  pub held : held_of new ≡ held_of old
  pub past : past_of new ≡ past_of old

-- what it was given last to keep
abbrev pub kept_of : MemoryKeeper → List ℕ
kept_of m = m.bytes.items
