-- Public vocabulary: the fuse of a device in memory, which is none, or a number of calls that succeed before all fail.
use Rattle.std.specs.Prelude.{ℕ, ◌-◌, ◌/◌, Bool, true, Option, Some, None, nat_lt, List, ◌++◌, length, take, replicate}
use Rattle.fw_journal.specs.declared.fuse.Fuse.{Fuse}

-- the next call succeeds
abbrev pub lets_through : Option Fuse → Bool
lets_through None = true
lets_through (Some fuse) = nat_lt 0 fuse.calls

-- the fuse after one call
abbrev pub burnt : Option Fuse → Option Fuse
burnt None = None
burnt (Some fuse) = Some (record fuse { calls = fuse.calls - 1 })

-- the byte that a failing write leaves
abbrev pub torn_of : Option Fuse → ℕ
torn_of None = 0
torn_of (Some fuse) = fuse.torn

-- what a failing write leaves in its range: the first half of its bytes, rounded down, and that byte in the rest
abbrev pub half_torn : List ℕ → ℕ → List ℕ
half_torn bytes torn = take (length bytes / 2) bytes ++ replicate (length bytes - length bytes / 2) torn
