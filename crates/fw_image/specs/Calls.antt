-- Public vocabulary: how many calls of its store an operation makes, and what it leaves where one of them fails.
use Rattle.std.specs.Prelude.{ℕ, ◌+◌, ◌==◌, nat_lt, nat_le, if◌then◌else◌, length, is_some}
use Rattle.std.specs.FinMap.{get}
use Rattle.fw_blocks.specs.Cuts.{max_blocks}
use Rattle.fw_store.specs.Fuse.{half_torn}
use Rattle.fw_verify.specs.Slices.{slice_size, slice_count}
use Rattle.fw_image.specs.Meter.{Meter, Phase, verifying, verified, goal_of, goal_size}
use Rattle.fw_image.specs.Step.{Operation, enable, initiate, block, verify, activate, with_cell}

-- An operation that no line refuses: one write of the header. For a block, first a write of its bytes, and the header only for a mark that
-- is new. For a verify, first a read of the goal, and the header only if that is all of it.
abbrev pub calls_for : Meter → Operation → ℕ
calls_for m (enable b) = 1
calls_for m (initiate name size) = 1
calls_for m (block i value) = if is_some (get m.cells i) then 1 else 2
calls_for m verify = if nat_le (goal_size (goal_of m.phase)) slice_size then 2 else 1
calls_for m activate = 1

-- What an operation leaves where a call of an honest store failed that leaves this byte: a block that was there is torn, and all else is
-- as it was.
abbrev pub left_by_fault : ℕ → Meter → Operation → Meter
left_by_fault torn m (block i value) = if is_some (get m.cells i) then with_cell m i (half_torn value torn) else m
left_by_fault torn m operation = m

-- a turn: while a goal is verified, a read of it, and a write of the header after the last
abbrev pub turn_calls : Phase → ℕ
turn_calls (verifying goal taken) = if nat_lt (taken + slice_size) goal.size then 1 else 2
turn_calls phase = 0

-- how many bytes a verified goal has
abbrev pub verified_size : Phase → ℕ
verified_size (verified goal) = goal.size
verified_size phase = 0

-- an opening that keeps the header: it is read, and the image that runs, and the goal where it was verified
abbrev pub opening_calls : Meter → ℕ
opening_calls m = 1 + slice_count (length m.running.bytes) + slice_count (verified_size m.phase)

-- the calls that make a header one of version 2: a write of it, if it is not
abbrev pub migration_calls : Meter → ℕ
migration_calls m = if m.limit == max_blocks then 0 else 1

-- an opening that does so after its checks
abbrev pub restart_calls : Meter → ℕ
restart_calls m = opening_calls m + migration_calls m
