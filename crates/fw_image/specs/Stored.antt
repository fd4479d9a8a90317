-- Public vocabulary: the meter that a header and two slots are.
use Rattle.std.specs.Prelude.{◌≡◌, ℕ, zero, suc, Bool, true, false, IsTrue, if◌then◌else◌, ◌+◌, ◌<◌, ◌≤◌, ◌⊎◌, List, [], length, take, replicate, Option, Some, None}
use Rattle.std.specs.FinMap.{insert, empty}
use Rattle.fw_blocks.specs.Cuts.{cut, block_count, max_blocks}
use Rattle.fw_blocks.specs.Members.{has}
use Rattle.fw_store.specs.Device.{Device, slot_bytes}
use Rattle.fw_store.specs.Faults.{Keeps, count_after, Spends}
use Rattle.fw_store.specs.Known.{Known}
use Rattle.fw_store.specs.Slot.{other}
use Rattle.fw_store.specs.declared.slot.Slot.{Slot}
use Rattle.fw_store.specs.Layout.{header_bytes}
use Rattle.fw_store.specs.Header.{IsHeader}
use Rattle.fw_store.specs.Versions.{block_limit}
use Rattle.fw_store.specs.declared.header.Header.{Header}
use Rattle.fw_store.specs.declared.header.Goal.{Goal}
use Rattle.fw_store.specs.declared.header.StoredStatus.{StoredStatus}
use Rattle.fw_store.specs.declared.header.StoredStatus.TheVariants.{NotInitiated, Initiated, VerificationSuccessful, VerificationFailed, ActivationSuccessful}
use Rattle.fw_image.specs.Meter.{Meter, Phase, idle, receiving, verified, spoilt, switched, Cells, IsTrusted, migrated}
use Rattle.fw_image.specs.Step.{digested_phase}
use Rattle.fw_image.specs.State.{State}
use Rattle.fw_image.specs.Calls.{opening_calls, restart_calls}
use Rattle.fw_verify.specs.Slices.{slice_size, slice_count}
use Rattle.fw_verify.specs.Progress.{Progress, IsDigesting}
use Rattle.fw_image.specs.declared.error.OpenError.{OpenError}
use Rattle.fw_image.specs.declared.error.OpenError.TheVariants.{Fault, BadHeader, BadImage}

-- the phase of a status and a goal: a header that a store can have has a goal in just the statuses whose phase has one
abbrev pub phase_of : StoredStatus → Option Goal → Phase
phase_of NotInitiated goal = idle
phase_of ActivationSuccessful goal = switched
phase_of Initiated (Some goal) = receiving goal
phase_of VerificationSuccessful (Some goal) = verified goal
phase_of VerificationFailed (Some goal) = spoilt goal
phase_of status None = idle

-- the marked blocks below a number, each with its bytes
abbrev pub blocks_below : ℕ → List Bool → List ℕ → ℕ → Cells
blocks_below block_size marks bytes zero = empty
blocks_below block_size marks bytes (suc n) =
    let fewer = blocks_below block_size marks bytes n in
    if has marks n then insert fewer n (cut block_size bytes n) else fewer

-- the marked blocks of a goal, whose bytes the spare slot begins with
abbrev pub cells_of : ℕ → List Bool → List ℕ → Option Goal → Cells
cells_of block_size marks spare None = empty
cells_of block_size marks spare (Some goal) = blocks_below block_size marks (take goal.size spare) (block_count block_size goal.size)

-- the meter of a header and a device with slots of `capacity` bytes
abbrev pub meter_of : ℕ → Header → Device → Meter
meter_of capacity h d = record {
  block_size = h.block_size;
  capacity = capacity;
  limit = block_limit h.version;
  enabled = h.enabled;
  phase = phase_of h.status h.goal;
  cells = cells_of h.block_size h.marks (slot_bytes d (other h.running_slot)) h.goal;
  running = record { name = h.running_name; bytes = take h.running_size (slot_bytes d h.running_slot) };
}

-- what is known of a device: its bytes if the store is honest, and nothing otherwise, for which zeros stand
abbrev pub seen : Bool → ℕ → Device → Device
seen true capacity d = d
seen false capacity d = record { head = []; first = replicate capacity 0; second = replicate capacity 0 }

-- the phase of a header, where this much of its goal is digested
abbrev pub phase_at : Option Progress → Phase → Phase
phase_at None phase = phase
phase_at (Some progress) phase = digested_phase phase progress.taken

-- the meter of a header and a device, where this much of its goal is digested
abbrev pub meter_at : ℕ → Header → Option Progress → Device → Meter
meter_at capacity h digesting d = record (meter_of capacity h d) { phase = phase_at digesting (phase_of h.status h.goal) }

-- the state of a store, the header that it was given, and how far the digest of its goal has come where that is verified
abbrev pub state_of : Known → Header → Option Progress → State
state_of known h digesting =
    let d = seen known.honest known.capacity known.device in record {
      meter = meter_at known.capacity h digesting d;
      device = d;
      honest = known.honest;
      sound = known.sound;
      faults = known.faults;
      fuse = known.fuse;
    }

-- The header is one that a store can have. If the store is honest it stands there, and the images have their names' digests.
pub record IsHeld (known : Known) (h : Header) : Type 0 where
  pub valid : IsHeader known.capacity h
  pub stored : IsTrue known.honest → header_bytes h ≡ known.device.head
  pub trusted : IsTrue known.honest → IsTrusted (meter_of known.capacity h known.device)

-- A goal is verified: it is received, with all its blocks. Of its bytes in the spare slot the first `taken` are digested, a slice at least
-- and not all.
pub record IsVerifying (known : Known) (h : Header) (progress : Progress) : Type 0 where
  pub goal : Goal
  pub receives : h.status ≡ Initiated
  pub there : h.goal ≡ Some goal
  pub marked : (i : ℕ) → i < block_count h.block_size goal.size → has h.marks i ≡ true
  pub slot : progress.slot ≡ other h.running_slot
  pub size : progress.size ≡ goal.size
  pub begun : slice_size ≤ progress.taken
  pub more : progress.taken < progress.size
  pub digests : IsTrue known.honest → IsDigesting progress (slot_bytes known.device progress.slot)

abbrev pub IsDigested : Known → Header → Option Progress → Type 0
IsDigested known h None = Unit {0}
IsDigested known h (Some progress) = IsVerifying known h progress

-- the header is held with a verification that goes on, or with none
pub record IsHolding (known : Known) (h : Header) (digesting : Option Progress) : Type 0 where
  pub held : IsHeld known h
  pub digested : IsDigested known h digesting

-- A device with slots of `capacity` bytes is this meter: its header is spelled there, and is one that a store can have.
pub record IsMeterOf (capacity : ℕ) (d : Device) (m : Meter) : Type 0 where
  pub header : Header
  pub valid : IsHeader capacity header
  pub spelled : header_bytes header ≡ d.head
  pub means : m ≡ meter_of capacity header d

-- A store holds a state: they are as honest and as large as each other. If the store is honest, its device is the meter, and the
-- images of that have the digests of their names.
pub record Holds (known : Known) (state : State) : Type 0 where
  pub honesty : state.honest ≡ known.honest
  pub size : state.meter.capacity ≡ known.capacity
  pub contents : IsTrue known.honest → state.device ≡ known.device
  pub means : IsTrue known.honest → IsMeterOf known.capacity known.device state.meter
  pub trusted : IsTrue known.honest → IsTrusted state.meter

-- A store is opened, and its header is one of version 2 from then on. All else of the meter that it was is kept, and the device stays the
-- same if its header was one of version 2 before. No call of the store failed.
pub record Opens (known : Known) (state : State) : Type 0 where
  pub honesty : state.honest ≡ known.honest
  pub was : Meter
  pub held : IsTrue known.honest → IsMeterOf known.capacity known.device was
  pub trusted : IsTrue known.honest → IsTrusted was
  pub goes_on : state.meter ≡ migrated was
  pub size : was.capacity ≡ known.capacity
  pub holds : IsTrue known.honest → IsMeterOf known.capacity state.device state.meter
  pub slots : IsTrue known.honest → (slot : Slot) → slot_bytes state.device slot ≡ slot_bytes known.device slot
  pub kept : IsTrue known.honest → was.limit ≡ max_blocks → state.device ≡ known.device
  pub spends : Spends (restart_calls was) known.fuse state.fuse true

-- Why a store was not opened. If it is honest: its header is none that it can have; or it is a meter, and an image doesn't have the
-- digest of its name.
abbrev pub IsCause : OpenError → ℕ → Device → Type 0
IsCause Fault capacity d = Unit {0}
IsCause BadHeader capacity d = (m : Meter) → ¬ IsMeterOf capacity d m
IsCause BadImage capacity d = (m : Meter) × IsMeterOf capacity d m × ¬ IsTrusted m

-- no call of the store failed
abbrev pub is_opening_faultless : OpenError → Bool
is_opening_faultless Fault = false
is_opening_faultless BadHeader = true
is_opening_faultless BadImage = true

-- How many calls of an honest store show why it was not opened: the one that reads the header, with those that read the image that
-- runs, or all of an opening. For a fault no number is given.
abbrev pub IsFoundIn : OpenError → ℕ → Device → ℕ → Type 0
IsFoundIn Fault capacity d calls = Unit {0}
IsFoundIn BadHeader capacity d calls = calls ≡ 1
IsFoundIn BadImage capacity d calls =
    (m : Meter) × IsMeterOf capacity d m × ((calls ≡ 1 + slice_count (length m.running.bytes)) ⊎ (calls ≡ opening_calls m))

-- A store was not opened for this reason, and is returned. The reason is a fault just if a call of it failed, and that call is the last.
pub record Refused (known : Known) (error : OpenError) (back : Known) : Type 0 where
  pub reason : IsTrue known.honest → IsCause error known.capacity known.device
  pub counted : back.faults ≡ count_after (is_opening_faultless error) known.faults
  pub never : IsTrue known.sound → IsTrue (is_opening_faultless error)
  pub same : IsTrue known.honest → back.device ≡ known.device
  pub kept : Keeps known back
  pub calls : ℕ
  pub spends : Spends calls known.fuse back.fuse (is_opening_faultless error)
  pub found : IsTrue known.honest → IsFoundIn error known.capacity known.device calls
