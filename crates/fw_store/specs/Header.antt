-- Public vocabulary: which headers a store can have (own rules), and the header of a new store.
use Rattle.std.specs.Prelude.{◌≡◌, ℕ, ◌<◌, ◌≤◌, ◌^◌, length, Bool, true, false, Option, Some, None, is_some, IsTrue, IfSome, replicate}
use Rattle.fw_blocks.specs.Cuts.{IsWithinLimits, block_count, max_block_size}
use Rattle.fw_blocks.specs.Members.{has, resized_marks}
use Rattle.fw_names.specs.Name.{Name, IsName, IsOpened, IsRisen}
use Rattle.fw_store.specs.Versions.{block_limit}
use Rattle.fw_store.specs.declared.slot.Slot.TheVariants.{First}
use Rattle.fw_store.specs.declared.version.HeaderVersion.{HeaderVersion}
use Rattle.fw_store.specs.declared.version.HeaderVersion.TheVariants.{Two}
use Rattle.fw_store.specs.declared.header.StoredStatus.{StoredStatus}
use Rattle.fw_store.specs.declared.header.StoredStatus.TheVariants.{NotInitiated, Initiated, VerificationSuccessful, VerificationFailed, ActivationSuccessful}
use Rattle.fw_store.specs.declared.header.Goal.{Goal}
use Rattle.fw_store.specs.declared.header.Header.{Header}

-- ---- what the fields of every header in the code hold: names that have a spelling, numbers of four bytes, and a mark for each
-- block that its version has one for

pub record GoalFieldsFit (goal : Goal) : Type 0 where
  pub name : IsName goal.name
  pub size : goal.size < 2 ^ 32

pub record FieldsFit (h : Header) : Type 0 where
  pub block_size : h.block_size < 2 ^ 32
  pub running_size : h.running_size < 2 ^ 32
  pub running_name : IsName h.running_name
  pub goal : IfSome h.goal GoalFieldsFit
  pub marks : length h.marks ≡ block_limit h.version

-- a header with a mark for each of these blocks, and no other: those that its marks don't count aren't marked
abbrev pub with_all_marks : Header → Header
with_all_marks h = record h { marks = resized_marks (block_limit h.version) h.marks }

-- ---- what a store can have

-- whether there is a goal in a status: it is being received, or was verified
abbrev pub has_goal : StoredStatus → Bool
has_goal NotInitiated = false
has_goal Initiated = true
has_goal VerificationSuccessful = true
has_goal VerificationFailed = true
has_goal ActivationSuccessful = false

-- whether the goal was verified, with either result
abbrev pub is_verified : StoredStatus → Bool
is_verified NotInitiated = false
is_verified Initiated = false
is_verified VerificationSuccessful = true
is_verified VerificationFailed = true
is_verified ActivationSuccessful = false

-- a goal of a store of `capacity` bytes a slot, with a header for `limit` blocks, whose running image has this release: a head end's
-- campaign offers it, its release may follow that one, it fits a slot, and its blocks are within the limits and no more than those
pub record IsGoal (limit capacity block_size release : ℕ) (goal : Goal) : Type 0 where
  pub opened : IsOpened goal.name.campaign
  pub risen : IsRisen release goal.name.release
  pub fits : goal.size ≤ capacity
  pub limits : IsWithinLimits block_size goal.size
  pub most : block_count block_size goal.size ≤ limit

-- how many blocks the goal has, 0 if there is none
abbrev pub goal_count : ℕ → Option Goal → ℕ
goal_count block_size None = 0
goal_count block_size (Some goal) = block_count block_size goal.size

-- a header that a store can have whose slots have this capacity
pub record IsHeader (capacity : ℕ) (h : Header) : Type 0 where
  pub fields : FieldsFit h
  pub block_size_begins : 1 ≤ h.block_size
  pub block_size_ends : h.block_size ≤ max_block_size
  pub running_size_begins : 1 ≤ h.running_size
  pub running_size_fits : h.running_size ≤ capacity
  pub goal_by_status : is_some h.goal ≡ has_goal h.status
  pub goal : IfSome h.goal (IsGoal (block_limit h.version) capacity h.block_size h.running_name.release)
  -- no number at or above the count is marked, and so none at all if there is no goal; in a header whose marks are torn one may be
  pub unmarked : (i : ℕ) → goal_count h.block_size h.goal ≤ i → has h.marks i ≡ false
  -- a goal that was verified is there with all its blocks
  pub marked : IsTrue (is_verified h.status) → (i : ℕ) → i < goal_count h.block_size h.goal → has h.marks i ≡ true

-- the header of this version of a new store, whose first slot has an image of this size and name
abbrev pub fresh_header : HeaderVersion → ℕ → ℕ → Name → Header
fresh_header version block_size running_size running_name = record {
  version = version;
  enabled = false;
  running_slot = First;
  status = NotInitiated;
  block_size = block_size;
  running_size = running_size;
  running_name = running_name;
  goal = None;
  marks = replicate (block_limit version) false;
}

-- ---- from one version to the other

-- a header in version 2, with all else kept: no further block is there
abbrev pub migrated : Header → Header
migrated h = record h { version = Two; marks = resized_marks (block_limit Two) h.marks }
