-- Public vocabulary: what a meter is, with its limits, the image that runs, and the image that it receives.
use Rattle.std.specs.Prelude.{◌≡◌, ℕ, zero, suc, Bool, List, [], ◌∷◌, ◌++◌, Option, Some, None, is_some}
use Rattle.std.specs.Ordering.{nat_cmp}
use Rattle.std.specs.FinMap.{FinMap, get, code}
use Rattle.std.specs.Coded.{Coded, coded_ℕ, coded_list}
use Rattle.sha2.specs.Sha256.{sha256}
use Rattle.fw_names.specs.Name.{Name}
use Rattle.fw_blocks.specs.Cuts.{max_blocks}
use Rattle.fw_store.specs.Header.{goal_count}
use Rattle.fw_store.specs.declared.header.Goal.{Goal}
use Rattle.fw_image.specs.declared.status.TransferStatus.{TransferStatus}
use Rattle.fw_image.specs.declared.status.TransferStatus.TheVariants.{NotInitiated, Initiated, VerificationInitiated, VerificationSuccessful, VerificationFailed, ActivationSuccessful}

-- an image: its name, and its bytes
pub record Image : Type 0 where
  pub name : Name
  pub bytes : List ℕ

-- The phases of a transfer (IEC 62056-6-2, image_transfer_status). Four of them have a goal: the name and the size of the image that is
-- to be received. While it is verified, the phase also says how many of its bytes are digested.
pub data Phase : Type 0 where
  idle : Phase
  receiving : Goal → Phase
  verifying : Goal → ℕ → Phase
  verified : Goal → Phase
  spoilt : Goal → Phase
  switched : Phase

-- the blocks that are there, by their numbers
abbrev pub Cells : Type 0
Cells = FinMap nat_cmp (List ℕ)

-- how a proof compares cells
abbrev pub cells_code : Coded Cells
cells_code = code coded_ℕ (coded_list coded_ℕ)

pub record Meter : Type 0 where
  -- fixed
  pub block_size : ℕ
  pub capacity : ℕ
  -- how many blocks an image may have: what the header's version has marks for, which an opening may raise
  pub limit : ℕ
  -- changing
  pub enabled : Bool
  pub phase : Phase
  pub cells : Cells
  pub running : Image

abbrev pub status_of : Phase → TransferStatus
status_of idle = NotInitiated
status_of (receiving goal) = Initiated
status_of (verifying goal taken) = VerificationInitiated
status_of (verified goal) = VerificationSuccessful
status_of (spoilt goal) = VerificationFailed
status_of switched = ActivationSuccessful

abbrev pub goal_of : Phase → Option Goal
goal_of idle = None
goal_of (receiving goal) = Some goal
goal_of (verifying goal taken) = Some goal
goal_of (verified goal) = Some goal
goal_of (spoilt goal) = Some goal
goal_of switched = None

-- how many bytes the goal has, 0 if there is none
abbrev pub goal_size : Option Goal → ℕ
goal_size None = 0
goal_size (Some goal) = goal.size

-- how many blocks the goal has, 0 if there is none
abbrev pub count_of : Meter → ℕ
count_of m = goal_count m.block_size (goal_of m.phase)

-- two parts, if both are there
abbrev pub both : Option (List ℕ) → Option (List ℕ) → Option (List ℕ)
both (Some front) (Some cell) = Some (front ++ cell)
both (Some front) None = None
both None cell = None

-- the blocks below a number, joined in order, where each is there
abbrev pub joined : Cells → ℕ → Option (List ℕ)
joined cells zero = Some []
joined cells (suc n) = both (joined cells n) (get cells n)

-- which blocks below a number are there
abbrev pub marks_of : Cells → ℕ → List Bool
marks_of cells zero = []
marks_of cells (suc n) = marks_of cells n ++ is_some (get cells n) ∷ []

-- the goal's bytes, if no block is missing
abbrev pub goal_bytes : Meter → Option (List ℕ)
goal_bytes m = joined m.cells (count_of m)

-- the bytes of a goal are all there, and have the digest of its name (FIPS 180-4)
abbrev pub IsGenuine : Option Goal → Option (List ℕ) → Type 0
IsGenuine (Some goal) (Some bytes) = sha256 bytes ≡ goal.name.digest
IsGenuine goal bytes = ⊥

-- The image that runs has the digest of its name, and so has a goal that was verified, though a late block of another campaign may stand in
-- a cell.
pub record IsTrusted (m : Meter) : Type 0 where
  pub running : sha256 m.running.bytes ≡ m.running.name.digest
  pub verified : status_of m.phase ≡ VerificationSuccessful → IsGenuine (goal_of m.phase) (goal_bytes m)

-- ---- what outlives a restart

-- A verification that goes on is kept nowhere: once it is opened again, the meter receives its goal, whose blocks are all there.
abbrev pub reopened_phase : Phase → Phase
reopened_phase (verifying goal taken) = receiving goal
reopened_phase phase = phase

abbrev pub reopened : Meter → Meter
reopened m = record m { phase = reopened_phase m.phase }

-- the meter once its header is one of version 2
abbrev pub migrated : Meter → Meter
migrated m = record m { limit = max_blocks }

-- a restart does both
abbrev pub restarted : Meter → Meter
restarted m = migrated (reopened m)
