-- For private members alone: no public clause cites it.
use Rattle.std.specs.Prelude.{◌≡◌, ℕ, ◌==◌, ◌<◌, ◌⊎◌, Bool, true, false, if◌then◌else◌, List, Result, Ok, Err, Some, slice_set}
use Rattle.fw_blocks.specs.Cuts.{block_start, block_count, max_blocks}
use Rattle.fw_blocks.specs.Members.{has}
use Rattle.fw_store.specs.Versions.{block_limit}
use Rattle.fw_store.specs.declared.header.Header.{Header}
use Rattle.fw_store.specs.declared.header.Goal.{Goal}
use Rattle.fw_store.specs.declared.header.StoredStatus.{StoredStatus}
use Rattle.fw_store.specs.declared.header.StoredStatus.TheVariants as stored_status
use Rattle.fw_image.specs.Meter.{Meter, Phase, verifying, status_of, goal_of, goal_bytes, IsGenuine}
use Rattle.fw_image.specs.Step.{OperationOutcome, done, refused, verification_initiated, IsBlock}
use Rattle.fw_image.specs.declared.error.Refusal.{Refusal}
use Rattle.fw_image.specs.declared.status.TransferStatus.TheVariants.{VerificationInitiated, VerificationSuccessful}

-- what a verify came to, by the phase that it left
abbrev pub verify_outcome : {A : Type 0} → Result A Refusal → Phase → OperationOutcome
verify_outcome (Ok a) (verifying goal taken) = verification_initiated
verify_outcome (Ok a) phase = done
verify_outcome (Err refusal) phase = refused refusal

-- a verify that is not refused leaves a goal that is verified, or is being verified
abbrev pub IsVerifiedPhase : Phase → Type 0
IsVerifiedPhase phase = (status_of phase ≡ VerificationSuccessful) ⊎ (status_of phase ≡ VerificationInitiated)

-- how many bytes are digested of a goal that is verified, else 0
abbrev pub digested_of : Phase → ℕ
digested_of (verifying goal taken) = taken
digested_of phase = 0

-- the status of a goal that was judged
abbrev pub judged : Bool → StoredStatus
judged true = stored_status.VerificationSuccessful
judged false = stored_status.VerificationFailed

-- a block of the goal begins there, and has just this length
pub record IsPlace (h : Header) (number : ℕ) (value : List ℕ) (start : ℕ) : Type 0 where
  pub goal : Goal
  pub there : h.goal ≡ Some goal
  pub is_block : IsBlock h.block_size goal.size number value
  pub begins : start ≡ block_start h.block_size number

-- a header with the mark of one more block
abbrev pub with_mark : ℕ → Header → Header
with_mark number h = record h { marks = slice_set h.marks number true }

-- it is the goal, and each of its blocks is marked
pub record IsWholeGoal (h : Header) (goal : Goal) : Type 0 where
  pub there : h.goal ≡ Some goal
  pub marked : (i : ℕ) → i < block_count h.block_size goal.size → has h.marks i ≡ true

-- a block of the goal is not marked
pub record LacksBlock (h : Header) (goal : Goal) : Type 0 where
  pub number : ℕ
  pub below : number < block_count h.block_size goal.size
  pub unmarked : has h.marks number ≡ false

-- the goal's bytes, where it was verified, have the digest of its name
abbrev pub IsVerifiedGenuine : Meter → Type 0
IsVerifiedGenuine m = status_of m.phase ≡ VerificationSuccessful → IsGenuine (goal_of m.phase) (goal_bytes m)

-- how many writes make a header one of version 2
abbrev pub migrating_writes : Header → ℕ
migrating_writes h = if block_limit h.version == max_blocks then 0 else 1

-- all is the same in two meters except their transfers and the bytes that they have
pub record HaveSameFields (a b : Meter) : Type 0 where
  pub block_size : a.block_size ≡ b.block_size
  pub capacity : a.capacity ≡ b.capacity
  pub limit : a.limit ≡ b.limit
  pub enabled : a.enabled ≡ b.enabled
  pub name : a.running.name ≡ b.running.name
