-- Public vocabulary: the step of a meter on an operation of Image transfer (IEC 62056-6-2, the methods and their effects). Refusals
-- are own; of several that apply the first in the order here is given.
use Rattle.std.specs.Prelude.{◌≡◌, ℕ, ◌+◌, ◌-◌, ◌<◌, ◌≤◌, Bool, true, false, IsTrue, List, length, Option, Some, ◌⊎◌}
use Rattle.std.specs.FinMap.{insert, empty, get}
use Rattle.fw_names.specs.Name.{Name}
use Rattle.fw_blocks.specs.Cuts.{block_start, block_end, block_count}
use Rattle.fw_store.specs.Header.{IsGoal}
use Rattle.fw_verify.specs.Slices.{slice_size}
use Rattle.fw_image.specs.Meter.{Meter, Phase, receiving, verifying, verified, spoilt, switched, goal_of, goal_size, goal_bytes, IsGenuine, reopened}
use Rattle.fw_image.specs.Shown.{shown_of}
use Rattle.fw_image.specs.declared.error.Refusal.{Refusal}
use Rattle.fw_image.specs.declared.error.Refusal.TheVariants.{Disabled, BadInitiate, BadBlock, Missing, Fault, Differs}

pub data Operation : Type 0 where
  enable : Bool → Operation
  initiate : Name → ℕ → Operation
  block : ℕ → List ℕ → Operation
  verify : Operation
  activate : Operation

-- an operation is done, or refused; or a verification is begun, which goes on in turns
pub data OperationOutcome : Type 0 where
  done : OperationOutcome
  refused : Refusal → OperationOutcome
  verification_initiated : OperationOutcome

-- no call of the store failed
abbrev pub is_operation_faultless : OperationOutcome → Bool
is_operation_faultless (refused Fault) = false
is_operation_faultless outcome = true

-- ---- the lines before any call of the store

-- What can be initiated, where an image of this release runs: what a store can have as its goal then. A campaign offers the image, and its
-- release is not below that. Its size is within the limits, and it has no more blocks than the meter has marks for.
abbrev pub IsOffer : ℕ → ℕ → ℕ → ℕ → Name → ℕ → Type 0
IsOffer limit block_size capacity release name size = IsGoal limit capacity block_size release (record { name = name; size = size })

-- a block of an image of `size` bytes: its number, and just its length. Nothing in it says which image it is of, so a late block of
-- another campaign may be one too.
pub record IsBlock (block_size size number : ℕ) (value : List ℕ) : Type 0 where
  pub below : number < block_count block_size size
  pub long : length value ≡ block_end block_size size number - block_start block_size number

-- What a phase admits: an initiate in each, a block and a verify while blocks are received, an activate of a verified image.
abbrev pub Admits : Meter → Phase → Operation → Type 0
Admits m phase (enable b) = Unit {0}
Admits m phase (initiate name size) = IsOffer m.limit m.block_size m.capacity m.running.name.release name size
Admits m (receiving goal) (block i value) = IsBlock m.block_size goal.size i value
Admits m phase (block i value) = ⊥
Admits m (receiving goal) verify = (bytes : List ℕ) × (goal_bytes m ≡ Some bytes)
Admits m phase verify = ⊥
Admits m (verified goal) activate = Unit {0}
Admits m phase activate = ⊥

-- the refusal of an operation that a phase doesn't admit
abbrev pub refusal_in : Phase → Operation → Refusal
refusal_in phase (initiate name size) = BadInitiate
refusal_in (receiving goal) (block i value) = BadBlock
refusal_in phase operation = Missing

-- the first line that refuses an operation: while transfer is disabled, no method is served
abbrev pub Refuses : Meter → Operation → Refusal → Type 0
Refuses m (enable b) r = ⊥
Refuses m operation r =
    ((m.enabled ≡ false) × (r ≡ Disabled))
    ⊎ ((m.enabled ≡ true) × (r ≡ refusal_in m.phase operation) × ¬ Admits m m.phase operation)

-- no line refuses it
abbrev pub Serves : Meter → Operation → Type 0
Serves m (enable b) = Unit {0}
Serves m operation = (m.enabled ≡ true) × Admits m m.phase operation

-- ---- what an operation does that none of them refuses

abbrev pub begun : Meter → Name → ℕ → Meter
begun m name size = record m { phase = receiving (record { name = name; size = size }); cells = empty }

abbrev pub with_cell : Meter → ℕ → List ℕ → Meter
with_cell m i value = record m { cells = insert m.cells i value }

-- `taken` bytes of the goal are digested
abbrev pub digested_phase : Phase → ℕ → Phase
digested_phase (receiving goal) taken = verifying goal taken
digested_phase phase taken = phase

-- the goal is verified
abbrev pub verified_phase : Phase → Phase
verified_phase (receiving goal) = verified goal
verified_phase (verifying goal taken) = verified goal
verified_phase phase = phase

-- the goal's bytes are not its name's
abbrev pub spoilt_phase : Phase → Phase
spoilt_phase (receiving goal) = spoilt goal
spoilt_phase (verifying goal taken) = spoilt goal
spoilt_phase phase = phase

-- the goal's image runs
abbrev pub switched_to : Meter → Phase → Option (List ℕ) → Meter
switched_to m (verified goal) (Some bytes) = record m { phase = switched; cells = empty; running = record { name = goal.name; bytes = bytes } }
switched_to m phase bytes = m

-- The meter afterwards shows what this one does, and is this one if the store is honest.
pub record Leaves (honest : Bool) (this new : Meter) : Type 0 where
  pub shows : shown_of new ≡ shown_of this
  pub is : IsTrue honest → new ≡ this

-- A block write that failed leaves the meter as it was. If the cell of its block was there, that may have any bytes of its length.
abbrev pub Tears : Bool → Meter → ℕ → List ℕ → Meter → Type 0
Tears honest old i value new =
    Leaves honest old new
    ⊎ ((there any : List ℕ) × (get old.cells i ≡ Some there) × (length any ≡ length value) × Leaves honest (with_cell old i any) new)

-- The goal's bytes, as the meter has them, are judged by the digest of the goal's name: they have it, or they have not, as where a late
-- block of another campaign stands among them.
abbrev pub Judges : Bool → Meter → Bool → Meter → Type 0
Judges honest old true new =
    Leaves honest (record old { phase = verified_phase old.phase }) new × (IsTrue honest → IsGenuine (goal_of old.phase) (goal_bytes old))
Judges honest old false new =
    Leaves honest (record old { phase = spoilt_phase old.phase }) new × (IsTrue honest → ¬ IsGenuine (goal_of old.phase) (goal_bytes old))

-- A verify judges a goal that one slice has whole. Of a larger one it digests a slice.
abbrev pub Does : Bool → Meter → Operation → OperationOutcome → Meter → Type 0
Does honest old (enable b) done new = Leaves honest (record old { enabled = b }) new
Does honest old (initiate name size) done new = Leaves honest (begun old name size) new
Does honest old (block i value) done new = Leaves honest (with_cell old i value) new
Does honest old verify done new = (goal_size (goal_of old.phase) ≤ slice_size) × Judges honest old true new
Does honest old verify (refused Differs) new = (goal_size (goal_of old.phase) ≤ slice_size) × Judges honest old false new
Does honest old verify verification_initiated new =
    (slice_size < goal_size (goal_of old.phase)) × Leaves honest (record old { phase = digested_phase old.phase slice_size }) new
Does honest old activate done new = Leaves honest (switched_to old old.phase (goal_bytes old)) new
Does honest old (block i value) (refused Fault) new = Tears honest old i value new
Does honest old operation (refused Fault) new = Leaves honest old new
Does honest old operation outcome new = ⊥

-- ---- the step

-- a line refuses the operation, and the meter is as it was
pub record IsRefused (honest : Bool) (old : Meter) (operation : Operation) (outcome : OperationOutcome) (new : Meter) : Type 0 where
  pub refusal : Refusal
  pub line : Refuses old operation refusal
  pub told : outcome ≡ refused refusal
  pub same : Leaves honest old new

-- no line refuses it
pub record IsServed (honest : Bool) (old : Meter) (operation : Operation) (outcome : OperationOutcome) (new : Meter) : Type 0 where
  pub serves : Serves old operation
  pub does : Does honest old operation outcome new

-- From old, a meter over a store that is honest or not has this outcome of an operation, and becomes new.
abbrev pub Step : Bool → Meter → Operation → OperationOutcome → Meter → Type 0
Step honest old operation outcome new = IsRefused honest old operation outcome new ⊎ IsServed honest old operation outcome new

-- ---- the turn

-- While a goal is verified, a turn digests a slice more of it, and with the last one judges it. A turn in which a call of the store failed
-- gives the verification up. In every other phase a turn changes nothing.
abbrev pub TurnsIn : Phase → Bool → Meter → Bool → Meter → Type 0
TurnsIn (verifying goal taken) honest old true new =
    ((taken + slice_size < goal.size) × Leaves honest (record old { phase = verifying goal (taken + slice_size) }) new)
    ⊎ ((goal.size ≤ taken + slice_size) × (Judges honest old true new ⊎ Judges honest old false new))
TurnsIn (verifying goal taken) honest old false new = Leaves honest (reopened old) new
TurnsIn phase honest old true new = new ≡ old
TurnsIn phase honest old false new = ⊥

-- From old, a meter over a store that is honest or not takes a turn and becomes new. In it no call of the store failed, or one did.
abbrev pub Turn : Bool → Meter → Bool → Meter → Type 0
Turn honest old faultless new = TurnsIn old.phase honest old faultless new
