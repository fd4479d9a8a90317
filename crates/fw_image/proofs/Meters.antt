-- What a header and a device show as a meter, and what a write of a header leaves of it.
use Rattle.std.proofs.Common.{◌≡◌, ℕ, ◌<◌, ◌≤◌, Bool, true, false, IsTrue, List, length, take, Some, None, Option, refl, sym, ap, subst, ◌∙◌, arith}
use Rattle.std.specs.Prelude.{is_some, IfSome}
use Rattle.std.proofs.lemmas.List.{length-take-le, length-replicate}
use Rattle.fw_blocks.specs.Cuts.{block_count}
use Rattle.fw_blocks.specs.Members.{has}
use Rattle.fw_blocks.specs.Laws.{CutsJoin}
use Rattle.fw_store.specs.Device.{Device, slot_bytes, with_head}
use Rattle.fw_store.specs.Known.{Known}
use Rattle.fw_store.specs.Slot.{other}
use Rattle.fw_store.specs.Header.{IsHeader, IsGoal, has_goal, goal_count}
use Rattle.fw_store.specs.Versions.{block_limit}
use Rattle.fw_store.specs.declared.slot.Slot.{Slot}
use Rattle.fw_store.specs.declared.slot.Slot.TheVariants.{First, Second}
use Rattle.fw_store.specs.declared.header.Header.{Header}
use Rattle.fw_store.specs.declared.header.Goal.{Goal}
use Rattle.fw_store.specs.declared.header.StoredStatus.{StoredStatus}
use Rattle.fw_store.specs.declared.header.StoredStatus.TheVariants.{NotInitiated, Initiated, VerificationSuccessful, VerificationFailed, ActivationSuccessful}
use Rattle.fw_verify.specs.Progress.{Progress}
use Rattle.fw_image.specs.Status.{shown_status}
use Rattle.fw_image.specs.declared.status.TransferStatus.{TransferStatus}
use Rattle.fw_image.specs.declared.status.TransferStatus.TheVariants as shows
use Rattle.fw_image.specs.Meter.{Meter, Phase, idle, receiving, verifying, verified, spoilt, switched, status_of, goal_of, joined, marks_of, goal_bytes, reopened, reopened_phase}
use Rattle.fw_image.specs.Step.{digested_phase}
use Rattle.fw_image.specs.Shown.{Shown, shown_of}
use Rattle.fw_image.specs.Stored.{phase_of, phase_at, cells_of, blocks_below, meter_of, meter_at, seen, IsVerifying, IsDigested}
use Rattle.fw_image.proofs.Blocks.{marks_again, joined_all, joined_unmarked}

-- ---- the phase gives its goal and its status back

pub goal_again : (status : StoredStatus) (goal : Option Goal) → is_some goal ≡ has_goal status → goal_of (phase_of status goal) ≡ goal
goal_again NotInitiated None e = refl
goal_again NotInitiated (Some goal) e = cc
goal_again Initiated None e = cc
goal_again Initiated (Some goal) e = refl
goal_again VerificationSuccessful None e = cc
goal_again VerificationSuccessful (Some goal) e = refl
goal_again VerificationFailed None e = cc
goal_again VerificationFailed (Some goal) e = refl
goal_again ActivationSuccessful None e = refl
goal_again ActivationSuccessful (Some goal) e = cc

pub status_again : (status : StoredStatus) (goal : Option Goal) → is_some goal ≡ has_goal status → status_of (phase_of status goal) ≡ shown_status status
status_again NotInitiated goal e = refl
status_again Initiated None e = absurd cc
status_again Initiated (Some goal) e = refl
status_again VerificationSuccessful None e = absurd cc
status_again VerificationSuccessful (Some goal) e = refl
status_again VerificationFailed None e = absurd cc
status_again VerificationFailed (Some goal) e = refl
status_again ActivationSuccessful goal e = refl

-- the status that a header keeps
abbrev pub kept_status : TransferStatus → StoredStatus
kept_status shows.NotInitiated = NotInitiated
kept_status shows.Initiated = Initiated
kept_status shows.VerificationInitiated = Initiated
kept_status shows.VerificationSuccessful = VerificationSuccessful
kept_status shows.VerificationFailed = VerificationFailed
kept_status shows.ActivationSuccessful = ActivationSuccessful

kept_again : (status : StoredStatus) → kept_status (shown_status status) ≡ status
kept_again NotInitiated = refl
kept_again Initiated = refl
kept_again VerificationSuccessful = refl
kept_again VerificationFailed = refl
kept_again ActivationSuccessful = refl

pub status_kept : (status : StoredStatus) (goal : Option Goal) (shown : TransferStatus) → is_some goal ≡ has_goal status → status_of (phase_of status goal) ≡ shown → status ≡ kept_status shown
status_kept status goal shown e is = sym (kept_again status) ∙ ap kept_status (sym (status_again status goal e) ∙ is)

-- ---- a goal that is verified

-- the goal is as before
same_goal : (phase : Phase) (taken : ℕ) → goal_of (digested_phase phase taken) ≡ goal_of phase
same_goal idle taken = refl
same_goal (receiving goal) taken = refl
same_goal (verifying goal before) taken = refl
same_goal (verified goal) taken = refl
same_goal (spoilt goal) taken = refl
same_goal switched taken = refl

pub goal_at : (digesting : Option Progress) (phase : Phase) → goal_of (phase_at digesting phase) ≡ goal_of phase
goal_at None phase = refl
goal_at (Some progress) phase = same_goal phase progress.taken

pub phase_received : (h : Header) (goal : Goal) → h.status ≡ Initiated → h.goal ≡ Some goal → phase_of h.status h.goal ≡ receiving goal
phase_received h goal receives there = rw (receives, there) refl

pub phase_verified : (known : Known) (h : Header) (progress : Progress) → (is : IsVerifying known h progress)
    → phase_at (Some progress) (phase_of h.status h.goal) ≡ verifying is.goal progress.taken
phase_verified known h progress is = ap (λ (p : Phase). digested_phase p progress.taken) (phase_received h is.goal is.receives is.there)

-- in no other status anything is digested
pub none_digested : (known : Known) (h : Header) (digesting : Option Progress) → IsDigested known h digesting
    → (shown : TransferStatus) → status_of (phase_at digesting (phase_of h.status h.goal)) ≡ shown → (shows.VerificationInitiated ≡ shown → ⊥) → digesting ≡ None
none_digested known h None is shown status other = refl
none_digested known h (Some progress) is shown status other = absurd (other (sym (ap status_of (phase_verified known h progress is)) ∙ status))

-- no header says that a goal is verified
reopened_kept : (status : StoredStatus) (goal : Option Goal) → reopened_phase (phase_of status goal) ≡ phase_of status goal
reopened_kept NotInitiated goal = refl
reopened_kept Initiated None = refl
reopened_kept Initiated (Some goal) = refl
reopened_kept VerificationSuccessful None = refl
reopened_kept VerificationSuccessful (Some goal) = refl
reopened_kept VerificationFailed None = refl
reopened_kept VerificationFailed (Some goal) = refl
reopened_kept ActivationSuccessful goal = refl

-- once it is opened again, the meter is that of the header
pub reopened_at : (known : Known) (capacity : ℕ) (h : Header) (digesting : Option Progress) (d : Device) → IsDigested known h digesting
    → reopened (meter_at capacity h digesting d) ≡ meter_of capacity h d
reopened_at known capacity h None d is =
    ap (λ (p : Phase). let m : Meter = record (meter_of capacity h d) { phase = p } in m) (reopened_kept h.status h.goal)
reopened_at known capacity h (Some progress) d is =
    ap (λ (p : Phase). let m : Meter = record (meter_of capacity h d) { phase = reopened_phase p } in m) (phase_verified known h progress is)
    ∙ ap (λ (p : Phase). let m : Meter = record (meter_of capacity h d) { phase = p } in m) (sym (phase_received h is.goal is.receives is.there))

-- ---- slots

-- the slots are as before
abbrev pub SameSlots : Device → Device → Type 0
SameSlots d d' = (slot : Slot) → slot_bytes d' slot ≡ slot_bytes d slot

slots_of_headed : (d : Device) (head : List ℕ) (slot : Slot) → slot_bytes (with_head d head) slot ≡ slot_bytes d slot
slots_of_headed d head First = refl
slots_of_headed d head Second = refl

pub headed : (d d' : Device) (head : List ℕ) → d' ≡ with_head d head → SameSlots d d'
headed d d' head e slot = ap (λ (x : Device). slot_bytes x slot) e ∙ slots_of_headed d head slot

-- a header write leaves the slots that are seen
pub seen_headed : (honest : Bool) (capacity : ℕ) (d d' : Device) (head : List ℕ) → (IsTrue honest → d' ≡ with_head d head) → SameSlots (seen honest capacity d) (seen honest capacity d')
seen_headed true capacity d d' head e slot = headed d d' head (e refl) slot
seen_headed false capacity d d' head e slot = refl

pub seen_real : (honest : Bool) (capacity : ℕ) (d : Device) → IsTrue honest → seen honest capacity d ≡ d
seen_real true capacity d b = refl
seen_real false capacity d b = absurd cc

pub seen_same : (honest : Bool) (capacity : ℕ) (d d' : Device) → (IsTrue honest → d' ≡ d) → seen honest capacity d' ≡ seen honest capacity d
seen_same true capacity d d' e = e refl
seen_same false capacity d d' e = refl

-- each slot that is seen has the capacity
pub seen_size : (honest : Bool) (capacity : ℕ) (d : Device) → ((slot : Slot) → IsTrue honest → length (slot_bytes d slot) ≡ capacity) → (slot : Slot) → length (slot_bytes (seen honest capacity d) slot) ≡ capacity
seen_size true capacity d sized slot = sized slot refl
seen_size false capacity d sized First = length-replicate capacity 0
seen_size false capacity d sized Second = length-replicate capacity 0

-- ---- what is shown is known from the header

marks_are : (limit capacity b release : ℕ) (marks : List Bool) (spare : List ℕ) (goal : Option Goal) → length marks ≡ limit → IfSome goal (IsGoal limit capacity b release)
    → marks_of (cells_of b marks spare goal) (goal_count b goal) ≡ take (goal_count b goal) marks
marks_are limit capacity b release marks spare None count is = refl
marks_are limit capacity b release marks spare (Some goal) count is =
    let few : block_count b goal.size ≤ limit = is.most in
    marks_again b marks (take goal.size spare) (block_count b goal.size) (omega arith)

abbrev pub shown_by : ℕ → Header → Shown
shown_by capacity h = record {
  block_size = h.block_size;
  capacity = capacity;
  limit = block_limit h.version;
  enabled = h.enabled;
  phase = phase_of h.status h.goal;
  active = h.running_name;
  active_size = h.running_size;
  marked = take (goal_count h.block_size h.goal) h.marks;
}

pub shown_is : (capacity : ℕ) (h : Header) (d : Device) → IsHeader capacity h → ((slot : Slot) → length (slot_bytes d slot) ≡ capacity) → shown_of (meter_of capacity h d) ≡ shown_by capacity h
shown_is capacity h d is sized =
    let fits : h.running_size ≤ capacity = is.running_size_fits in
    let size : length (slot_bytes d h.running_slot) ≡ capacity = sized h.running_slot in
    let active : length (take h.running_size (slot_bytes d h.running_slot)) ≡ h.running_size = length-take-le h.running_size (slot_bytes d h.running_slot) (omega arith) in
    let spare = slot_bytes d (other h.running_slot) in
    let marked : marks_of (cells_of h.block_size h.marks spare h.goal) (goal_count h.block_size (goal_of (phase_of h.status h.goal))) ≡ take (goal_count h.block_size h.goal) h.marks =
    ap (λ (goal : Option Goal). marks_of (cells_of h.block_size h.marks spare h.goal) (goal_count h.block_size goal)) (goal_again h.status h.goal is.goal_by_status)
    ∙ marks_are (block_limit h.version) capacity h.block_size h.running_name.release h.marks spare h.goal is.fields.marks is.goal in
    λ i. record {
      block_size = h.block_size;
      capacity = capacity;
      limit = block_limit h.version;
      enabled = h.enabled;
      phase = phase_of h.status h.goal;
      active = h.running_name;
      active_size = active i;
      marked = marked i;
    }

-- and so it is while the goal is verified
pub shown_at : (capacity : ℕ) (h : Header) (digesting : Option Progress) (d : Device) → IsHeader capacity h → ((slot : Slot) → length (slot_bytes d slot) ≡ capacity)
    → shown_of (meter_at capacity h digesting d) ≡ record (shown_by capacity h) { phase = phase_at digesting (phase_of h.status h.goal) }
shown_at capacity h digesting d is sized =
    let was = shown_of (meter_at capacity h digesting d) in
    ap (λ (goal : Option Goal). let shown : Shown = record was { marked = marks_of (meter_of capacity h d).cells (goal_count h.block_size goal) } in shown) (goal_at digesting (phase_of h.status h.goal))
    ∙ ap (λ (s : Shown). let shown : Shown = record s { phase = phase_at digesting (phase_of h.status h.goal) } in shown) (shown_is capacity h d is sized)

-- ---- the goal's bytes

bytes_with : (capacity : ℕ) (h : Header) (d : Device) (goal : Goal) → IsHeader capacity h → h.goal ≡ Some goal
    → goal_bytes (meter_of capacity h d)
    ≡ joined (blocks_below h.block_size h.marks (take goal.size (slot_bytes d (other h.running_slot))) (block_count h.block_size goal.size)) (block_count h.block_size goal.size)
bytes_with capacity h d goal is has =
    let spare = slot_bytes d (other h.running_slot) in
    ap (λ (g : Option Goal). joined (cells_of h.block_size h.marks spare h.goal) (goal_count h.block_size g)) (goal_again h.status h.goal is.goal_by_status)
    ∙ ap (λ (g : Option Goal). joined (cells_of h.block_size h.marks spare g) (goal_count h.block_size g)) has

-- if all blocks are marked, they are those that the spare slot begins with
pub whole_bytes : CutsJoin → (capacity : ℕ) (h : Header) (d : Device) (goal : Goal) → IsHeader capacity h → ((slot : Slot) → length (slot_bytes d slot) ≡ capacity) → h.goal ≡ Some goal
    → ((i : ℕ) → i < block_count h.block_size goal.size → has h.marks i ≡ true) → goal_bytes (meter_of capacity h d) ≡ Some (take goal.size (slot_bytes d (other h.running_slot)))
whole_bytes cuts capacity h d goal is sized has complete =
    let spare = slot_bytes d (other h.running_slot) in
    let room : length spare ≡ capacity = sized (other h.running_slot) in
    let goal_is : IsGoal (block_limit h.version) capacity h.block_size h.running_name.release goal = subst (λ (g : Option Goal). IfSome g (IsGoal (block_limit h.version) capacity h.block_size h.running_name.release)) has is.goal in
    let fits : goal.size ≤ capacity = goal_is.fits in
    let size : length (take goal.size spare) ≡ goal.size = length-take-le goal.size spare (omega arith) in
    bytes_with capacity h d goal is has
    ∙ joined_all cuts h.block_size h.marks (take goal.size spare) (block_count h.block_size goal.size) is.block_size_begins (ap (block_count h.block_size) (sym size)) complete

-- if one is not, it is missing
pub missing_bytes : (capacity : ℕ) (h : Header) (d : Device) (goal : Goal) (i : ℕ) → IsHeader capacity h → h.goal ≡ Some goal
    → i < block_count h.block_size goal.size → has h.marks i ≡ false → goal_bytes (meter_of capacity h d) ≡ None
missing_bytes capacity h d goal i is has below unmarked =
    bytes_with capacity h d goal is has
    ∙ joined_unmarked h.block_size h.marks (take goal.size (slot_bytes d (other h.running_slot))) (block_count h.block_size goal.size) i below unmarked
