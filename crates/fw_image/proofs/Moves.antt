-- Writes of a header are the steps of a meter.
use Rattle.std.proofs.Common.{◌≡◌, ℕ, ◌<◌, Bool, true, false, IsTrue, List, length, take, Some, None, Option, refl, sym, ap, subst, ◌∙◌, arith, ◌⊎◌, inl, inr}
use Rattle.fw_blocks.specs.Cuts.{block_count}
use Rattle.fw_blocks.specs.Members.{has}
use Rattle.fw_blocks.specs.Laws.{CutsJoin}
use Rattle.sha2.specs.Sha256.{sha256}
use Rattle.std.specs.Prelude.{IfSome, Result, Ok, Err, IsErrAnd}
use Rattle.fw_names.specs.Name.{Name}
use Rattle.fw_store.specs.Device.{Device, slot_bytes, with_head}
use Rattle.fw_store.specs.Faults.{Keeps, count_after, Spends}
use Rattle.fw_store.specs.declared.fuse.Fuse.{Fuse}
use Rattle.fw_store.specs.Slot.{other}
use Rattle.fw_store.specs.Layout.{header_bytes}
use Rattle.fw_store.specs.Header.{IsHeader, IsGoal, FieldsFit, goal_count, is_verified}
use Rattle.fw_store.specs.Versions.{block_limit}
use Rattle.fw_store.specs.declared.slot.Slot.{Slot}
use Rattle.fw_store.specs.Known.{Known}
use Rattle.fw_store.specs.declared.header.Header.{Header}
use Rattle.fw_store.specs.declared.header.Goal.{Goal}
use Rattle.fw_store.specs.declared.header.StoredStatus.TheVariants as kept
use Rattle.fw_image.specs.declared.status.TransferStatus.TheVariants.{Initiated, VerificationSuccessful}
use Rattle.fw_image.specs.Meter.{Meter, Phase, IsTrusted, status_of, goal_of, goal_bytes, IsGenuine, idle, receiving, verifying, verified, spoilt, switched}
use Rattle.fw_image.specs.Shown.{shown_of}
use Rattle.fw_image.specs.Step.{Operation, OperationOutcome, refused, Refuses, Serves, Does, Leaves, begun, switched_to, Admits, refusal_in, is_operation_faultless, enable, initiate, block, verify, activate}
use Rattle.fw_image.specs.declared.error.Refusal.{Refusal}
use Rattle.fw_image.specs.declared.error.Refusal.TheVariants.{Disabled, Fault}
use Rattle.fw_image.specs.State.{Makes, outcome_of}
use Rattle.fw_image.specs.Calls.{calls_for, left_by_fault}
use Rattle.fw_verify.specs.Progress.{Progress, IsDigesting}
use Rattle.fw_image.specs.Stored.{phase_of, meter_of, meter_at, seen, state_of, IsHeld, IsDigested, IsHolding}
use Rattle.fw_image.proofs.Blocks.{blocks_none}
use Rattle.fw_image.proofs.Meters.{SameSlots, headed, seen_headed, seen_size, seen_real, seen_same, whole_bytes, goal_again, status_kept}

pub leaves : (honest : Bool) (this new : Meter) → new ≡ this → Leaves honest this new
leaves honest this new e = record { shows = ap shown_of e; is = λ _. e }

-- what is seen of a store before and after a write of its header
pub record Rewrites (honest : Bool) (capacity : ℕ) (device d d' : Device) : Type 0 where
  pub sized : (slot : Slot) → length (slot_bytes d slot) ≡ capacity
  pub same : SameSlots d d'
  pub real : IsTrue honest → d ≡ device

pub keeps_twice : (a b c : Known) → Keeps a b → Keeps b c → Keeps a c
keeps_twice a b c k l = record { honesty = l.honesty ∙ k.honesty; soundness = λ s. l.soundness (k.soundness s); size = l.size ∙ k.size; later = omega (arith, k.later, l.later) }

-- what the exit of a `?` says
pub fault_told : {T : Type 0} (r : Result T Refusal) → IsErrAnd r (λ e. e ≡ Fault) → outcome_of r ≡ refused Fault
fault_told (Ok x) h = absurd h
fault_told (Err e) h = ap refused h

-- what is served no line refuses
method_only : (m : Meter) (operation : Operation) (r : Refusal) → m.enabled ≡ true → Admits m m.phase operation
    → ((m.enabled ≡ false) × (r ≡ Disabled)) ⊎ ((m.enabled ≡ true) × (r ≡ refusal_in m.phase operation) × ¬ Admits m m.phase operation) → ⊥
method_only m operation r on admits (inl line) = let bad : true ≡ false = sym on ∙ line.0 in cc
method_only m operation r on admits (inr line) = line.2 admits

pub served_only : (m : Meter) (operation : Operation) → Serves m operation → (r : Refusal) → Refuses m operation r → ⊥
served_only m (enable b) serves r line = line
served_only m (initiate name size) serves r line = method_only m (initiate name size) r serves.0 serves.1 line
served_only m (block i value) serves r line = method_only m (block i value) r serves.0 serves.1 line
served_only m verify serves r line = method_only m verify r serves.0 serves.1 line
served_only m activate serves r line = method_only m activate r serves.0 serves.1 line

-- ---- operations

-- what is seen of a store
abbrev pub seen_of : Known → Device
seen_of s = seen s.honest s.capacity s.device

-- the meter of a store and its header
abbrev pub meter_in : Known → Header → Option Progress → Meter
meter_in s h digesting = meter_at s.capacity h digesting (seen_of s)

-- what is left if the store is honest, its fuse is known, and one of its calls failed
abbrev IsLeft : Known → Meter → Operation → OperationOutcome → Meter → Type 0
IsLeft s m operation outcome m' =
    IsTrue s.honest → (set : Fuse) → s.fuse ≡ Some set → is_operation_faultless outcome ≡ false → m' ≡ left_by_fault set.torn m operation

-- an operation that a line refuses
pub makes_refused : (s : Known) (h : Header) (digesting : Option Progress) (operation : Operation) (r : Refusal) → IsTrue (is_operation_faultless (refused r))
    → Refuses (meter_in s h digesting) operation r → Makes (state_of s h digesting) operation (refused r) (state_of s h digesting)
makes_refused s h digesting operation r faultless line = record {
  step = inl (record { refusal = r; line = line; told = refl; same = record { shows = refl; is = λ _. refl } });
  untouched = λ _ _. refl;
  follows = record { honesty = refl; soundness = λ e. e; later = omega arith };
  counts = record { counted = ap (λ (ok : Bool). count_after ok s.faults) (sym faultless); never = λ _. faultless };
  spends = λ serves. absurd (served_only (meter_in s h digesting) operation serves r line);
  left = λ honest set is failed. let bad : true ≡ false = sym faultless ∙ failed in absurd cc;
}

-- an operation that is served
pub makes_served : (s s' : Known) (h h' : Header) (digesting digesting' : Option Progress) (operation : Operation) (outcome : OperationOutcome)
    → Keeps s s' → s'.faults ≡ count_after (is_operation_faultless outcome) s.faults → (IsTrue s.sound → IsTrue (is_operation_faultless outcome))
    → Spends (calls_for (meter_in s h digesting) operation) s.fuse s'.fuse (is_operation_faultless outcome)
    → Serves (meter_in s h digesting) operation
    → Does s.honest (meter_in s h digesting) operation outcome (meter_at s.capacity h' digesting' (seen s.honest s.capacity s'.device))
    → IsLeft s (meter_in s h digesting) operation outcome (meter_at s.capacity h' digesting' (seen s.honest s.capacity s'.device))
    → Makes (state_of s h digesting) operation outcome (state_of s' h' digesting')
makes_served s s' h h' digesting digesting' operation outcome kept counted never spends serves does left = record {
  step = inr (record { serves = serves; does = rw (kept.honesty, kept.size) does });
  untouched = λ r line. absurd (served_only (meter_in s h digesting) operation serves r line);
  follows = record { honesty = kept.honesty; soundness = kept.soundness; later = kept.later };
  counts = record { counted = counted; never = never };
  spends = λ _. spends;
  left = λ honest set is failed. rw (kept.honesty, kept.size) (left honest set is failed);
}

-- one of which no call failed leaves nothing by a fault
pub no_fault : (s : Known) (m : Meter) (operation : Operation) (outcome : OperationOutcome) (m' : Meter) → IsTrue (is_operation_faultless outcome) → IsLeft s m operation outcome m'
no_fault s m operation outcome m' faultless honest set is failed = let bad : true ≡ false = sym faultless ∙ failed in absurd cc

-- one whose store call failed and left the device as it was
pub makes_failed : (s s' : Known) (h : Header) (digesting : Option Progress) (operation : Operation)
    → Keeps s s' → (IsTrue s.honest → s'.device ≡ s.device) → s'.faults ≡ count_after false s.faults → (IsTrue s.sound → IsTrue false)
    → Spends (calls_for (meter_in s h digesting) operation) s.fuse s'.fuse false
    → Serves (meter_in s h digesting) operation
    → ((m m' : Meter) → Leaves s.honest m m' → Does s.honest m operation (refused Fault) m')
    → ((torn : ℕ) (m : Meter) → left_by_fault torn m operation ≡ m)
    → Makes (state_of s h digesting) operation (refused Fault) (state_of s' h digesting)
makes_failed s s' h digesting operation kept same counted never spends serves does stays =
    let e : seen s.honest s.capacity s'.device ≡ seen_of s = seen_same s.honest s.capacity s.device s'.device same in
    makes_served s s' h h digesting digesting operation (refused Fault) kept counted never spends serves
    (does (meter_in s h digesting) _ (leaves s.honest (meter_in s h digesting) _ (ap (meter_at s.capacity h digesting) e)))
    (λ honest set is failed. ap (meter_at s.capacity h digesting) e ∙ sym (stays set.torn (meter_in s h digesting)))

-- what is seen before and after a write of the header
pub rewrites : (s s' : Known) (bytes : List ℕ) → ((slot : Slot) → IsTrue s.honest → length (slot_bytes s.device slot) ≡ s.capacity)
    → (IsTrue s.honest → s'.device ≡ with_head s.device bytes) → Rewrites s.honest s.capacity s.device (seen_of s) (seen s.honest s.capacity s'.device)
rewrites s s' bytes sized written = record {
  sized = seen_size s.honest s.capacity s.device sized;
  same = seen_headed s.honest s.capacity s.device s'.device bytes written;
  real = seen_real s.honest s.capacity s.device;
}

-- one that writes the header, once
pub makes_written : (s s' : Known) (h h' : Header) (digesting digesting' : Option Progress) (operation : Operation) (outcome : OperationOutcome) → IsTrue (is_operation_faultless outcome)
    → ((slot : Slot) → IsTrue s.honest → length (slot_bytes s.device slot) ≡ s.capacity)
    → Keeps s s' → s'.faults ≡ s.faults → (IsTrue s.honest → s'.device ≡ with_head s.device (header_bytes h'))
    → Spends (calls_for (meter_in s h digesting) operation) s.fuse s'.fuse true
    → Serves (meter_in s h digesting) operation
    → ((d d' : Device) → Rewrites s.honest s.capacity s.device d d' → Does s.honest (meter_at s.capacity h digesting d) operation outcome (meter_at s.capacity h' digesting' d'))
    → Makes (state_of s h digesting) operation outcome (state_of s' h' digesting')
makes_written s s' h h' digesting digesting' operation outcome faultless sized kept uncounted written spends serves does =
    makes_served s s' h h' digesting digesting' operation outcome kept (uncounted ∙ ap (λ (ok : Bool). count_after ok s.faults) (sym faultless)) (λ _. faultless)
    (subst (λ (ok : Bool). Spends (calls_for (meter_in s h digesting) operation) s.fuse s'.fuse ok) (sym faultless) spends) serves
    (does (seen_of s) (seen s.honest s.capacity s'.device) (rewrites s s' (header_bytes h') sized written))
    (no_fault s (meter_in s h digesting) operation outcome _ faultless)

-- ---- what is held

-- the header that was written stands in the store
pub held_written : (s s' : Known) (h h' : Header)
    → ((slot : Slot) → IsTrue s.honest → length (slot_bytes s.device slot) ≡ s.capacity)
    → Keeps s s' → (IsTrue s.honest → s'.device ≡ with_head s.device (header_bytes h'))
    → IsHeld s h → IsHeader s.capacity h'
    → ((d d' : Device) → Rewrites s.honest s.capacity s.device d d' → IsTrue s.honest → IsTrusted (meter_of s.capacity h d) → IsTrusted (meter_of s.capacity h' d'))
    → IsHeld s' h'
held_written s s' h h' sized kept written held valid trusted =
    let still : IsTrue s'.honest → IsTrue s.honest = λ b. sym kept.honesty ∙ b in
    let views : IsTrue s.honest → Rewrites s.honest s.capacity s.device s.device s'.device =
    λ b. record { sized = λ slot. sized slot b; same = headed s.device s'.device (header_bytes h') (written b); real = λ _. refl } in
    record {
      valid = rw kept.size valid;
      stored = λ b. sym (ap (λ (d : Device). d.head) (written (still b)));
      trusted = λ b. rw kept.size (trusted s.device s'.device (views (still b)) (still b) (held.trusted (still b)));
    }

-- and what is digested stays so, as only whether transfer is enabled may be another
pub digested_still : (s s' : Known) (h : Header) (enabled : Bool) (digesting : Option Progress) → s'.honest ≡ s.honest → (IsTrue s.honest → SameSlots s.device s'.device)
    → IsDigested s h digesting → IsDigested s' (record h { enabled = enabled }) digesting
digested_still s s' h enabled None honesty same is = tt
digested_still s s' h enabled (Some progress) honesty same is = record {
  goal = is.goal;
  receives = is.receives;
  there = is.there;
  marked = is.marked;
  slot = is.slot;
  size = is.size;
  begun = is.begun;
  more = is.more;
  digests = λ b. let honest : IsTrue s.honest = sym honesty ∙ b in subst (IsDigesting progress) (sym (same honest progress.slot)) (is.digests honest);
}

-- a store whose device is as it was
pub held_still : (s s' : Known) (h : Header) → Keeps s s' → (IsTrue s.honest → s'.device ≡ s.device)
    → IsHeld s h → IsHeld s' h
held_still s s' h kept same is =
    let still : IsTrue s'.honest → IsTrue s.honest = λ b. sym kept.honesty ∙ b in
    record {
      valid = rw kept.size is.valid;
      stored = λ b. is.stored (still b) ∙ sym (ap (λ (d : Device). d.head) (same (still b)));
      trusted = λ b. rw (kept.size, same (still b)) (is.trusted (still b));
    }

pub holding_still : (s s' : Known) (h : Header) (digesting : Option Progress) → Keeps s s' → (IsTrue s.honest → s'.device ≡ s.device)
    → IsHolding s h digesting → IsHolding s' h digesting
holding_still s s' h digesting kept same is = record {
  held = held_still s s' h kept same is.held;
  digested = digested_still s s' h h.enabled digesting kept.honesty (λ b slot. ap (λ (d : Device). slot_bytes d slot) (same b)) is.digested;
}

-- ---- enable

pub meter_at-enabled : (capacity : ℕ) (h : Header) (digesting : Option Progress) (d d' : Device) (enabled : Bool) → SameSlots d d'
    → meter_at capacity (record h { enabled = enabled }) digesting d' ≡ record (meter_at capacity h digesting d) { enabled = enabled }
meter_at-enabled capacity h digesting d d' enabled same = rw (same (other h.running_slot), same h.running_slot) refl

pub trusted_enabled : (m : Meter) (enabled : Bool) → IsTrusted m → IsTrusted (record m { enabled = enabled })
trusted_enabled m enabled is = record { running = is.running; verified = is.verified }

pub valid_enabled : (capacity : ℕ) (h : Header) (enabled : Bool) → IsHeader capacity h → FieldsFit (record h { enabled = enabled }) → IsHeader capacity (record h { enabled = enabled })
valid_enabled capacity h enabled is fits = record {
  fields = fits;
  block_size_begins = is.block_size_begins;
  block_size_ends = is.block_size_ends;
  running_size_begins = is.running_size_begins;
  running_size_fits = is.running_size_fits;
  goal_by_status = is.goal_by_status;
  goal = is.goal;
  unmarked = is.unmarked;
  marked = is.marked;
}

-- ---- initiate

abbrev pub header_begun : Header → Name → ℕ → List Bool → Header
header_begun h name size marks = record h { status = kept.Initiated; goal = Some (record { name = name; size = size }); marks = marks }

pub meter_of-begun : (capacity : ℕ) (h : Header) (d d' : Device) (name : Name) (size : ℕ) (marks : List Bool) → ((i : ℕ) → has marks i ≡ false) → SameSlots d d'
    → meter_of capacity (header_begun h name size marks) d' ≡ begun (meter_of capacity h d) name size
meter_of-begun capacity h d d' name size marks none same =
    let none' = blocks_none h.block_size marks (take size (slot_bytes d' (other h.running_slot))) none (block_count h.block_size size) in
    rw (none', same h.running_slot) refl

pub trusted_begun : (m : Meter) (name : Name) (size : ℕ) → IsTrusted m → IsTrusted (begun m name size)
trusted_begun m name size is = record { running = is.running; verified = λ e. absurd cc }

pub valid_begun : (capacity : ℕ) (h : Header) (name : Name) (size : ℕ) (marks : List Bool) → ((i : ℕ) → has marks i ≡ false)
    → IsHeader capacity h → FieldsFit (header_begun h name size marks) → IsGoal (block_limit h.version) capacity h.block_size h.running_name.release (record { name = name; size = size }) → IsHeader capacity (header_begun h name size marks)
valid_begun capacity h name size marks none is fits goal_is = record {
  fields = fits;
  block_size_begins = is.block_size_begins;
  block_size_ends = is.block_size_ends;
  running_size_begins = is.running_size_begins;
  running_size_fits = is.running_size_fits;
  goal_by_status = refl;
  goal = goal_is;
  unmarked = λ i _. none i;
  marked = λ t. absurd cc;
}

-- ---- activate

phase_of_verified : (p : Phase) (goal : Goal) → status_of p ≡ VerificationSuccessful → goal_of p ≡ Some goal → p ≡ verified goal
phase_of_verified idle goal status has = absurd cc
phase_of_verified (receiving g) goal status has = absurd cc
phase_of_verified (verifying g taken) goal status has = absurd cc
phase_of_verified (verified g) goal status has = cc
phase_of_verified (spoilt g) goal status has = absurd cc
phase_of_verified switched goal status has = absurd cc

phase_receiving : (p : Phase) (goal : Goal) → status_of p ≡ Initiated → goal_of p ≡ Some goal → p ≡ receiving goal
phase_receiving idle goal status has = absurd cc
phase_receiving (receiving g) goal status has = cc
phase_receiving (verifying g taken) goal status has = absurd cc
phase_receiving (verified g) goal status has = absurd cc
phase_receiving (spoilt g) goal status has = absurd cc
phase_receiving switched goal status has = absurd cc

pub has_verified : (capacity : ℕ) (h : Header) (goal : Goal) → IsHeader capacity h → status_of (phase_of h.status h.goal) ≡ VerificationSuccessful → h.goal ≡ Some goal → phase_of h.status h.goal ≡ verified goal
has_verified capacity h goal is status has = phase_of_verified (phase_of h.status h.goal) goal status (goal_again h.status h.goal is.goal_by_status ∙ has)

pub is_receiving : (capacity : ℕ) (h : Header) (goal : Goal) → IsHeader capacity h → status_of (phase_of h.status h.goal) ≡ Initiated → h.goal ≡ Some goal → phase_of h.status h.goal ≡ receiving goal
is_receiving capacity h goal is status has = phase_receiving (phase_of h.status h.goal) goal status (goal_again h.status h.goal is.goal_by_status ∙ has)

-- all blocks of a verified goal are marked
complete : (capacity : ℕ) (h : Header) (goal : Goal) → IsHeader capacity h → status_of (phase_of h.status h.goal) ≡ VerificationSuccessful → h.goal ≡ Some goal
    → (i : ℕ) → i < block_count h.block_size goal.size → has h.marks i ≡ true
complete capacity h goal is status there i below =
    let e : h.status ≡ kept.VerificationSuccessful = status_kept h.status h.goal VerificationSuccessful is.goal_by_status status in
    let verified : IsTrue (is_verified h.status) = ap is_verified e in
    let count : goal_count h.block_size h.goal ≡ block_count h.block_size goal.size = ap (goal_count h.block_size) there in
    is.marked verified i (omega (arith, count))

pub verified_bytes : CutsJoin → (capacity : ℕ) (h : Header) (d : Device) (goal : Goal) → IsHeader capacity h → ((slot : Slot) → length (slot_bytes d slot) ≡ capacity)
    → status_of (phase_of h.status h.goal) ≡ VerificationSuccessful → h.goal ≡ Some goal → goal_bytes (meter_of capacity h d) ≡ Some (take goal.size (slot_bytes d (other h.running_slot)))
verified_bytes cuts capacity h d goal is sized status there = whole_bytes cuts capacity h d goal is sized there (complete capacity h goal is status there)

abbrev pub header_switched : Header → Slot → Goal → List Bool → Header
header_switched h slot goal marks =
    record h { running_slot = slot; status = kept.ActivationSuccessful; running_size = goal.size; running_name = goal.name; goal = None; marks = marks }

switched_with : (m : Meter) (goal : Goal) (bytes : List ℕ) (p : Phase) (o : Option (List ℕ)) → p ≡ verified goal → o ≡ Some bytes → switched_to m p o ≡ switched_to m (verified goal) (Some bytes)
switched_with m goal bytes p o e f i = switched_to m (e i) (f i)

pub meter_of-switched : (capacity : ℕ) (h : Header) (d d' : Device) (slot : Slot) (goal : Goal) (marks : List Bool) → slot ≡ other h.running_slot → SameSlots d d' → phase_of h.status h.goal ≡ verified goal
    → goal_bytes (meter_of capacity h d) ≡ Some (take goal.size (slot_bytes d (other h.running_slot)))
    → meter_of capacity (header_switched h slot goal marks) d' ≡ switched_to (meter_of capacity h d) (phase_of h.status h.goal) (goal_bytes (meter_of capacity h d))
meter_of-switched capacity h d d' slot goal marks turned same phase whole =
    let m = meter_of capacity h d in
    let spare = slot_bytes d (other h.running_slot) in
    let became : meter_of capacity (header_switched h slot goal marks) d' ≡ switched_to m (verified goal) (Some (take goal.size spare)) = rw (turned, same (other h.running_slot)) refl in
    became ∙ sym (switched_with m goal (take goal.size spare) (phase_of h.status h.goal) (goal_bytes m) phase whole)

pub genuine_with : (goal : Goal) (bytes : List ℕ) (g : Option Goal) (o : Option (List ℕ)) → g ≡ Some goal → o ≡ Some bytes → IsGenuine g o → sha256 bytes ≡ goal.name.digest
genuine_with goal bytes g o e f is = let P : IsGenuine (Some goal) (Some bytes) = rw (e, f) at is in P

pub genuine_from : (goal : Goal) (bytes : List ℕ) (g : Option Goal) (o : Option (List ℕ)) → g ≡ Some goal → o ≡ Some bytes → sha256 bytes ≡ goal.name.digest → IsGenuine g o
genuine_from goal bytes g o e f is = rw (e, f) is

pub trusted_switched : (m : Meter) (goal : Goal) (bytes : List ℕ) → m.phase ≡ verified goal → goal_bytes m ≡ Some bytes → IsTrusted m → IsTrusted (switched_to m m.phase (goal_bytes m))
trusted_switched m goal bytes phase whole is =
    let digest : sha256 bytes ≡ goal.name.digest = genuine_with goal bytes (goal_of m.phase) (goal_bytes m) (ap goal_of phase) whole (is.verified (ap status_of phase)) in
    let next : IsTrusted (switched_to m (verified goal) (Some bytes)) = record { running = digest; verified = λ e. absurd cc } in
    subst IsTrusted (sym (switched_with m goal bytes m.phase (goal_bytes m) phase whole)) next

pub valid_switched : (capacity : ℕ) (h : Header) (slot : Slot) (goal : Goal) (marks : List Bool) → ((i : ℕ) → has marks i ≡ false) → h.goal ≡ Some goal
    → IsHeader capacity h → FieldsFit (header_switched h slot goal marks) → IsHeader capacity (header_switched h slot goal marks)
valid_switched capacity h slot goal marks none there is fits =
    let goal_is : IsGoal (block_limit h.version) capacity h.block_size h.running_name.release goal = subst (λ (g : Option Goal). IfSome g (IsGoal (block_limit h.version) capacity h.block_size h.running_name.release)) there is.goal in
    record {
      fields = fits;
      block_size_begins = is.block_size_begins;
      block_size_ends = is.block_size_ends;
      running_size_begins = goal_is.limits.begins;
      running_size_fits = goal_is.fits;
      goal_by_status = refl;
      goal = tt;
      unmarked = λ i _. none i;
      marked = λ t. absurd cc;
    }

-- ---- several calls

-- a header write after a call that left the device as it was
pub written_after : (s s1 s2 : Known) (bytes : List ℕ) → s1.honest ≡ s.honest → (IsTrue s.honest → s1.device ≡ s.device)
    → (IsTrue s1.honest → s2.device ≡ with_head s1.device bytes) → IsTrue s.honest → s2.device ≡ with_head s.device bytes
written_after s s1 s2 bytes honesty same written b = written (honesty ∙ b) ∙ ap (λ (d : Device). with_head d bytes) (same b)

-- what a call counts after one that counted nothing
pub counted_after : (ok : Bool) (before between after : ℕ) → between ≡ before → after ≡ count_after ok between → after ≡ count_after ok before
counted_after ok before between after none counted = counted ∙ ap (count_after ok) none
