-- Slices of a goal, and the judgement after the last, are the steps and the turns of a meter.
use Rattle.std.proofs.Common.{◌≡◌, ◌≢◌, ℕ, ◌+◌, ◌-◌, ◌<◌, ◌≤◌, min, nat_lt, nat_le, Bool, true, false, IsTrue, List, length, Some, None, Option, cond, if◌then◌else◌, ◌↔◌, refl, sym, ap, subst, ◌∙◌, arith, ◌⊎◌, inl, inr}
use Rattle.std.specs.Prelude.{is_some, IfSome, Result, Ok, Err, IsErrAnd}
use Rattle.std.proofs.lemmas.Bool.Decides.{nat_tests}
use Rattle.sha2.specs.Sha256.{sha256}
use Rattle.fw_blocks.specs.Cuts.{block_count}
use Rattle.fw_blocks.specs.Members.{has}
use Rattle.fw_store.specs.Device.{Device, slot_bytes, with_head}
use Rattle.fw_store.specs.Faults.{Keeps, count_after, Spends}
use Rattle.fw_store.specs.declared.fuse.Fuse.{Fuse}
use Rattle.fw_store.specs.Slot.{other}
use Rattle.fw_store.specs.Layout.{header_bytes}
use Rattle.fw_store.specs.Header.{IsHeader, IsGoal, FieldsFit, goal_count, has_goal}
use Rattle.fw_store.specs.Versions.{block_limit}
use Rattle.fw_store.specs.declared.slot.Slot.{Slot}
use Rattle.fw_store.specs.Known.{Known}
use Rattle.fw_store.specs.declared.header.Header.{Header}
use Rattle.fw_store.specs.declared.header.Goal.{Goal}
use Rattle.fw_store.specs.declared.header.StoredStatus.{StoredStatus}
use Rattle.fw_store.specs.declared.header.StoredStatus.TheVariants as kept
use Rattle.fw_verify.specs.Progress.{Progress, reads_left}
use Rattle.fw_verify.specs.Slices.{slice_size}
use Rattle.fw_image.specs.declared.status.TransferStatus.TheVariants.{Initiated}
use Rattle.fw_image.specs.Meter.{Meter, Phase, IsTrusted, status_of, goal_of, goal_size, joined, goal_bytes, receiving, verifying, verified, spoilt, reopened}
use Rattle.fw_image.specs.Step.{done, refused, verification_initiated, Refuses, Serves, Does, Judges, TurnsIn, digested_phase, verified_phase, spoilt_phase, Admits, is_operation_faultless, verify}
use Rattle.fw_image.specs.declared.error.Refusal.{Refusal}
use Rattle.fw_image.specs.declared.error.Refusal.TheVariants.{Missing, Fault, Differs}
use Rattle.fw_image.specs.State.{Turns}
use Rattle.fw_image.specs.Calls.{calls_for, turn_calls}
use Rattle.fw_image.specs.Moves.{judged, verify_outcome}
use Rattle.fw_image.specs.Stored.{phase_of, phase_at, meter_of, meter_at, seen, IsVerifying, state_of}
use Rattle.fw_image.proofs.Meters.{SameSlots, seen_same, status_kept, goal_at, phase_received, phase_verified, reopened_at}
use Rattle.fw_image.proofs.Moves.{leaves, genuine_with, genuine_from, seen_of, meter_in, Rewrites, rewrites}

-- ---- a goal that is received

pub goal_there : (capacity : ℕ) (h : Header) → IsHeader capacity h → status_of (phase_of h.status h.goal) ≡ Initiated → (goal : Goal) × (h.goal ≡ Some goal)
goal_there capacity h is status = find h.goal refl
  where
    find : (g : Option Goal) → h.goal ≡ g → (goal : Goal) × (h.goal ≡ Some goal)
    find (Some goal) e = (goal, e)
    find None e =
        let none : is_some h.goal ≡ false = ap is_some e in
        let some : has_goal h.status ≡ true = ap has_goal (status_kept h.status h.goal Initiated is.goal_by_status status) in
        let both : false ≡ true = sym none ∙ is.goal_by_status ∙ some in
        absurd cc

pub some_bytes : (capacity : ℕ) (h : Header) (goal : Goal) → IsHeader capacity h → h.goal ≡ Some goal → 1 ≤ goal.size
some_bytes capacity h goal is there =
    let goal_is : IsGoal (block_limit h.version) capacity h.block_size h.running_name.release goal = subst (λ (g : Option Goal). IfSome g (IsGoal (block_limit h.version) capacity h.block_size h.running_name.release)) there is.goal in
    goal_is.limits.begins

-- it is received, or verified
abbrev pub IsOpen : Phase → Goal → Type 0
IsOpen p goal = (p ≡ receiving goal) ⊎ ((taken : ℕ) × (p ≡ verifying goal taken))

verified_is : (p : Phase) (goal : Goal) → IsOpen p goal → verified_phase p ≡ verified goal
verified_is p goal (inl e) = ap verified_phase e
verified_is p goal (inr (taken, e)) = ap verified_phase e

spoilt_is : (p : Phase) (goal : Goal) → IsOpen p goal → spoilt_phase p ≡ spoilt goal
spoilt_is p goal (inl e) = ap spoilt_phase e
spoilt_is p goal (inr (taken, e)) = ap spoilt_phase e

goal_is : (p : Phase) (goal : Goal) → IsOpen p goal → goal_of p ≡ Some goal
goal_is p goal (inl e) = ap goal_of e
goal_is p goal (inr (taken, e)) = ap goal_of e

-- ---- the header after a judgement

pub meter_of-judged : (capacity : ℕ) (h : Header) (d d' : Device) (status : StoredStatus) → SameSlots d d'
    → meter_of capacity (record h { status = status }) d' ≡ record (meter_of capacity h d) { phase = phase_of status h.goal }
meter_of-judged capacity h d d' status same = rw (same (other h.running_slot), same h.running_slot) refl

-- the phase of the goal with its new status
meter_judged : (capacity : ℕ) (h : Header) (digesting : Option Progress) (d d' : Device) (status : StoredStatus) (goal : Goal) (next : Phase) → SameSlots d d' → h.goal ≡ Some goal
    → phase_of status (Some goal) ≡ next → meter_of capacity (record h { status = status }) d' ≡ record (meter_at capacity h digesting d) { phase = next }
meter_judged capacity h digesting d d' status goal next same there e =
    meter_of-judged capacity h d d' status same
    ∙ ap (λ (p : Phase). let m : Meter = record (meter_of capacity h d) { phase = p } in m) (ap (phase_of status) there ∙ e)

-- the goal's bytes are those of the header
whole_at : (capacity : ℕ) (h : Header) (digesting : Option Progress) (d : Device) (bytes : List ℕ) → goal_bytes (meter_of capacity h d) ≡ Some bytes → goal_bytes (meter_at capacity h digesting d) ≡ Some bytes
whole_at capacity h digesting d bytes whole =
    ap (λ (g : Option Goal). joined (meter_of capacity h d).cells (goal_count h.block_size g)) (goal_at digesting (phase_of h.status h.goal)) ∙ whole

phase_judged : (genuine : Bool) (status : StoredStatus) (goal : Goal) → status ≡ judged genuine → phase_of status (Some goal) ≡ cond genuine (verified goal) (spoilt goal)
phase_judged true status goal e = ap (λ (s : StoredStatus). phase_of s (Some goal)) e
phase_judged false status goal e = ap (λ (s : StoredStatus). phase_of s (Some goal)) e

pub judges : (genuine honest : Bool) (capacity : ℕ) (h : Header) (digesting : Option Progress) (d d' : Device) (status : StoredStatus) (goal : Goal) (bytes : List ℕ) → status ≡ judged genuine → SameSlots d d'
    → h.goal ≡ Some goal → IsOpen (phase_at digesting (phase_of h.status h.goal)) goal → goal_bytes (meter_of capacity h d) ≡ Some bytes
    → (IsTrue honest → IsTrue genuine ↔ (sha256 bytes ≡ goal.name.digest))
    → Judges honest (meter_at capacity h digesting d) genuine (meter_of capacity (record h { status = status }) d')
judges true honest capacity h digesting d d' status goal bytes e same there is whole digest =
    let p = phase_at digesting (phase_of h.status h.goal) in (
      leaves honest _ _ (meter_judged capacity h digesting d d' status goal (verified_phase p) same there (phase_judged true status goal e ∙ sym (verified_is p goal is))),
      λ b. genuine_from goal bytes (goal_of p) (goal_bytes (meter_at capacity h digesting d)) (goal_is p goal is) (whole_at capacity h digesting d bytes whole) ((digest b).0 refl),
    )
judges false honest capacity h digesting d d' status goal bytes e same there is whole digest =
    let p = phase_at digesting (phase_of h.status h.goal) in (
      leaves honest _ _ (meter_judged capacity h digesting d d' status goal (spoilt_phase p) same there (phase_judged false status goal e ∙ sym (spoilt_is p goal is))),
      λ b genuine.
          let bad : false ≡ true = (digest b).1 (genuine_with goal bytes (goal_of p) (goal_bytes (meter_at capacity h digesting d)) (goal_is p goal is) (whole_at capacity h digesting d bytes whole) genuine) in
          cc,
    )

pub valid_judged : (capacity : ℕ) (h : Header) (status : StoredStatus) (goal : Goal) → h.goal ≡ Some goal → has_goal status ≡ true → ((i : ℕ) → i < block_count h.block_size goal.size → has h.marks i ≡ true)
    → IsHeader capacity h → FieldsFit (record h { status = status }) → IsHeader capacity (record h { status = status })
valid_judged capacity h status goal there keeps all is fits =
    let count : goal_count h.block_size h.goal ≡ block_count h.block_size goal.size = ap (goal_count h.block_size) there in
    record {
      fields = fits;
      block_size_begins = is.block_size_begins;
      block_size_ends = is.block_size_ends;
      running_size_begins = is.running_size_begins;
      running_size_fits = is.running_size_fits;
      goal_by_status = ap is_some there ∙ sym keeps;
      goal = is.goal;
      unmarked = is.unmarked;
      marked = λ _ i below. all i (omega (arith, count));
    }

pub judged_keeps : (genuine : Bool) (status : StoredStatus) → status ≡ judged genuine → has_goal status ≡ true
judged_keeps true status e = ap has_goal e
judged_keeps false status e = ap has_goal e

-- the images have their names' digests as before, and the goal if it was judged so
trusted_as : (genuine : Bool) (m : Meter) (goal : Goal) (bytes : List ℕ) → joined m.cells (goal_count m.block_size (Some goal)) ≡ Some bytes → (IsTrue genuine → sha256 bytes ≡ goal.name.digest)
    → IsTrusted m → IsTrusted (record m { phase = cond genuine (verified goal) (spoilt goal) })
trusted_as true m goal bytes whole digest is = record { running = is.running; verified = λ _. genuine_from goal bytes (Some goal) (joined m.cells (goal_count m.block_size (Some goal))) refl whole (digest refl) }
trusted_as false m goal bytes whole digest is = record { running = is.running; verified = λ e. absurd cc }

pub trusted_judged : (genuine : Bool) (capacity : ℕ) (h : Header) (d d' : Device) (status : StoredStatus) (goal : Goal) (bytes : List ℕ) → status ≡ judged genuine → SameSlots d d' → h.goal ≡ Some goal
    → phase_of h.status h.goal ≡ receiving goal → goal_bytes (meter_of capacity h d) ≡ Some bytes → (IsTrue genuine → sha256 bytes ≡ goal.name.digest)
    → IsTrusted (meter_of capacity h d) → IsTrusted (meter_of capacity (record h { status = status }) d')
trusted_judged genuine capacity h d d' status goal bytes e same there phase whole digest trusted =
    let m = meter_of capacity h d in
    let whole' : joined m.cells (goal_count h.block_size (Some goal)) ≡ Some bytes = ap (λ (p : Phase). joined m.cells (goal_count h.block_size (goal_of p))) (sym phase) ∙ whole in
    subst IsTrusted (sym (meter_judged capacity h None d d' status goal (cond genuine (verified goal) (spoilt goal)) same there (phase_judged genuine status goal e)))
    (trusted_as genuine m goal bytes whole' digest trusted)

-- ---- a verify

pub served_verify : (m : Meter) (goal : Goal) (bytes : List ℕ) → m.enabled ≡ true → m.phase ≡ receiving goal → goal_bytes m ≡ Some bytes → Serves m verify
served_verify m goal bytes on phase whole =
    let admits : Admits m (receiving goal) verify = (bytes, whole) in
    (on, subst (λ (p : Phase). Admits m p verify) (sym phase) admits)

pub refused_verify : (m : Meter) (goal : Goal) → m.enabled ≡ true → m.phase ≡ receiving goal → goal_bytes m ≡ None → Refuses m verify Missing
refused_verify m goal on phase none =
    let denies : ¬ Admits m (receiving goal) verify = λ a. let e : None ≡ Some a.0 = sym none ∙ a.1 in absurd cc in
    inr (on, refl, subst (λ (p : Phase). ¬ Admits m p verify) (sym phase) denies)

-- the calls for a goal of `size` bytes
abbrev calls_of : ℕ → ℕ
calls_of size = if nat_le size 4096 then 2 else 1

two_calls : (size : ℕ) → size ≤ 4096 → calls_of size ≡ 2
two_calls size few = grind (arith, nat_tests)

one_call : (size : ℕ) → 4096 < size → calls_of size ≡ 1
one_call size many = grind (arith, nat_tests)

-- one slice has the goal whole, or not
pub calls_whole : (m : Meter) (goal : Goal) → m.phase ≡ receiving goal → goal.size ≤ slice_size → calls_for m verify ≡ 2
calls_whole m goal phase few = ap (λ (p : Phase). calls_of (goal_size (goal_of p))) phase ∙ two_calls goal.size few

pub calls_part : (m : Meter) (goal : Goal) → m.phase ≡ receiving goal → slice_size < goal.size → calls_for m verify ≡ 1
calls_part m goal phase many = ap (λ (p : Phase). calls_of (goal_size (goal_of p))) phase ∙ one_call goal.size many

one_at_least : (size : ℕ) → 1 ≤ calls_of size
one_at_least size = grind (arith, nat_tests)

pub calls_some : (m : Meter) → 1 ≤ calls_for m verify
calls_some m = one_at_least (goal_size (goal_of m.phase))

pub does_whole : (genuine honest : Bool) (old new : Meter) (goal : Goal) → old.phase ≡ receiving goal → goal.size ≤ slice_size → Judges honest old genuine new → Does honest old verify (cond genuine done (refused Differs)) new
does_whole true honest old new goal phase few judged = (subst (λ (p : Phase). goal_size (goal_of p) ≤ slice_size) (sym phase) few, judged)
does_whole false honest old new goal phase few judged = (subst (λ (p : Phase). goal_size (goal_of p) ≤ slice_size) (sym phase) few, judged)

pub does_part : (honest : Bool) (capacity : ℕ) (h : Header) (progress : Progress) (d d' : Device) (goal : Goal) → phase_of h.status h.goal ≡ receiving goal → slice_size < goal.size → progress.taken ≡ slice_size → d' ≡ d
    → Does honest (meter_of capacity h d) verify verification_initiated (meter_at capacity h (Some progress) d')
does_part honest capacity h progress d d' goal phase many taken same = (
  subst (λ (p : Phase). slice_size < goal_size (goal_of p)) (sym phase) many,
  leaves honest _ _ (λ i. record (meter_of capacity h (same i)) { phase = digested_phase (phase_of h.status h.goal) (taken i) }),
)

pub judged_faultless : (genuine : Bool) → IsTrue (is_operation_faultless (cond genuine done (refused Differs)))
judged_faultless true = refl
judged_faultless false = refl

-- what a verify returns

pub verify_fault : {T : Type 0} (r : Result T Refusal) (p : Phase) → IsErrAnd r (λ e. e ≡ Fault) → verify_outcome r p ≡ refused Fault
verify_fault (Ok x) p h = absurd h
verify_fault (Err e) p h = ap refused h

pub verify_part : (p : Phase) (goal : Goal) (taken : ℕ) → p ≡ receiving goal → verify_outcome {A = Unit {0}} (Ok tt) (digested_phase p taken) ≡ verification_initiated
verify_part p goal taken e = ap (λ (q : Phase). verify_outcome {A = Unit {0}} (Ok tt) (digested_phase q taken)) e

-- what is answered after a judgement
abbrev pub answered : Bool → Result (Unit {0}) Refusal
answered genuine = cond genuine (Ok tt) (Err Differs)

verify_in : (genuine : Bool) (p : Phase) (goal : Goal) → p ≡ cond genuine (verified goal) (spoilt goal) → verify_outcome (answered genuine) p ≡ cond genuine done (refused Differs)
verify_in true p goal e = ap (λ (q : Phase). verify_outcome (answered true) q) e
verify_in false p goal e = refl

pub verify_whole : (genuine : Bool) (r : Result (Unit {0}) Refusal) (g : Option Goal) (goal : Goal) → r ≡ answered genuine → g ≡ Some goal → verify_outcome r (phase_of (judged genuine) g) ≡ cond genuine done (refused Differs)
verify_whole genuine r g goal e there =
    ap (λ (x : Result (Unit {0}) Refusal). verify_outcome x (phase_of (judged genuine) g)) e
    ∙ verify_in genuine (phase_of (judged genuine) g) goal (ap (phase_of (judged genuine)) there ∙ phase_judged genuine (judged genuine) goal refl)

-- ---- a turn

-- with nothing digested, nothing is done
still_turn : (status : StoredStatus) (goal : Option Goal) (honest : Bool) (m : Meter) → TurnsIn (phase_of status goal) honest m true m
still_turn kept.NotInitiated goal honest m = refl
still_turn kept.Initiated None honest m = refl
still_turn kept.Initiated (Some goal) honest m = refl
still_turn kept.VerificationSuccessful None honest m = refl
still_turn kept.VerificationSuccessful (Some goal) honest m = refl
still_turn kept.VerificationFailed None honest m = refl
still_turn kept.VerificationFailed (Some goal) honest m = refl
still_turn kept.ActivationSuccessful goal honest m = refl

no_calls : (status : StoredStatus) (goal : Option Goal) → turn_calls (phase_of status goal) ≡ 0
no_calls kept.NotInitiated goal = refl
no_calls kept.Initiated None = refl
no_calls kept.Initiated (Some goal) = refl
no_calls kept.VerificationSuccessful None = refl
no_calls kept.VerificationSuccessful (Some goal) = refl
no_calls kept.VerificationFailed None = refl
no_calls kept.VerificationFailed (Some goal) = refl
no_calls kept.ActivationSuccessful goal = refl

spends_none : (left : Option Fuse) → Spends 0 left left true
spends_none left = record {
  told = λ set e. (λ _. omega arith, λ _. refl);
  used = λ set e. let same : set.calls ≡ set.calls - 0 = omega arith in e ∙ ap (λ (n : ℕ). Some (record set { calls = n })) same;
}

pub turns_none : (s : Known) (h : Header) → Turns (state_of s h None) (state_of s h None)
turns_none s h = record {
  faultless = true;
  turn = still_turn h.status h.goal s.honest (meter_in s h None);
  untouched = λ _. refl;
  follows = record { honesty = refl; soundness = λ e. e; later = omega arith };
  counts = record { counted = refl; never = λ _. refl };
  spends = subst (λ (n : ℕ). Spends n s.fuse s.fuse true) (sym (no_calls h.status h.goal)) (spends_none s.fuse);
}

-- the reads of a slice, where `taken` of `size` bytes are taken
abbrev reads_of : ℕ → ℕ → ℕ
reads_of taken size = if nat_lt taken size then 1 else 0

one_read : (taken size : ℕ) → taken < size → reads_of taken size ≡ 1
one_read taken size some = grind (arith, nat_tests)

pub reads_some : (progress : Progress) → progress.taken < progress.size → reads_left progress ≡ 1
reads_some progress some = one_read progress.taken progress.size some

-- the calls of a turn, where `taken` of `size` bytes are digested
abbrev calls_behind : ℕ → ℕ → ℕ
calls_behind taken size = if nat_lt (taken + 4096) size then 1 else 2

more_calls : (taken size : ℕ) → taken + 4096 < size → calls_behind taken size ≡ 1
more_calls taken size more = grind (arith, nat_tests)

last_calls : (taken size : ℕ) → size ≤ taken + 4096 → calls_behind taken size ≡ 2
last_calls taken size last = grind (arith, nat_tests)

some_calls : (taken size : ℕ) → 1 ≤ calls_behind taken size
some_calls taken size = grind (arith, nat_tests)

pub turn_more : (goal : Goal) (taken : ℕ) → taken + slice_size < goal.size → turn_calls (verifying goal taken) ≡ 1
turn_more goal taken more = more_calls taken goal.size more

pub turn_last : (goal : Goal) (taken : ℕ) → goal.size ≤ taken + slice_size → turn_calls (verifying goal taken) ≡ 2
turn_last goal taken last = last_calls taken goal.size last

pub turn_some : (goal : Goal) (taken : ℕ) → 1 ≤ turn_calls (verifying goal taken)
turn_some goal taken = some_calls taken goal.size

-- what a turn of a verification comes to
turns_in : (s s' : Known) (h h' : Header) (progress : Progress) (digesting : Option Progress) (faultless : Bool) → (is : IsVerifying s h progress)
    → Keeps s s' → s'.faults ≡ count_after faultless s.faults → (IsTrue s.sound → IsTrue faultless)
    → Spends (turn_calls (verifying is.goal progress.taken)) s.fuse s'.fuse faultless
    → TurnsIn (verifying is.goal progress.taken) s.honest (meter_in s h (Some progress)) faultless (meter_at s.capacity h' digesting (seen s.honest s.capacity s'.device))
    → Turns (state_of s h (Some progress)) (state_of s' h' digesting)
turns_in s s' h h' progress digesting faultless is keeps counted never spends turns =
    let phase = phase_verified s h progress is in
    record {
      faultless = faultless;
      turn =
          subst (λ (p : Phase). TurnsIn p s.honest (meter_in s h (Some progress)) faultless (meter_in s' h' digesting)) (sym phase)
          (rw (keeps.honesty, keeps.size) turns);
      untouched = λ other. absurd (other (ap status_of phase));
      follows = record { honesty = keeps.honesty; soundness = keeps.soundness; later = keeps.later };
      counts = record { counted = counted; never = never };
      spends = subst (λ (p : Phase). Spends (turn_calls p) s.fuse s'.fuse faultless) (sym phase) spends;
    }

-- a slice more
pub turns_on : (s s' : Known) (h : Header) (progress next : Progress) → IsVerifying s h progress
    → Keeps s s' → (IsTrue s.honest → s'.device ≡ s.device) → s'.faults ≡ s.faults
    → Spends (reads_left progress) s.fuse s'.fuse true → next.taken ≡ min (progress.taken + slice_size) progress.size → next.taken ≢ progress.size
    → Turns (state_of s h (Some progress)) (state_of s' h (Some next))
turns_on s s' h progress next is keeps same uncounted spends taken left =
    let most : next.taken ≡ min (progress.taken + 4096) progress.size = taken in
    let more : progress.taken + 4096 < is.goal.size = omega (arith, most, left, is.size) in
    let sum : next.taken ≡ progress.taken + 4096 = omega (arith, most, is.size) in
    let d : seen s.honest s.capacity s'.device ≡ seen_of s = seen_same s.honest s.capacity s.device s'.device same in
    let phase : phase_at (Some next) (phase_of h.status h.goal) ≡ verifying is.goal (progress.taken + 4096) =
    ap (λ (p : Phase). digested_phase p next.taken) (phase_received h is.goal is.receives is.there) ∙ ap (verifying is.goal) sum in
    turns_in s s' h h progress (Some next) true is keeps uncounted (λ _. refl)
    (subst (λ (n : ℕ). Spends n s.fuse s'.fuse true) (reads_some progress is.more ∙ sym (turn_more is.goal progress.taken more)) spends)
    (inl (more, leaves s.honest _ _ (λ i. record (meter_of s.capacity h (d i)) { phase = phase i })))

-- a call that failed
pub turns_failed : (s s' : Known) (h : Header) (progress : Progress) → (is : IsVerifying s h progress)
    → Keeps s s' → (IsTrue s.honest → s'.device ≡ s.device) → s'.faults ≡ count_after false s.faults → (IsTrue s.sound → IsTrue false)
    → Spends (turn_calls (verifying is.goal progress.taken)) s.fuse s'.fuse false
    → Turns (state_of s h (Some progress)) (state_of s' h None)
turns_failed s s' h progress is keeps same counted never spends =
    let d : seen s.honest s.capacity s'.device ≡ seen_of s = seen_same s.honest s.capacity s.device s'.device same in
    turns_in s s' h h progress None false is keeps counted never spends
    (leaves s.honest (reopened (meter_in s h (Some progress))) _
    (ap (meter_of s.capacity h) d ∙ sym (reopened_at s s.capacity h (Some progress) (seen_of s) is)))

either : (genuine honest : Bool) (old new : Meter) → Judges honest old genuine new → Judges honest old true new ⊎ Judges honest old false new
either true honest old new judged = inl judged
either false honest old new judged = inr judged

-- the last slice, and the judgement
pub turns_judged : (s s' : Known) (h : Header) (progress : Progress) (status : StoredStatus) (genuine : Bool) → (is : IsVerifying s h progress)
    → ((slot : Slot) → IsTrue s.honest → length (slot_bytes s.device slot) ≡ s.capacity)
    → Keeps s s' → s'.faults ≡ s.faults → (IsTrue s.honest → s'.device ≡ with_head s.device (header_bytes (record h { status = status })))
    → Spends 2 s.fuse s'.fuse true → is.goal.size ≤ progress.taken + slice_size
    → ((d d' : Device) → Rewrites s.honest s.capacity s.device d d' → Judges s.honest (meter_at s.capacity h (Some progress) d) genuine (meter_of s.capacity (record h { status = status }) d'))
    → Turns (state_of s h (Some progress)) (state_of s' (record h { status = status }) None)
turns_judged s s' h progress status genuine is sized keeps uncounted written spends last judged =
    turns_in s s' h (record h { status = status }) progress None true is keeps uncounted (λ _. refl)
    (subst (λ (n : ℕ). Spends n s.fuse s'.fuse true) (sym (turn_last is.goal progress.taken last)) spends)
    (inr (
      last,
      either genuine s.honest _ _
          (judged (seen_of s) (seen s.honest s.capacity s'.device) (rewrites s s' (header_bytes (record h { status = status })) sized written)),
    ))
