-- A header of version 1 that is written in version 2 is the same meter, with a higher limit.
use Rattle.std.proofs.Common.{◌≡◌, ℕ, zero, suc, ◌+◌, ◌-◌, ◌≤◌, Bool, true, false, IsTrue, List, ◌++◌, length, take, replicate, Some, None, Option, refl, sym, ap, subst, ◌∙◌, inl, inr, arith, length-append, append-nil}
use Rattle.std.proofs.lemmas.Bool.{cases_lt}
use Rattle.std.proofs.lemmas.List.{take_all, length-replicate, get_or_append_left, get_or-append_right, get_or_past}
use Rattle.fw_blocks.specs.Cuts.{block_count, max_blocks}
use Rattle.fw_blocks.specs.Members.{has, resized_marks}
use Rattle.fw_store.specs.Device.{Device, slot_bytes, with_head}
use Rattle.fw_store.specs.Faults.{Keeps, Spends}
use Rattle.fw_store.specs.Header.{IsHeader, migrated as header_migrated}
use Rattle.fw_store.specs.Layout.{header_bytes}
use Rattle.fw_store.specs.Laws.{OneHeader, MigratedIsHeader}
use Rattle.fw_store.specs.Slot.{other}
use Rattle.fw_store.specs.StoreLaws.{CallsAdd}
use Rattle.fw_store.specs.Versions.{block_limit}
use Rattle.fw_store.specs.declared.header.Header.{Header}
use Rattle.fw_store.specs.declared.header.Goal.{Goal}
use Rattle.fw_store.specs.declared.slot.Slot.{Slot}
use Rattle.fw_store.specs.Known.{Known}
use Rattle.fw_store.specs.declared.version.HeaderVersion.{HeaderVersion}
use Rattle.fw_store.specs.declared.version.HeaderVersion.TheVariants.{One, Two}
use Rattle.fw_verify.specs.Slices.{slice_count}
use Rattle.fw_image.specs.Calls.{verified_size, restart_calls}
use Rattle.fw_image.specs.Meter.{Meter, IsTrusted, migrated}
use Rattle.fw_image.specs.Moves.{migrating_writes}
use Rattle.fw_image.specs.State.{State}
use Rattle.fw_image.specs.Stored.{phase_of, blocks_below, cells_of, meter_of, seen, IsHeld, IsMeterOf, Opens, state_of}
use Rattle.fw_image.proofs.Blocks.{none_has}
use Rattle.fw_image.proofs.Meters.{SameSlots, headed, seen_headed, seen_size, seen_real}
use Rattle.fw_image.proofs.Moves.{seen_of, held_written, written_after}
use Rattle.fw_image.proofs.Openings.{limit_within, one_meter, length-running}

-- ---- more marks

pub length-resized : (count : ℕ) (marks : List Bool) → length marks ≤ count → length (resized_marks count marks) ≡ count
length-resized count marks few =
    let front : length (take count marks) ≡ length marks = ap length (take_all count marks few) in
    omega (arith, length-append (take count marks) (replicate (count - length marks) false), length-replicate (count - length marks) false)

filled_has : (marks : List Bool) (more i : ℕ) → has (marks ++ replicate more false) i ≡ has marks i
filled_has marks more i =
    elim (cases_lt i (length marks)) [
      | inl here ↦ get_or_append_left marks (replicate more false) false i here
      | inr past ↦
          get_or-append_right marks (replicate more false) (length marks) i false refl past ∙ none_has more (replicate more false) refl (i - length marks)
          ∙ sym (get_or_past marks i false past)
    ]

-- no further block is there
pub resized_has : (count : ℕ) (marks : List Bool) → length marks ≤ count → (i : ℕ) → has (resized_marks count marks) i ≡ has marks i
resized_has count marks few i =
    ap (λ (l : List Bool). has (l ++ replicate (count - length marks) false) i) (take_all count marks few) ∙ filled_has marks (count - length marks) i

pub resized_same : (count : ℕ) (marks : List Bool) → length marks ≡ count → resized_marks count marks ≡ marks
resized_same count marks size =
    let none : count - length marks ≡ 0 = omega arith in
    let all : take count marks ≡ marks = take_all count marks (omega arith) in
    ap (λ (n : ℕ). take count marks ++ replicate n false) none ∙ append-nil (take count marks) ∙ all

-- ---- the meter

blocks_same : (b : ℕ) (old new : List Bool) (bytes : List ℕ) → ((i : ℕ) → has new i ≡ has old i) → (n : ℕ) → blocks_below b new bytes n ≡ blocks_below b old bytes n
blocks_same b old new bytes same zero = refl
blocks_same b old new bytes same (suc n) = rw (blocks_same b old new bytes same n, same n) refl

cells_same : (b : ℕ) (old new : List Bool) (spare : List ℕ) (goal : Option Goal) → ((i : ℕ) → has new i ≡ has old i) → cells_of b new spare goal ≡ cells_of b old spare goal
cells_same b old new spare None same = refl
cells_same b old new spare (Some goal) same = blocks_same b old new (take goal.size spare) same (block_count b goal.size)

pub few_marks : (capacity : ℕ) (h : Header) → IsHeader capacity h → length h.marks ≤ max_blocks
few_marks capacity h is = omega (arith, is.fields.marks, limit_within h.version)

pub meter_of-migrated : (capacity : ℕ) (h : Header) (d d' : Device) → IsHeader capacity h → SameSlots d d' → meter_of capacity (header_migrated h) d' ≡ migrated (meter_of capacity h d)
meter_of-migrated capacity h d d' is same =
    let marks : List Bool = resized_marks (block_limit Two) h.marks in
    let cells : cells_of h.block_size marks (slot_bytes d' (other h.running_slot)) h.goal ≡ cells_of h.block_size h.marks (slot_bytes d (other h.running_slot)) h.goal =
    ap (λ (spare : List ℕ). cells_of h.block_size marks spare h.goal) (same (other h.running_slot))
    ∙ cells_same h.block_size h.marks marks (slot_bytes d (other h.running_slot)) h.goal (resized_has (block_limit Two) h.marks (few_marks capacity h is)) in
    λ i. record {
      block_size = h.block_size;
      capacity = capacity;
      limit = block_limit Two;
      enabled = h.enabled;
      phase = phase_of h.status h.goal;
      cells = cells i;
      running = record { name = h.running_name; bytes = take h.running_size (same h.running_slot i) };
    }

pub trusted_migrated : (m : Meter) → IsTrusted m → IsTrusted (migrated m)
trusted_migrated m is = record { running = is.running; verified = is.verified }

-- a header that has all marks is one of version 2
full_is_two : (version : HeaderVersion) → block_limit version ≡ max_blocks → version ≡ Two
full_is_two One full = absurd (omega arith)
full_is_two Two full = refl

-- and stays as it is
pub migrated_two : (h : Header) → h.version ≡ Two → length h.marks ≡ block_limit h.version → header_migrated h ≡ h
migrated_two h is count =
    let marks : resized_marks (block_limit Two) h.marks ≡ h.marks = resized_same (block_limit Two) h.marks (count ∙ ap block_limit is) in
    λ i. record h { version = sym is i; marks = marks i }

-- so does the device
pub device_two : (capacity : ℕ) (h : Header) (d : Device) → IsHeader capacity h → header_bytes h ≡ d.head → h.version ≡ Two → with_head d (header_bytes (header_migrated h)) ≡ d
device_two capacity h d valid stored is = ap (λ (x : Header). with_head d (header_bytes x)) (migrated_two h is valid.fields.marks) ∙ ap (with_head d) stored

-- ---- what is held, and what is opened

pub held_migrated : (s s' : Known) (h : Header) → MigratedIsHeader → ((slot : Slot) → IsTrue s.honest → length (slot_bytes s.device slot) ≡ s.capacity)
    → Keeps s s' → (IsTrue s.honest → s'.device ≡ with_head s.device (header_bytes (header_migrated h)))
    → IsHeld s h → IsHeld s' (header_migrated h)
held_migrated s s' h law sized kept written held =
    held_written s s' h (header_migrated h) sized kept written held (law s.capacity h held.valid)
    (λ d d' views honest trusted. subst IsTrusted (sym (meter_of-migrated s.capacity h d d' held.valid views.same)) (trusted_migrated (meter_of s.capacity h d) trusted))

-- a header was read from a store, and the store then has this one
pub record Reads (s s' : Known) (h : Header) : Type 0 where
  pub kept : Keeps s s'
  pub same : IsTrue s.honest → s'.device ≡ s.device
  pub held : IsHeld s' h
  pub spends : Spends (1 + slice_count h.running_size + slice_count (verified_size (phase_of h.status h.goal))) s.fuse s'.fuse true

-- it is the meter of the store as it was
pub was_meter : (s s' : Known) (h : Header) → Reads s s' h → IsTrue s.honest → IsMeterOf s.capacity s.device (meter_of s.capacity h (seen_of s))
was_meter s s' h read honest =
    let still : IsTrue s'.honest = read.kept.honesty ∙ honest in
    record {
      header = h;
      valid = subst (λ (n : ℕ). IsHeader n h) read.kept.size read.held.valid;
      spelled = read.held.stored still ∙ ap (λ (d : Device). d.head) (read.same honest);
      means = ap (meter_of s.capacity h) (seen_real s.honest s.capacity s.device honest);
    }

was_trusted : (s s' : Known) (h : Header) → Reads s s' h → IsTrue s.honest → IsTrusted (meter_of s.capacity h (seen_of s))
was_trusted s s' h read honest =
    let still : IsTrue s'.honest = read.kept.honesty ∙ honest in
    let d : s'.device ≡ seen_of s = read.same honest ∙ sym (seen_real s.honest s.capacity s.device honest) in
    let same : meter_of s'.capacity h s'.device ≡ meter_of s.capacity h (seen_of s) = λ i. meter_of (read.kept.size i) h (d i) in
    subst IsTrusted same (read.held.trusted still)

pub opens : (s between s' : Known) (h : Header) → MigratedIsHeader → CallsAdd → ((slot : Slot) → IsTrue s.honest → length (slot_bytes s.device slot) ≡ s.capacity)
    → Reads s between h → Keeps between s'
    → (IsTrue between.honest → s'.device ≡ with_head between.device (header_bytes (header_migrated h)))
    → Spends (migrating_writes h) between.fuse s'.fuse true
    → Opens s (state_of s' (header_migrated h) None)
opens s between s' h law add sized read kept written spends =
    let bytes : List ℕ = header_bytes (header_migrated h) in
    let honesty : s'.honest ≡ s.honest = kept.honesty ∙ read.kept.honesty in
    let size : s'.capacity ≡ s.capacity = kept.size ∙ read.kept.size in
    let valid : IsHeader s.capacity h = subst (λ (n : ℕ). IsHeader n h) read.kept.size read.held.valid in
    let became : IsTrue s.honest → s'.device ≡ with_head s.device bytes = written_after s between s' bytes read.kept.honesty read.same written in
    let old : Device = seen_of s in
    let new : Device = seen s.honest s.capacity s'.device in
    let d : seen s'.honest s'.capacity s'.device ≡ new = λ i. seen (honesty i) (size i) s'.device in
    let slots : SameSlots old new = seen_headed s.honest s.capacity s.device s'.device bytes became in
    let real : IsTrue s.honest → seen s'.honest s'.capacity s'.device ≡ with_head s.device bytes =
    λ b. d ∙ seen_real s.honest s.capacity s'.device b ∙ became b in
    let goes : meter_of s'.capacity (header_migrated h) (seen s'.honest s'.capacity s'.device) ≡ meter_of s.capacity (header_migrated h) new =
    λ i. meter_of (size i) (header_migrated h) (d i) in
    let running = length-running s.capacity h old valid (seen_size s.honest s.capacity s.device sized) in
    record {
      honesty = honesty;
      was = meter_of s.capacity h old;
      held = was_meter s between h read;
      trusted = was_trusted s between h read;
      goes_on = goes ∙ meter_of-migrated s.capacity h old new valid slots;
      size = refl;
      holds = λ b. record {
        header = header_migrated h;
        valid = law s.capacity h valid;
        spelled = sym (ap (λ (x : Device). x.head) (real b));
        means = λ i. meter_of (size i) (header_migrated h) (seen s'.honest s'.capacity s'.device);
      };
      slots = λ b slot. headed s.device (seen s'.honest s'.capacity s'.device) bytes (real b) slot;
      kept = λ b full. real b ∙ device_two s.capacity h s.device valid (read.held.stored (read.kept.honesty ∙ b) ∙ ap (λ (x : Device). x.head) (read.same b)) (full_is_two h.version full);
      spends = rw running (add (1 + slice_count h.running_size + slice_count (verified_size (phase_of h.status h.goal))) (migrating_writes h) _ _ _ true read.spends spends);
    }

-- what holds a meter is opened as that, with a header of version 2
pub opened_migrated : (s : Known) (state : State) (meter : Meter) → OneHeader → Opens s state
    → IsMeterOf s.capacity s.device meter → IsTrue s.honest → state.meter ≡ migrated meter
opened_migrated s state meter law opened is honest = opened.goes_on ∙ ap migrated (one_meter law s.capacity s.device opened.was meter (opened.held honest) is)

-- ---- how many calls are made

-- those of the meter are those of its header
pub restart_of_header : (s between : Known) (h : Header) (meter : Meter) → OneHeader → ((slot : Slot) → IsTrue s.honest → length (slot_bytes s.device slot) ≡ s.capacity)
    → Reads s between h → IsMeterOf s.capacity s.device meter → IsTrue s.honest
    → restart_calls meter ≡ 1 + slice_count h.running_size + slice_count (verified_size (phase_of h.status h.goal)) + migrating_writes h
restart_of_header s between h meter law sized read is honest =
    let m : Meter = meter_of s.capacity h (seen_of s) in
    let same : meter ≡ m = one_meter law s.capacity s.device meter m is (was_meter s between h read honest) in
    let valid : IsHeader s.capacity h = subst (λ (n : ℕ). IsHeader n h) read.kept.size read.held.valid in
    ap restart_calls same
    ∙ ap (λ (n : ℕ). 1 + slice_count n + slice_count (verified_size (phase_of h.status h.goal)) + migrating_writes h)
    (length-running s.capacity h (seen_of s) valid (seen_size s.honest s.capacity s.device sized))
