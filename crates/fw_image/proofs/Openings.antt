-- What a store is opened as, and what is shown of it.
use Rattle.std.proofs.Common.{◌≡◌, ℕ, ◌+◌, ◌-◌, ◌<◌, ◌≤◌, ◌↔◌, Bool, true, false, IsTrue, List, ◌++◌, length, take, drop, replicate, Some, None, Option, refl, sym, ap, subst, ◌∙◌, arith, ◌⊎◌}
use Rattle.std.proofs.lemmas.List.{length-take-le, length-drop, length-replicate, take-append-drop, ext_get_or, get_or-drop, get_or-replicate, append_assoc, replicate-append-replicate}
use Rattle.sha2.specs.Sha256.{sha256}
use Rattle.fw_blocks.specs.Cuts.{max_blocks}
use Rattle.fw_blocks.specs.Members.{has, all_marks}
use Rattle.fw_blocks.specs.Laws.{CutsJoin}
use Rattle.std.specs.Prelude.{IfSome, IfErr, OnErr, IsErrAnd, Result, Ok, Err}
use Rattle.fw_store.specs.Device.{Device, slot_bytes}
use Rattle.fw_store.specs.Faults.{Keeps, Spends, count_after}
use Rattle.fw_store.specs.Slot.{other}
use Rattle.fw_store.specs.Layout.{header_bytes}
use Rattle.fw_store.specs.Header.{IsHeader, IsGoal, goal_count}
use Rattle.fw_store.specs.Laws.{OneHeader}
use Rattle.fw_store.specs.Versions.{block_limit}
use Rattle.fw_store.specs.declared.slot.Slot.{Slot}
use Rattle.fw_store.specs.declared.version.HeaderVersion.{HeaderVersion}
use Rattle.fw_store.specs.declared.version.HeaderVersion.TheVariants.{One, Two}
use Rattle.fw_store.specs.Known.{Known}
use Rattle.fw_store.specs.declared.header.Header.{Header}
use Rattle.fw_store.specs.declared.header.Goal.{Goal}
use Rattle.fw_store.specs.declared.header.StoredStatus.TheVariants as kept
use Rattle.fw_image.specs.declared.status.TransferStatus.TheVariants.{VerificationSuccessful}
use Rattle.fw_image.specs.Status.{shown_status}
use Rattle.fw_image.specs.Meter.{Meter, IsTrusted, status_of, goal_of, goal_bytes}
use Rattle.fw_image.specs.Calls.{verified_size, opening_calls}
use Rattle.fw_verify.specs.Slices.{slice_count}
use Rattle.fw_image.specs.Stored.{phase_of, meter_of, seen, IsHeld, IsMeterOf, Refused, is_opening_faultless}
use Rattle.fw_image.specs.Moves.{IsVerifiedGenuine}
use Rattle.fw_image.specs.declared.error.OpenError.{OpenError}
use Rattle.fw_image.specs.declared.error.OpenError.TheVariants.{Fault, BadHeader, BadImage}
use Rattle.fw_image.proofs.Meters.{goal_again, status_again, seen_real}
use Rattle.fw_image.proofs.Moves.{verified_bytes, genuine_with, genuine_from}

-- ---- the marks that a view has

marks_whole : (all n : ℕ) (marks : List Bool) → length marks ≡ all → n ≤ all → ((i : ℕ) → n ≤ i → has marks i ≡ false) → take n marks ++ replicate (all - length (take n marks)) false ≡ marks
marks_whole all n marks count within none =
    let front : length (take n marks) ≡ n = length-take-le n marks (omega arith) in
    let back : length (replicate (all - n) false) ≡ length (drop n marks) = omega (arith, length-replicate (all - n) false, length-drop n marks) in
    let rest : replicate (all - n) false ≡ drop n marks = ext_get_or false (replicate (all - n) false) (drop n marks) back (λ i below.
    let here : i < all - n = omega (arith, length-replicate (all - n) false) in
    let past : n ≤ n + i = omega arith in
    get_or-replicate (all - n) i false false here ∙ sym (get_or-drop n marks i false ∙ none (n + i) past)) in
    ap (λ (k : ℕ). take n marks ++ replicate (all - k) false) front ∙ ap (λ (l : List Bool). take n marks ++ l) rest ∙ take-append-drop n marks

-- and so it is with no others up to the most that there can be
marks_filled : (all most n : ℕ) (marks : List Bool) → length marks ≡ all → n ≤ all → all ≤ most → ((i : ℕ) → n ≤ i → has marks i ≡ false)
    → take n marks ++ replicate (most - length (take n marks)) false ≡ marks ++ replicate (most - length marks) false
marks_filled all most n marks count within fits none =
    let front : length (take n marks) ≡ n = length-take-le n marks (omega arith) in
    let sum : most - length (take n marks) ≡ (all - length (take n marks)) + (most - length marks) = omega arith in
    ap (λ (k : ℕ). take n marks ++ replicate k false) sum
    ∙ ap (λ (l : List Bool). take n marks ++ l) (sym (replicate-append-replicate (all - length (take n marks)) (most - length marks) false))
    ∙ sym (append_assoc (take n marks) (replicate (all - length (take n marks)) false) (replicate (most - length marks) false))
    ∙ ap (λ (l : List Bool). l ++ replicate (most - length marks) false) (marks_whole all n marks count within none)

count_within : (limit capacity b release : ℕ) (goal : Option Goal) → IfSome goal (IsGoal limit capacity b release) → goal_count b goal ≤ limit
count_within limit capacity b release None is = omega arith
count_within limit capacity b release (Some goal) is = is.most

-- no version has more marks than there can be blocks
pub limit_within : (version : HeaderVersion) → block_limit version ≤ max_blocks
limit_within One = omega arith
limit_within Two = omega arith

pub marks_shown : (capacity : ℕ) (h : Header) → IsHeader capacity h → all_marks (take (goal_count h.block_size h.goal) h.marks) ≡ all_marks h.marks
marks_shown capacity h is =
    marks_filled (block_limit h.version) max_blocks (goal_count h.block_size h.goal) h.marks is.fields.marks
    (count_within (block_limit h.version) capacity h.block_size h.running_name.release h.goal is.goal) (limit_within h.version) is.unmarked

-- ---- one device is one meter

pub same_header : OneHeader → (capacity capacity' : ℕ) (h h' : Header) (d d' : Device) → IsHeader capacity h → IsHeader capacity' h' → header_bytes h ≡ d.head → header_bytes h' ≡ d'.head → d ≡ d' → h ≡ h'
same_header law capacity capacity' h h' d d' is is' spelled spelled' e = law h h' is.fields is'.fields (spelled ∙ ap (λ (x : Device). x.head) e ∙ sym spelled')

pub same_meter : OneHeader → (capacity capacity' : ℕ) (h h' : Header) (d d' : Device) → IsHeader capacity h → IsHeader capacity' h' → header_bytes h ≡ d.head → header_bytes h' ≡ d'.head → capacity ≡ capacity' → d ≡ d'
    → meter_of capacity h d ≡ meter_of capacity' h' d'
same_meter law capacity capacity' h h' d d' is is' spelled spelled' size e =
    let header : h ≡ h' = same_header law capacity capacity' h h' d d' is is' spelled spelled' e in
    λ i. meter_of (size i) (header i) (e i)

pub one_meter : OneHeader → (capacity : ℕ) (d : Device) (a b : Meter) → IsMeterOf capacity d a → IsMeterOf capacity d b → a ≡ b
one_meter law capacity d a b p q =
    p.means ∙ same_meter law capacity capacity p.header q.header d d p.valid q.valid p.spelled q.spelled refl refl ∙ sym q.means

-- ---- images

-- the goal's bytes as the spare slot has them
pub verified_iff : CutsJoin → (capacity : ℕ) (h : Header) (d : Device) (goal : Goal) → IsHeader capacity h → ((slot : Slot) → length (slot_bytes d slot) ≡ capacity) → h.status ≡ kept.VerificationSuccessful → h.goal ≡ Some goal
    → (sha256 (take goal.size (slot_bytes d (other h.running_slot))) ≡ goal.name.digest) ↔ IsVerifiedGenuine (meter_of capacity h d)
verified_iff cuts capacity h d goal is sized status there =
    let m = meter_of capacity h d in
    let bytes = take goal.size (slot_bytes d (other h.running_slot)) in
    let verified : status_of (phase_of h.status h.goal) ≡ VerificationSuccessful = status_again h.status h.goal is.goal_by_status ∙ ap shown_status status in
    let whole = verified_bytes cuts capacity h d goal is sized verified there in
    let has_goal = goal_again h.status h.goal is.goal_by_status ∙ there in
    (λ same _. genuine_from goal bytes (goal_of m.phase) (goal_bytes m) has_goal whole same, λ genuine. genuine_with goal bytes (goal_of m.phase) (goal_bytes m) has_goal whole (genuine verified))

pub refused_image : (s s' : Known) (h : Header) → Keeps s s' → (IsTrue s.honest → s'.device ≡ s.device) → s'.faults ≡ s.faults → IsHeader s.capacity h
    → (IsTrue s.honest → header_bytes h ≡ s.device.head) → (IsTrue s.honest → ¬ IsTrusted (meter_of s.capacity h s.device))
    → (calls : ℕ) → Spends calls s.fuse s'.fuse true
    → (IsTrue s.honest → let m = meter_of s.capacity h s.device in (calls ≡ 1 + slice_count (length m.running.bytes)) ⊎ (calls ≡ opening_calls m))
    → Refused s BadImage s'
refused_image s s' h kept same uncounted valid spelled differs calls spends number = record {
  reason = λ b.
      let is : IsMeterOf s.capacity s.device (meter_of s.capacity h s.device) = record { header = h; valid = valid; spelled = spelled b; means = refl } in
      (meter_of s.capacity h s.device, is, differs b);
  counted = uncounted;
  never = λ _. refl;
  same = same;
  kept = kept;
  calls = calls;
  spends = spends;
  found = λ b.
      let is : IsMeterOf s.capacity s.device (meter_of s.capacity h s.device) = record { header = h; valid = valid; spelled = spelled b; means = refl } in
      (meter_of s.capacity h s.device, is, number b);
}

-- what the exit of a `?` says
pub refused_fault : {T : Type 0} (s s' : Known) (r : Result T OpenError) → IsErrAnd r (λ e. e ≡ Fault) → Keeps s s' → (IsTrue s.honest → s'.device ≡ s.device)
    → s'.faults ≡ count_after false s.faults → (IsTrue s.sound → IsTrue false) → (calls : ℕ) → Spends calls s.fuse s'.fuse false
    → IfErr r (λ e. Refused s e s')
refused_fault s s' (Ok x) told kept same counted never calls spends = absurd told
refused_fault s s' (Err e) told kept same counted never calls spends =
    subst (λ (x : OpenError). Refused s x s') (sym told)
    (record { reason = λ _. tt; counted = counted; never = never; same = same; kept = kept; calls = calls; spends = spends; found = λ _. tt })

-- how many bytes the image that runs has
pub length-running : (capacity : ℕ) (h : Header) (d : Device) → IsHeader capacity h → ((slot : Slot) → length (slot_bytes d slot) ≡ capacity) → length (take h.running_size (slot_bytes d h.running_slot)) ≡ h.running_size
length-running capacity h d valid sized = length-take-le h.running_size (slot_bytes d h.running_slot) (omega (arith, sized h.running_slot, valid.running_size_fits))

-- ---- what holds a meter is opened as it

pub opened_again : (s s' : Known) (h : Header) (meter : Meter) → OneHeader → Keeps s s' → (IsTrue s.honest → s'.device ≡ s.device)
    → IsHeld s' h → IsMeterOf s.capacity s.device meter → IsTrue s.honest
    → meter_of s'.capacity h (seen s'.honest s'.capacity s'.device) ≡ meter
opened_again s s' h meter law kept same held was honest =
    let still : IsTrue s'.honest = kept.honesty ∙ honest in
    ap (meter_of s'.capacity h) (seen_real s'.honest s'.capacity s'.device still)
    ∙ same_meter law s'.capacity s.capacity h was.header s'.device s.device held.valid was.valid (held.stored still) was.spelled kept.size (same honest)
    ∙ sym was.means

-- of a store that holds one only a fault is reported
pub told_fault : (s s' : Known) (error : OpenError) (meter : Meter) → OneHeader → Refused s error s'
    → IsMeterOf s.capacity s.device meter → IsTrusted meter → IsTrue s.honest → error ≡ Fault
told_fault s s' Fault meter law refused is trusted honest = refl
told_fault s s' BadHeader meter law refused is trusted honest = absurd (refused.reason honest meter is)
told_fault s s' BadImage meter law refused is trusted honest =
    let reason = refused.reason honest in
    let same : meter ≡ reason.0 = one_meter law s.capacity s.device meter reason.0 is reason.1 in
    absurd (reason.2 (subst IsTrusted same trusted))

pub not_refused : (s s' : Known) (error : OpenError) (meter : Meter) → OneHeader → Refused s error s'
    → IsMeterOf s.capacity s.device meter → IsTrusted meter → IsTrue s.honest → IsTrue s.sound → ⊥
not_refused s s' error meter law refused is trusted honest sound =
    let fault = told_fault s s' error meter law refused is trusted honest in
    let bad : false ≡ true = sym (ap is_opening_faultless fault) ∙ refused.never sound in
    cc

-- ---- how many calls an opening makes

-- those of the meter are those of its header
pub calls_of_header : OneHeader → (capacity : ℕ) (h : Header) (d : Device) (m : Meter) → IsHeader capacity h → header_bytes h ≡ d.head → ((slot : Slot) → length (slot_bytes d slot) ≡ capacity)
    → IsMeterOf capacity d m → opening_calls m ≡ 1 + slice_count h.running_size + slice_count (verified_size (phase_of h.status h.goal))
calls_of_header law capacity h d m valid spelled sized is =
    let same : m ≡ meter_of capacity h d = is.means ∙ same_meter law capacity capacity is.header h d d is.valid valid is.spelled spelled refl refl in
    ap opening_calls same ∙ ap (λ (n : ℕ). 1 + slice_count n + slice_count (verified_size (phase_of h.status h.goal))) (length-running capacity h d valid sized)

-- one at least
pub some_calls : (m : Meter) → 1 ≤ opening_calls m
some_calls m = omega arith

-- one of the calls failed of each meter that the store may hold
abbrev pub IsCut : Known → Known → Type 0
IsCut s s' =
    (meter : Meter) → IsMeterOf s.capacity s.device meter → IsTrusted meter → IsTrue s.honest → Spends (opening_calls meter) s.fuse s'.fuse false

pub cut_told : {T : Type 0} (s s' : Known) (r : Result T OpenError) → IsCut s s' → OnErr r (IsCut s s')
cut_told s s' (Ok x) cut = tt
cut_told s s' (Err e) cut = cut

-- none did where the image isn't genuine
pub image_not_cut : (s s' : Known) → OneHeader → Refused s BadImage s' → IsCut s s'
image_not_cut s s' law refused meter is trusted honest =
    let bad : BadImage ≡ Fault = told_fault s s' BadImage meter law refused is trusted honest in
    absurd cc
