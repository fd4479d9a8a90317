-- There is one step over an honest store that doesn't fail.
use Rattle.std.proofs.Common.{◌≡◌, ◌≢◌, ℕ, ◌+◌, ◌<◌, ◌≤◌, Bool, true, false, List, ◌⊎◌, inl, inr, refl, sym, ap, ◌∙◌, arith}
use Rattle.fw_names.specs.Name.{Name}
use Rattle.fw_verify.specs.Slices.{slice_size}
use Rattle.fw_image.specs.Laws.{OneStep, OneTurn}
use Rattle.fw_image.specs.Meter.{Meter, Phase, idle, receiving, verifying, verified, spoilt, switched, goal_bytes, goal_of, goal_size, IsGenuine}
use Rattle.fw_image.specs.Step.{Operation, enable, initiate, block, verify, activate, OperationOutcome, done, refused, verification_initiated, Refuses, Serves, Admits, Does, Judges, TurnsIn, refusal_in, begun, with_cell, digested_phase, verified_phase, spoilt_phase, switched_to}
use Rattle.fw_image.specs.declared.error.Refusal.{Refusal}
use Rattle.fw_image.specs.declared.error.Refusal.TheVariants.{Disabled, BadInitiate, BadBlock, Missing, Fault, Differs}

on_and_off : (e : Bool) → e ≡ true → e ≡ false → ⊥
on_and_off true on off = cc
on_and_off false on off = cc

-- ---- one line refuses an operation, or none does

abbrev Line : Bool → Refusal → Type 0 → Refusal → Type 0
Line e q A r = ((e ≡ false) × (r ≡ Disabled)) ⊎ ((e ≡ true) × (r ≡ q) × ¬ A)

two_lines : (e : Bool) (q : Refusal) (A : Type 0) (r s : Refusal) → Line e q A r → Line e q A s → r ≡ s
two_lines e q A r s (inl h) (inl k) = h.1 ∙ sym k.1
two_lines e q A r s (inl h) (inr k) = absurd (on_and_off e k.0 h.0)
two_lines e q A r s (inr h) (inl k) = absurd (on_and_off e h.0 k.0)
two_lines e q A r s (inr h) (inr k) = h.1 ∙ sym k.1

served : (e : Bool) (q : Refusal) (A : Type 0) (r : Refusal) → Line e q A r → (e ≡ true) × A → ⊥
served e q A r (inl h) s = on_and_off e s.0 h.0
served e q A r (inr h) s = h.2 s.1

one_line : (m : Meter) (operation : Operation) (r s : Refusal) → Refuses m operation r → Refuses m operation s → r ≡ s
one_line m (enable b) r s h k = elim h [ ]
one_line m (initiate name size) r s h k = two_lines m.enabled (refusal_in m.phase (initiate name size)) (Admits m m.phase (initiate name size)) r s h k
one_line m (block i value) r s h k = two_lines m.enabled (refusal_in m.phase (block i value)) (Admits m m.phase (block i value)) r s h k
one_line m verify r s h k = two_lines m.enabled (refusal_in m.phase (verify)) (Admits m m.phase (verify)) r s h k
one_line m activate r s h k = two_lines m.enabled (refusal_in m.phase (activate)) (Admits m m.phase (activate)) r s h k

refused_is_not_served : (m : Meter) (operation : Operation) (r : Refusal) → Refuses m operation r → Serves m operation → ⊥
refused_is_not_served m (enable b) r h s = elim h [ ]
refused_is_not_served m (initiate name size) r h s = served m.enabled (refusal_in m.phase (initiate name size)) (Admits m m.phase (initiate name size)) r h s
refused_is_not_served m (block i value) r h s = served m.enabled (refusal_in m.phase (block i value)) (Admits m m.phase (block i value)) r h s
refused_is_not_served m verify r h s = served m.enabled (refusal_in m.phase (verify)) (Admits m m.phase (verify)) r h s
refused_is_not_served m activate r h s = served m.enabled (refusal_in m.phase (activate)) (Admits m m.phase (activate)) r h s

-- ---- what is done

abbrev IsDone : OperationOutcome → Meter → Meter → Type 0
IsDone outcome new this = (outcome ≡ done) × (new ≡ this)

enabled : (old new : Meter) (b : Bool) (a : OperationOutcome) → a ≢ refused Fault → Does true old (enable b) a new → IsDone a new (record old { enabled = b })
enabled old new b done n h = (refl, h.is refl)
enabled old new b (refused Disabled) n h = elim h [ ]
enabled old new b (refused BadInitiate) n h = elim h [ ]
enabled old new b (refused BadBlock) n h = elim h [ ]
enabled old new b (refused Missing) n h = elim h [ ]
enabled old new b (refused Fault) n h = absurd (n refl)
enabled old new b (refused Differs) n h = elim h [ ]
enabled old new b verification_initiated n h = elim h [ ]

initiated : (old new : Meter) (name : Name) (size : ℕ) (a : OperationOutcome) → a ≢ refused Fault → Does true old (initiate name size) a new → IsDone a new (begun old name size)
initiated old new name size done n h = (refl, h.is refl)
initiated old new name size (refused Disabled) n h = elim h [ ]
initiated old new name size (refused BadInitiate) n h = elim h [ ]
initiated old new name size (refused BadBlock) n h = elim h [ ]
initiated old new name size (refused Missing) n h = elim h [ ]
initiated old new name size (refused Fault) n h = absurd (n refl)
initiated old new name size (refused Differs) n h = elim h [ ]
initiated old new name size verification_initiated n h = elim h [ ]

blocked : (old new : Meter) (i : ℕ) (value : List ℕ) (a : OperationOutcome) → a ≢ refused Fault → Does true old (block i value) a new → IsDone a new (with_cell old i value)
blocked old new i value done n h = (refl, h.is refl)
blocked old new i value (refused Disabled) n h = elim h [ ]
blocked old new i value (refused BadInitiate) n h = elim h [ ]
blocked old new i value (refused BadBlock) n h = elim h [ ]
blocked old new i value (refused Missing) n h = elim h [ ]
blocked old new i value (refused Fault) n h = absurd (n refl)
blocked old new i value (refused Differs) n h = elim h [ ]
blocked old new i value verification_initiated n h = elim h [ ]

activated : (old new : Meter) (a : OperationOutcome) → a ≢ refused Fault → Does true old activate a new → IsDone a new (switched_to old old.phase (goal_bytes old))
activated old new done n h = (refl, h.is refl)
activated old new (refused Disabled) n h = elim h [ ]
activated old new (refused BadInitiate) n h = elim h [ ]
activated old new (refused BadBlock) n h = elim h [ ]
activated old new (refused Missing) n h = elim h [ ]
activated old new (refused Fault) n h = absurd (n refl)
activated old new (refused Differs) n h = elim h [ ]
activated old new verification_initiated n h = elim h [ ]

-- the goal is judged by the digest
abbrev JudgedSo : OperationOutcome → Meter → Meter → Type 0
JudgedSo a old new =
    (IsDone a new (record old { phase = verified_phase old.phase }) × IsGenuine (goal_of old.phase) (goal_bytes old))
    ⊎ ((a ≡ refused Differs) × (new ≡ record old { phase = spoilt_phase old.phase }) × ¬ IsGenuine (goal_of old.phase) (goal_bytes old))

-- so a verify does where a slice has it whole, and else it digests a slice
abbrev Judged : Meter → OperationOutcome → Meter → Type 0
Judged old a new =
    ((goal_size (goal_of old.phase) ≤ slice_size) × JudgedSo a old new)
    ⊎ ((slice_size < goal_size (goal_of old.phase)) × (a ≡ verification_initiated) × (new ≡ record old { phase = digested_phase old.phase slice_size }))

judged : (old new : Meter) (a : OperationOutcome) → a ≢ refused Fault → Does true old verify a new → Judged old a new
judged old new done n h = inl (h.0, inl ((refl, h.1.0.is refl), h.1.1 refl))
judged old new (refused Disabled) n h = elim h [ ]
judged old new (refused BadInitiate) n h = elim h [ ]
judged old new (refused BadBlock) n h = elim h [ ]
judged old new (refused Missing) n h = elim h [ ]
judged old new (refused Fault) n h = absurd (n refl)
judged old new (refused Differs) n h = inl (h.0, inr (refl, h.1.0.is refl, h.1.1 refl))
judged old new verification_initiated n h = inr (h.0, refl, h.1.is refl)

abbrev Same : OperationOutcome → OperationOutcome → Meter → Meter → Type 0
Same a b new other = (a ≡ b) × (new ≡ other)

both_done : (a b : OperationOutcome) (new other this : Meter) → IsDone a new this → IsDone b other this → Same a b new other
both_done a b new other this h k = (h.0 ∙ sym k.0, h.1 ∙ sym k.1)

judged_so_once : (old new other : Meter) (a b : OperationOutcome) → JudgedSo a old new → JudgedSo b old other → Same a b new other
judged_so_once old new other a b (inl h) (inl k) = both_done a b new other (record old { phase = verified_phase old.phase }) h.0 k.0
judged_so_once old new other a b (inl h) (inr k) = absurd (k.2 h.1)
judged_so_once old new other a b (inr h) (inl k) = absurd (h.2 k.1)
judged_so_once old new other a b (inr h) (inr k) = (h.0 ∙ sym k.0, h.1 ∙ sym k.1)

-- a goal is no larger than a slice and larger
no_size : (size : ℕ) → size ≤ slice_size → slice_size < size → ⊥
no_size size few many = omega arith

judged_once : (old new other : Meter) (a b : OperationOutcome) → Judged old a new → Judged old b other → Same a b new other
judged_once old new other a b (inl h) (inl k) = judged_so_once old new other a b h.1 k.1
judged_once old new other a b (inl h) (inr k) = absurd (no_size (goal_size (goal_of old.phase)) h.0 k.0)
judged_once old new other a b (inr h) (inl k) = absurd (no_size (goal_size (goal_of old.phase)) k.0 h.0)
judged_once old new other a b (inr h) (inr k) = (h.1 ∙ sym k.1, h.2 ∙ sym k.2)

done_once : (old new other : Meter) (operation : Operation) (a b : OperationOutcome) → a ≢ refused Fault → b ≢ refused Fault
    → Does true old operation a new → Does true old operation b other → Same a b new other
done_once old new other (enable e) a b n m h k = both_done a b new other (record old { enabled = e }) (enabled old new e a n h) (enabled old other e b m k)
done_once old new other (initiate name size) a b n m h k = both_done a b new other (begun old name size) (initiated old new name size a n h) (initiated old other name size b m k)
done_once old new other (block i value) a b n m h k = both_done a b new other (with_cell old i value) (blocked old new i value a n h) (blocked old other i value b m k)
done_once old new other verify a b n m h k = judged_once old new other a b (judged old new a n h) (judged old other b m k)
done_once old new other activate a b n m h k = both_done a b new other (switched_to old old.phase (goal_bytes old)) (activated old new a n h) (activated old other b m k)

-- ---- the step

pub one_step : OneStep
one_step old new other operation a b (inl h) (inl k) n m =
    (h.told ∙ ap refused (one_line old operation h.refusal k.refusal h.line k.line) ∙ sym k.told, h.same.is refl ∙ sym (k.same.is refl))
one_step old new other operation a b (inl h) (inr k) n m = absurd (refused_is_not_served old operation h.refusal h.line k.serves)
one_step old new other operation a b (inr h) (inl k) n m = absurd (refused_is_not_served old operation k.refusal k.line h.serves)
one_step old new other operation a b (inr h) (inr k) n m = done_once old new other operation a b n m h.does k.does

-- ---- the turn

abbrev Judgement : Meter → Meter → Type 0
Judgement old new = Judges true old true new ⊎ Judges true old false new

one_judgement : (old new other : Meter) → Judgement old new → Judgement old other → new ≡ other
one_judgement old new other (inl h) (inl k) = h.0.is refl ∙ sym (k.0.is refl)
one_judgement old new other (inl h) (inr k) = absurd (k.1 refl (h.1 refl))
one_judgement old new other (inr h) (inl k) = absurd (h.1 refl (k.1 refl))
one_judgement old new other (inr h) (inr k) = h.0.is refl ∙ sym (k.0.is refl)

-- some bytes are left, or none
no_end : (taken size : ℕ) → taken + slice_size < size → size ≤ taken + slice_size → ⊥
no_end taken size more last = omega arith

turned_once : (p : Phase) (old new other : Meter) → TurnsIn p true old true new → TurnsIn p true old true other → new ≡ other
turned_once idle old new other h k = h ∙ sym k
turned_once (receiving goal) old new other h k = h ∙ sym k
turned_once (verifying goal taken) old new other (inl h) (inl k) = h.1.is refl ∙ sym (k.1.is refl)
turned_once (verifying goal taken) old new other (inl h) (inr k) = absurd (no_end taken goal.size h.0 k.0)
turned_once (verifying goal taken) old new other (inr h) (inl k) = absurd (no_end taken goal.size k.0 h.0)
turned_once (verifying goal taken) old new other (inr h) (inr k) = one_judgement old new other h.1 k.1
turned_once (verified goal) old new other h k = h ∙ sym k
turned_once (spoilt goal) old new other h k = h ∙ sym k
turned_once switched old new other h k = h ∙ sym k

pub one_turn : OneTurn
one_turn old new other h k = turned_once old.phase old new other h k
