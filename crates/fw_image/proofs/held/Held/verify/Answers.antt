use Rattle.std.proofs.Common.{◌≡◌, ◌+◌, ◌<◌, ◌≤◌, ◌↔◌, min, IsTrue, true, false, None, Some, take, cond, inl, refl, sym, ◌∙◌, arith}
use Rattle.sha2.specs.Sha256.{sha256}
use Rattle.fw_store.specs.Device.{slot_bytes, with_head}
use Rattle.fw_store.specs.Layout.{header_bytes}
use Rattle.fw_store.specs.Slot.{other}
use Rattle.fw_store.specs.declared.header.Header.{Header}
use Rattle.fw_image.specs.declared.status.TransferStatus.TheVariants.{Initiated}
use Rattle.fw_image.specs.declared.error.Refusal.TheVariants.{Missing, Differs}
use Rattle.fw_image.specs.Meter.{status_of}
use Rattle.fw_image.specs.Step.{verify, done, refused, verification_initiated}
use Rattle.fw_image.specs.Calls.{calls_for}
use Rattle.fw_image.specs.Moves.{judged}
use Rattle.fw_image.specs.Stored.{phase_of, phase_at, seen}
use Rattle.fw_image.proofs.Meters.{seen_size, seen_same, whole_bytes, missing_bytes, none_digested}
use Rattle.fw_image.proofs.Moves.{meter_in, seen_of, no_fault, makes_refused, makes_served, makes_failed, makes_written, held_written, keeps_twice, is_receiving, written_after, counted_after}
use Rattle.fw_image.proofs.Judging.{goal_there, some_bytes, served_verify, refused_verify, calls_whole, calls_part, calls_some, reads_some, does_whole, does_part, judges, valid_judged, judged_keeps, trusted_judged, judged_faultless, verify_fault, verify_part, verify_whole, answered}
use Rattle.fw_image.proofs.held.Held.verify.Goals as goal
use Rattle.fw_image.proofs.held.Held.verify.Goals.{then-branch, else-branch}

pub returns-in_default-clause-makes : goal.returns-in_default-clause-makes
returns-in_default-clause-makes g c =
    let known = g.S.ImageStore.known in
    let store = known c.self.inside.store in
    let h = c.self.inside.header in
    let digesting = c.self.inside.digesting in
    let valid = c.self.invariant.held.valid in
    let at : status_of (phase_at digesting (phase_of h.status h.goal)) ≡ Initiated = rw (← c.self.view_is) at c.requires in
    let none_digests = none_digested store h digesting c.self.invariant.digested Initiated at (λ e. cc) in
    let status : status_of (phase_of h.status h.goal) ≡ Initiated = rw none_digests at at in
    let there = goal_there _ h valid status in
    let lacks = c.in_default.ensures.none there.0 there.1 in
    let missing = missing_bytes store.capacity h (seen_of store) there.0 lacks.number valid there.1 lacks.below lacks.unmarked in
    rw (← c.self.view_is, none_digests) (makes_refused store h None verify Missing refl (refused_verify (meter_in store h None) there.0 c.if-not-self.false (is_receiving _ h there.0 valid status there.1) missing))

pub returns-in_err-step-clause-makes : goal.returns-in_err-step-clause-makes
returns-in_err-step-clause-makes g c =
    let known = g.S.ImageStore.known in
    let store = known c.self.inside.store in
    let h = c.self.inside.header in
    let digesting = c.self.inside.digesting in
    let valid = c.self.invariant.held.valid in
    let at : status_of (phase_at digesting (phase_of h.status h.goal)) ≡ Initiated = rw (← c.self.view_is) at c.requires in
    let none_digests = none_digested store h digesting c.self.invariant.digested Initiated at (λ e. cc) in
    let status : status_of (phase_of h.status h.goal) ≡ Initiated = rw none_digests at at in
    let wanted = c.in-Some.goal in
    let found = c.in-Some.ensures.found in
    let phase = is_receiving _ h wanted valid status found.there in
    let sized = seen_size store.honest store.capacity store.device (g.met.S.ImageStore.sized c.self.inside.store) in
    let serves = served_verify (meter_in store h None) wanted _ c.if-not-self.false phase (whole_bytes c.cuts_join.ensures store.capacity h (seen_of store) wanted valid sized found.there found.marked) in
    let some : c.begin-digesting.result.taken < c.begin-digesting.result.size = omega (arith, some_bytes store.capacity h wanted valid found.there, c.begin-digesting.ensures.taken, c.begin-digesting.ensures.size) in
    let one = reads_some c.begin-digesting.result some in
    let told = c.in_err-step.ensures in
    rw (← c.self.view_is, verify_fault c.from_residual.result _ c.from_residual.ensures.1, none_digests)
    (makes_failed store (known c.step.new.store) h None verify told.kept told.same told.cause.counted told.cause.never
    (c.calls_end.ensures 1 (calls_for (meter_in store h None) verify) _ _ (calls_some (meter_in store h None)) (rw one at told.spends)) serves (λ m m' l. l) (λ torn m. refl))

pub returns-then-not-branch-clause-makes : goal.returns-then-not-branch-clause-makes
returns-then-not-branch-clause-makes g c =
    let known = g.S.ImageStore.known in
    let store = known c.self.inside.store in
    let h = c.self.inside.header in
    let digesting = c.self.inside.digesting in
    let valid = c.self.invariant.held.valid in
    let at : status_of (phase_at digesting (phase_of h.status h.goal)) ≡ Initiated = rw (← c.self.view_is) at c.requires in
    let none_digests = none_digested store h digesting c.self.invariant.digested Initiated at (λ e. cc) in
    let status : status_of (phase_of h.status h.goal) ≡ Initiated = rw none_digests at at in
    let wanted = c.in-Some.goal in
    let found = c.in-Some.ensures.found in
    let phase = is_receiving _ h wanted valid status found.there in
    let sized = seen_size store.honest store.capacity store.device (g.met.S.ImageStore.sized c.self.inside.store) in
    let serves = served_verify (meter_in store h None) wanted _ c.if-not-self.false phase (whole_bytes c.cuts_join.ensures store.capacity h (seen_of store) wanted valid sized found.there found.marked) in
    let some : c.begin-digesting.result.taken < c.begin-digesting.result.size = omega (arith, some_bytes store.capacity h wanted valid found.there, c.begin-digesting.ensures.taken, c.begin-digesting.ensures.size) in
    let one = reads_some c.begin-digesting.result some in
    let told = c.in_ok-step.ensures in
    let taken : c.step.new.self.taken ≡ min (c.begin-digesting.result.taken + 4096) c.begin-digesting.result.size = told.taken in
    let left : c.step.new.self.taken ≡ c.step.new.self.size → ⊥ = λ all. let bad : false ≡ true = sym c.if-not-branch.true ∙ told.all.1 all in cc in
    let many : 4096 < wanted.size = omega (arith, taken, left, told.size, c.begin-digesting.ensures.taken, c.begin-digesting.ensures.size) in
    let slice : c.step.new.self.taken ≡ 4096 = omega (arith, taken, c.begin-digesting.ensures.taken, c.begin-digesting.ensures.size) in
    rw (← c.self.view_is, verify_part (phase_of h.status h.goal) wanted c.step.new.self.taken phase, none_digests)
    (makes_served store (known c.step.new.store) h h None (Some c.step.new.self) verify verification_initiated told.kept told.cause.counted (λ _. refl)
    (rw (calls_part (meter_in store h None) wanted phase many) (rw one at told.spends)) serves
    (does_part store.honest store.capacity h c.step.new.self (seen_of store) (seen store.honest store.capacity (known c.step.new.store).device) wanted phase many slice (seen_same store.honest store.capacity store.device (known c.step.new.store).device told.same))
    (no_fault store _ verify verification_initiated _ refl))

pub returns-in_err-judge-clause-makes : goal.returns-in_err-judge-clause-makes
returns-in_err-judge-clause-makes g c =
    let known = g.S.ImageStore.known in
    let store = known c.self.inside.store in
    let h = c.self.inside.header in
    let digesting = c.self.inside.digesting in
    let valid = c.self.invariant.held.valid in
    let at : status_of (phase_at digesting (phase_of h.status h.goal)) ≡ Initiated = rw (← c.self.view_is) at c.requires in
    let none_digests = none_digested store h digesting c.self.invariant.digested Initiated at (λ e. cc) in
    let status : status_of (phase_of h.status h.goal) ≡ Initiated = rw none_digests at at in
    let wanted = c.in-Some.goal in
    let found = c.in-Some.ensures.found in
    let phase = is_receiving _ h wanted valid status found.there in
    let sized = seen_size store.honest store.capacity store.device (g.met.S.ImageStore.sized c.self.inside.store) in
    let serves = served_verify (meter_in store h None) wanted _ c.if-not-self.false phase (whole_bytes c.cuts_join.ensures store.capacity h (seen_of store) wanted valid sized found.there found.marked) in
    let some : c.begin-digesting.result.taken < c.begin-digesting.result.size = omega (arith, some_bytes store.capacity h wanted valid found.there, c.begin-digesting.ensures.taken, c.begin-digesting.ensures.size) in
    let one = reads_some c.begin-digesting.result some in
    let read = c.in_ok-step.ensures in
    let taken : c.step.new.self.taken ≡ min (c.begin-digesting.result.taken + 4096) c.begin-digesting.result.size = read.taken in
    let few : wanted.size ≤ 4096 = omega (arith, taken, read.all.0 c.if-not-branch.false, read.size, c.begin-digesting.ensures.taken, c.begin-digesting.ensures.size) in
    let still : IsTrue store.honest → IsTrue (known c.step.new.store).honest = λ honest. read.kept.honesty ∙ honest in
    let told = c.in_err-judge.ensures in
    rw (← c.self.view_is, verify_fault c.from_residual-in_err-judge.result _ c.from_residual-in_err-judge.ensures.1, told.failed, none_digests)
    (makes_failed store (known c.judge.new.store) h None verify (keeps_twice store (known c.step.new.store) (known c.judge.new.store) read.kept told.kept) (λ honest. told.same (still honest) ∙ read.same honest)
    (counted_after false _ _ _ read.cause.counted told.cause.counted) (λ sound. told.cause.never (read.kept.soundness sound))
    (rw (calls_whole (meter_in store h None) wanted phase few) (c.calls_add.ensures 1 1 _ _ _ false (rw one at read.spends) told.spends)) serves (λ m m' l. l) (λ torn m. refl))

pub invariant_of-self-2 : goal.invariant_of-self-2
invariant_of-self-2 g c =
    let known = g.S.ImageStore.known in
    let store = known c.self.inside.store in
    let h = c.self.inside.header in
    let digesting = c.self.inside.digesting in
    let valid = c.self.invariant.held.valid in
    let at : status_of (phase_at digesting (phase_of h.status h.goal)) ≡ Initiated = rw (← c.self.view_is) at c.requires in
    let none_digests = none_digested store h digesting c.self.invariant.digested Initiated at (λ e. cc) in
    let status : status_of (phase_of h.status h.goal) ≡ Initiated = rw none_digests at at in
    let wanted = c.in-Some.goal in
    let found = c.in-Some.ensures.found in
    let phase = is_receiving _ h wanted valid status found.there in
    let sized = seen_size store.honest store.capacity store.device (g.met.S.ImageStore.sized c.self.inside.store) in
    let serves = served_verify (meter_in store h None) wanted _ c.if-not-self.false phase (whole_bytes c.cuts_join.ensures store.capacity h (seen_of store) wanted valid sized found.there found.marked) in
    let some : c.begin-digesting.result.taken < c.begin-digesting.result.size = omega (arith, some_bytes store.capacity h wanted valid found.there, c.begin-digesting.ensures.taken, c.begin-digesting.ensures.size) in
    let one = reads_some c.begin-digesting.result some in
    let read = c.in_ok-step.ensures in
    let taken : c.step.new.self.taken ≡ min (c.begin-digesting.result.taken + 4096) c.begin-digesting.result.size = read.taken in
    let few : wanted.size ≤ 4096 = omega (arith, taken, read.all.0 c.if-not-branch.false, read.size, c.begin-digesting.ensures.taken, c.begin-digesting.ensures.size) in
    let still : IsTrue store.honest → IsTrue (known c.step.new.store).honest = λ honest. read.kept.honesty ∙ honest in
    let told = c.in_ok-judge.ensures in
    let genuine = c.in_ok-judge.field-0 in
    let next : Header = record h { status = judged genuine } in
    let written : IsTrue (known c.step.new.store).honest → (known c.judge.new.store).device ≡ with_head (known c.step.new.store).device (header_bytes next) = rw told.done at told.written in
    let digest : IsTrue store.honest → IsTrue genuine ↔ (sha256 (take wanted.size (slot_bytes store.device (other h.running_slot))) ≡ wanted.name.digest) =
    λ honest. rw (read.size, c.begin-digesting.ensures.size, c.begin-digesting.ensures.slot, c.other.ensures) at (told.digest (slot_bytes store.device c.begin-digesting.result.slot) (read.fed honest (c.begin-digesting.ensures.begun (slot_bytes store.device c.begin-digesting.result.slot)))) in
    rw (told.done, none_digests) (record {
      held =
          held_written store (known c.judge.new.store) h next (g.met.S.ImageStore.sized c.self.inside.store) (keeps_twice store (known c.step.new.store) (known c.judge.new.store) read.kept told.kept)
          (written_after store (known c.step.new.store) (known c.judge.new.store) _ read.kept.honesty read.same written) c.self.invariant.held (valid_judged _ h (judged genuine) wanted found.there (judged_keeps genuine (judged genuine) refl) found.marked valid (rw told.done at told.fits))
          (λ d d' views honest trusted.
          trusted_judged genuine _ h d d' (judged genuine) wanted _ refl views.same found.there phase (whole_bytes c.cuts_join.ensures _ h d wanted valid views.sized found.there found.marked)
          (λ same. rw (views.real honest) ((digest honest).0 same)) trusted);
      digested = tt;
    })

pub returns-clause-makes : goal.returns-clause-makes
returns-clause-makes g c =
    let known = g.S.ImageStore.known in
    let store = known c.self.inside.store in
    let h = c.self.inside.header in
    let digesting = c.self.inside.digesting in
    let valid = c.self.invariant.held.valid in
    let at : status_of (phase_at digesting (phase_of h.status h.goal)) ≡ Initiated = rw (← c.self.view_is) at c.requires in
    let none_digests = none_digested store h digesting c.self.invariant.digested Initiated at (λ e. cc) in
    let status : status_of (phase_of h.status h.goal) ≡ Initiated = rw none_digests at at in
    let wanted = c.in-Some.goal in
    let found = c.in-Some.ensures.found in
    let phase = is_receiving _ h wanted valid status found.there in
    let sized = seen_size store.honest store.capacity store.device (g.met.S.ImageStore.sized c.self.inside.store) in
    let serves = served_verify (meter_in store h None) wanted _ c.if-not-self.false phase (whole_bytes c.cuts_join.ensures store.capacity h (seen_of store) wanted valid sized found.there found.marked) in
    let some : c.begin-digesting.result.taken < c.begin-digesting.result.size = omega (arith, some_bytes store.capacity h wanted valid found.there, c.begin-digesting.ensures.taken, c.begin-digesting.ensures.size) in
    let one = reads_some c.begin-digesting.result some in
    let read = c.in_ok-step.ensures in
    let taken : c.step.new.self.taken ≡ min (c.begin-digesting.result.taken + 4096) c.begin-digesting.result.size = read.taken in
    let few : wanted.size ≤ 4096 = omega (arith, taken, read.all.0 c.if-not-branch.false, read.size, c.begin-digesting.ensures.taken, c.begin-digesting.ensures.size) in
    let still : IsTrue store.honest → IsTrue (known c.step.new.store).honest = λ honest. read.kept.honesty ∙ honest in
    let told = c.in_ok-judge.ensures in
    let genuine = c.in_ok-judge.field-0 in
    let next : Header = record h { status = judged genuine } in
    let written : IsTrue (known c.step.new.store).honest → (known c.judge.new.store).device ≡ with_head (known c.step.new.store).device (header_bytes next) = rw told.done at told.written in
    let digest : IsTrue store.honest → IsTrue genuine ↔ (sha256 (take wanted.size (slot_bytes store.device (other h.running_slot))) ≡ wanted.name.digest) =
    λ honest. rw (read.size, c.begin-digesting.ensures.size, c.begin-digesting.ensures.slot, c.other.ensures) at (told.digest (slot_bytes store.device c.begin-digesting.result.slot) (read.fed honest (c.begin-digesting.ensures.begun (slot_bytes store.device c.begin-digesting.result.slot)))) in
    let answer : c.if-branch.result ≡ answered genuine =
    elim c.if-branch.branch [ then-branch w ↦ rw (w.result-is, w.if-branch.true) refl | else-branch w ↦ rw (w.result-is, w.if-branch.false) refl ] in
    rw (← c.self.view_is, told.done, none_digests, verify_whole genuine c.if-branch.result h.goal wanted answer found.there)
    (makes_written store (known c.judge.new.store) h next None None verify (cond genuine done (refused Differs)) (judged_faultless genuine) (g.met.S.ImageStore.sized c.self.inside.store)
    (keeps_twice store (known c.step.new.store) (known c.judge.new.store) read.kept told.kept) (told.cause.counted ∙ read.cause.counted) (written_after store (known c.step.new.store) (known c.judge.new.store) _ read.kept.honesty read.same written)
    (rw (calls_whole (meter_in store h None) wanted phase few) (c.calls_add.ensures 1 1 _ _ _ true (rw one at read.spends) told.spends)) serves
    (λ d d' views.
    does_whole genuine _ _ _ wanted phase few
    (judges genuine _ _ h None d d' (judged genuine) wanted _ refl views.same found.there (inl phase) (whole_bytes c.cuts_join.ensures _ h d wanted valid views.sized found.there found.marked)
    (λ honest. rw (views.real honest) (digest honest)))))
