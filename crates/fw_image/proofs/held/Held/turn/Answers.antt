use Rattle.std.proofs.Common.{◌≡◌, ◌+◌, ◌≤◌, ◌↔◌, min, IsTrue, Bool, true, false, None, Some, take, inr, refl, sym, ◌∙◌, arith}
use Rattle.std.specs.Prelude.{Result, Ok, Err}
use Rattle.sha2.specs.Sha256.{sha256}
use Rattle.fw_store.specs.Device.{slot_bytes, with_head}
use Rattle.fw_store.specs.Layout.{header_bytes}
use Rattle.fw_store.specs.Slot.{other}
use Rattle.fw_store.specs.declared.error.StoreFault.{StoreFault}
use Rattle.fw_store.specs.declared.header.Header.{Header}
use Rattle.fw_image.specs.State.{Turns}
use Rattle.fw_image.specs.Moves.{judged}
use Rattle.fw_image.specs.Stored.{IsVerifying, IsHolding, state_of}
use Rattle.fw_image.proofs.Meters.{whole_bytes, phase_received, phase_verified}
use Rattle.fw_image.proofs.Moves.{held_written, held_still, keeps_twice, written_after, counted_after}
use Rattle.fw_image.proofs.Judging.{reads_some, turn_last, judges, valid_judged, judged_keeps, trusted_judged, turns_none, turns_on, turns_failed, turns_judged}
use Rattle.fw_image.proofs.held.Held.turn.Goals as goal

by_result : (r : Result Bool StoreFault) (P : Type 0) → ((genuine : Bool) → r ≡ Ok genuine → P) → ((fault : StoreFault) → r ≡ Err fault → P) → P
by_result (Ok genuine) P done failed = done genuine refl
by_result (Err fault) P done failed = failed fault refl

pub returns-in_default : goal.returns-in_default
returns-in_default g c =
    let none : c.self.inside.digesting ≡ None = sym c.in_default.ensures.value in
    rw (← c.self.view_is, c.in_default.ensures.after, none) (turns_none (g.S.ImageStore.known c.self.inside.store) c.self.inside.header)

pub returns-in-Ok-false : goal.returns-in-Ok-false
returns-in-Ok-false g c =
    let known = g.S.ImageStore.known in
    let store = known c.self.inside.store in
    let h = c.self.inside.header in
    let was = c.in-Some.digesting in
    let some : c.self.inside.digesting ≡ Some was = sym c.in-Some.ensures.value in
    let is : IsVerifying store h was = rw some at c.self.invariant.digested in
    let told = c.in-Ok-false.ensures in
    rw (← c.self.view_is, some) (turns_on store (known c.step.new.store) h was c.step.new.self is told.kept told.same told.cause.counted told.spends told.taken
    (λ all. let bad : false ≡ true = sym c.in-Ok-false.field-0-test ∙ told.all.1 (all ∙ sym told.size) in cc))

pub invariant_of-self-in-Some-goal : goal.invariant_of-self-in-Some-goal
invariant_of-self-in-Some-goal g c =
    let known = g.S.ImageStore.known in
    let store = known c.self.inside.store in
    let h = c.self.inside.header in
    let was = c.in-Some.digesting in
    let some : c.self.inside.digesting ≡ Some was = sym c.in-Some.ensures.value in
    let ended : IsVerifying store h was → IsHolding (known c.judge.new.store) c.judge.new.header c.take.new.self =
    λ is.
    let valid = c.self.invariant.held.valid in
    let read = c.in-Ok-true.ensures in
    let taken : c.step.new.self.taken ≡ min (was.taken + 4096) was.size = read.taken in
    let last : is.goal.size ≤ was.taken + 4096 = omega (arith, taken, read.all.0 c.in-Ok-true.field-0-test, read.size, is.size) in
    let still : IsTrue store.honest → IsTrue (known c.step.new.store).honest = λ honest. read.kept.honesty ∙ honest in
    let keeps = keeps_twice store (known c.step.new.store) (known c.judge.new.store) read.kept c.judge.ensures.kept in
    let one = reads_some was is.more in
    let wanted : c.in-Some-goal.goal ≡ is.goal = let same : Some c.in-Some-goal.goal ≡ Some is.goal = sym c.in-Some-goal.is ∙ is.there in cc in
    let failed : (fault : StoreFault) → c.judge.result ≡ Err fault → IsHolding (known c.judge.new.store) c.judge.new.header c.take.new.self =
    λ fault e.
    let told = c.judge.ensures in
    rw (rw e at told.failed, c.in-Some.ensures.after) (record {
      held = held_still store (known c.judge.new.store) h keeps (λ honest. (rw e at (told.same (still honest))) ∙ read.same honest) c.self.invariant.held;
      digested = tt;
    }) in
    let done : (genuine : Bool) → c.judge.result ≡ Ok genuine → IsHolding (known c.judge.new.store) c.judge.new.header c.take.new.self =
    λ genuine e.
    let told = c.judge.ensures in
    let next : Header = record h { status = judged genuine } in
    let noted : c.judge.new.header ≡ next = rw e at told.done in
    let written : IsTrue (known c.step.new.store).honest → (known c.judge.new.store).device ≡ with_head (known c.step.new.store).device (header_bytes next) = rw (e, noted) at told.written in
    let digest : IsTrue store.honest → IsTrue genuine ↔ (sha256 (take is.goal.size (slot_bytes store.device (other h.running_slot))) ≡ is.goal.name.digest) =
    λ honest. rw (e, read.size, is.size, is.slot, wanted) at (told.digest (slot_bytes store.device was.slot) (read.fed honest (is.digests honest))) in
    rw (noted, c.in-Some.ensures.after) (record {
      held =
          held_written store (known c.judge.new.store) h next (g.met.S.ImageStore.sized c.self.inside.store) keeps (written_after store (known c.step.new.store) (known c.judge.new.store) _ read.kept.honesty read.same written) c.self.invariant.held
          (valid_judged _ h (judged genuine) is.goal is.there (judged_keeps genuine (judged genuine) refl) is.marked valid (rw (e, noted) at told.fits))
          (λ d d' views honest trusted.
          trusted_judged genuine _ h d d' (judged genuine) is.goal _ refl views.same is.there (phase_received h is.goal is.receives is.there) (whole_bytes c.cuts_join.ensures _ h d is.goal valid views.sized is.there is.marked)
          (λ same. rw (views.real honest) ((digest honest).0 same)) trusted);
      digested = tt;
    }) in
    by_result c.judge.result (IsHolding (known c.judge.new.store) c.judge.new.header c.take.new.self) done failed in
    ended (rw some at c.self.invariant.digested)

pub returns-in-Some-goal : goal.returns-in-Some-goal
returns-in-Some-goal g c =
    let known = g.S.ImageStore.known in
    let store = known c.self.inside.store in
    let h = c.self.inside.header in
    let was = c.in-Some.digesting in
    let some : c.self.inside.digesting ≡ Some was = sym c.in-Some.ensures.value in
    let ended : IsVerifying store h was → Turns c.args.self.now (state_of (known c.judge.new.store) c.judge.new.header c.take.new.self) =
    λ is.
    let valid = c.self.invariant.held.valid in
    let read = c.in-Ok-true.ensures in
    let taken : c.step.new.self.taken ≡ min (was.taken + 4096) was.size = read.taken in
    let last : is.goal.size ≤ was.taken + 4096 = omega (arith, taken, read.all.0 c.in-Ok-true.field-0-test, read.size, is.size) in
    let still : IsTrue store.honest → IsTrue (known c.step.new.store).honest = λ honest. read.kept.honesty ∙ honest in
    let keeps = keeps_twice store (known c.step.new.store) (known c.judge.new.store) read.kept c.judge.ensures.kept in
    let one = reads_some was is.more in
    let wanted : c.in-Some-goal.goal ≡ is.goal = let same : Some c.in-Some-goal.goal ≡ Some is.goal = sym c.in-Some-goal.is ∙ is.there in cc in
    let failed : (fault : StoreFault) → c.judge.result ≡ Err fault → Turns c.args.self.now (state_of (known c.judge.new.store) c.judge.new.header c.take.new.self) =
    λ fault e.
    let told = c.judge.ensures in
    rw (rw e at told.failed, c.in-Some.ensures.after, ← c.self.view_is, some)
    (turns_failed store (known c.judge.new.store) h was is keeps (λ honest. (rw e at (told.same (still honest))) ∙ read.same honest)
    (counted_after false _ _ _ read.cause.counted (rw e at told.cause.counted)) (λ sound. rw e at (told.cause.never (read.kept.soundness sound)))
    (rw (turn_last is.goal was.taken last) (c.calls_add.ensures 1 1 _ _ _ false (rw one at read.spends) (rw e at told.spends)))) in
    let done : (genuine : Bool) → c.judge.result ≡ Ok genuine → Turns c.args.self.now (state_of (known c.judge.new.store) c.judge.new.header c.take.new.self) =
    λ genuine e.
    let told = c.judge.ensures in
    let next : Header = record h { status = judged genuine } in
    let noted : c.judge.new.header ≡ next = rw e at told.done in
    let written : IsTrue (known c.step.new.store).honest → (known c.judge.new.store).device ≡ with_head (known c.step.new.store).device (header_bytes next) = rw (e, noted) at told.written in
    let digest : IsTrue store.honest → IsTrue genuine ↔ (sha256 (take is.goal.size (slot_bytes store.device (other h.running_slot))) ≡ is.goal.name.digest) =
    λ honest. rw (e, read.size, is.size, is.slot, wanted) at (told.digest (slot_bytes store.device was.slot) (read.fed honest (is.digests honest))) in
    rw (noted, c.in-Some.ensures.after, ← c.self.view_is, some)
    (turns_judged store (known c.judge.new.store) h was (judged genuine) genuine is (g.met.S.ImageStore.sized c.self.inside.store) keeps ((rw e at told.cause.counted) ∙ read.cause.counted) (written_after store (known c.step.new.store) (known c.judge.new.store) _ read.kept.honesty read.same written)
    (c.calls_add.ensures 1 1 _ _ _ true (rw one at read.spends) (rw e at told.spends)) last
    (λ d d' views.
    judges genuine _ _ h (Some was) d d' (judged genuine) is.goal _ refl views.same is.there (inr (was.taken, phase_verified store h was is)) (whole_bytes c.cuts_join.ensures _ h d is.goal valid views.sized is.there is.marked)
    (λ honest. rw (views.real honest) (digest honest)))) in
    by_result c.judge.result (Turns c.args.self.now (state_of (known c.judge.new.store) c.judge.new.header c.take.new.self)) done failed in
    ended (rw some at c.self.invariant.digested)
