use Rattle.std.proofs.Common.{◌≡◌, None, IsTrue, true, false, cond, set, length, refl, sym, ap, ◌∙◌}
use Rattle.fw_blocks.specs.Members.{has}
use Rattle.fw_store.specs.Device.{Device, slot_bytes, written, Torn}
use Rattle.fw_store.specs.declared.slot.Slot.{Slot}
use Rattle.fw_image.specs.declared.status.TransferStatus.TheVariants.{Initiated}
use Rattle.fw_image.specs.Meter.{status_of}
use Rattle.fw_image.specs.Step.{block, done, refused}
use Rattle.fw_image.specs.Moves.{with_mark}
use Rattle.fw_image.specs.Stored.{meter_of, phase_of, phase_at, seen}
use Rattle.fw_image.specs.declared.error.Refusal.TheVariants.{Fault}
use Rattle.fw_image.proofs.Blocks.{mark_more, mark_again}
use Rattle.fw_image.proofs.Meters.{seen_size, headed, none_digested}
use Rattle.fw_image.proofs.Moves.{makes_served, no_fault, keeps_twice, fault_told, is_receiving, counted_after}
use Rattle.fw_image.proofs.Puts.{leaves_put, left_torn, left_unmarked, tears_put, calls_put, one_or_two, served_block, marks_in, valid_marked, wrote, wrote_then, wrote_head, holding_put}
use Rattle.fw_image.proofs.held.Held.block.Goals as goal

pub returns-in_err-write-clause-makes : goal.returns-in_err-write-clause-makes
returns-in_err-write-clause-makes g c =
    let known = g.S.ImageStore.known in
    let store = known c.self.inside.store in
    let h = c.self.inside.header in
    let valid = c.self.invariant.held.valid in
    let at : status_of (phase_at c.self.inside.digesting (phase_of h.status h.goal)) ≡ Initiated = rw (← c.self.view_is) at c.requires in
    let none_digests = none_digested store h c.self.inside.digesting c.self.invariant.digested Initiated at (λ e. cc) in
    let status : status_of (phase_of h.status h.goal) ≡ Initiated = rw none_digests at at in
    let place = c.in-Some.ensures.found in
    let phase = is_receiving _ h place.goal valid status place.there in
    let m = meter_of store.capacity h (seen store.honest store.capacity store.device) in
    let calls = calls_put store.capacity h (seen store.honest store.capacity store.device) c.args.number c.in-Some.start c.args.value.now place in
    let sized = seen_size store.honest store.capacity store.device (g.met.S.ImageStore.sized c.self.inside.store) in
    let told = c.in_err-write.ensures in
    rw (← c.self.view_is, none_digests, fault_told c.from_residual.result c.from_residual.ensures.1)
    (makes_served store (known c.write.new.self) h h None None (block c.args.number c.args.value.now) (refused Fault) told.kept told.cause.counted told.cause.never
    (rw calls (c.calls_end.ensures 1 (cond (has h.marks c.args.number) 1 2) _ _ (one_or_two (has h.marks c.args.number)) told.spends))
    (served_block m place.goal c.args.number c.args.value.now c.if-not-self.false phase place.is_block)
    (tears_put c.other_blocks_stay.ensures c.begins_within.ensures c.splice_stands.ensures store.honest store.capacity h store.device (known c.write.new.self).device c.other-spare.result c.args.number c.in-Some.start c.args.value.now
    valid sized place c.other-spare.ensures told.torn)
    (λ honest set is failed. left_torn c.other_blocks_stay.ensures c.begins_within.ensures c.splice_stands.ensures c.torn_size.ensures store.honest store.capacity h store.device (known c.write.new.self).device c.other-spare.result c.args.number c.in-Some.start c.args.value.now set.torn
    valid sized place c.other-spare.ensures honest (told.halves honest set is)))

pub returns-then-has-clause-makes : goal.returns-then-has-clause-makes
returns-then-has-clause-makes g c =
    let known = g.S.ImageStore.known in
    let store = known c.self.inside.store in
    let h = c.self.inside.header in
    let valid = c.self.invariant.held.valid in
    let at : status_of (phase_at c.self.inside.digesting (phase_of h.status h.goal)) ≡ Initiated = rw (← c.self.view_is) at c.requires in
    let none_digests = none_digested store h c.self.inside.digesting c.self.invariant.digested Initiated at (λ e. cc) in
    let status : status_of (phase_of h.status h.goal) ≡ Initiated = rw none_digests at at in
    let place = c.in-Some.ensures.found in
    let phase = is_receiving _ h place.goal valid status place.there in
    let m = meter_of store.capacity h (seen store.honest store.capacity store.device) in
    let calls = calls_put store.capacity h (seen store.honest store.capacity store.device) c.args.number c.in-Some.start c.args.value.now place in
    let sized = seen_size store.honest store.capacity store.device (g.met.S.ImageStore.sized c.self.inside.store) in
    let told = c.in_ok-write.ensures in
    let after : (slot : Slot) → IsTrue store.honest → length (slot_bytes (known c.write.new.self).device slot) ≡ store.capacity =
    λ slot honest. g.met.S.ImageStore.sized c.write.new.self slot (told.kept.honesty ∙ honest) ∙ told.kept.size in
    let sized' = seen_size store.honest store.capacity (known c.write.new.self).device after in
    let marked = sym c.has.ensures ∙ c.if-has.true in
    rw (← c.self.view_is, none_digests)
    (makes_served store (known c.write.new.self) h h None None (block c.args.number c.args.value.now) done told.kept told.cause.counted (λ _. refl)
    (rw (calls, marked) told.spends)
    (served_block m place.goal c.args.number c.args.value.now c.if-not-self.false phase place.is_block)
    (leaves_put c.other_blocks_stay.ensures c.begins_within.ensures c.splice_stands.ensures store.honest store.capacity h store.device (known c.write.new.self).device c.args.number c.in-Some.start c.args.value.now h.marks
    valid valid sized sized' place (mark_again h.marks c.args.number marked) (λ honest. wrote h c.other-spare.result c.in-Some.start c.args.value.now _ _ c.other-spare.ensures (told.done honest)))
    (no_fault store _ (block c.args.number c.args.value.now) done _ refl))

pub returns-in_err-mark_block-clause-makes : goal.returns-in_err-mark_block-clause-makes
returns-in_err-mark_block-clause-makes g c =
    let known = g.S.ImageStore.known in
    let store = known c.self.inside.store in
    let h = c.self.inside.header in
    let valid = c.self.invariant.held.valid in
    let at : status_of (phase_at c.self.inside.digesting (phase_of h.status h.goal)) ≡ Initiated = rw (← c.self.view_is) at c.requires in
    let none_digests = none_digested store h c.self.inside.digesting c.self.invariant.digested Initiated at (λ e. cc) in
    let status : status_of (phase_of h.status h.goal) ≡ Initiated = rw none_digests at at in
    let place = c.in-Some.ensures.found in
    let phase = is_receiving _ h place.goal valid status place.there in
    let m = meter_of store.capacity h (seen store.honest store.capacity store.device) in
    let calls = calls_put store.capacity h (seen store.honest store.capacity store.device) c.args.number c.in-Some.start c.args.value.now place in
    let sized = seen_size store.honest store.capacity store.device (g.met.S.ImageStore.sized c.self.inside.store) in
    let first = c.in_ok-write.ensures in
    let unmarked = sym c.has.ensures ∙ c.if-has.false in
    let told = c.in_err-mark_block.ensures in
    let still : IsTrue store.honest → IsTrue (known c.write.new.self).honest = λ honest. first.kept.honesty ∙ honest in
    let torn : IsTrue store.honest → Torn store.device c.other-spare.result c.in-Some.start (length c.args.value.now) (known c.mark_block.new.store).device =
    λ honest. record { left = c.args.value.now; size = refl; stands = told.same (still honest) ∙ first.done honest } in
    rw (← c.self.view_is, none_digests, fault_told c.from_residual-in_err-mark_block.result c.from_residual-in_err-mark_block.ensures.1, told.failed)
    (makes_served store (known c.mark_block.new.store) h h None None (block c.args.number c.args.value.now) (refused Fault) (keeps_twice store (known c.write.new.self) (known c.mark_block.new.store) first.kept told.kept)
    (counted_after false _ _ _ first.cause.counted told.cause.counted) (λ sound. told.cause.never (first.kept.soundness sound))
    (rw (calls, unmarked) (c.calls_add.ensures 1 1 _ _ _ false first.spends told.spends))
    (served_block m place.goal c.args.number c.args.value.now c.if-not-self.false phase place.is_block)
    (tears_put c.other_blocks_stay.ensures c.begins_within.ensures c.splice_stands.ensures store.honest store.capacity h store.device (known c.mark_block.new.store).device c.other-spare.result c.args.number c.in-Some.start c.args.value.now
    valid sized place c.other-spare.ensures torn)
    (λ honest set is failed. left_unmarked c.other_blocks_stay.ensures c.begins_within.ensures c.splice_stands.ensures store.honest store.capacity h store.device (known c.mark_block.new.store).device c.other-spare.result c.args.number c.in-Some.start c.args.value.now set.torn
    valid sized place c.other-spare.ensures honest unmarked (told.same (still honest) ∙ first.done honest)))

pub returns-clause-makes : goal.returns-clause-makes
returns-clause-makes g c =
    let known = g.S.ImageStore.known in
    let store = known c.self.inside.store in
    let h = c.self.inside.header in
    let valid = c.self.invariant.held.valid in
    let at : status_of (phase_at c.self.inside.digesting (phase_of h.status h.goal)) ≡ Initiated = rw (← c.self.view_is) at c.requires in
    let none_digests = none_digested store h c.self.inside.digesting c.self.invariant.digested Initiated at (λ e. cc) in
    let status : status_of (phase_of h.status h.goal) ≡ Initiated = rw none_digests at at in
    let place = c.in-Some.ensures.found in
    let phase = is_receiving _ h place.goal valid status place.there in
    let m = meter_of store.capacity h (seen store.honest store.capacity store.device) in
    let calls = calls_put store.capacity h (seen store.honest store.capacity store.device) c.args.number c.in-Some.start c.args.value.now place in
    let sized = seen_size store.honest store.capacity store.device (g.met.S.ImageStore.sized c.self.inside.store) in
    let first = c.in_ok-write.ensures in
    let unmarked = sym c.has.ensures ∙ c.if-has.false in
    let told = c.in_ok-mark_block.ensures in
    let kept = keeps_twice store (known c.write.new.self) (known c.mark_block.new.store) first.kept told.kept in
    let still : IsTrue store.honest → IsTrue (known c.write.new.self).honest = λ honest. first.kept.honesty ∙ honest in
    let after : (slot : Slot) → IsTrue store.honest → length (slot_bytes (known c.mark_block.new.store).device slot) ≡ store.capacity =
    λ slot honest. g.met.S.ImageStore.sized c.mark_block.new.store slot (kept.honesty ∙ honest) ∙ kept.size in
    let sized' = seen_size store.honest store.capacity (known c.mark_block.new.store).device after in
    let marked = mark_more h.marks (set h.marks c.args.number true) c.args.number (marks_in _ h c.args.number c.in-Some.start c.args.value.now valid place) refl in
    let valid' = valid_marked _ h c.args.number c.in-Some.start c.args.value.now (set h.marks c.args.number true) valid status place marked told.fits in
    rw (← c.self.view_is, told.done, none_digests)
    (makes_served store (known c.mark_block.new.store) h (with_mark c.args.number h) None None (block c.args.number c.args.value.now) done kept (told.cause.counted ∙ first.cause.counted) (λ _. refl)
    (rw (calls, unmarked) (c.calls_add.ensures 1 1 _ _ _ true first.spends told.spends))
    (served_block m place.goal c.args.number c.args.value.now c.if-not-self.false phase place.is_block)
    (leaves_put c.other_blocks_stay.ensures c.begins_within.ensures c.splice_stands.ensures store.honest store.capacity h store.device (known c.mark_block.new.store).device c.args.number c.in-Some.start c.args.value.now (set h.marks c.args.number true)
    valid valid' sized sized' place marked (λ honest.
    wrote_then h c.in-Some.start c.args.value.now store.device (known c.write.new.self).device (known c.mark_block.new.store).device (wrote h c.other-spare.result c.in-Some.start c.args.value.now store.device (known c.write.new.self).device c.other-spare.ensures (first.done honest)) (headed (known c.write.new.self).device (known c.mark_block.new.store).device _ (told.written (still honest)))))
    (no_fault store _ (block c.args.number c.args.value.now) done _ refl))

-- the spare slot may have any bytes after a write that failed
pub invariant_of-self : goal.invariant_of-self
invariant_of-self g c =
    let known = g.S.ImageStore.known in
    let store = known c.self.inside.store in
    let h = c.self.inside.header in
    let held = c.self.invariant.held in
    let at : status_of (phase_at c.self.inside.digesting (phase_of h.status h.goal)) ≡ Initiated = rw (← c.self.view_is) at c.requires in
    let none_digests = none_digested store h c.self.inside.digesting c.self.invariant.digested Initiated at (λ e. cc) in
    let status : status_of (phase_of h.status h.goal) ≡ Initiated = rw none_digests at at in
    let told = c.in_err-write.ensures in
    holding_put store (known c.write.new.self) h h.marks c.self.inside.digesting none_digests status told.kept held.valid
    (λ honest. held.stored honest ∙ sym (wrote_head store.device (known c.write.new.self).device c.other-spare.result c.in-Some.start (told.torn honest).left (told.torn honest).stands))
    (λ honest. (wrote h c.other-spare.result c.in-Some.start (told.torn honest).left store.device (known c.write.new.self).device c.other-spare.ensures (told.torn honest).stands).running)
    held

pub invariant_of-self-then-has : goal.invariant_of-self-then-has
invariant_of-self-then-has g c =
    let known = g.S.ImageStore.known in
    let store = known c.self.inside.store in
    let h = c.self.inside.header in
    let held = c.self.invariant.held in
    let at : status_of (phase_at c.self.inside.digesting (phase_of h.status h.goal)) ≡ Initiated = rw (← c.self.view_is) at c.requires in
    let none_digests = none_digested store h c.self.inside.digesting c.self.invariant.digested Initiated at (λ e. cc) in
    let status : status_of (phase_of h.status h.goal) ≡ Initiated = rw none_digests at at in
    let told = c.in_ok-write.ensures in
    holding_put store (known c.write.new.self) h h.marks c.self.inside.digesting none_digests status told.kept held.valid
    (λ honest. held.stored honest ∙ sym (wrote_head store.device (known c.write.new.self).device c.other-spare.result c.in-Some.start c.args.value.now (told.done honest)))
    (λ honest. (wrote h c.other-spare.result c.in-Some.start c.args.value.now store.device (known c.write.new.self).device c.other-spare.ensures (told.done honest)).running)
    held

pub invariant_of-self-in_err-mark_block : goal.invariant_of-self-in_err-mark_block
invariant_of-self-in_err-mark_block g c =
    let known = g.S.ImageStore.known in
    let store = known c.self.inside.store in
    let h = c.self.inside.header in
    let held = c.self.invariant.held in
    let at : status_of (phase_at c.self.inside.digesting (phase_of h.status h.goal)) ≡ Initiated = rw (← c.self.view_is) at c.requires in
    let none_digests = none_digested store h c.self.inside.digesting c.self.invariant.digested Initiated at (λ e. cc) in
    let status : status_of (phase_of h.status h.goal) ≡ Initiated = rw none_digests at at in
    let first = c.in_ok-write.ensures in
    let told = c.in_err-mark_block.ensures in
    let still : IsTrue store.honest → IsTrue (known c.write.new.self).honest = λ honest. first.kept.honesty ∙ honest in
    let done : IsTrue store.honest → (known c.mark_block.new.store).device ≡ written store.device c.other-spare.result c.in-Some.start c.args.value.now = λ honest. told.same (still honest) ∙ first.done honest in
    rw told.failed (holding_put store (known c.mark_block.new.store) h h.marks c.self.inside.digesting none_digests status (keeps_twice store (known c.write.new.self) (known c.mark_block.new.store) first.kept told.kept) held.valid
    (λ honest. held.stored honest ∙ sym (wrote_head store.device (known c.mark_block.new.store).device c.other-spare.result c.in-Some.start c.args.value.now (done honest)))
    (λ honest. (wrote h c.other-spare.result c.in-Some.start c.args.value.now store.device (known c.mark_block.new.store).device c.other-spare.ensures (done honest)).running)
    held)

pub invariant_of-self-2 : goal.invariant_of-self-2
invariant_of-self-2 g c =
    let known = g.S.ImageStore.known in
    let store = known c.self.inside.store in
    let h = c.self.inside.header in
    let held = c.self.invariant.held in
    let at : status_of (phase_at c.self.inside.digesting (phase_of h.status h.goal)) ≡ Initiated = rw (← c.self.view_is) at c.requires in
    let none_digests = none_digested store h c.self.inside.digesting c.self.invariant.digested Initiated at (λ e. cc) in
    let status : status_of (phase_of h.status h.goal) ≡ Initiated = rw none_digests at at in
    let place = c.in-Some.ensures.found in
    let first = c.in_ok-write.ensures in
    let told = c.in_ok-mark_block.ensures in
    let still : IsTrue store.honest → IsTrue (known c.write.new.self).honest = λ honest. first.kept.honesty ∙ honest in
    let marked = mark_more h.marks (set h.marks c.args.number true) c.args.number (marks_in _ h c.args.number c.in-Some.start c.args.value.now held.valid place) refl in
    let valid = valid_marked _ h c.args.number c.in-Some.start c.args.value.now (set h.marks c.args.number true) held.valid status place marked told.fits in
    rw told.done (holding_put store (known c.mark_block.new.store) h (set h.marks c.args.number true) c.self.inside.digesting none_digests status (keeps_twice store (known c.write.new.self) (known c.mark_block.new.store) first.kept told.kept) valid
    (λ honest. sym (ap (λ (d : Device). d.head) (told.written (still honest))))
    (λ honest.
    headed (known c.write.new.self).device (known c.mark_block.new.store).device _ (told.written (still honest)) h.running_slot
    ∙ (wrote h c.other-spare.result c.in-Some.start c.args.value.now store.device (known c.write.new.self).device c.other-spare.ensures (first.done honest)).running)
    held)
