use Rattle.std.proofs.Common.{◌≡◌, ◌⊎◌, inl, inr, ⊎_elim, ℕ, ◌<◌, ◌≤◌, ◌^◌, [], IsTrue, sym, ◌∙◌, subst, arith}
use Rattle.fw_journal.specs.Device.{LeavesOnly}
use Rattle.fw_journal.specs.declared.journal.Journal.{Journal}
use Rattle.fw_counter.specs.Moves.{reserved_after}
use Rattle.fw_counter.specs.Reserved.{Reserves}
use Rattle.fw_counter.specs.Counters.{counter_of, device_of, is_broken, IsKept}
use Rattle.fw_counter.proofs.Keeps.{commit_moments, commit_holds, commit_fails, commit_leaves}
use Rattle.fw_counter.proofs.Records.{ok_err, used_after}
use Rattle.fw_counter.proofs.counters.KeptCounters.reserve.Goals as goal

pub returns-in_err-commit_with-clause-any_moment : goal.returns-in_err-commit_with-clause-any_moment
returns-in_err-commit_with-clause-any_moment g c = λ holds.
    let J = g.D.JournalDevice in
    let met = g.met.D.JournalDevice in
    let old = c.args.self.now in
    let journal = c.commit_with.new.self in
    let bound = c.saturating_add-bound.result in
    let fits : bound < 2 ^ 32 = omega (arith, c.saturating_add-bound.ensures) in
    let more : old.reserved ≤ bound = omega (arith, c.saturating_add-bound.ensures, c.if-self.false) in
    let after : bound ≡ reserved_after (counter_of old) = c.saturating_add-bound.ensures ∙ sym (used_after (counter_of old) c.if-self.false) in
    subst (λ (n : ℕ). LeavesOnly J.moment J.left_since (device_of old) journal.device (λ left. Reserves left old.reserved ⊎ Reserves left n)) after
    (commit_moments J met.counts_now met.only_now old journal bound c.to_be_bytes.result c.to_be_bytes.ensures fits more holds (c.commit_with.ensures.any_moment holds.done [] holds.has))

pub returns-in_err-commit_with-clause-leaves : goal.returns-in_err-commit_with-clause-leaves
returns-in_err-commit_with-clause-leaves g c = λ kept.
    let J = g.D.JournalDevice in
    let met = g.met.D.JournalDevice in
    let old = c.args.self.now in
    let journal = c.commit_with.new.self in
    let bound = c.saturating_add-bound.result in
    let fits : bound < 2 ^ 32 = omega (arith, c.saturating_add-bound.ensures) in
    let more : old.reserved ≤ bound = omega (arith, c.saturating_add-bound.ensures, c.if-self.false) in
    let same : IsTrue (is_broken old) → journal ≡ old.journal = λ broken. (c.commit_with.ensures.broken broken).1 in
    commit_leaves J met.counts_now met.only_now old journal bound c.to_be_bytes.result c.to_be_bytes.ensures fits more kept
    (λ holds. commit_moments J met.counts_now met.only_now old journal bound c.to_be_bytes.result c.to_be_bytes.ensures fits more holds (c.commit_with.ensures.any_moment holds.done [] holds.has)) same

pub returns-in_err-commit_with-clause-stays : goal.returns-in_err-commit_with-clause-stays
returns-in_err-commit_with-clause-stays g c = λ kept.
    let J = g.D.JournalDevice in
    let met = g.met.D.JournalDevice in
    let old = c.args.self.now in
    let journal = c.commit_with.new.self in
    let bound = c.saturating_add-bound.result in
    let fits : bound < 2 ^ 32 = omega (arith, c.saturating_add-bound.ensures) in
    let more : old.reserved ≤ bound = omega (arith, c.saturating_add-bound.ensures, c.if-self.false) in
    let same : IsTrue (is_broken old) → journal ≡ old.journal = λ broken. (c.commit_with.ensures.broken broken).1 in
    ⊎_elim (λ holds. commit_fails J met.counts_now met.only_now old journal bound c.to_be_bytes.result c.to_be_bytes.ensures fits more holds
    (c.in_err-commit_with.ensures.unchanged holds.done [] holds.has) (c.commit_with.ensures.any_moment holds.done [] holds.has))
    (λ failed. subst (λ (j : Journal g.row.D.Denot). IsKept J (record old { journal = j })) (sym (same failed.broken)) (inr failed)) kept

pub returns-clause-any_moment : goal.returns-clause-any_moment
returns-clause-any_moment g c = λ holds.
    let J = g.D.JournalDevice in
    let met = g.met.D.JournalDevice in
    let old = c.args.self.now in
    let journal = c.commit_with.new.self in
    let bound = c.saturating_add-bound.result in
    let fits : bound < 2 ^ 32 = omega (arith, c.saturating_add-bound.ensures) in
    let more : old.reserved ≤ bound = omega (arith, c.saturating_add-bound.ensures, c.if-self.false) in
    let after : bound ≡ reserved_after (counter_of old) = c.saturating_add-bound.ensures ∙ sym (used_after (counter_of old) c.if-self.false) in
    subst (λ (n : ℕ). LeavesOnly J.moment J.left_since (device_of old) journal.device (λ left. Reserves left old.reserved ⊎ Reserves left n)) after
    (commit_moments J met.counts_now met.only_now old journal bound c.to_be_bytes.result c.to_be_bytes.ensures fits more holds (c.commit_with.ensures.any_moment holds.done [] holds.has))

pub returns-clause-leaves : goal.returns-clause-leaves
returns-clause-leaves g c = λ kept.
    let J = g.D.JournalDevice in
    let met = g.met.D.JournalDevice in
    let old = c.args.self.now in
    let journal = c.commit_with.new.self in
    let bound = c.saturating_add-bound.result in
    let fits : bound < 2 ^ 32 = omega (arith, c.saturating_add-bound.ensures) in
    let more : old.reserved ≤ bound = omega (arith, c.saturating_add-bound.ensures, c.if-self.false) in
    let same : IsTrue (is_broken old) → journal ≡ old.journal = λ broken. (c.commit_with.ensures.broken broken).1 in
    commit_leaves J met.counts_now met.only_now old journal bound c.to_be_bytes.result c.to_be_bytes.ensures fits more kept
    (λ holds. commit_moments J met.counts_now met.only_now old journal bound c.to_be_bytes.result c.to_be_bytes.ensures fits more holds (c.commit_with.ensures.any_moment holds.done [] holds.has)) same

pub returns-clause-acknowledged : goal.returns-clause-acknowledged
returns-clause-acknowledged g c = λ holds.
    let J = g.D.JournalDevice in
    let met = g.met.D.JournalDevice in
    let old = c.args.self.now in
    let journal = c.commit_with.new.self in
    let bound = c.saturating_add-bound.result in
    let fits : bound < 2 ^ 32 = omega (arith, c.saturating_add-bound.ensures) in
    let more : old.reserved ≤ bound = omega (arith, c.saturating_add-bound.ensures, c.if-self.false) in
    let within : old.next ≤ bound = omega (arith, holds.within, more) in
    commit_holds J met.counts_now met.only_now old journal bound c.to_be_bytes.result c.to_be_bytes.ensures fits more holds within (c.in_ok-commit_with.ensures.acknowledged holds.done [] holds.has)

pub returns-clause-stays : goal.returns-clause-stays
returns-clause-stays g c = λ kept.
    let J = g.D.JournalDevice in
    let met = g.met.D.JournalDevice in
    let old = c.args.self.now in
    let journal = c.commit_with.new.self in
    let bound = c.saturating_add-bound.result in
    let fits : bound < 2 ^ 32 = omega (arith, c.saturating_add-bound.ensures) in
    let more : old.reserved ≤ bound = omega (arith, c.saturating_add-bound.ensures, c.if-self.false) in
    ⊎_elim (λ holds. inl (commit_holds J met.counts_now met.only_now old journal bound c.to_be_bytes.result c.to_be_bytes.ensures fits more holds (omega (arith, holds.within, more))
    (c.in_ok-commit_with.ensures.acknowledged holds.done [] holds.has)))
    (λ failed. absurd (ok_err _ _ (c.in_ok-commit_with.ensures.broken failed.broken).0)) kept
