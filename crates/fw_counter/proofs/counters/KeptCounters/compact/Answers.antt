use Rattle.std.proofs.Common.{rules, ◌≡◌, ◌⊎◌, ⊎_elim, inr, List, [], ◌∷◌, ℕ, Vec, IsTrue, refl, sym, ap, subst, ◌∙◌}
use Rattle.std.specs.Prelude.{OnOk}
use Rattle.std.specs.Int.{w32, to_be_bytes}
use Rattle.fw_journal.specs.Book.{Stands, contents_of}
use Rattle.fw_journal.specs.Device.{LeavesOnly}
use Rattle.fw_journal.specs.Journal as journal
use Rattle.fw_journal.specs.declared.journal.Journal.{Journal}
use Rattle.fw_counter.specs.Counters.{device_of, is_broken, IsKept}
use Rattle.fw_counter.proofs.Keeps.{anew_moments, anew_stays}
use Rattle.fw_counter.proofs.counters.KeptCounters.compact.Goals as goal

pub returns-clause-any_moment : goal.returns-clause-any_moment
returns-clause-any_moment g c = λ holds.
    let J = g.D.JournalDevice in
    let met = g.met.D.JournalDevice in
    let old = c.args.self.now in
    let after = c.rewrite.new.self in
    let entry = to_be_bytes w32 old.reserved in
    let here : c.deref.result.now ≡ c.in-Ok.records.items = search rules in
    let are : contents_of c.deref.result.now ≡ entry ∷ [] = ap contents_of here ∙ c.in-Ok.ensures.0 in
    anew_moments J met.counts_now met.only_now old after entry refl c.in-Ok.ensures.1 holds
    (subst (λ (l : List (List ℕ)). LeavesOnly J.moment J.left_since (device_of old) (journal.device_of after) (λ left. Stands left holds.done ⊎ Stands left l)) are
    (c.rewrite.ensures.any_moment holds.done [] holds.has))

pub returns-clause-stays : goal.returns-clause-stays
returns-clause-stays g c = λ kept.
    let J = g.D.JournalDevice in
    let met = g.met.D.JournalDevice in
    let old = c.args.self.now in
    let after = c.rewrite.new.self in
    let entry = to_be_bytes w32 old.reserved in
    let here : c.deref.result.now ≡ c.in-Ok.records.items = search rules in
    let are : contents_of c.deref.result.now ≡ entry ∷ [] = ap contents_of here ∙ c.in-Ok.ensures.0 in
    let same : IsTrue (is_broken old) → after ≡ old.journal = λ broken. (c.rewrite.ensures.broken broken).1 in
    ⊎_elim (λ holds. anew_stays J met.counts_now met.only_now old after entry refl c.in-Ok.ensures.1 holds c.rewrite.result
    (subst (λ (l : List (List ℕ)). OnOk c.rewrite.result (journal.Has J.honest J.contents J.may_leave after l [])) are (c.rewrite.ensures.acknowledged holds.has.honesty))
    (c.rewrite.ensures.unchanged holds.done [] holds.has)
    (subst (λ (l : List (List ℕ)). LeavesOnly J.moment J.left_since (device_of old) (journal.device_of after) (λ left. Stands left holds.done ⊎ Stands left l)) are
    (c.rewrite.ensures.any_moment holds.done [] holds.has)))
    (λ failed. subst (λ (j : Journal g.row.D.Denot). IsKept J (record old { journal = j })) (sym (same failed.broken)) (inr failed)) kept
