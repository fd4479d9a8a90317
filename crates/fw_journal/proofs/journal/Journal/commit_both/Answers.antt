use Rattle.std.proofs.Common.{rules, ◌≡◌, ◌⊎◌, inl, inr, ⊎_elim, ℕ, ◌≤◌, ◌^◌, List, [], ◌∷◌, ◌++◌, length, length-append, arith, sym, ◌∙◌, ap, subst, IsTrue}
use Rattle.fw_journal.specs.Device.{LeavesOnly}
use Rattle.fw_journal.specs.Book.{blocks, Stands}
use Rattle.fw_journal.proofs.BookLemmas.{length-block}
use Rattle.fw_journal.proofs.journal.Journal.commit_both.Goals as goal

pub returns-in-Err-clause-unchanged : goal.returns-in-Err-clause-unchanged
returns-in-Err-clause-unchanged g c = λ done waiting has.
    let mid = c.in_ok-append.ensures.waits done waiting has in
    let size : c.len-before.result ≡ length c.args.self.now.waiting.items = search rules in
    ⊎_elim (λ back. inl (c.take_back.ensures.back done waiting (c.args.first.now ∷ []) back (size ∙ ap (λ (l : List ℕ). length l) has.waits)))
    (λ broken. inr (subst (λ b. IsTrue b) (sym c.take_back.ensures.broken) broken)) (c.in-Err.ensures.unchanged done (waiting ++ c.args.first.now ∷ []) mid)

pub returns-in-Err-clause-any_moment : goal.returns-in-Err-clause-any_moment
returns-in-Err-clause-any_moment g c = λ done waiting has.
    let some = waiting ++ c.args.first.now ∷ [] in
    let P : List ℕ → Type 0 = λ left. Stands left done ⊎ Stands left (done ++ (some ++ c.args.second.now ∷ [])) in
    let mid = c.in_ok-append.ensures.waits done waiting has in
    let through = c.commit_with.ensures.any_moment done some mid in
    let first = subst (λ d. LeavesOnly g.D.JournalDevice.moment g.D.JournalDevice.left_since d c.commit_with.new.self.device P) c.append.ensures.device through in
    subst (λ d. LeavesOnly g.D.JournalDevice.moment g.D.JournalDevice.left_since c.args.self.now.device d P) (sym c.take_back.ensures.device) first

pub returns-clause-any_moment : goal.returns-clause-any_moment
returns-clause-any_moment g c = λ done waiting has.
    let some = waiting ++ c.args.first.now ∷ [] in
    let P : List ℕ → Type 0 = λ left. Stands left done ⊎ Stands left (done ++ (some ++ c.args.second.now ∷ [])) in
    let mid = c.in_ok-append.ensures.waits done waiting has in
    let through = c.commit_with.ensures.any_moment done some mid in
    subst (λ d. LeavesOnly g.D.JournalDevice.moment g.D.JournalDevice.left_since d c.commit_with.new.self.device P) c.append.ensures.device through

pub returns-in-Err-clause-full : goal.returns-in-Err-clause-full
returns-in-Err-clause-full g c = λ is.
    let first = c.args.first.now in
    let before = c.args.self.now.waiting.items in
    ⊎_elim (λ far. inl (subst (λ n. 2 ^ 60 ≤ n) c.append.ensures.end far))
    (λ long. inr (omega (arith, long, ap (λ (l : List ℕ). length l) c.in_ok-append.ensures.added, length-append before (blocks (first ∷ [])), length-block first))) (c.in-Err.ensures.full is)
