use Rattle.std.proofs.Common.{◌≡◌, ◌⊎◌, ◌≤◌, ◌+◌, ◌-◌, ℕ, List, [], ◌∷◌, ◌++◌, length, take, drop, inl, sym, ◌∙◌, ap, subst, arith, length-drop, IsTrue}
use Rattle.std.proofs.lemmas.List.{take_all}
use Rattle.fw_journal.specs.Device.{splice, IsTorn}
use Rattle.fw_journal.specs.Book.{book_bytes, Stands}
use Rattle.fw_journal.proofs.Moments.{weaker, follow, on_ok}
use Rattle.fw_journal.proofs.Cuts.{length-book_bytes, length-staged, torn_behind, torn_gate, written_behind, written_gate, behind_is}
use Rattle.fw_journal.proofs.journal.write_group.Goals as goal

-- the first write leaves the records as they were
pub returns-in_err-write_synced-clause-any_moment : goal.returns-in_err-write_synced-clause-any_moment
returns-in_err-write_synced-clause-any_moment g c = λ done waiting takes.
    let d0 = c.args.device.now in
    let P : List ℕ → Type 0 = λ left. Stands left done ⊎ Stands left (done ++ waiting) in
    let inside : c.args.end + 1 ≤ length (g.D.JournalDevice.contents d0) = omega (arith, ap length takes.bytes, length-book_bytes done c.args.end takes.ends takes.done_fit) in
    let first = c.write_synced.ensures.moments takes.honesty inside takes.synced in
    weaker g.D.JournalDevice.moment g.D.JournalDevice.left_since d0 c.write_synced.new.device (IsTorn (c.args.end + 1) (length (take (length c.args.group.now - 1) (drop 1 c.args.group.now))) (g.D.JournalDevice.contents d0)) P first
    (λ left torn. inl (torn_behind done c.args.end takes.ends takes.done_fit (length (take (length c.args.group.now - 1) (drop 1 c.args.group.now))) left (subst (λ (l : List ℕ). IsTorn (c.args.end + 1) (length (take (length c.args.group.now - 1) (drop 1 c.args.group.now))) l left) takes.bytes torn)))

-- the second leaves them with all that waited or without
pub returns-clause-any_moment : goal.returns-clause-any_moment
returns-clause-any_moment g c = λ done waiting takes.
    let d0 = c.args.device.now in
    let d1 = c.write_synced.new.device in
    let d2 = c.write_synced-2.new.device in
    let P : List ℕ → Type 0 = λ left. Stands left done ⊎ Stands left (done ++ waiting) in
    let group = c.args.group.now in
    let inside : c.args.end + 1 ≤ length (g.D.JournalDevice.contents d0) = omega (arith, ap length takes.bytes, length-book_bytes done c.args.end takes.ends takes.done_fit) in
    let first = weaker g.D.JournalDevice.moment g.D.JournalDevice.left_since d0 d1 (IsTorn (c.args.end + 1) (length (take (length c.args.group.now - 1) (drop 1 c.args.group.now))) (g.D.JournalDevice.contents d0)) P (c.write_synced.ensures.moments takes.honesty inside takes.synced)
    (λ left torn. inl (torn_behind done c.args.end takes.ends takes.done_fit (length (take (length c.args.group.now - 1) (drop 1 c.args.group.now))) left (subst (λ (l : List ℕ). IsTorn (c.args.end + 1) (length (take (length c.args.group.now - 1) (drop 1 c.args.group.now))) l left) takes.bytes torn))) in
    let sliced : take (length group - 1) (drop 1 group) ≡ drop 1 group = take_all _ _ (omega (arith, length-drop 1 group)) in
    let holds : g.D.JournalDevice.contents d1 ≡ splice (book_bytes done) (c.args.end + 1) (drop 1 group) =
    c.in_ok-write_synced.ensures.done takes.honesty inside ∙ ap (λ (l : List ℕ). splice l (c.args.end + 1) (take (length group - 1) (drop 1 group))) takes.bytes ∙ ap (λ (l : List ℕ). splice (book_bytes done) (c.args.end + 1) l) sliced in
    let is_staged = written_behind done c.args.end takes.ends takes.done_fit (drop 1 group) _ holds in
    let is = behind_is waiting group takes.some takes.group_is in
    let honest = subst (λ b. IsTrue b) (sym c.write_synced.ensures.kept.honesty) takes.honesty in
    let inside_too : c.args.end ≤ length (g.D.JournalDevice.contents d1) = omega (arith, ap length is_staged, length-staged done c.args.end takes.ends takes.done_fit (drop 1 group)) in
    let second = weaker g.D.JournalDevice.moment g.D.JournalDevice.left_since d1 d2 (IsTorn c.args.end 1 (g.D.JournalDevice.contents d1)) P (c.write_synced-2.ensures.moments honest inside_too (c.in_ok-write_synced.ensures.synced takes.honesty))
    (λ left torn. torn_gate done c.args.end takes.ends takes.done_fit waiting (drop 1 group) takes.waiting_fit is left (subst (λ (l : List ℕ). IsTorn c.args.end 1 l left) is_staged torn)) in
    follow g.D.JournalDevice.moment g.D.JournalDevice.left_since d0 d1 d2 P first second

pub returns-clause-done : goal.returns-clause-done
returns-clause-done g c = λ done waiting takes.
    let d0 = c.args.device.now in
    let d1 = c.write_synced.new.device in
    let group = c.args.group.now in
    let inside : c.args.end + 1 ≤ length (g.D.JournalDevice.contents d0) = omega (arith, ap length takes.bytes, length-book_bytes done c.args.end takes.ends takes.done_fit) in
    let sliced : take (length group - 1) (drop 1 group) ≡ drop 1 group = take_all _ _ (omega (arith, length-drop 1 group)) in
    let holds : g.D.JournalDevice.contents d1 ≡ splice (book_bytes done) (c.args.end + 1) (drop 1 group) =
    c.in_ok-write_synced.ensures.done takes.honesty inside ∙ ap (λ (l : List ℕ). splice l (c.args.end + 1) (take (length group - 1) (drop 1 group))) takes.bytes ∙ ap (λ (l : List ℕ). splice (book_bytes done) (c.args.end + 1) l) sliced in
    let is_staged = written_behind done c.args.end takes.ends takes.done_fit (drop 1 group) _ holds in
    let is = behind_is waiting group takes.some takes.group_is in
    let honest : IsTrue (g.D.JournalDevice.honest d1) = subst (λ b. IsTrue b) (sym c.write_synced.ensures.kept.honesty) takes.honesty in
    let inside_too : c.args.end ≤ length (g.D.JournalDevice.contents d1) = omega (arith, ap length is_staged, length-staged done c.args.end takes.ends takes.done_fit (drop 1 group)) in
    on_ok c.write_synced-2.result (g.D.JournalDevice.contents c.write_synced-2.new.device ≡ splice (g.D.JournalDevice.contents d1) c.args.end (1 ∷ [])) (g.D.JournalDevice.contents c.write_synced-2.new.device ≡ book_bytes (done ++ waiting))
    (λ written. written_gate done c.args.end takes.ends takes.done_fit waiting (drop 1 group) takes.waiting_fit is _ (written ∙ ap (λ (l : List ℕ). splice l c.args.end (1 ∷ [])) is_staged)) (c.write_synced-2.ensures.done honest inside_too)
