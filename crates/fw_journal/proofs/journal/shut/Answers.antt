use Rattle.std.proofs.Common.{◌≡◌, ◌≤◌, ℕ, List, [], ◌∷◌, length, sym, ◌∙◌, ap, subst, arith, IsTrue}
use Rattle.fw_journal.specs.Device.{splice}
use Rattle.fw_journal.specs.Book.{book_front, book_bytes, Stands}
use Rattle.fw_journal.proofs.Moments.{follow, on_ok}
use Rattle.fw_journal.proofs.Ends.{cut_done, written_end}
use Rattle.fw_journal.proofs.Mends.{cut_leaves, gate_leaves}
use Rattle.fw_journal.proofs.journal.shut.Goals as goal

pub returns-in_err-shorten_synced-clause-any_moment : goal.returns-in_err-shorten_synced-clause-any_moment
returns-in_err-shorten_synced-clause-any_moment g c = λ records at.
    cut_leaves g.D.JournalDevice.moment g.D.JournalDevice.left_since g.D.JournalDevice.contents records c.args.end at.ends c.args.device.now c.shorten_synced.new.device at.stands
    (c.shorten_synced.ensures.moments at.honesty at.synced)

pub returns-clause-any_moment : goal.returns-clause-any_moment
returns-clause-any_moment g c = λ records at.
    let d0 = c.args.device.now in
    let d1 = c.shorten_synced.new.device in
    let d2 = c.write_synced.new.device in
    let is : g.D.JournalDevice.contents d1 ≡ book_front records = c.in_ok-shorten_synced.ensures.done at.honesty ∙ cut_done (g.D.JournalDevice.contents d0) records c.args.end at.ends at.stands in
    let honest : IsTrue (g.D.JournalDevice.honest d1) = subst (λ b. IsTrue b) (sym c.shorten_synced.ensures.kept.honesty) at.honesty in
    let inside : c.args.end ≤ length (g.D.JournalDevice.contents d1) = omega (arith, ap length is, at.ends) in
    follow g.D.JournalDevice.moment g.D.JournalDevice.left_since d0 d1 d2 (λ left. Stands left records)
    (cut_leaves g.D.JournalDevice.moment g.D.JournalDevice.left_since g.D.JournalDevice.contents records c.args.end at.ends d0 d1 at.stands (c.shorten_synced.ensures.moments at.honesty at.synced))
    (gate_leaves g.D.JournalDevice.moment g.D.JournalDevice.left_since g.D.JournalDevice.contents records c.args.end at.ends d1 d2 (g.D.JournalDevice.contents d0) at.stands is
    (c.write_synced.ensures.moments honest inside (c.in_ok-shorten_synced.ensures.synced at.honesty)))

pub returns-clause-done : goal.returns-clause-done
returns-clause-done g c = λ records at.
    let d0 = c.args.device.now in
    let d1 = c.shorten_synced.new.device in
    let d2 = c.write_synced.new.device in
    let is : g.D.JournalDevice.contents d1 ≡ book_front records = c.in_ok-shorten_synced.ensures.done at.honesty ∙ cut_done (g.D.JournalDevice.contents d0) records c.args.end at.ends at.stands in
    let honest : IsTrue (g.D.JournalDevice.honest d1) = subst (λ b. IsTrue b) (sym c.shorten_synced.ensures.kept.honesty) at.honesty in
    let inside : c.args.end ≤ length (g.D.JournalDevice.contents d1) = omega (arith, ap length is, at.ends) in
    on_ok c.write_synced.result (g.D.JournalDevice.contents d2 ≡ splice (g.D.JournalDevice.contents d1) c.args.end (0 ∷ [])) (g.D.JournalDevice.contents d2 ≡ book_bytes records)
    (λ written. written_end (g.D.JournalDevice.contents d0) records c.args.end at.ends at.stands (g.D.JournalDevice.contents d2) (written ∙ ap (λ (l : List ℕ). splice l c.args.end (0 ∷ [])) is)) (c.write_synced.ensures.done honest inside)
