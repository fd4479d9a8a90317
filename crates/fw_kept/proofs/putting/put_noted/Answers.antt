use Rattle.std.proofs.Common.{rules, ◌≡◌, inl, inr, ⊎_elim, ℕ, ◌<◌, ◌≤◌, ◌^◌, List, [], ◌∷◌, ◌++◌, length, Result, Err, IfErr, sym, ◌∙◌, ap, subst, arith, append_assoc}
use Rattle.fw_book.specs.Contents.{Contents}
use Rattle.fw_book.specs.Notes.{Known}
use Rattle.fw_ledger.specs.Entry.{Entry, Spells, entry_bytes}
use Rattle.fw_ledger.specs.Replay.{Adds, AddsAll, IsBookOf, Makes}
use Rattle.fw_ledger.specs.View.{entry_of}
use Rattle.fw_ledger.specs.Noted.{known_with, AreNotesOf}
use Rattle.fw_journal.specs.declared.error.JournalError.{JournalError}
use Rattle.fw_kept.specs.Private.{Puts}
use Rattle.fw_kept.specs.Refusals.{IsCommitRefusal, kept_error}
use Rattle.fw_kept.specs.declared.error.KeptError.{KeptError}
use Rattle.fw_kept.specs.declared.error.KeptError.TheVariants.{Full, BookFault, OutOfMemory}
use Rattle.fw_kept.proofs.Books.{all_both, notes_both, err_is, fault_of, full_of, commit_of}
use Rattle.fw_kept.proofs.Puts.{unput, put_err, put_ok}
use Rattle.fw_kept.proofs.putting.put_noted.Goals as goal

pub returns-in_err-first-clause-puts : goal.returns-in_err-first-clause-puts
returns-in_err-first-clause-puts g c = λ book between next known makes_first makes_second.
    let refusal = c.in_err-first.field-0.0 in
    let memory : refusal ≡ OutOfMemory = c.in_err-first.ensures.memory in
    let same : c.from_residual.result ≡ Err refusal = search rules in
    let later = known_with (known_with known (entry_of c.args.told.now)) (entry_of c.args.note.now) in
    subst (λ (r : Result (Unit {0}) KeptError). Puts g.D.JournalDevice BookFault c.args.journal.now r c.args.journal.now book next known later) (sym same)
    (unput g.D.JournalDevice BookFault c.args.journal.now book next known later refusal g.met.D.JournalDevice.only_now (λ is. let other : OutOfMemory ≡ BookFault = sym memory ∙ is in cc other))

pub returns-in_err-second-clause-puts : goal.returns-in_err-second-clause-puts
returns-in_err-second-clause-puts g c = λ book between next known makes_first makes_second.
    let refusal = c.in_err-second.field-0.0 in
    let memory : refusal ≡ OutOfMemory = c.in_err-second.ensures.memory in
    let same : c.from_residual-in_err-second.result ≡ Err refusal = search rules in
    let later = known_with (known_with known (entry_of c.args.told.now)) (entry_of c.args.note.now) in
    subst (λ (r : Result (Unit {0}) KeptError). Puts g.D.JournalDevice BookFault c.args.journal.now r c.args.journal.now book next known later) (sym same)
    (unput g.D.JournalDevice BookFault c.args.journal.now book next known later refusal g.met.D.JournalDevice.only_now (λ is. let other : OutOfMemory ≡ BookFault = sym memory ∙ is in cc other))

pub returns-in_err-commit_both-clause-puts : goal.returns-in_err-commit_both-clause-puts
returns-in_err-commit_both-clause-puts g c = λ book between next known makes_first makes_second.
    let first = c.deref.result.now in
    let second = c.deref-2.result.now in
    let here : first ≡ c.in_ok-first.first.items = search rules in
    let there : second ≡ c.in_ok-second.second.items = search rules in
    let one = entry_of c.args.told.now in
    let two = entry_of c.args.note.now in
    let spells_one : Spells first one = subst (λ (l : List ℕ). Spells l one) (sym here) c.in_ok-first.ensures.spelled in
    let spells_two : Spells second two = subst (λ (l : List ℕ). Spells l two) (sym there) c.in_ok-second.ensures.spelled in
    let refusal = c.in_err-commit_both.field-0.0 in
    let same : c.from_residual-in_err-commit_both.result ≡ Err (kept_error refusal) = search rules in
    let later = known_with (known_with known one) two in
    let short_one : length first < 2 ^ 32 = search rules in
    let short_two : length second < 2 ^ 32 = search rules in
    let is = ⊎_elim (λ commit. commit)
    (λ long. ⊎_elim (λ far. absurd (omega (arith, short_one, far))) (λ far. absurd (omega (arith, short_two, far))) (c.in_err-commit_both.ensures.too_long (ap (λ (e : JournalError). Err e) long))) c.in_err-commit_both.ensures.refusals in
    subst (λ (r : Result (Unit {0}) KeptError). Puts g.D.JournalDevice BookFault c.args.journal.now r c.commit_both.new.self book next known later) (sym same)
    (put_err g.D.JournalDevice BookFault c.args.journal.now book next known later c.commit_both.new.self (λ waiting. (waiting ++ first ∷ []) ++ second ∷ [])
    (λ head done waiting synced of_done of_waiting. all_both head done waiting first second synced book between next one two of_done of_waiting spells_one spells_two makes_first makes_second)
    (λ done waiting are. notes_both c.notes_go_on.ensures done waiting first second one two known are spells_one spells_two) c.commit_both.ensures.any_moment c.commit_both.ensures.kept
    (kept_error refusal) c.in_err-commit_both.ensures.unchanged
    (λ fault. c.in_err-commit_both.ensures.breaks (ap (λ (e : JournalError). Err e) (fault_of refusal is fault)))
    (λ sound fault. c.in_err-commit_both.ensures.never sound (ap (λ (e : JournalError). Err e) (fault_of refusal is fault))))

pub returns-clause-puts : goal.returns-clause-puts
returns-clause-puts g c = λ book between next known makes_first makes_second.
    let first = c.deref.result.now in
    let second = c.deref-2.result.now in
    let here : first ≡ c.in_ok-first.first.items = search rules in
    let there : second ≡ c.in_ok-second.second.items = search rules in
    let one = entry_of c.args.told.now in
    let two = entry_of c.args.note.now in
    let spells_one : Spells first one = subst (λ (l : List ℕ). Spells l one) (sym here) c.in_ok-first.ensures.spelled in
    let spells_two : Spells second two = subst (λ (l : List ℕ). Spells l two) (sym there) c.in_ok-second.ensures.spelled in
    put_ok g.D.JournalDevice BookFault c.args.journal.now book next known (known_with (known_with known one) two) c.commit_both.new.self (λ waiting. (waiting ++ first ∷ []) ++ second ∷ [])
    (λ head done waiting synced of_done of_waiting. all_both head done waiting first second synced book between next one two of_done of_waiting spells_one spells_two makes_first makes_second)
    (λ done waiting are. notes_both c.notes_go_on.ensures done waiting first second one two known are spells_one spells_two) c.commit_both.ensures.any_moment c.commit_both.ensures.kept
    tt c.in_ok-commit_both.ensures.acknowledged

pub returns-in_err-commit_both-clause-refusals : goal.returns-in_err-commit_both-clause-refusals
returns-in_err-commit_both-clause-refusals g c =
    let refusal = c.in_err-commit_both.field-0.0 in
    let same : c.from_residual-in_err-commit_both.result ≡ Err (kept_error refusal) = search rules in
    let short_one : length c.deref.result.now < 2 ^ 32 = search rules in
    let short_two : length c.deref-2.result.now < 2 ^ 32 = search rules in
    let is = ⊎_elim (λ commit. commit)
    (λ long. ⊎_elim (λ far. absurd (omega (arith, short_one, far))) (λ far. absurd (omega (arith, short_two, far))) (c.in_err-commit_both.ensures.too_long (ap (λ (e : JournalError). Err e) long))) c.in_err-commit_both.ensures.refusals in
    subst (λ (r : Result (Unit {0}) KeptError). IfErr r IsCommitRefusal) (sym same) (commit_of refusal is)

pub returns-in_err-commit_both-clause-full : goal.returns-in_err-commit_both-clause-full
returns-in_err-commit_both-clause-full g c = λ full.
    let refusal = c.in_err-commit_both.field-0.0 in
    let same : c.from_residual-in_err-commit_both.result ≡ Err (kept_error refusal) = search rules in
    let short_one : length c.deref.result.now < 2 ^ 32 = search rules in
    let short_two : length c.deref-2.result.now < 2 ^ 32 = search rules in
    let there : c.deref-2.result.now ≡ c.in_ok-second.second.items = search rules in
    let bytes : length c.deref-2.result.now ≤ 64 = subst (λ (l : List ℕ). length l ≤ 64) (sym (there ∙ c.in_ok-second.ensures.spelled.spelled)) c.requires.small in
    let is = ⊎_elim (λ commit. commit)
    (λ long. ⊎_elim (λ far. absurd (omega (arith, short_one, far))) (λ far. absurd (omega (arith, short_two, far))) (c.in_err-commit_both.ensures.too_long (ap (λ (e : JournalError). Err e) long))) c.in_err-commit_both.ensures.refusals in
    ⊎_elim (λ far. inl far) (λ many. inr (omega (arith, short_one, bytes, many)))
    (c.in_err-commit_both.ensures.full (ap (λ (e : JournalError). Err e) (full_of refusal is (err_is (kept_error refusal) Full (sym same ∙ full)))))
