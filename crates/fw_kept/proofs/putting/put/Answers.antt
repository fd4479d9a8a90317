use Rattle.std.proofs.Common.{rules, ◌≡◌, inl, inr, ⊎_elim, ℕ, ◌<◌, ◌^◌, List, [], ◌∷◌, ◌++◌, length, Result, Err, IfErr, sym, ◌∙◌, ap, subst, arith, append_assoc}
use Rattle.fw_ledger.specs.Entry.{Spells}
use Rattle.fw_ledger.specs.Replay.{Adds}
use Rattle.fw_ledger.specs.View.{entry_of}
use Rattle.fw_ledger.specs.Noted.{known_with, AreNotesOf}
use Rattle.fw_journal.specs.declared.error.JournalError.{JournalError}
use Rattle.fw_kept.specs.Private.{Puts}
use Rattle.fw_kept.specs.Refusals.{IsCommitRefusal, kept_error}
use Rattle.fw_kept.specs.declared.error.KeptError.{KeptError}
use Rattle.fw_kept.specs.declared.error.KeptError.TheVariants.{Full, BookFault, OutOfMemory}
use Rattle.fw_kept.proofs.Books.{all_with, err_is, fault_of, full_of, commit_of}
use Rattle.fw_kept.proofs.Puts.{unput, put_err, put_ok}
use Rattle.fw_kept.proofs.putting.put.Goals as goal

pub returns-in_err-bytes-clause-puts : goal.returns-in_err-bytes-clause-puts
returns-in_err-bytes-clause-puts g c = λ book next known makes.
    let refusal = c.in_err-bytes.field-0.0 in
    let memory : refusal ≡ OutOfMemory = c.in_err-bytes.ensures.memory in
    let same : c.from_residual.result ≡ Err refusal = search rules in
    subst (λ (r : Result (Unit {0}) KeptError). Puts g.D.JournalDevice BookFault c.args.journal.now r c.args.journal.now book next known (known_with known (entry_of c.args.told.now))) (sym same)
    (unput g.D.JournalDevice BookFault c.args.journal.now book next known (known_with known (entry_of c.args.told.now)) refusal g.met.D.JournalDevice.only_now (λ is. let other : OutOfMemory ≡ BookFault = sym memory ∙ is in cc other))

-- a record that is short enough isn't refused as too long
pub returns-in_err-commit_with-clause-puts : goal.returns-in_err-commit_with-clause-puts
returns-in_err-commit_with-clause-puts g c = λ book next known makes.
    let bytes = c.deref.result.now in
    let here : bytes ≡ c.in_ok-bytes.bytes.items = search rules in
    let entry = entry_of c.args.told.now in
    let spells : Spells bytes entry = subst (λ (l : List ℕ). Spells l entry) (sym here) c.in_ok-bytes.ensures.spelled in
    let adds : Adds bytes book next = record { entry = entry; spells = spells; makes = makes } in
    let refusal = c.in_err-commit_with.field-0.0 in
    let same : c.from_residual-in_err-commit_with.result ≡ Err (kept_error refusal) = search rules in
    let short : length c.deref.result.now < 2 ^ 32 = search rules in
    let is = ⊎_elim (λ commit. commit) (λ long. absurd (omega (arith, short, c.in_err-commit_with.ensures.too_long (ap (λ (e : JournalError). Err e) long)))) c.in_err-commit_with.ensures.refusals in
    subst (λ (r : Result (Unit {0}) KeptError). Puts g.D.JournalDevice BookFault c.args.journal.now r c.commit_with.new.self book next known (known_with known entry)) (sym same)
    (put_err g.D.JournalDevice BookFault c.args.journal.now book next known (known_with known entry) c.commit_with.new.self (λ waiting. waiting ++ bytes ∷ [])
    (λ head done waiting synced of_done of_waiting. all_with head done waiting bytes synced book next of_done of_waiting adds)
    (λ done waiting are. subst (λ (l : List (List ℕ)). AreNotesOf l (known_with known entry)) (append_assoc done waiting (bytes ∷ [])) (c.notes_go_on.ensures (done ++ waiting) bytes entry known are spells)) c.commit_with.ensures.any_moment c.commit_with.ensures.kept
    (kept_error refusal) c.in_err-commit_with.ensures.unchanged
    (λ fault. c.in_err-commit_with.ensures.breaks (ap (λ (e : JournalError). Err e) (fault_of refusal is fault)))
    (λ sound fault. c.in_err-commit_with.ensures.never sound (ap (λ (e : JournalError). Err e) (fault_of refusal is fault))))

pub returns-clause-puts : goal.returns-clause-puts
returns-clause-puts g c = λ book next known makes.
    let bytes = c.deref.result.now in
    let here : bytes ≡ c.in_ok-bytes.bytes.items = search rules in
    let entry = entry_of c.args.told.now in
    let spells : Spells bytes entry = subst (λ (l : List ℕ). Spells l entry) (sym here) c.in_ok-bytes.ensures.spelled in
    let adds : Adds bytes book next = record { entry = entry; spells = spells; makes = makes } in
    put_ok g.D.JournalDevice BookFault c.args.journal.now book next known (known_with known entry) c.commit_with.new.self (λ waiting. waiting ++ bytes ∷ [])
    (λ head done waiting synced of_done of_waiting. all_with head done waiting bytes synced book next of_done of_waiting adds)
    (λ done waiting are. subst (λ (l : List (List ℕ)). AreNotesOf l (known_with known entry)) (append_assoc done waiting (bytes ∷ [])) (c.notes_go_on.ensures (done ++ waiting) bytes entry known are spells)) c.commit_with.ensures.any_moment c.commit_with.ensures.kept
    tt c.in_ok-commit_with.ensures.acknowledged

pub returns-in_err-commit_with-clause-refusals : goal.returns-in_err-commit_with-clause-refusals
returns-in_err-commit_with-clause-refusals g c =
    let refusal = c.in_err-commit_with.field-0.0 in
    let same : c.from_residual-in_err-commit_with.result ≡ Err (kept_error refusal) = search rules in
    let short : length c.deref.result.now < 2 ^ 32 = search rules in
    let is = ⊎_elim (λ commit. commit) (λ long. absurd (omega (arith, short, c.in_err-commit_with.ensures.too_long (ap (λ (e : JournalError). Err e) long)))) c.in_err-commit_with.ensures.refusals in
    subst (λ (r : Result (Unit {0}) KeptError). IfErr r IsCommitRefusal) (sym same) (commit_of refusal is)

pub returns-in_err-commit_with-clause-full : goal.returns-in_err-commit_with-clause-full
returns-in_err-commit_with-clause-full g c = λ full.
    let refusal = c.in_err-commit_with.field-0.0 in
    let same : c.from_residual-in_err-commit_with.result ≡ Err (kept_error refusal) = search rules in
    let short : length c.deref.result.now < 2 ^ 32 = search rules in
    let is = ⊎_elim (λ commit. commit) (λ long. absurd (omega (arith, short, c.in_err-commit_with.ensures.too_long (ap (λ (e : JournalError). Err e) long)))) c.in_err-commit_with.ensures.refusals in
    ⊎_elim (λ far. inl far) (λ many. inr (omega (arith, short, many)))
    (c.in_err-commit_with.ensures.full (ap (λ (e : JournalError). Err e) (full_of refusal is (err_is (kept_error refusal) Full (sym same ∙ full)))))
