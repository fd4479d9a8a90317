use Rattle.std.proofs.Common.{rules, ◌≡◌, Result, Err, sym, ap, subst}
use Rattle.fw_book.specs.Changes.{empty_book}
use Rattle.fw_journal.specs.declared.error.JournalError.{JournalError}
use Rattle.fw_kept.specs.Private.{Puts}
use Rattle.fw_kept.specs.Refusals.{kept_error}
use Rattle.fw_kept.specs.declared.error.KeptError.{KeptError}
use Rattle.fw_kept.specs.declared.error.KeptError.TheVariants.{BookFault}
use Rattle.fw_kept.proofs.Books.{all_join, fault_of}
use Rattle.fw_kept.proofs.Puts.{put_err, put_ok}
use Rattle.fw_kept.proofs.putting.put_waiting.Goals as goal

pub returns-in_err-commit-clause-puts : goal.returns-in_err-commit-clause-puts
returns-in_err-commit-clause-puts g c = λ book known.
    let refusal = c.in_err-commit.field-0.0 in
    let same : c.from_residual.result ≡ Err (kept_error refusal) = search rules in
    subst (λ (r : Result (Unit {0}) KeptError). Puts g.D.JournalDevice BookFault c.args.journal.now r c.commit.new.self book book known known) (sym same)
    (put_err g.D.JournalDevice BookFault c.args.journal.now book book known known c.commit.new.self (λ waiting. waiting)
    (λ head done waiting synced of_done of_waiting. all_join done waiting (empty_book head) synced book of_done of_waiting) (λ done waiting are. are) c.commit.ensures.any_moment c.commit.ensures.kept
    (kept_error refusal) c.in_err-commit.ensures.unchanged
    (λ fault. c.in_err-commit.ensures.breaks (ap (λ (e : JournalError). Err e) (fault_of refusal c.in_err-commit.ensures.refusals fault)))
    (λ sound fault. c.in_err-commit.ensures.never sound (ap (λ (e : JournalError). Err e) (fault_of refusal c.in_err-commit.ensures.refusals fault))))

pub returns-clause-puts : goal.returns-clause-puts
returns-clause-puts g c = λ book known.
    put_ok g.D.JournalDevice BookFault c.args.journal.now book book known known c.commit.new.self (λ waiting. waiting)
    (λ head done waiting synced of_done of_waiting. all_join done waiting (empty_book head) synced book of_done of_waiting) (λ done waiting are. are) c.commit.ensures.any_moment c.commit.ensures.kept
    tt c.in_ok-commit.ensures.acknowledged
