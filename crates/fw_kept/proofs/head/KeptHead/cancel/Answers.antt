use Rattle.std.proofs.Common.{rules, ◌≡◌, Result, Ok, Err, IfErr, refl, sym, ◌∙◌, ap, subst}
use Rattle.fw_book.specs.Changes.{cancelled, cancel_refusal}
use Rattle.fw_head.specs.Head.{Head, campaign_at}
use Rattle.fw_kept.specs.Head.{Commits}
use Rattle.fw_kept.specs.Refusals.{IsRefusedFor}
use Rattle.fw_kept.specs.declared.error.KeptError.{KeptError}
use Rattle.fw_kept.specs.declared.error.KeptError.TheVariants.{Full, BookFault}
use Rattle.fw_kept.proofs.Books.{err_is, commit_refused}
use Rattle.fw_kept.proofs.Backs.{cancelled_also}
use Rattle.fw_kept.proofs.Commits.{undone, fails, done}
use Rattle.fw_kept.proofs.Notings.{puts_plain}
use Rattle.fw_ledger.specs.View.{entry_of}
use Rattle.fw_kept.proofs.head.KeptHead.cancel.Goals as goal

pub returns-in_err-cancelling-clause-commits : goal.returns-in_err-cancelling-clause-commits
returns-in_err-cancelling-clause-commits g c =
    let J = g.D.JournalDevice in
    let met = g.met.D.JournalDevice in
    let old = c.args.self.now in
    let first = cancel_refusal old.head.book (campaign_at old.head c.args.serial) in
    let next = cancelled old.head.book c.args.serial in
    let refusal = c.in_err-cancelling.field-0.0 in
    let same : c.from_residual.result ≡ Err refusal = search rules in
    subst (λ r. Commits J BookFault first old r old next old.notes) (sym same)
    (undone J met.counts_now met.only_now met.reads_may_be_left BookFault first old next old.notes refusal (λ broken none. err_is refusal BookFault (c.in_err-cancelling.ensures.broken broken none))
    (λ is. c.in_err-cancelling.ensures.fault (ap (λ (e : KeptError). Err e) is)))

pub returns-in_err-put-clause-refused : goal.returns-in_err-put-clause-refused
returns-in_err-put-clause-refused g c =
    let refusal = c.in_err-put.field-0.0 in
    let same : c.from_residual-in_err-put.result ≡ Err refusal = search rules in
    let first = cancel_refusal c.args.self.now.head.book (campaign_at c.args.self.now.head c.args.serial) in
    subst (λ r. IfErr r (IsRefusedFor first)) (sym same) (commit_refused first refusal c.in_err-put.ensures.refusals c.in_ok-cancelling.ensures.admitted)

pub returns-in_err-put-clause-commits : goal.returns-in_err-put-clause-commits
returns-in_err-put-clause-commits g c =
    let J = g.D.JournalDevice in
    let met = g.met.D.JournalDevice in
    let old = c.args.self.now in
    let first = cancel_refusal old.head.book (campaign_at old.head c.args.serial) in
    let next = cancelled old.head.book c.args.serial in
    let refusal = c.in_err-put.field-0.0 in
    let same : c.from_residual-in_err-put.result ≡ Err refusal = search rules in
    subst (λ r. Commits J BookFault first old r (record old { journal = c.put.new.journal }) next old.notes) (sym same)
    (fails J met.counts_now met.only_now met.reads_may_be_left BookFault first old next old.notes c.put.new.journal refusal c.in_ok-cancelling.ensures.works (cancelled_also old.head.book c.args.serial)
    (puts_plain J BookFault old.journal c.put.new.journal (let r : Result (Unit {0}) KeptError = Err refusal in r) old.head.book next old.notes (entry_of c.in_ok-cancelling.cancelling) c.in_ok-cancelling.ensures.no_note
    (c.in_err-put.ensures.puts old.head.book next old.notes c.in_ok-cancelling.ensures.makes)))

pub returns-in_err-put-clause-full : goal.returns-in_err-put-clause-full
returns-in_err-put-clause-full g c = λ full.
    let refusal = c.in_err-put.field-0.0 in
    let same : c.from_residual-in_err-put.result ≡ Err refusal = search rules in
    c.in_err-put.ensures.full (ap (λ (e : KeptError). Err e) (err_is refusal Full (sym same ∙ full)))

pub returns-clause-commits : goal.returns-clause-commits
returns-clause-commits g c =
    let met = g.met.D.JournalDevice in
    let old = c.args.self.now in
    let first = cancel_refusal old.head.book (campaign_at old.head c.args.serial) in
    let next = cancelled old.head.book c.args.serial in
    done g.D.JournalDevice met.counts_now met.only_now met.reads_may_be_left BookFault first old next old.notes c.cancel.new.self old.notes c.put.new.journal tt tt c.in_ok-cancelling.ensures.works
    (ap (λ (h : Head). h.book) c.in_ok-cancel.ensures.cancelled) refl refl
    (puts_plain g.D.JournalDevice BookFault old.journal c.put.new.journal (let r : Result (Unit {0}) KeptError = Ok tt in r) old.head.book next old.notes (entry_of c.in_ok-cancelling.cancelling) c.in_ok-cancelling.ensures.no_note
    (c.in_ok-put.ensures.puts old.head.book next old.notes c.in_ok-cancelling.ensures.makes))
