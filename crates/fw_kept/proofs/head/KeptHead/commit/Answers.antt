use Rattle.std.proofs.Common.{rules, ◌≡◌, Result, Err, None, sym, subst}
use Rattle.fw_kept.specs.Head.{Commits}
use Rattle.fw_kept.specs.declared.error.KeptError.{KeptError}
use Rattle.fw_kept.specs.declared.error.KeptError.TheVariants.{BookFault}
use Rattle.fw_kept.proofs.Commits.{undone, same_book}
use Rattle.fw_kept.proofs.head.KeptHead.commit.Goals as goal

pub returns-in_err-check_works-clause-commits : goal.returns-in_err-check_works-clause-commits
returns-in_err-check_works-clause-commits g c =
    let J = g.D.JournalDevice in
    let met = g.met.D.JournalDevice in
    let old = c.args.self.now in
    let refusal = c.in_err-check_works.field-0.0 in
    let same : c.from_residual.result ≡ Err refusal = search rules in
    subst (λ (r : Result (Unit {0}) KeptError). Commits J BookFault None old r old old.head.book old.notes) (sym same)
    (undone J met.counts_now met.only_now met.reads_may_be_left BookFault None old old.head.book old.notes refusal (λ broken none. c.in_err-check_works.ensures.err.0) (λ is. c.in_err-check_works.ensures.err.1))

pub returns-clause-commits : goal.returns-clause-commits
returns-clause-commits g c =
    let met = g.met.D.JournalDevice in
    let old = c.args.self.now in
    same_book g.D.JournalDevice met.counts_now met.only_now met.reads_may_be_left BookFault None old c.put_waiting.new.journal c.put_waiting.result c.in_ok-check_works.ensures.ok (c.put_waiting.ensures.puts old.head.book old.notes)
