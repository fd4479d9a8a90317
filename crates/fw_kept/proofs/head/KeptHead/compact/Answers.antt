use Rattle.std.proofs.Common.{None, refl, subst}
use Rattle.fw_book.specs.Contents.{Contents}
use Rattle.fw_journal.specs.declared.error.RewriteError.TheVariants.{BookFault}
use Rattle.fw_kept.specs.Private.{Puts}
use Rattle.fw_kept.proofs.Commits.{undone, same_book}
use Rattle.fw_kept.proofs.head.KeptHead.compact.Goals as goal

pub returns-in-Ok-clause-commits : goal.returns-in-Ok-clause-commits
returns-in-Ok-clause-commits g c =
    let J = g.D.JournalDevice in
    let met = g.met.D.JournalDevice in
    let old = c.args.self.now in
    let after = c.write_anew.new.journal in
    same_book J met.counts_now met.only_now met.reads_may_be_left BookFault None old after c.write_anew.result c.in-Ok.ensures.ok
    (subst (λ (b : Contents). Puts J BookFault old.journal c.write_anew.result after b b old.notes old.notes) c.view.ensures.book c.write_anew.ensures.puts)

pub returns-in-Err-clause-commits : goal.returns-in-Err-clause-commits
returns-in-Err-clause-commits g c =
    let met = g.met.D.JournalDevice in
    let old = c.args.self.now in
    undone g.D.JournalDevice met.counts_now met.only_now met.reads_may_be_left BookFault None old old.head.book old.notes BookFault (λ broken none. refl) (λ is. c.in-Err.ensures.err.1)
