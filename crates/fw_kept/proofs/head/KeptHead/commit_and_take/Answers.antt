use Rattle.std.proofs.Common.{rules, ◌≡◌, Err, None, sym, subst}
use Rattle.fw_kept.specs.Head.{Commits}
use Rattle.fw_kept.specs.declared.error.KeptError.TheVariants.{BookFault}
use Rattle.fw_kept.proofs.Commits.{told_ok, told_err}
use Rattle.fw_kept.proofs.head.KeptHead.commit_and_take.Goals as goal

pub returns-in_err-commit-clause-commits : goal.returns-in_err-commit-clause-commits
returns-in_err-commit-clause-commits g c =
    let J = g.D.JournalDevice in
    let old = c.args.self.now in
    let new = c.commit.new.self in
    let refusal = c.in_err-commit.field-0.0 in
    let same : c.from_residual.result ≡ Err refusal = search rules in
    subst (λ r. Commits J BookFault None old r new old.head.book old.notes) (sym same) (told_err J BookFault None old new old.head.book old.notes refusal c.in_err-commit.ensures.commits)

pub returns-clause-commits : goal.returns-clause-commits
returns-clause-commits g c = told_ok g.D.JournalDevice BookFault None c.args.self.now c.commit.new.self c.args.self.now.head.book c.args.self.now.notes _ tt c.in_ok-commit.ensures.commits
