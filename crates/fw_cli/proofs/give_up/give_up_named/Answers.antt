use Rattle.std.proofs.Common.{◌≡◌, ap, rules, subst, sym}
use Rattle.fw_book.specs.Contents.{Contents}
use Rattle.fw_head.specs.Head.{Head}
use Rattle.fw_kept.specs.Head.{Holds, head_of}
use Rattle.fw_cli.proofs.GivenUp.{gives_up_these}
use Rattle.fw_cli.proofs.give_up.give_up_named.Goals as goal

pub returns-in-Ok-clause-given : goal.returns-in-Ok-clause-given
returns-in-Ok-clause-given g c =
    let book : c.view.result.book.now ≡ (head_of c.args.kept.now).book = search rules in
    gives_up_these _ _ _ _ c.args.named.now c.args.at _ _ _ _ c.deref.ensures.value c.in_ok-meters.ensures book c.commit.ensures.head c.in_ok-given.ensures.given

pub returns-in-Ok-clause-acknowledged : goal.returns-in-Ok-clause-acknowledged
returns-in-Ok-clause-acknowledged g c = λ synced holds.
    let J = g.D.JournalDevice in
    subst (λ (b : Contents). Holds J.honest J.contents J.may_leave c.commit.new.self b) (sym (ap (λ (h : Head). h.book) c.commit.ensures.head))
    (c.in-Ok.ensures.commits.acknowledged synced (c.in_ok-given.ensures.waits synced holds))
