use Rattle.std.proofs.Common.{sym, subst, ◌∙◌}
use Rattle.std.proofs.lemmas.Bool.{false≢true}
use Rattle.fw_head.specs.Head.{Head, HasOutstanding}
use Rattle.fw_rollout.proofs.daemon.HeadDaemon.answer_of.Goals as goal

pub returns-then-is_waiting : goal.returns-then-is_waiting
returns-then-is_waiting g c = subst (λ (h : Head). HasOutstanding h c.args.meter) c.head.ensures c.if-is_waiting.ensures

pub returns-then-branch : goal.returns-then-branch
returns-then-branch g c = (subst (λ (h : Head). ¬ HasOutstanding h c.args.meter) c.head.ensures c.if-is_waiting.ensures, c.in_ok-is_early.ensures.early.0 c.if-branch.true)

pub returns : goal.returns
returns g c = (
  subst (λ (h : Head). ¬ HasOutstanding h c.args.meter) c.head.ensures c.if-is_waiting.ensures,
  λ carries. false≢true (sym c.if-branch.false ∙ c.in_ok-is_early.ensures.early.1 carries),
)
