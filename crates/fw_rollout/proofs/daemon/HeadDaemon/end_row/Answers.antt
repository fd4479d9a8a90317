use Rattle.std.proofs.Common.{List, ap, ◌∙◌}
use Rattle.fw_rollout.specs.Daemon.{since_with}
use Rattle.fw_rollout.specs.declared.ended.Ended.{Ended}
use Rattle.fw_rollout.proofs.daemon.HeadDaemon.end_row.Goals as goal

pub returns-in_err-push-clause-since : goal.returns-in_err-push-clause-since
returns-in_err-push-clause-since g c = c.since_first-self.ensures ∙ ap (λ (rows : List Ended). since_with c.args.now rows c.args.self.now.held_since) c.deref.ensures.value

pub returns-clause-since : goal.returns-clause-since
returns-clause-since g c = c.since_first-self.ensures ∙ ap (λ (rows : List Ended). since_with c.args.now rows c.args.self.now.held_since) c.deref.ensures.value
