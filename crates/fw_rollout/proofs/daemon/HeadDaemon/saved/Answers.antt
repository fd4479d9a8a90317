use Rattle.std.proofs.Common.{List, subst, refl}
use Rattle.fw_rollout.specs.Counting.{CountsJust}
use Rattle.fw_rollout.specs.declared.ended.Ended.{Ended}
use Rattle.fw_rollout.proofs.Daemons.{saved_on}
use Rattle.fw_rollout.proofs.Rounds.{at_err}
use Rattle.fw_rollout.proofs.daemon.HeadDaemon.saved.Goals as goal

pub returns-clause-saves : goal.returns-clause-saves
returns-clause-saves g c = λ leader led told_all.
    saved_on g.D.JournalDevice.honest g.D.JournalDevice.contents g.D.JournalDevice.may_leave c.args.self.now _ leader led told_all _ c.in_ok-ended.ensures.taken c.commit_and_take.ensures.head
    (c.in_ok-ended.ensures.commits.acknowledged leader.synced led.holds) c.in_ok-ended.ensures.emptied refl

pub returns-clause-emptied : goal.returns-clause-emptied
returns-clause-emptied g c = c.in_ok-ended.ensures.emptied

pub returns-clause-counts : goal.returns-clause-counts
returns-clause-counts g c = subst (λ (rows : List Ended). CountsJust rows c.args.self.now.counts c.count_ended.new.counts) c.deref.ensures.value c.count_ended.ensures

pub returns-in_err-ended-clause-counts_err : goal.returns-in_err-ended-clause-counts_err
returns-in_err-ended-clause-counts_err g c = at_err c.from_residual.result refl
