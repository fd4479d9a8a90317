use Rattle.std.proofs.Common.{refl, ap, ◌∙◌}
use Rattle.fw_rollout.specs.Schedule.{listed_of, lives_of}
use Rattle.fw_rollout.specs.declared.schedule.Schedule.{Schedule}
use Rattle.fw_rollout.proofs.Daemons.{relisted_on}
use Rattle.fw_rollout.proofs.daemon.HeadDaemon.relist.Goals as goal

pub returns-clause-led : goal.returns-clause-led
returns-clause-led g c = λ leader led.
    relisted_on g.D.JournalDevice.honest g.D.JournalDevice.contents g.D.JournalDevice.may_leave c.args.self.now _ leader c.args.meters.now _ _
    c.head.ensures c.meters-list.ensures.meters led c.meters-list.ensures.list refl refl
    (c.count_on.ensures.schedule c.in_ok-schedule.ensures.schedule)
    (ap (λ (s : Schedule). listed_of s) c.count_on.ensures.others ∙ c.in_ok-schedule.ensures.listed)
    (ap (λ (s : Schedule). lives_of s) c.count_on.ensures.others ∙ c.in_ok-schedule.ensures.lives)
