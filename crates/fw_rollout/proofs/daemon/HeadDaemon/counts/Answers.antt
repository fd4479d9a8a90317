use Rattle.std.proofs.Common.{◌∙◌}
use Rattle.fw_rollout.proofs.Daemons.{counts_rows}
use Rattle.fw_rollout.proofs.daemon.HeadDaemon.counts.Goals as goal

pub returns-clause-live : goal.returns-clause-live
returns-clause-live g c = λ leader led.
    c.live.ensures.live ∙ counts_rows g.D.JournalDevice.honest g.D.JournalDevice.contents g.D.JournalDevice.may_leave c.args.self.now leader led
