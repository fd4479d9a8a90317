use Rattle.fw_daemon.proofs.Hushing.{ignores_strangers}
use Rattle.fw_daemon.proofs.laws.ignores_strangers.Goals as goal

pub returns : goal.returns
returns c = ignores_strangers
