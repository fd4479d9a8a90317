use Rattle.fw_cli.proofs.Rollouts.{relisted_ok}
use Rattle.fw_cli.proofs.waves.Waves.begin.Goals as goal

pub returns-clause-led : goal.returns-clause-led
returns-clause-led g c = λ leader led. relisted_ok _ _ _ c.relist.new.self _ leader c.relist.result c.relist.ensures.meters (c.relist.ensures.led leader led)
