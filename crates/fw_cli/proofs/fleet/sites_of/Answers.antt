use Rattle.fw_cli.proofs.Brought.{setup_of}
use Rattle.fw_cli.proofs.fleet.sites_of.Goals as goal

pub returns-in-Err-clause-asked : goal.returns-in-Err-clause-asked
returns-in-Err-clause-asked g c =
    setup_of c.loop-port.judge.fresh c.args.options.now.fresh c.in-Err.failure.error c.of_meter.result.error c.loop-port.invariant.fresh c.of_meter.ensures.error c.in-Err.ensures.asked
