use Rattle.fw_image.specs.Meter.{reopened}
use Rattle.fw_stored.proofs.meter.started_again.Goals as goal

pub started-requires-clause-there : goal.started-requires-clause-there
started-requires-clause-there c = (reopened c.args.meter.meter, c.into_store.ensures.meter, c.into_store.ensures.trusted)

pub returns-clause-meter : goal.returns-clause-meter
returns-clause-meter c = c.started.ensures.meter (reopened c.args.meter.meter) c.into_store.ensures.meter c.into_store.ensures.trusted
