use Rattle.std.proofs.Common.{refl}
use Rattle.fw_stored.proofs.Stopping.{left_meter, left_size}
use Rattle.fw_stored.proofs.meter.into_store.Goals as goal

pub returns-clause-meter : goal.returns-clause-meter
returns-clause-meter c = left_meter c.args.meter c.into_store-store.result c.unfuse.new.self c.into_store-store.ensures.held c.unfuse.ensures.rest

pub returns-clause-trusted : goal.returns-clause-trusted
returns-clause-trusted c = c.into_store-store.ensures.held.trusted refl

pub returns-clause-size : goal.returns-clause-size
returns-clause-size c = left_size c.args.meter c.into_store-store.result c.unfuse.new.self c.into_store-store.ensures.held c.unfuse.ensures.rest
