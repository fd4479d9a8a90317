use Rattle.fw_cli.proofs.Sayings.{said_nothing, said_some}
use Rattle.fw_cli.proofs.meter.Teller.tell_event.Goals as goal

pub returns-in-Some-clause-told : goal.returns-in-Some-clause-told
returns-in-Some-clause-told g c = said_some c.args.number c.args.event c.in-Some.event _ _ _ _ c.in-Some.is c.tell_one.ensures.told

pub returns-in-None-clause-told : goal.returns-in-None-clause-told
returns-in-None-clause-told g c = said_nothing c.args.number c.args.event _ _ c.in-None.is
