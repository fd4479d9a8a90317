use Rattle.fw_cli.proofs.Sayings.{said_left_out, said_one}
use Rattle.fw_cli.proofs.meter.Teller.tell_one.Goals as goal

pub returns-then-leaves_out-clause-told : goal.returns-then-leaves_out-clause-told
returns-then-leaves_out-clause-told g c = said_left_out c.args.number c.args.event _ _ (c.leaves_out.ensures c.if-leaves_out.true)

pub returns-clause-told : goal.returns-clause-told
returns-clause-told g c = said_one c.args.number c.args.event _ _ _ _ c.tell_event.ensures.told
