use Rattle.fw_client.proofs.Hearing.{ignores}
use Rattle.fw_client.proofs.client.Client.take_answer.Goals as goal

pub returns-in-None-clause-hears : goal.returns-in-None-clause-hears
returns-in-None-clause-hears c = ignores c.args.self.now c.args.datagram.now c.in_ok-id.field-0 c.in-None.is c.in_ok-id.ensures.answered
