use Rattle.fw_client.proofs.Hearing.{answered, none_answers}
use Rattle.fw_client.proofs.client.Client.answered.Goals as goal

pub returns-in-Some-clause-answered : goal.returns-in-Some-clause-answered
returns-in-Some-clause-answered c =
    answered c.one_frame.ensures c.one_response.ensures c.args.self.now c.args.datagram.now c.in_ok-response.field-0 c.in-Some.response c.answer.result c.in-Some.is
    c.in_ok-response.ensures.response c.answer.ensures.answered

pub returns-in-None-clause-answered : goal.returns-in-None-clause-answered
returns-in-None-clause-answered c = none_answers c.args.self.now c.args.datagram.now c.in_ok-response.field-0 c.in-None.is c.in_ok-response.ensures.response
