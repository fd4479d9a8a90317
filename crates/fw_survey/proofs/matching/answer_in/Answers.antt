use Rattle.fw_survey.proofs.Carried.{answered, none_answers}
use Rattle.fw_survey.proofs.matching.answer_in.Goals as goal

pub returns-in-Some-clause-answer : goal.returns-in-Some-clause-answer
returns-in-Some-clause-answer c =
    answered c.one_frame.ensures c.one_response.ensures c.args.datagram.now c.in_ok-response.field-0 c.in-Some.response c.answered.result c.in-Some.is
    c.in_ok-response.ensures.response c.answered.ensures

pub returns-in-None-clause-answer : goal.returns-in-None-clause-answer
returns-in-None-clause-answer c = none_answers c.args.datagram.now c.in_ok-response.field-0 c.in-None.is c.in_ok-response.ensures.response
