use Rattle.fw_survey.proofs.Spelled.{refused_for_memory, written_size}
use Rattle.fw_survey.proofs.asking.apdu.Goals as goal

pub returns-clause-size : goal.returns-clause-size
returns-clause-size c =
    written_size c.write_request.result _ _ c.args.question c.request-request.ensures.invoke c.request-request.ensures.content c.write_request.ensures.written

pub returns-clause-memory : goal.returns-clause-memory
returns-clause-memory c = refused_for_memory c.write_request.result _ c.args.question c.request-request.ensures.content c.write_request.ensures.refused
