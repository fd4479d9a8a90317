use Rattle.fw_server.specs.Answer.{bits_in}
use Rattle.fw_server.proofs.Sizes.{written_size, size_fits, refused_for_memory}
use Rattle.fw_server.proofs.response.answer.Goals as goal

pub returns-clause-size : goal.returns-clause-size
returns-clause-size c =
    written_size c.write_response.result _ _ c.args.outcome.now c.in_ok-response.ensures.sizes c.in_ok-response.ensures.content c.write_response.ensures.written

pub returns-clause-fits : goal.returns-clause-fits
returns-clause-fits c = size_fits c.write_response.result (bits_in c.args.outcome.now) (returns-clause-size c)

pub returns-clause-memory : goal.returns-clause-memory
returns-clause-memory c =
    refused_for_memory c.write_response.result _ c.args.outcome.now c.in_ok-response.ensures.sizes c.in_ok-response.ensures.content c.write_response.ensures.refused
