use Rattle.fw_client.specs.View.{ask_of}
use Rattle.fw_client.proofs.Spelled.{written_size, refused_for_memory}
use Rattle.fw_client.proofs.asking.apdu.Goals as goal

pub returns-clause-size : goal.returns-clause-size
returns-clause-size c =
    written_size c.write_request.result _ _ (ask_of c.args.ask.now) c.requires c.in_ok-request.ensures.named c.in_ok-request.ensures.content c.write_request.ensures.written

pub returns-clause-memory : goal.returns-clause-memory
returns-clause-memory c =
    refused_for_memory c.write_request.result _ (ask_of c.args.ask.now) c.requires c.in_ok-request.ensures.named c.in_ok-request.ensures.content c.write_request.ensures.refused
