use Rattle.fw_client.proofs.Places.{any_asks}
use Rattle.fw_client.proofs.outstanding.Outstanding.has_any.Goals as goal

pub returns : goal.returns
returns c =
    any_asks c.is_any_asked.result c.self.inside.places c.args.self.now c.is_any_asked.ensures c.self.view_is
