use Rattle.fw_client.proofs.Hearing.{only_claimed}
use Rattle.fw_client.proofs.laws.only_claimed.Goals as goal

pub returns : goal.returns
returns c = only_claimed c.one_hearing.ensures
