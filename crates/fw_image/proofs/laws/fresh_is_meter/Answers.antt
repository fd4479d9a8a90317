use Rattle.fw_image.proofs.Fresh.{fresh_is_meter}
use Rattle.fw_image.proofs.laws.fresh_is_meter.Goals as goal

pub returns : goal.returns
returns c = fresh_is_meter c.fresh_is_header.ensures
