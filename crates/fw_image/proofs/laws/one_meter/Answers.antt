use Rattle.fw_image.proofs.Openings.{one_meter}
use Rattle.fw_image.proofs.laws.one_meter.Goals as goal

pub returns : goal.returns
returns c = one_meter c.one_header.ensures
