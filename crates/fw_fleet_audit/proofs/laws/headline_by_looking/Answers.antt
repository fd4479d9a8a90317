use Rattle.fw_fleet_audit.proofs.Headline.{headline_by_looking}
use Rattle.fw_fleet_audit.proofs.laws.headline_by_looking.Goals as goal

pub returns : goal.returns
returns c = headline_by_looking c.runs_the_last.ensures
