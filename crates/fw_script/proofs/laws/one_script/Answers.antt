use Rattle.fw_script.proofs.OneScript.{one_script}
use Rattle.fw_script.proofs.laws.one_script.Goals as goal

pub returns : goal.returns
returns c = one_script
