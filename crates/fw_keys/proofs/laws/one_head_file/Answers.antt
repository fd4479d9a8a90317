use Rattle.fw_keys.proofs.Readings.{one_head_file}
use Rattle.fw_keys.proofs.laws.one_head_file.Goals as goal

pub returns : goal.returns
returns c = one_head_file
