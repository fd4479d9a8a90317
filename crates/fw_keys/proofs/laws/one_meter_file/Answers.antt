use Rattle.fw_keys.proofs.Readings.{one_meter_file}
use Rattle.fw_keys.proofs.laws.one_meter_file.Goals as goal

pub returns : goal.returns
returns c = one_meter_file
