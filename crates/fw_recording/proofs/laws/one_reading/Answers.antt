use Rattle.fw_recording.proofs.Uniqueness.{one_reading}
use Rattle.fw_recording.proofs.laws.one_reading.Goals as goal

pub returns : goal.returns
returns c = one_reading
