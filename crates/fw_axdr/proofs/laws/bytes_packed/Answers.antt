use Rattle.fw_axdr.proofs.Cuts.{packed_whole}
use Rattle.fw_axdr.proofs.laws.bytes_packed.Goals as goal

pub returns : goal.returns
returns c = packed_whole
