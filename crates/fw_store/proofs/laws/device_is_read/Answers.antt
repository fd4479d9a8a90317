use Rattle.fw_store.proofs.StoreByteLemmas.{device_again}
use Rattle.fw_store.proofs.laws.device_is_read.Goals as goal

pub returns : goal.returns
returns c = λ d version capacity bytes. device_again version capacity d bytes
