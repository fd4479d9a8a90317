use Rattle.fw_store.proofs.StoreByteLemmas.{holds}
use Rattle.fw_store.proofs.laws.fields_join.Goals as goal

pub returns : goal.returns
returns c = λ bytes capacity is. holds capacity bytes is
