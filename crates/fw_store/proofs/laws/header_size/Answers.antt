use Rattle.fw_store.proofs.Parts.{size_of_header}
use Rattle.fw_store.proofs.laws.header_size.Goals as goal

pub returns : goal.returns
returns c = size_of_header c.bits_packed.ensures
