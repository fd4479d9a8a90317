use Rattle.fw_store.proofs.Parts.{one_header}
use Rattle.fw_store.proofs.laws.one_header.Goals as goal

pub returns : goal.returns
returns c = one_header c.bits_packed.ensures c.one_name.ensures c.one_set_for_bytes.ensures
