use Rattle.fw_kept.proofs.Books.{refused_have_none}
use Rattle.fw_kept.proofs.laws.refused_have_none.Goals as goal

pub returns : goal.returns
returns c = refused_have_none c.one_reading.ensures c.bad_is_none.ensures c.failed_have_none.ensures
