use Rattle.std.proofs.Common.{inl, arith}
use Rattle.fw_journal.proofs.laws.cut_makings_begin.Goals as goal

pub returns : goal.returns
returns c left torn = inl (omega (arith, torn.no_longer))
