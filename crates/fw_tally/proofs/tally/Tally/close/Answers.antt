use Rattle.std.proofs.Common.{rules}
use Rattle.fw_tally.proofs.Keeps.{ends}
use Rattle.fw_tally.proofs.tally.Tally.close.Goals as goal

pub returns-clause-own : goal.returns-clause-own
returns-clause-own c = let e = ends _ _ _ _ _ _ c.close_with-closed.ensures.values.2 c.word-count.ensures in let own = e.own_at in search rules

pub returns-clause-seen : goal.returns-clause-seen
returns-clause-seen c = let e = ends _ _ _ _ _ _ c.close_with-closed.ensures.values.2 c.word-count.ensures in let seen = e.seen_at' in search rules

pub returns-clause-fits : goal.returns-clause-fits
returns-clause-fits c = let e = ends _ _ _ _ _ _ c.close_with-closed.ensures.values.2 c.word-count.ensures in let fits = e.fits_at in search rules

pub returns-clause-all : goal.returns-clause-all
returns-clause-all c = let e = ends _ _ _ _ _ _ c.close_with-closed.ensures.values.2 c.word-count.ensures in let all = e.all_at in search rules
