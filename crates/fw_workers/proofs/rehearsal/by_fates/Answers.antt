use Rattle.fw_workers.proofs.Ending.{shut_told}
use Rattle.fw_workers.proofs.rehearsal.by_fates.Goals as goal

pub returns-clause-shut : goal.returns-clause-shut
returns-clause-shut g c = shut_told _ g.G.Gate.may_shut _ c.work.result c.work.ensures.lowest
