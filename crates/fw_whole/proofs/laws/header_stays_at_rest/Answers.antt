use Rattle.fw_whole.proofs.Finding.{header_stays}
use Rattle.fw_whole.proofs.laws.header_stays_at_rest.Goals as goal

pub returns : goal.returns
returns g c = λ capacity now left made is may found. header_stays capacity (g.F.StoreFiles.seen now) left made is may found
