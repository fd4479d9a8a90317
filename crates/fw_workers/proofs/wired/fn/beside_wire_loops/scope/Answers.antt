use Rattle.std.proofs.Common.{rules}
use Rattle.fw_workers.proofs.Ending.{shut_told}
use Rattle.fw_workers.proofs.wired.fn.beside_wire_loops.scope.Goals as goal

pub returns : goal.returns
returns g c =
    record {
      reported = search rules;
      shut = shut_told _ g.G.Gate.may_shut _ c.work.result c.work.ensures.lowest;
    }
