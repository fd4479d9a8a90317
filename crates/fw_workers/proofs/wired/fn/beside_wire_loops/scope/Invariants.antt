use Rattle.std.proofs.Common.{vec_len}
use Rattle.fw_workers.proofs.wired.fn.beside_wire_loops.scope.Given as goal

abbrev pub decreases-wire_loops : goal.decreases-wire_loops
decreases-wire_loops g l = vec_len l.rest
