use Rattle.std.proofs.Common.{drop}
use Rattle.fw_blocks.proofs.WindowSearch.{AtRun}
use Rattle.fw_blocks.proofs.window.lowest_absent.Given as goal

abbrev pub invariant-loop-run : goal.invariant-loop-run
invariant-loop-run l = AtRun l.set l.width (drop l.run-index l.run-items) l.from l.numbers l.len
