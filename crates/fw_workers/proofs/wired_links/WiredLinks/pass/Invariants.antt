use Rattle.std.proofs.Common.{◌≡◌}
use Rattle.fw_workers.proofs.wired_links.WiredLinks.pass.Given as goal

abbrev pub invariant-arrivals : goal.invariant-arrivals
invariant-arrivals g l = l.worker.board ≡ l.fn.worker.board
