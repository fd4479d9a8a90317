use Rattle.std.proofs.Common.{◌≡◌}
use Rattle.fw_workers.proofs.wired_links.WiredLinks.link_round.Given as goal

abbrev pub invariant-passes : goal.invariant-passes
invariant-passes g l = l.worker.board ≡ l.fn.worker.board
