use Rattle.std.proofs.Common.{◌≡◌}
use Rattle.fw_workers.proofs.wired_links.WiredLinks.rounds.Given as goal

abbrev pub invariant-rounds : goal.invariant-rounds
invariant-rounds g l = l.worker.board ≡ l.fn.worker.board

abbrev pub invariant-links : goal.invariant-links
invariant-links g l = l.worker.board ≡ l.fn.worker.board
