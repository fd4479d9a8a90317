use Rattle.std.proofs.Common.{◌≡◌}
use Rattle.fw_workers.proofs.fated_rounds.FatedSteps.rounds.Given as goal

-- the worker is at the same board of the same world, and is ready for the next round
abbrev pub invariant-rounds : goal.invariant-rounds
invariant-rounds g l =
    (l.self.worker.now.board ≡ l.self.shared.now.board.id) × (l.self.worker.ghost_name ≡ l.fn.self.worker.ghost_name) × (l.self.worker.now.board ≡ l.fn.self.worker.now.board)

abbrev pub invariant-links : goal.invariant-links
invariant-links g l =
    (l.self.worker.now.board ≡ l.self.shared.now.board.id) × (l.self.worker.ghost_name ≡ l.fn.self.worker.ghost_name) × (l.self.worker.now.board ≡ l.fn.self.worker.now.board)
