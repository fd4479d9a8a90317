use Rattle.std.proofs.Common.{◌≡◌}
use Rattle.fw_workers.proofs.fated_rounds.FatedSteps.deliver_all.Given as goal

-- the worker is at the same board of the same world
abbrev pub invariant-loop-number : goal.invariant-loop-number
invariant-loop-number g l =
    (l.self.shared ≡ l.fn.self.shared) × (l.self.worker.ghost_name ≡ l.fn.self.worker.ghost_name) × (l.self.worker.now.board ≡ l.fn.self.worker.now.board)
