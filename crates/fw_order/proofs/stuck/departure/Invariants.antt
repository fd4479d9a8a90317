use Rattle.std.proofs.Common.{◌≡◌, ℕ, ◌<◌, List, [], None}
use Rattle.std.specs.Prelude.{IfSome}
use Rattle.fw_order.specs.Order.{ends_of, log_at}
use Rattle.fw_order.specs.Departures.{IsDeparture}
use Rattle.fw_order.proofs.stuck.departure.Given as goal

-- what is remembered is a departure, and without any nothing is left of the ends so far
abbrev pub invariant-loop-number : goal.invariant-loop-number
invariant-loop-number l =
    (l.later ≡ None → (k : ℕ) → k < l.number → log_at (ends_of l.left) k ≡ []) × IfSome l.later (IsDeparture (ends_of l.logs))
