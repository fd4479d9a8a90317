use Rattle.std.proofs.Common.{◌≡◌}
use Rattle.fw_port.proofs.list.push.Given as goal

-- nothing was appended yet, and the value still waits
abbrev pub invariant-loop : goal.invariant-loop
invariant-loop g l =
    (goal.iterator-loop g).can_next l.iterator' × (goal.iterator-loop g).is_finite l.iterator'
    × (l.list.items ≡ l.fn.list.items)
    × (l.waiting ≡ l.fn.value)
