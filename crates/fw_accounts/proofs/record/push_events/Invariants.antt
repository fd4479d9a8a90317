use Rattle.std.proofs.Common.{◌≡◌, ◌++◌, map, take}
use Rattle.fw_world.specs.Runs.{events_of}
use Rattle.fw_air.specs.Events.{Receipt}
use Rattle.fw_accounts.proofs.record.push_events.Given as goal

-- the events of the receipts so far
abbrev pub invariant-loop-receipt : goal.invariant-loop-receipt
invariant-loop-receipt l =
    events_of l.events.items ≡ events_of l.initial.events.items ++ map (λ (receipt : Receipt). receipt.event) (take l.receipt-index l.receipts)
