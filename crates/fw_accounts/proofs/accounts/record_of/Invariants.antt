use Rattle.std.proofs.Common.{◌≡◌, ◌++◌, map}
use Rattle.fw_air.specs.Logs.{Entry}
use Rattle.fw_world.specs.Runs.{events_of}
use Rattle.fw_accounts.proofs.accounts.record_of.Given as goal

-- the given events, and those of the entries so far
abbrev pub invariant-loop-entry : goal.invariant-loop-entry
invariant-loop-entry l =
    events_of l.events.items ≡ events_of l.given ++ map (λ (entry : Entry). entry.event) l.yielded
