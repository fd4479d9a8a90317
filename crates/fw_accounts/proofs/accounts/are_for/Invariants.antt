use Rattle.std.proofs.Common.{◌≡◌, take}
use Rattle.fw_world.specs.Runs.{events_of}
use Rattle.fw_accounts.specs.Accounts.{numbered}
use Rattle.fw_accounts.proofs.accounts.are_for.Given as goal

abbrev pub invariant-loop-at : goal.invariant-loop-at
invariant-loop-at l = take l.at l.receipts ≡ numbered l.first (events_of (take l.at l.made))
