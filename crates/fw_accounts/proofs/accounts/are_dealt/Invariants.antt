use Rattle.std.proofs.Common.{◌≡◌, ℕ, List, ◌<◌, map}
use Rattle.std.specs.Prelude.{slice_get, Some}
use Rattle.fw_air.specs.Links.{link_of}
use Rattle.fw_air.specs.Events.{Receipt}
use Rattle.fw_accounts.specs.Accounts.{HasItsTicks}
use Rattle.fw_accounts.proofs.accounts.are_dealt.Given as goal

-- each worker before this one has its ticks
abbrev pub invariant-loop-worker : goal.invariant-loop-worker
invariant-loop-worker l =
    (worker : ℕ) (of_worker : List Receipt) → worker < l.worker → slice_get l.receipts worker ≡ Some of_worker
    → HasItsTicks (map link_of l.links) l.rounds l.workers worker of_worker
