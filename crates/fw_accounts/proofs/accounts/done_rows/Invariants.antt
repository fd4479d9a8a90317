use Rattle.std.proofs.Common.{◌≡◌, ◌+◌, ◌<◌, ◌^◌, drop}
use Rattle.std.specs.List.{sum_by}
use Rattle.fw_world.specs.Done.{done_rows, done_with}
use Rattle.fw_accounts.proofs.accounts.done_rows.Given as goal

-- what was counted, and the rows of the head ends that are left
abbrev pub invariant-loop-head : goal.invariant-loop-head
invariant-loop-head l =
    (l.done < 2 ^ 64) × (l.done + sum_by (done_with l.world) (drop l.head-index l.setup.heads.items) ≡ done_rows l.setup l.world)
