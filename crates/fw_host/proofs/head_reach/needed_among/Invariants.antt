use Rattle.std.proofs.Common.{◌≡◌, ◌+◌, ◌<◌, ◌^◌}
use Rattle.std.specs.List.{sum_by}
use Rattle.std.specs.Map.{values_of}
use Rattle.fw_host.specs.Progress.{needed_among, needed_of}
use Rattle.fw_host.proofs.head_reach.needed_among.Given as goal

-- what was counted, and the rows that are left
abbrev pub invariant-loop-row : goal.invariant-loop-row
invariant-loop-row l = (l.needed < 2 ^ 64) × (l.needed + sum_by needed_of l.row-iterator ≡ needed_among (values_of l.head.rows))
