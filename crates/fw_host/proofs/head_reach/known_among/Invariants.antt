use Rattle.std.proofs.Common.{◌≡◌, ◌+◌, ◌<◌, ◌^◌}
use Rattle.std.specs.List.{sum_by}
use Rattle.std.specs.Map.{values_of}
use Rattle.fw_head.specs.Row.{known_of}
use Rattle.fw_host.specs.Progress.{known_among}
use Rattle.fw_host.proofs.head_reach.known_among.Given as goal

-- what was counted, and the rows that are left
abbrev pub invariant-loop-row : goal.invariant-loop-row
invariant-loop-row l = (l.known < 2 ^ 64) × (l.known + sum_by known_of l.row-iterator ≡ known_among (values_of l.head.rows))
