use Rattle.std.proofs.Common.{◌≡◌, ◌+◌, ◌<◌, ◌^◌}
use Rattle.std.specs.List.{sum_by}
use Rattle.fw_world.specs.Done.{done_in, done_of}
use Rattle.fw_accounts.proofs.accounts.done_in.Given as goal

-- what was counted, and the rows of the campaigns that are left
abbrev pub invariant-loop-serial : goal.invariant-loop-serial
invariant-loop-serial l = (l.done < 2 ^ 64) × (l.done + sum_by done_of l._serial-iterator ≡ done_in l.book)
