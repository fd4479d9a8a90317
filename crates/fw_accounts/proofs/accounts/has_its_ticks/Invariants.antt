use Rattle.std.proofs.Common.{map}
use Rattle.fw_air.specs.Links.{link_of}
use Rattle.fw_accounts.proofs.Dealing.{HasTicksBelow}
use Rattle.fw_accounts.proofs.accounts.has_its_ticks.Given as goal

-- how many ticks there are of each link before this one
abbrev pub invariant-loop-j : goal.invariant-loop-j
invariant-loop-j l = HasTicksBelow (map link_of l.links) l.rounds l.workers l.worker l.receipts l.j
