use Rattle.std.proofs.Common.{◌≡◌, ◌++◌, nat_eq}
use Rattle.std.specs.HashSet.{contains}
use Rattle.fw_plan.specs.Openings.{unlisted_in}
use Rattle.fw_plan.proofs.absent.unlisted.Given as goal

-- the rows that are there and those of the campaigns that are left are all
abbrev pub invariant-loop-serial : goal.invariant-loop-serial
invariant-loop-serial l =
    l.unlisted.items ++ unlisted_in (λ meter. contains nat_eq l.listed meter) l.serial-iterator
    ≡ unlisted_in (λ meter. contains nat_eq l.listed meter) l.book.campaigns
