use Rattle.std.proofs.Common.{◌≡◌, length}
use Rattle.fw_fleet_audit.specs.Switches.{offer_in}
use Rattle.fw_fleet_audit.proofs.switches.offer_in.Given as goal

-- the books that are left offer what all do
abbrev pub invariant-loop-book : goal.invariant-loop-book
invariant-loop-book l = offer_in l.rest l.campaign ≡ offer_in l.books l.campaign

abbrev pub decreases-loop-book : goal.decreases-loop-book
decreases-loop-book l = length l.rest
