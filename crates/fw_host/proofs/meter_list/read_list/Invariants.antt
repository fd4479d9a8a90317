use Rattle.fw_host.proofs.Listings.{IsRead}
use Rattle.fw_host.proofs.meter_list.read_list.Given as goal

-- these are the meters of the records so far
abbrev pub invariant-loop : goal.invariant-loop
invariant-loop g l = IsRead l.fn.own l.fn.text l.reader l.meters
