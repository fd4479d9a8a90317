use Rattle.fw_host.proofs.Listings.{IsRead}
use Rattle.fw_host.proofs.list_cause.line_cause.Given as goal

-- the meters of the records so far are a list
abbrev pub invariant-loop : goal.invariant-loop
invariant-loop g l = IsRead l.fn.own l.fn.text l.reader l.meters
