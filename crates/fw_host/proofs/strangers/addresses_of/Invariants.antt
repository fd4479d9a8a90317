use Rattle.std.proofs.Common.{take}
use Rattle.fw_host.specs.Strangers.{AreAddressesOf}
use Rattle.fw_host.proofs.strangers.addresses_of.Given as goal

abbrev pub invariant-loop-at : goal.invariant-loop-at
invariant-loop-at l = AreAddressesOf l.known (take l.at-index l.list)
