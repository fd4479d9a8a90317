use Rattle.std.proofs.Common.{take}
use Rattle.fw_host.specs.Strangers.{AreAddresses}
use Rattle.fw_host.proofs.strangers.addresses.Given as goal

abbrev pub invariant-loop-address : goal.invariant-loop-address
invariant-loop-address l = AreAddresses l.known (take l.address-index l.heads)
