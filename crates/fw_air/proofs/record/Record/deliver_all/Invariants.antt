use Rattle.std.proofs.Common.{take, map}
use Rattle.fw_world.specs.Step.{deliver}
use Rattle.fw_air.specs.Private.{Follows}
use Rattle.fw_air.specs.Links.{AreSent}
use Rattle.fw_air.proofs.record.Record.deliver_all.Given as goal

-- the datagrams so far came, and all of them were sent
abbrev pub invariant-loop-datagram : goal.invariant-loop-datagram
invariant-loop-datagram l = Follows l.initial.self (take l.datagram-index (map deliver l.datagrams)) l.self × AreSent l.self.world l.datagrams
