use Rattle.std.proofs.Common.{◌≡◌, ◌++◌, List, length, All}
use Rattle.fw_world.specs.World.{Datagram}
use Rattle.fw_air.specs.Logs.{IsSent}
use Rattle.fw_air.proofs.wanted.Wanted.last_in.Given as goal

-- what stands after `rest` was passed
abbrev pub invariant-back : goal.invariant-back
invariant-back l = (later : List Datagram) × (l.list ≡ l.rest ++ later) × All (λ d. ¬ IsSent l.self.from l.self.to l.self.bytes.now d) later

abbrev pub decreases-back : goal.decreases-back
decreases-back l = length l.rest
