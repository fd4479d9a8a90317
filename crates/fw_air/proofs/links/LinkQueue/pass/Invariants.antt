use Rattle.std.proofs.Common.{◌≡◌, ◌-◌, ◌<◌, ◌≤◌, ◌++◌, All}
use Rattle.fw_air.specs.Fates.{by_fates, comes, waits}
use Rattle.fw_air.specs.Links.{link_of}
use Rattle.fw_air.proofs.links.LinkQueue.pass.Given as goal

-- the datagrams so far had their fates, and all that comes or waits is below the end
abbrev pub invariant-loop-datagram : goal.invariant-loop-datagram
invariant-loop-datagram l = record {
  from : l.from ≤ l.datagram;
  end : l.datagram - l.from ≤ l.end - l.from;
  coming : l.coming.items ≡ by_fates comes l.fates l.initial.self.passed l.from l.datagram;
  late : l.self.late.items ≡ l.initial.self.late.items ++ by_fates waits l.fates l.initial.self.passed l.from l.datagram;
  passed : l.self.passed ≡ l.initial.self.passed;
  coming_below : All (λ number. number < l.end) l.coming.items;
  late_below : All (λ number. number < l.end) l.initial.self.late.items → All (λ number. number < l.end) l.self.late.items;
  link : link_of l.self ≡ link_of l.initial.self;
}
