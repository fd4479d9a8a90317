-- For private clauses alone: what a list of meters keeps.
use Rattle.std.specs.Prelude.{ℕ, ◌↔◌, Contains, List, map}
use Rattle.std.specs.HashSet.{HashSet, keys}
use Rattle.std.specs.declared.net.socket_addr.SocketAddr.{SocketAddr}
use Rattle.fw_rollout.specs.declared.link.Listed.{Listed}
use Rattle.fw_rollout.specs.Daemon.{IsList}

-- no number and no address stands twice, and a set has just the numbers, another just the addresses
pub record AreKnown {S T : Type 0} (meters : List Listed) (numbers : HashSet ℕ S) (addresses : HashSet SocketAddr T) : Type 0 where
  pub once : IsList meters
  pub numbered : (number : ℕ) → Contains (keys numbers) number ↔ Contains (map (λ (at : Listed). at.meter) meters) number
  pub addressed : (address : SocketAddr) → Contains (keys addresses) address ↔ Contains (map (λ (at : Listed). at.address) meters) address
