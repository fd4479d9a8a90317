-- Public vocabulary: what a daemon does to the outside, and what comes from there.
use Rattle.std.specs.Prelude.{ℕ, List}
use Rattle.std.specs.declared.net.socket_addr.SocketAddr.{SocketAddr}

pub data Act (Report : Type 0) : Type 0 where
  -- these bytes came from an address
  came : SocketAddr → List ℕ → Act Report
  -- nothing came in time
  quiet : Act Report
  -- these bytes were sent to an address
  sent : SocketAddr → List ℕ → Act Report
  -- this was reported
  told : Report → Act Report
