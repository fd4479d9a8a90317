use Rattle.std.proofs.Common.{◌≡◌, ℕ, ◌+◌, ◌++◌, List, length, All}
use Rattle.fw_world.specs.World.{Datagram}
use Rattle.fw_air.specs.Logs.{IsSent}
use Rattle.fw_air.specs.Parts.{parts, datagrams_of}
use Rattle.fw_air.proofs.log.find_last.Given as goal

-- what stands in the newer parts was passed
abbrev pub invariant-links : goal.invariant-links
invariant-links l = (base : ℕ) → l.fn.end ≡ base + length (datagrams_of (parts l.fn.chain))
    → (l.end ≡ base + length (datagrams_of (parts l.chain)))
    × ((newer : List Datagram) × (datagrams_of (parts l.fn.chain) ≡ datagrams_of (parts l.chain) ++ newer)
    × All (λ d. ¬ IsSent l.wanted.from l.wanted.to l.wanted.bytes.now d) newer)
