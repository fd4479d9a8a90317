use Rattle.std.proofs.Common.{◌≡◌, ℕ, ◌+◌, ◌-◌, ◌≤◌, length, slice_get}
use Rattle.fw_air.specs.Parts.{parts, datagrams_of}
use Rattle.fw_air.proofs.log.find.Given as goal

-- what stands in the newer parts was passed
abbrev pub invariant-links : goal.invariant-links
invariant-links l = (base : ℕ) → l.fn.end ≡ base + length (datagrams_of (parts l.fn.chain)) → base ≤ l.number
    → (l.end ≡ base + length (datagrams_of (parts l.chain))) × (slice_get (datagrams_of (parts l.fn.chain)) (l.number - base) ≡ slice_get (datagrams_of (parts l.chain)) (l.number - base))
