-- Public vocabulary: the laws of a client.
use Rattle.std.specs.Prelude.{◌≡◌, ◌↔◌, ℕ, List}
use Rattle.fw_client.specs.Claim.{Claim}
use Rattle.fw_client.specs.State.{State}
use Rattle.fw_client.specs.Hearing.{Hears, IsClaimed}
use Rattle.fw_client.specs.declared.heard.Heard.{Heard}
use Rattle.fw_client.specs.declared.heard.Heard.TheVariants.{Active}

-- a client and a datagram determine what is heard, and the client afterwards
abbrev pub OneHearing : Type 0
OneHearing =
    (old new other : State) (datagram : List ℕ) (h k : Heard)
    → Hears old datagram h new → Hears old datagram k other → (h ≡ k) × (new ≡ other)

-- a claim is heard exactly if a meter made it
abbrev pub OnlyClaimed : Type 0
OnlyClaimed =
    (old new : State) (datagram : List ℕ) (h : Heard) (claim : Claim)
    → Hears old datagram h new → (h ≡ Active claim) ↔ IsClaimed old datagram claim
