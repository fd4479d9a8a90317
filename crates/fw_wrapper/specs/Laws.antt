-- The laws of wrapped APDUs.
use Rattle.std.specs.Prelude.{◌≡◌, ℕ, ◌<◌, List, length, All, None}
use Rattle.fw_wrapper.specs.Wrapper.{Wraps, fault_of, max_received}

-- a byte string wraps at most one APDU, between one pair of wPorts
abbrev pub OneFrame : Type 0
OneFrame = (datagram a b : List ℕ) (source dest s d : ℕ) → Wraps datagram source dest a → Wraps datagram s d b
    → (source ≡ s) × (dest ≡ d) × (a ≡ b)

-- what wraps an APDU has no fault, so that what has a fault wraps nothing
abbrev pub WrappedHasNoFault : Type 0
WrappedHasNoFault = (datagram apdu : List ℕ) (source dest : ℕ) → Wraps datagram source dest apdu
    → fault_of datagram ≡ None

-- bytes that have no fault wrap an APDU
abbrev pub FaultlessWraps : Type 0
FaultlessWraps = (datagram : List ℕ) → All (λ b. b < 256) datagram → fault_of datagram ≡ None
    → (source dest : ℕ) × ((apdu : List ℕ) × Wraps datagram source dest apdu)

-- what wraps an APDU has fewer bytes than are received, so that what was cut there is none
abbrev pub CutIsNone : Type 0
CutIsNone = (datagram apdu : List ℕ) (source dest : ℕ) → Wraps datagram source dest apdu → length datagram < max_received
