-- Bytes without a fault have a header of eight bytes, and its fields are numbers of two bytes.
use Rattle.std.proofs.Common.{◌≡◌, ℕ, ◌+◌, ◌*◌, ◌<◌, List, ◌∷◌, arith}
use Rattle.std.proofs.lemmas.Grind.{common_steps}
use Rattle.std.specs.Prelude.{All, None}
use Rattle.fw_wrapper.specs.Wrapper.{Wraps, fault_of}
use Rattle.fw_wrapper.proofs.laws.faultless_wraps.Goals as goal

faultless : (datagram : List ℕ) → All (λ b. b < 256) datagram → fault_of datagram ≡ None
    → (source dest : ℕ) × ((apdu : List ℕ) × Wraps datagram source dest apdu)
faultless (v1 ∷ v0 ∷ s1 ∷ s0 ∷ d1 ∷ d0 ∷ l1 ∷ l0 ∷ apdu) bytes fine =
    let v1_fits : v1 < 256 = bytes 0 0 (omega arith) in
    let v0_fits : v0 < 256 = bytes 1 0 (omega arith) in
    let s1_fits : s1 < 256 = bytes 2 0 (omega arith) in
    let s0_fits : s0 < 256 = bytes 3 0 (omega arith) in
    let d1_fits : d1 < 256 = bytes 4 0 (omega arith) in
    let d0_fits : d0 < 256 = bytes 5 0 (omega arith) in
    let l1_fits : l1 < 256 = bytes 6 0 (omega arith) in
    let l0_fits : l0 < 256 = bytes 7 0 (omega arith) in (
      s1 * 256 + s0,
      d1 * 256 + d0,
      (
        apdu,
        record { source_fits = grind arith; dest_fits = grind arith; apdu_fits = grind arith; bytes = grind (arith, common_steps) },
      ),
    )
faultless _ bytes fine = absurd (grind arith)

pub returns : goal.returns
returns c = faultless
