-- A mask of 128 bits that are all one bit, and the bytes of multiples.
use Rattle.std.proofs.Common.{◌≡◌, ℕ, ◌+◌, ◌-◌, ◌*◌, ◌/◌, ◌%◌, ◌^◌, ◌<◌, bit_and, bit_xor, ap, ◌∙◌, arith, inl, inr, lit<}
use Rattle.std.proofs.lemmas.Nat.{and_mask}
use Rattle.std.proofs.lemmas.Nat.Bits.{shr_and_one, bit_at-lt}
use Rattle.std.proofs.lemmas.Bool.{cases_lt}
use Rattle.std.specs.Int.{bit_at}
use Rattle.std.specs.Int.Bits.{and_zero_r}
use Rattle.fw_aes.specs.Gcm.{feedback, next_v}

-- a number of 128 bits under a mask that is b's negation
masked : (a b r : ℕ) → a < 2 ^ 128 → r < 2 ^ 128 → b < 2 → (r + b) % 2 ^ 128 ≡ 0 → bit_and a r ≡ b * a
masked a b r ha hr hb h = elim (cases_lt b 1) [
  | inl none ↦
      let b0 : b ≡ 0 = omega arith in
      let r0 : r ≡ 0 = omega arith in
      rw (r0, b0) (and_zero_r a ∙ omega arith)
  | inr one ↦
      let b1 : b ≡ 1 = omega arith in
      let r1 : r ≡ 2 ^ 128 - 1 = omega arith in
      rw (r1, b1) (and_mask a 128 ∙ omega arith)
]

pub next_v_code : (v r : ℕ) → v < 2 ^ 128 → r < 2 ^ 128 → (r + bit_and v 1) % 2 ^ 128 ≡ 0 → bit_xor (v / 2) (bit_and feedback r) ≡ next_v v
next_v_code v r hv hr h =
    let low : bit_and v 1 ≡ bit_at v 0 = ap (λ (n : ℕ). bit_and n 1) (omega arith) ∙ shr_and_one v 0 in
    ap (bit_xor (v / 2)) (masked feedback (bit_at v 0) r (lit< tt) hr (bit_at-lt v 0) (rw low at h))
