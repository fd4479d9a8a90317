use Rattle.std.proofs.Common.{◌≡◌, ℕ, ◌+◌, ◌*◌, ◌/◌, ◌%◌, ◌^◌, ◌<◌, true, eqb, bit_and, bit_xor, refl, sym, ap, ◌∙◌, arith}
use Rattle.std.proofs.lemmas.Nat.{and_mask, xor_block}
use Rattle.std.specs.Int.Bits.{xor_zero_r}
use Rattle.fw_aes.specs.Gcm.{v_after}
use Rattle.fw_aes.proofs.EveryByte.{all_less, same_less}
use Rattle.fw_aes.proofs.VFacts.{v_adds, v_shifts}
use Rattle.fw_aes.proofs.XorSums.{xor_both}
use Rattle.fw_aes.proofs.ghash.eighth_v.Goals as goal

-- what the bits that leave the block add
left_over : ℕ → ℕ
left_over b =
    bit_xor (bit_xor (bit_xor (b * 2 ^ 120 % 2 ^ 128) (b * 2 ^ 119 % 2 ^ 128)) (b * 2 ^ 118 % 2 ^ 128)) (b * 2 ^ 113 % 2 ^ 128)

left_over_all : all_less 256 (λ b. eqb (left_over b) (v_after b 8)) ≡ true
unfolding left_over v_after
left_over_all = refl

halves : (v : ℕ) → bit_xor (v / 256 * 2 ^ 8) (v % 256) ≡ v
halves v =
    let small : v % 256 < 2 ^ 8 = omega arith in
    let left : v / 256 * 2 ^ 8 ≡ v / 256 * 2 ^ 8 + 0 = omega arith in
    let right : v % 256 ≡ 0 * 2 ^ 8 + v % 256 = omega arith in
    xor_both (v / 256 * 2 ^ 8) (v % 256) (v / 256 * 2 ^ 8 + 0) (0 * 2 ^ 8 + v % 256) left right ∙ xor_block 8 (v / 256) 0 0 (v % 256) (omega arith) small
    ∙ ap (λ (n : ℕ). n * 2 ^ 8 + v % 256) (xor_zero_r (v / 256)) ∙ omega arith

code : (v : ℕ) → bit_xor (v / 256) (left_over (bit_and v 255)) ≡ v_after v 8
code v =
    let low : bit_and v 255 ≡ v % 256 = and_mask v 8 in
    ap (λ (n : ℕ). bit_xor (v / 256) (left_over n)) low
    ∙ xor_both (v / 256) (left_over (v % 256)) (v_after (v / 256 * 2 ^ 8) 8) (v_after (v % 256) 8) (sym (v_shifts (v / 256) 8))
    (same_less 256 left_over (λ b. v_after b 8) left_over_all (v % 256) (omega arith))
    ∙ sym (v_adds (v / 256 * 2 ^ 8) (v % 256) 8) ∙ ap (λ (n : ℕ). v_after n 8) (halves v)

pub returns : goal.returns
unfolding left_over
returns c = code c.args.v
