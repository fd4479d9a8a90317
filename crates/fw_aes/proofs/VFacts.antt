-- V_n of a block is additive, and shifts its bits.
use Rattle.std.proofs.Common.{◌≡◌, ℕ, zero, suc, ◌+◌, ◌*◌, ◌/◌, ◌%◌, ◌^◌, ◌<◌, bit_xor, refl, sym, ap, ◌∙◌, arith}
use Rattle.std.proofs.lemmas.Nat.{xor_shr}
use Rattle.std.proofs.Math.Nat.{pow-suc}
use Rattle.std.proofs.lemmas.Nat.Bits.{bit_at_xor, bit_at_lowest, bit_at-lt}
use Rattle.std.specs.Int.{bit_at}
use Rattle.std.specs.Int.Bits.{xor_self, xor_zero_r}
use Rattle.fw_aes.specs.Gcm.{feedback, next_v, v_after}
use Rattle.fw_aes.proofs.XorSums.{sum, sum_through, xor_both, xor_swap}

-- a multiple by a bit
chosen_adds : (p q n : ℕ) → p < 2 → q < 2 → (p + q) % 2 * n ≡ bit_xor (p * n) (q * n)
chosen_adds zero zero n hp hq = let none : 0 * n ≡ 0 = omega arith in rw none refl
chosen_adds zero (suc zero) n hp hq = let none : 0 * n ≡ 0 = omega arith in rw none refl
chosen_adds (suc zero) zero n hp hq = let none : 0 * n ≡ 0 = omega arith in rw none (sym (xor_zero_r (1 * n)))
chosen_adds (suc zero) (suc zero) n hp hq = let none : 0 * n ≡ 0 = omega arith in none ∙ sym (xor_self (1 * n))
chosen_adds (suc (suc p)) q n hp hq = absurd (omega arith)
chosen_adds zero (suc (suc q)) n hp hq = absurd (omega arith)
chosen_adds (suc zero) (suc (suc q)) n hp hq = absurd (omega arith)

next_adds : (a b : ℕ) → next_v (bit_xor a b) ≡ bit_xor (next_v a) (next_v b)
next_adds a b =
    let low : bit_at (bit_xor a b) 0 ≡ (bit_at a 0 + bit_at b 0) % 2 = bit_at_xor a b 0 in
    let half : bit_xor a b / 2 ≡ bit_xor (a / 2) (b / 2) = xor_shr a b 1 in
    xor_both (bit_xor a b / 2) (bit_at (bit_xor a b) 0 * feedback) (bit_xor (a / 2) (b / 2)) (bit_xor (bit_at a 0 * feedback) (bit_at b 0 * feedback)) half
    (ap (λ (n : ℕ). n * feedback) low ∙ chosen_adds (bit_at a 0) (bit_at b 0) feedback (bit_at-lt a 0) (bit_at-lt b 0))
    ∙ xor_swap (a / 2) (b / 2) (bit_at a 0 * feedback) (bit_at b 0 * feedback)

pub v_adds : (a b n : ℕ) → v_after (bit_xor a b) n ≡ bit_xor (v_after a n) (v_after b n)
unfolding v_after
v_adds a b zero = refl
v_adds a b (suc n) = ap next_v (v_adds a b n) ∙ next_adds (v_after a n) (v_after b n)

pub v_none : (n : ℕ) → v_after 0 n ≡ 0
unfolding v_after
v_none zero = refl
v_none (suc n) = ap next_v (v_none n)

pub v_here : (y : ℕ) → v_after y 0 ≡ y
unfolding v_after
v_here y = refl

pub v_one : (y n : ℕ) → v_after y (n + 1) ≡ next_v (v_after y n)
unfolding v_after
v_one y n = let e : n + 1 ≡ suc n = omega arith in ap (v_after y) e

pub v_twice : (y m n : ℕ) → v_after (v_after y m) n ≡ v_after y (m + n)
unfolding v_after
v_twice y m zero = let e : m ≡ m + zero = omega arith in ap (v_after y) e
v_twice y m (suc n) =
    let e : suc (m + n) ≡ m + suc n = omega arith in
    ap next_v (v_twice y m n) ∙ ap (v_after y) e

pub v_sum : (m n : ℕ) (f : ℕ → ℕ) → v_after (sum m f) n ≡ sum m (λ i. v_after (f i) n)
v_sum m n f = sum_through (λ a. v_after a n) (v_none n) (λ a b. v_adds a b n) m f

pub v_chosen : (b y n : ℕ) → b < 2 → v_after (b * y) n ≡ b * v_after y n
v_chosen zero y n lt =
    let none : 0 * y ≡ 0 = omega arith in
    let none' : 0 ≡ 0 * v_after y n = omega arith in
    ap (λ (k : ℕ). v_after k n) none ∙ v_none n ∙ none'
v_chosen (suc zero) y n lt =
    let one : 1 * y ≡ y = omega arith in
    let one' : v_after y n ≡ 1 * v_after y n = omega arith in
    ap (λ (k : ℕ). v_after k n) one ∙ one'
v_chosen (suc (suc b)) y n lt = absurd (omega arith)

next_even : (m : ℕ) → next_v (m * 2) ≡ m
next_even m =
    let half : m * 2 / 2 ≡ m = omega arith in
    let low : bit_at (m * 2) 0 ≡ 0 = bit_at_lowest (m * 2) ∙ omega arith in
    xor_both (m * 2 / 2) (bit_at (m * 2) 0 * feedback) m 0 half (ap (λ (n : ℕ). n * feedback) low) ∙ xor_zero_r m

-- bits that stay within the block are shifted
pub v_shifts : (m n : ℕ) → v_after (m * 2 ^ n) n ≡ m
unfolding v_after
v_shifts m zero = omega arith
v_shifts m (suc n) =
    let power : 2 ^ suc n ≡ 2 ^ n * 2 = pow-suc 2 n in
    let turned : m * (2 ^ n * 2) ≡ m * 2 * 2 ^ n = omega arith in
    let e : m * 2 ^ suc n ≡ m * 2 * 2 ^ n = ap (λ (k : ℕ). m * k) power ∙ turned in
    ap next_v (ap (λ (k : ℕ). v_after k n) e ∙ v_shifts (m * 2) n) ∙ next_even m
