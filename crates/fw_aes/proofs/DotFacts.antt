-- The product of blocks byte by byte.
use Rattle.std.proofs.Common.{◌≡◌, ℕ, zero, suc, ◌+◌, ◌-◌, ◌*◌, ◌/◌, ◌%◌, ◌^◌, ◌<◌, min, bit_and, bit_xor, refl, sym, ap, ◌∙◌, arith}
use Rattle.std.proofs.lemmas.Nat.{pow-add, shr-shr, xor_lt}
use Rattle.std.proofs.lemmas.Nat.Bits.{bit_at_and, bit_at_cat_low, bit_at_ones, bit_at-lt}
use Rattle.std.specs.Int.{bit_at}
use Rattle.std.specs.Int.Bits.{xor_comm}
use Rattle.fw_aes.specs.Gcm.{dot, feedback, next_v, v_after, z_after}
use Rattle.fw_aes.specs.Multiples.{first_four, sum_of}
use Rattle.fw_aes.proofs.ByteFacts.{all_bytes, byte_of}
use Rattle.fw_aes.proofs.VFacts.{v_chosen, v_here, v_shifts, v_sum, v_twice}
use Rattle.fw_aes.proofs.XorSums.{sum, sum_apart, sum_groups, sum_next, sum_reverse, sum_same, sum_zero, sums_swap, xor_both}

-- ---- a byte's product

-- the product of a byte that begins a block, by its halves
abbrev pub byte_product : ℕ → ℕ → ℕ
byte_product h c = bit_xor (sum_of (first_four (v_after h 4)) (bit_and c 15)) (sum_of (first_four h) (c / 16))

half_sum : (y n : ℕ) → sum_of (first_four y) n ≡ sum 4 (λ j. bit_at n (3 - j) * v_after y j)
unfolding sum
half_sum y n = refl

high_bit : (c j : ℕ) → j < 4 → bit_at (c / 16) (3 - j) ≡ bit_at c (7 - j)
high_bit c j lt =
    let e : 4 + (3 - j) ≡ 7 - j = omega arith in
    ap (λ (n : ℕ). n % 2) (shr-shr c 4 (3 - j)) ∙ ap (bit_at c) e

low_bit : (c i : ℕ) → i < 4 → bit_at (bit_and c 15) i ≡ bit_at c i
low_bit c i lt =
    let one : bit_at 15 i ≡ 1 = bit_at_ones 4 i lt in
    let small : bit_at c i < 2 = bit_at-lt c i in
    let least : min (bit_at c i) 1 ≡ bit_at c i = min_one (bit_at c i) small in
    bit_at_and c 15 i ∙ ap (min (bit_at c i)) one ∙ least
  where
    min_one : (b : ℕ) → b < 2 → min b 1 ≡ b
    min_one b lt2 = omega arith

byte_sum : (h c : ℕ) → byte_product h c ≡ sum 8 (λ j. bit_at c (7 - j) * v_after h j)
byte_sum h c =
    let f : ℕ → ℕ = λ j. bit_at c (7 - j) * v_after h j in
    let high : sum_of (first_four h) (c / 16) ≡ sum 4 f = half_sum h (c / 16) ∙ sum_same 4 (λ j. bit_at (c / 16) (3 - j) * v_after h j) f (λ j lt. ap (λ (b : ℕ). b * v_after h j) (high_bit c j lt)) in
    let low : sum_of (first_four (v_after h 4)) (bit_and c 15) ≡ sum 4 (λ j. f (4 + j)) =
    half_sum (v_after h 4) (bit_and c 15) ∙ sum_same 4 (λ j. bit_at (bit_and c 15) (3 - j) * v_after (v_after h 4) j) (λ j. f (4 + j)) (λ j lt. low_term h c j lt) in
    xor_both (sum_of (first_four (v_after h 4)) (bit_and c 15)) (sum_of (first_four h) (c / 16)) (sum 4 (λ j. f (4 + j))) (sum 4 f) low high
    ∙ xor_comm (sum 4 (λ j. f (4 + j))) (sum 4 f) ∙ sym (sum_apart 4 4 f)
  where
    low_term : (h c j : ℕ) → j < 4 → bit_at (bit_and c 15) (3 - j) * v_after (v_after h 4) j ≡ bit_at c (7 - (4 + j)) * v_after h (4 + j)
    low_term h c j lt =
        let e : 3 - j ≡ 7 - (4 + j) = omega arith in
        let within : 3 - j < 4 = omega arith in
        ap (λ (b : ℕ). b * v_after (v_after h 4) j) (low_bit c (3 - j) within ∙ ap (bit_at c) e) ∙ ap (λ (v : ℕ). bit_at c (7 - (4 + j)) * v) (v_twice h 4 j)

-- ---- a block's product

z_sum : (x y n : ℕ) → z_after x y n ≡ sum n (λ i. bit_at x (127 - i) * v_after y i)
unfolding z_after sum
z_sum x y zero = refl
z_sum x y (suc n) = ap (λ (k : ℕ). bit_xor k (bit_at x (127 - n) * v_after y n)) (z_sum x y n)

byte_bit : (x k j : ℕ) → k < 16 → j < 8 → bit_at (byte_of (15 - k) x) (7 - j) ≡ bit_at x (127 - (8 * k + j))
byte_bit x k j lk lj =
    let s : ℕ = 8 * (15 - k) in
    let q : ℕ = x / 2 ^ s in
    let place : s + (7 - j) ≡ 127 - (8 * k + j) = omega arith in
    let within : 7 - j < 8 = omega arith in
    let split : q / 256 * 2 ^ 8 + q % 256 ≡ q = omega arith in
    sym (bit_at_cat_low (q / 256) 8 (q % 256) (7 - j) within) ∙ ap (λ (n : ℕ). bit_at n (7 - j)) split ∙ ap (λ (n : ℕ). n % 2) (shr-shr x s (7 - j)) ∙ ap (bit_at x) place

byte_terms : (x h k : ℕ) → k < 16
    → sum 8 (λ j. bit_at x (127 - (8 * k + j)) * v_after h (8 * k + j)) ≡ v_after (byte_product h (byte_of (15 - k) x)) (8 * k)
byte_terms x h k lk =
    let c : ℕ = byte_of (15 - k) x in
    sum_same 8 (λ j. bit_at x (127 - (8 * k + j)) * v_after h (8 * k + j)) (λ j. v_after (bit_at c (7 - j) * v_after h j) (8 * k)) (λ j lj. term x h k j lk lj)
    ∙ sym (v_sum 8 (8 * k) (λ j. bit_at c (7 - j) * v_after h j)) ∙ ap (λ (y : ℕ). v_after y (8 * k)) (sym (byte_sum h c))
  where
    term : (x h k j : ℕ) → k < 16 → j < 8
        → bit_at x (127 - (8 * k + j)) * v_after h (8 * k + j) ≡ v_after (bit_at (byte_of (15 - k) x) (7 - j) * v_after h j) (8 * k)
    term x h k j lk lj =
        let b : ℕ = bit_at (byte_of (15 - k) x) (7 - j) in
        let turned : j + 8 * k ≡ 8 * k + j = omega arith in
        sym (v_chosen b (v_after h j) (8 * k) (bit_at-lt (byte_of (15 - k) x) (7 - j)) ∙ ap (λ (v : ℕ). b * v) (v_twice h j (8 * k) ∙ ap (v_after h) turned)
        ∙ ap (λ (n : ℕ). n * v_after h (8 * k + j)) (byte_bit x k j lk lj))

dot_bytes : (x h : ℕ) → dot x h ≡ sum 16 (λ k. v_after (byte_product h (byte_of (15 - k) x)) (8 * k))
unfolding dot
dot_bytes x h =
    let f : ℕ → ℕ = λ i. bit_at x (127 - i) * v_after h i in
    z_sum x h 128 ∙ sum_groups 8 16 f
    ∙ sum_same 16 (λ k. sum 8 (λ j. f (8 * k + j))) (λ k. v_after (byte_product h (byte_of (15 - k) x)) (8 * k)) (λ k lk. byte_terms x h k lk)

-- ---- all are below 2 ^ 128

chosen_below : (b n : ℕ) → b < 2 → n < 2 ^ 128 → b * n < 2 ^ 128
chosen_below zero n lb ln = let e : 0 * n ≡ 0 = omega arith in omega arith
chosen_below (suc zero) n lb ln = omega arith
chosen_below (suc (suc b)) n lb ln = absurd (omega arith)

next_below : (v : ℕ) → v < 2 ^ 128 → next_v v < 2 ^ 128
next_below v lt =
    let bit : bit_at v 0 < 2 = bit_at-lt v 0 in
    let fits : bit_at v 0 * feedback < 2 ^ 128 = chosen_below (bit_at v 0) feedback bit (omega arith) in
    xor_lt 128 (v / 2) (bit_at v 0 * feedback) (omega arith) fits

v_below : (h n : ℕ) → h < 2 ^ 128 → v_after h n < 2 ^ 128
unfolding v_after
v_below h zero lt = lt
v_below h (suc n) lt = next_below (v_after h n) (v_below h n lt)

sum_below : (h n : ℕ) → h < 2 ^ 128 → sum_of (first_four h) n < 2 ^ 128
sum_below h n lt =
    let each : (i j : ℕ) → bit_at n i * v_after h j < 2 ^ 128 = λ i j. chosen_below (bit_at n i) (v_after h j) (bit_at-lt n i) (v_below h j lt) in
    xor_lt 128 _ _ (xor_lt 128 _ _ (xor_lt 128 _ _ (each 3 0) (each 2 1)) (each 1 2)) (each 0 3)

product_below : (h c : ℕ) → h < 2 ^ 128 → byte_product h c < 2 ^ 128
product_below h c lt = xor_lt 128 _ _ (sum_below (v_after h 4) (bit_and c 15) (v_below h 4 lt)) (sum_below h (c / 16) lt)

-- ---- the same by rows, which have one byte of each product

-- byte t of the products of a block's bytes, each at the place of its byte
abbrev pub row_of : ℕ → ℕ → ℕ → ℕ
row_of h x t = sum 16 (λ m. byte_of t (byte_product h (byte_of m x)) * 2 ^ (8 * m))

lifted : (c s r : ℕ) → s + r ≡ 120 → c * 2 ^ s ≡ v_after (c * 2 ^ 120) r
lifted c s r e =
    let power : 2 ^ 120 ≡ 2 ^ s * 2 ^ r = ap (λ (n : ℕ). 2 ^ n) (sym e) ∙ pow-add 2 s r in
    let turned : c * (2 ^ s * 2 ^ r) ≡ c * 2 ^ s * 2 ^ r = omega arith in
    sym (ap (λ (n : ℕ). v_after n r) (ap (λ (n : ℕ). c * n) power ∙ turned) ∙ v_shifts (c * 2 ^ s) r)

same_place : (c k t : ℕ) → k < 16 → t < 16 → v_after (c * 2 ^ (8 * t)) (8 * k) ≡ v_after (c * 2 ^ (8 * (15 - k))) (8 * (15 - t))
same_place c k t lk lt =
    let one : 8 * t + 8 * (15 - t) ≡ 120 = omega arith in
    let other : 8 * (15 - k) + 8 * k ≡ 120 = omega arith in
    let turned : 8 * (15 - t) + 8 * k ≡ 8 * k + 8 * (15 - t) = omega arith in
    ap (λ (n : ℕ). v_after n (8 * k)) (lifted c (8 * t) (8 * (15 - t)) one) ∙ v_twice (c * 2 ^ 120) (8 * (15 - t)) (8 * k) ∙ ap (v_after (c * 2 ^ 120)) turned
    ∙ sym (ap (λ (n : ℕ). v_after n (8 * (15 - t))) (lifted c (8 * (15 - k)) (8 * k) other) ∙ v_twice (c * 2 ^ 120) (8 * k) (8 * (15 - t)))

pub dot_rows : (x h : ℕ) → h < 2 ^ 128 → dot x h ≡ sum 16 (λ t. v_after (row_of h x t) (8 * (15 - t)))
dot_rows x h lt =
    let g : ℕ → ℕ = λ k. byte_product h (byte_of (15 - k) x) in
    dot_bytes x h
    ∙ sum_same 16 (λ k. v_after (g k) (8 * k)) (λ k. sum 16 (λ t. v_after (byte_of t (g k) * 2 ^ (8 * t)) (8 * k)))
    (λ k lk. ap (λ (y : ℕ). v_after y (8 * k)) (all_bytes (g k) (product_below h (byte_of (15 - k) x) lt)) ∙ v_sum 16 (8 * k) (λ t. byte_of t (g k) * 2 ^ (8 * t)))
    ∙ sums_swap 16 16 (λ k t. v_after (byte_of t (g k) * 2 ^ (8 * t)) (8 * k))
    ∙ sum_same 16 (λ t. sum 16 (λ k. v_after (byte_of t (g k) * 2 ^ (8 * t)) (8 * k))) (λ t. v_after (row_of h x t) (8 * (15 - t)))
    (λ t lt'. sum_same 16 (λ k. v_after (byte_of t (g k) * 2 ^ (8 * t)) (8 * k)) (λ k. v_after (byte_of t (g k) * 2 ^ (8 * (15 - k))) (8 * (15 - t)))
    (λ k lk. same_place (byte_of t (g k)) k t lk lt')
    ∙ sym (ap (λ (y : ℕ). v_after y (8 * (15 - t))) (sum_reverse 16 (λ m. byte_of t (byte_product h (byte_of m x)) * 2 ^ (8 * m)))
    ∙ v_sum 16 (8 * (15 - t)) (λ k. byte_of t (g k) * 2 ^ (8 * (15 - k)))))

-- ---- row after row

pub rows_none : (f : ℕ → ℕ) → 0 ≡ sum 0 (λ s. v_after (f s) (8 * (0 - 1 - s)))
rows_none f = sym (sum_zero (λ s. v_after (f s) (8 * (0 - 1 - s))))

pub rows_next : (f : ℕ → ℕ) (z v r w t : ℕ) → z ≡ sum t (λ s. v_after (f s) (8 * (t - 1 - s))) → v ≡ v_after z 8 → r ≡ f t → w ≡ bit_xor v r
    → w ≡ sum (t + 1) (λ s. v_after (f s) (8 * (t + 1 - 1 - s)))
rows_next f z v r w t ez ev er ew =
    let here : 8 * (t + 1 - 1 - t) ≡ 0 = omega arith in
    ew
    ∙ xor_both v r (sum t (λ s. v_after (f s) (8 * (t + 1 - 1 - s)))) (v_after (f t) (8 * (t + 1 - 1 - t)))
    (ev ∙ ap (λ (n : ℕ). v_after n 8) ez ∙ v_sum t 8 (λ s. v_after (f s) (8 * (t - 1 - s)))
    ∙ sum_same t (λ s. v_after (v_after (f s) (8 * (t - 1 - s))) 8) (λ s. v_after (f s) (8 * (t + 1 - 1 - s))) (λ s ls. one_more f t s ls))
    (er ∙ sym (ap (v_after (f t)) here ∙ v_here (f t)))
    ∙ sym (sum_next t (λ s. v_after (f s) (8 * (t + 1 - 1 - s))))
  where
    one_more : (f : ℕ → ℕ) (t s : ℕ) → s < t → v_after (v_after (f s) (8 * (t - 1 - s))) 8 ≡ v_after (f s) (8 * (t + 1 - 1 - s))
    one_more f t s ls =
        let e : 8 * (t - 1 - s) + 8 ≡ 8 * (t + 1 - 1 - s) = omega arith in
        v_twice (f s) (8 * (t - 1 - s)) 8 ∙ ap (v_after (f s)) e

pub rows_all : (x h z t : ℕ) → h < 2 ^ 128 → t ≡ 16 → z ≡ sum t (λ s. v_after (row_of h x s) (8 * (t - 1 - s))) → z ≡ dot x h
rows_all x h z t lt e ez = ez ∙ ap (λ (n : ℕ). sum n (λ s. v_after (row_of h x s) (8 * (n - 1 - s)))) e ∙ sym (dot_rows x h lt)
