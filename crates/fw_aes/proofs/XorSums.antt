-- Sums in a field of characteristic 2.
use Rattle.std.proofs.Common.{◌≡◌, ℕ, zero, suc, ◌+◌, ◌-◌, ◌*◌, ◌<◌, bit_xor, refl, sym, ap, ◌∙◌, arith}
use Rattle.std.specs.Int.Bits.{xor_assoc, xor_comm}

-- f 0 + f 1 + .. + f (n - 1)
unfoldable pub sum : ℕ → (ℕ → ℕ) → ℕ
sum zero f = 0
sum (suc n) f = bit_xor (sum n f) (f n)

pub xor_swap : (a b c d : ℕ) → bit_xor (bit_xor a b) (bit_xor c d) ≡ bit_xor (bit_xor a c) (bit_xor b d)
xor_swap a b c d =
    xor_assoc a b (bit_xor c d)
    ∙ ap (bit_xor a) (sym (xor_assoc b c d) ∙ ap (λ (n : ℕ). bit_xor n d) (xor_comm b c) ∙ xor_assoc c b d)
    ∙ sym (xor_assoc a c (bit_xor b d))

pub xor_both : (a b c d : ℕ) → a ≡ c → b ≡ d → bit_xor a b ≡ bit_xor c d
xor_both a b c d e h = ap (λ (n : ℕ). bit_xor n b) e ∙ ap (bit_xor c) h

pub sum_zero : (f : ℕ → ℕ) → sum 0 f ≡ 0
unfolding sum
sum_zero f = refl

pub sum_next : (n : ℕ) (f : ℕ → ℕ) → sum (n + 1) f ≡ bit_xor (sum n f) (f n)
unfolding sum
sum_next n f = let e : n + 1 ≡ suc n = omega arith in ap (λ (k : ℕ). sum k f) e

pub sum_same : (n : ℕ) (f g : ℕ → ℕ) → ((i : ℕ) → i < n → f i ≡ g i) → sum n f ≡ sum n g
unfolding sum
sum_same zero f g h = refl
sum_same (suc n) f g h = xor_both (sum n f) (f n) (sum n g) (g n) (sum_same n f g (λ i lt. h i (omega arith))) (h n (omega arith))

pub sum_zeros : (n : ℕ) → sum n (λ _. 0) ≡ 0
unfolding sum
sum_zeros zero = refl
sum_zeros (suc n) = ap (λ (k : ℕ). bit_xor k 0) (sum_zeros n)

pub sum_both : (n : ℕ) (f g : ℕ → ℕ) → sum n (λ i. bit_xor (f i) (g i)) ≡ bit_xor (sum n f) (sum n g)
unfolding sum
sum_both zero f g = refl
sum_both (suc n) f g = ap (λ (k : ℕ). bit_xor k (bit_xor (f n) (g n))) (sum_both n f g) ∙ xor_swap (sum n f) (sum n g) (f n) (g n)

pub sums_swap : (n m : ℕ) (f : ℕ → ℕ → ℕ) → sum n (λ i. sum m (f i)) ≡ sum m (λ j. sum n (λ i. f i j))
unfolding sum
sums_swap zero m f = sym (sum_zeros m)
sums_swap (suc n) m f = ap (λ (k : ℕ). bit_xor k (sum m (f n))) (sums_swap n m f) ∙ sym (sum_both m (λ j. sum n (λ i. f i j)) (f n))

-- a function of a sum, if it is additive
pub sum_through : (F : ℕ → ℕ) → F 0 ≡ 0 → ((a b : ℕ) → F (bit_xor a b) ≡ bit_xor (F a) (F b)) → (n : ℕ) (f : ℕ → ℕ) → F (sum n f) ≡ sum n (λ i. F (f i))
unfolding sum
sum_through F none adds zero f = none
sum_through F none adds (suc n) f = adds (sum n f) (f n) ∙ ap (λ (k : ℕ). bit_xor k (F (f n))) (sum_through F none adds n f)

-- the last m of them apart
pub sum_apart : (n m : ℕ) (f : ℕ → ℕ) → sum (n + m) f ≡ bit_xor (sum n f) (sum m (λ i. f (n + i)))
unfolding sum
sum_apart n zero f = let e : n + zero ≡ n = omega arith in ap (λ (k : ℕ). sum k f) e ∙ sym (xor_comm (sum n f) 0)
sum_apart n (suc m) f =
    let e : n + suc m ≡ suc (n + m) = omega arith in
    ap (λ (k : ℕ). sum k f) e ∙ ap (λ (k : ℕ). bit_xor k (f (n + m))) (sum_apart n m f) ∙ xor_assoc (sum n f) (sum m (λ i. f (n + i))) (f (n + m))

-- the first of them apart
pub sum_first : (n : ℕ) (f : ℕ → ℕ) → sum (suc n) f ≡ bit_xor (f 0) (sum n (λ i. f (suc i)))
unfolding sum
sum_first zero f = sym (xor_comm (f 0) 0)
sum_first (suc n) f = ap (λ (k : ℕ). bit_xor k (f (suc n))) (sum_first n f) ∙ xor_assoc (f 0) (sum n (λ i. f (suc i))) (f (suc n))

pub sum_reverse : (n : ℕ) (f : ℕ → ℕ) → sum n f ≡ sum n (λ i. f (n - 1 - i))
unfolding sum
sum_reverse zero f = refl
sum_reverse (suc n) f =
    ap (λ (k : ℕ). bit_xor k (f n)) (sum_reverse n f ∙ sum_same n (λ i. f (n - 1 - i)) (λ i. f (suc n - 1 - suc i)) (λ i lt. ap f (omega arith)))
    ∙ xor_comm (sum n (λ i. f (suc n - 1 - suc i))) (f n) ∙ ap (λ (k : ℕ). bit_xor (f k) (sum n (λ i. f (suc n - 1 - suc i)))) (omega arith)
    ∙ sym (sum_first n (λ i. f (suc n - 1 - i)))

-- groups of m
pub sum_groups : (m n : ℕ) (f : ℕ → ℕ) → sum (m * n) f ≡ sum n (λ k. sum m (λ j. f (m * k + j)))
unfolding sum
sum_groups m zero f = let e : m * zero ≡ zero = omega arith in ap (λ (k : ℕ). sum k f) e
sum_groups m (suc n) f =
    let e : m * suc n ≡ m * n + m = omega arith in
    ap (λ (k : ℕ). sum k f) e ∙ sum_apart (m * n) m f ∙ ap (λ (k : ℕ). bit_xor k (sum m (λ j. f (m * n + j)))) (sum_groups m n f)
