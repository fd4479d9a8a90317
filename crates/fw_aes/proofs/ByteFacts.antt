-- A number as the sum of its bytes, each at its place.
use Rattle.std.proofs.Common.{◌≡◌, ℕ, zero, suc, ◌+◌, ◌*◌, ◌/◌, ◌%◌, ◌^◌, ◌<◌, ◌≤◌, bit_xor, refl, sym, ap, ◌∙◌, arith, get_or}
use Rattle.std.proofs.lemmas.Nat.{mod-pow-add, pow-add, pow_pos, xor_block, xor_mod, xor_shr}
use Rattle.std.proofs.Math.Nat.{mul-le-mul_right, pow-suc}
use Rattle.std.specs.Int.{byte_at, byte_worth, bytes_low_first, sum_through}
use Rattle.std.specs.Int.Bits.{xor_zero_r}
use Rattle.fw_aes.proofs.XorSums.{sum, sum_next, sum_zero, xor_both}

-- byte m, where byte 0 is the lowest
abbrev pub byte_of : ℕ → ℕ → ℕ
byte_of m n = n / 2 ^ (8 * m) % 256

power_256 : (m : ℕ) → 256 ^ m ≡ 2 ^ (8 * m)
power_256 zero = refl
power_256 (suc m) =
    let e : 8 * suc m ≡ 8 * m + 8 = omega arith in
    pow-suc 256 m ∙ ap (λ (n : ℕ). n * 256) (power_256 m) ∙ sym (pow-add 2 (8 * m) 8) ∙ ap (λ (n : ℕ). 2 ^ n) (sym e)

pub byte_is : (m n : ℕ) → byte_at m n ≡ byte_of m n
byte_is zero n = omega arith
byte_is (suc m) n = ap (λ (k : ℕ). n / k % 256) (power_256 (suc m))

worth_is : (m b : ℕ) → byte_worth m b ≡ b * 2 ^ (8 * m)
worth_is zero b = omega arith
worth_is (suc m) b = ap (λ (k : ℕ). b * k) (power_256 (suc m))

pub byte_listed : (k i n m : ℕ) → m < k → get_or (bytes_low_first i k n) m 0 ≡ byte_at (i + m) n
byte_listed zero i n m lt = absurd (omega arith)
byte_listed (suc k) i n zero lt = ap (λ (j : ℕ). byte_at j n) (omega arith)
byte_listed (suc k) i n (suc m) lt = byte_listed k (suc i) n m (omega arith) ∙ ap (λ (j : ℕ). byte_at j n) (omega arith)

pub bytes_add : (m a b : ℕ) → byte_of m (bit_xor a b) ≡ bit_xor (byte_of m a) (byte_of m b)
bytes_add m a b = ap (λ (n : ℕ). n % 256) (xor_shr a b (8 * m)) ∙ xor_mod (a / 2 ^ (8 * m)) (b / 2 ^ (8 * m)) 8

-- numbers that share no bit
apart : (k a b : ℕ) → b < 2 ^ k → bit_xor b (a * 2 ^ k) ≡ a * 2 ^ k + b
apart k a b lt =
    let left : b ≡ 0 * 2 ^ k + b = omega arith in
    let right : a * 2 ^ k ≡ a * 2 ^ k + 0 = omega arith in
    xor_both b (a * 2 ^ k) (0 * 2 ^ k + b) (a * 2 ^ k + 0) left right ∙ xor_block k 0 a b 0 lt (pow_pos k) ∙ ap (λ (n : ℕ). a * 2 ^ k + n) (xor_zero_r b)

mod_below : (n k : ℕ) → n % 2 ^ k < 2 ^ k
mod_below n k = let positive : 0 < 2 ^ k = pow_pos k in omega arith

-- the lowest n bytes
low_bytes : (y n : ℕ) → y % 2 ^ (8 * n) ≡ sum n (λ m. byte_of m y * 2 ^ (8 * m))
low_bytes y zero = omega arith ∙ sym (sum_zero (λ m. byte_of m y * 2 ^ (8 * m)))
low_bytes y (suc n) =
    let e : 8 * suc n ≡ 8 + 8 * n = omega arith in
    let next : n + 1 ≡ suc n = omega arith in
    ap (λ (k : ℕ). y % 2 ^ k) e ∙ mod-pow-add y 8 (8 * n) ∙ sym (apart (8 * n) (byte_of n y) (y % 2 ^ (8 * n)) (mod_below y (8 * n)))
    ∙ ap (λ (k : ℕ). bit_xor k (byte_of n y * 2 ^ (8 * n))) (low_bytes y n) ∙ sym (sum_next n (λ m. byte_of m y * 2 ^ (8 * m)))
    ∙ ap (λ (k : ℕ). sum k (λ m. byte_of m y * 2 ^ (8 * m))) next

pub all_bytes : (y : ℕ) → y < 2 ^ 128 → y ≡ sum 16 (λ m. byte_of m y * 2 ^ (8 * m))
all_bytes y lt =
    let e : y ≡ y % 2 ^ (8 * 16) = omega arith in
    e ∙ low_bytes y 16

-- the number that bytes spell, the lowest first
number_below : (f : ℕ → ℕ) → ((m : ℕ) → f m < 256) → (n : ℕ) → sum_through (λ m. byte_worth m (f m)) n < 2 ^ (8 * (n + 1))
number_below f small zero = omega (arith, small 0)
number_below f small (suc n) =
    let below = number_below f small n in
    let worth : byte_worth (suc n) (f (suc n)) ≡ f (suc n) * 2 ^ (8 * (n + 1)) = worth_is (suc n) (f (suc n)) ∙ ap (λ (k : ℕ). f (suc n) * 2 ^ k) (omega arith) in
    let power : 2 ^ (8 * (suc n + 1)) ≡ 2 ^ (8 * (n + 1)) * 256 = ap (λ (k : ℕ). 2 ^ k) (omega arith) ∙ pow-add 2 (8 * (n + 1)) 8 in
    top_below (sum_through (λ m. byte_worth m (f m)) n) (f (suc n)) (byte_worth (suc n) (f (suc n))) (2 ^ (8 * (n + 1))) (2 ^ (8 * (suc n + 1))) below (small (suc n)) worth power
  where
    top_below : (a c w p q : ℕ) → a < p → c < 256 → w ≡ c * p → q ≡ p * 256 → a + w < q
    top_below a c w p q la lc ew eq =
        let most : c * p ≤ 255 * p = mul-le-mul_right p (omega arith) in
        omega arith

pub number_sum : (f : ℕ → ℕ) → ((m : ℕ) → f m < 256) → (n : ℕ) → sum_through (λ m. byte_worth m (f m)) n ≡ sum (n + 1) (λ m. f m * 2 ^ (8 * m))
number_sum f small zero = omega arith ∙ sym (sum_next 0 (λ m. f m * 2 ^ (8 * m)) ∙ ap (λ (k : ℕ). bit_xor k (f 0 * 2 ^ (8 * 0))) (sum_zero (λ m. f m * 2 ^ (8 * m))))
number_sum f small (suc n) =
    let worth : byte_worth (suc n) (f (suc n)) ≡ f (suc n) * 2 ^ (8 * (n + 1)) = worth_is (suc n) (f (suc n)) ∙ ap (λ (k : ℕ). f (suc n) * 2 ^ k) (omega arith) in
    let same : n + 1 ≡ suc n = omega arith in
    ap (λ (k : ℕ). sum_through (λ m. byte_worth m (f m)) n + k) worth ∙ omega arith
    ∙ sym (apart (8 * (n + 1)) (f (suc n)) (sum_through (λ m. byte_worth m (f m)) n) (number_below f small n))
    ∙ xor_both (sum_through (λ m. byte_worth m (f m)) n) (f (suc n) * 2 ^ (8 * (n + 1))) (sum (suc n) (λ m. f m * 2 ^ (8 * m))) (f (suc n) * 2 ^ (8 * suc n))
    (number_sum f small n ∙ ap (λ (k : ℕ). sum k (λ m. f m * 2 ^ (8 * m))) same) (ap (λ (k : ℕ). f (suc n) * 2 ^ (8 * k)) same)
    ∙ sym (sum_next (suc n) (λ m. f m * 2 ^ (8 * m)))
