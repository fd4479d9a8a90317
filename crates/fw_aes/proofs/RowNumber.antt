-- The number that a row of entries spells.
use Rattle.std.proofs.Common.{◌≡◌, ℕ, zero, suc, ◌+◌, ◌/◌, ◌<◌, false, cond, leb, List, map, bit_and, sym, ap, ◌∙◌, arith, get_or}
use Rattle.std.proofs.lemmas.Bool.Decides.{nat_tests}
use Rattle.std.proofs.lemmas.Nat.{and_le_r}
use Rattle.std.specs.Int.{byte_at, byte_worth, from_le_bytes, sum_through, to_le_bytes, w128}
use Rattle.fw_aes.specs.Entries.{entry, entry_by_halves}
use Rattle.fw_aes.specs.Gcm.{v_after}
use Rattle.fw_aes.specs.Multiples.{first_four, sum_of}
use Rattle.fw_aes.proofs.ByteFacts.{byte_is, byte_of, bytes_add, number_sum}
use Rattle.fw_aes.proofs.DotFacts.{byte_product, row_of}
use Rattle.fw_aes.proofs.XorSums.{xor_both}

-- ---- rows from tables

entry_at : (table : List ℕ) (j : ℕ) → j < 16 → entry table j ≡ get_or table j 0
entry_at table j lt =
    let small : leb 128 j ≡ false = grind (arith, nat_tests) in
    ap (λ b. cond b 0 (get_or table j 0)) small

row_byte : (h t c : ℕ) (low high : List ℕ) → c < 256
    → ((n : ℕ) → n < 16 → get_or low n 0 ≡ byte_at t (sum_of (first_four (v_after h 4)) n)) → ((n : ℕ) → n < 16 → get_or high n 0 ≡ byte_at t (sum_of (first_four h) n))
    → entry_by_halves low high c ≡ byte_of t (byte_product h c)
row_byte h t c low high lc is_low is_high =
    let ll : bit_and c 15 < 16 = omega (arith, and_le_r c 15) in
    let lh : c / 16 < 16 = omega arith in
    let a : ℕ = sum_of (first_four (v_after h 4)) (bit_and c 15) in
    let b : ℕ = sum_of (first_four h) (c / 16) in
    xor_both (entry low (bit_and c 15)) (entry high (c / 16)) (byte_of t a) (byte_of t b) (entry_at low (bit_and c 15) ll ∙ is_low (bit_and c 15) ll ∙ byte_is t a)
    (entry_at high (c / 16) lh ∙ is_high (c / 16) lh ∙ byte_is t b)
    ∙ sym (bytes_add t a b)

through_same : (f g : ℕ → ℕ) → ((m : ℕ) → f m ≡ g m) → (n : ℕ) → sum_through (λ m. byte_worth m (f m)) n ≡ sum_through (λ m. byte_worth m (g m)) n
through_same f g same zero = same 0
through_same f g same (suc n) =
    ap (λ (k : ℕ). k + byte_worth (suc n) (f (suc n))) (through_same f g same n) ∙ ap (λ (k : ℕ). sum_through (λ m. byte_worth m (g m)) n + byte_worth (suc n) k) (same (suc n))

byte_at_below : (m n : ℕ) → byte_at m n < 256
byte_at_below zero n = omega arith
byte_at_below (suc m) n = omega arith

-- the number that a row of entries spells
pub row_number : (h x t : ℕ) (low high : List ℕ)
    → ((n : ℕ) → n < 16 → get_or low n 0 ≡ byte_at t (sum_of (first_four (v_after h 4)) n)) → ((n : ℕ) → n < 16 → get_or high n 0 ≡ byte_at t (sum_of (first_four h) n))
    → from_le_bytes w128 (map (entry_by_halves low high) (to_le_bytes w128 x)) ≡ row_of h x t
row_number h x t low high is_low is_high =
    let f : ℕ → ℕ = λ m. byte_of t (byte_product h (byte_of m x)) in
    through_same (λ m. entry_by_halves low high (byte_at m x)) f
    (λ m. row_byte h t (byte_at m x) low high (byte_at_below m x) is_low is_high ∙ ap (λ (c : ℕ). byte_of t (byte_product h c)) (byte_is m x)) 15
    ∙ number_sum f (λ m. omega arith) 15
