-- The multiples of a hash subkey that make the product of a block with it.
use Rattle.std.specs.Prelude.{◌≡◌, ℕ, ◌*◌, ◌^◌, ◌<◌, List, [], ◌∷◌, bit_xor, slice_index, slice_index_or}
use Rattle.std.specs.Int.{bit_at, byte_at}
use Rattle.fw_aes.specs.Gcm.{v_after}

-- V_0 to V_3 of a block
abbrev pub first_four : ℕ → List ℕ
first_four y = v_after y 0 ∷ v_after y 1 ∷ v_after y 2 ∷ v_after y 3 ∷ []

-- of four blocks, the sum of those that the bits of n choose, the first one by bit 3
abbrev pub sum_of : List ℕ → ℕ → ℕ
sum_of vs n =
    bit_xor (bit_xor (bit_xor (bit_at n 3 * slice_index vs 0) (bit_at n 2 * slice_index vs 1)) (bit_at n 1 * slice_index vs 2)) (bit_at n 0 * slice_index vs 3)

-- row t has byte t of each sum, where byte 0 is the lowest
abbrev pub AreRows : List ℕ → List (List ℕ) → Type 0
AreRows vs rows = (t n : ℕ) → t < 16 → n < 16 → slice_index (slice_index_or rows t []) n ≡ byte_at t (sum_of vs n)

-- the tables of a hash subkey, by the low and by the high halves of bytes
pub record AreMultiples (h : ℕ) (lows highs : List (List ℕ)) : Type 0 where
  pub block : h < 2 ^ 128
  pub low : AreRows (first_four (v_after h 4)) lows
  pub high : AreRows (first_four h) highs
