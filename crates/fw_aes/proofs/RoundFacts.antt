-- The steps of a round over the lanes of a vector.
use Rattle.std.proofs.Common.{◌≡◌, ℕ, zero, suc, ◌+◌, ◌%◌, ◌^◌, ◌<◌, true, cond, eqb, leb, List, [], ◌∷◌, ◌++◌, length, map, replicate, bit_xor, refl, sym, ap, ◌∙◌, arith, get_or, w8, Fits}
use Rattle.std.proofs.lemmas.Simd.{pick_l_whole}
use Rattle.std.specs.List.{range_with_len}
use Rattle.std.specs.Int.Bits.{xor_assoc}
use lib.Lanes.{zip2, sel_l, top, pick_l, Each1}
use Rattle.fw_aes.specs.Field.{product_below, remainder, times}
use Rattle.fw_aes.specs.Aes.{mix_byte, mix_columns}
use Rattle.fw_aes.proofs.EveryByte.{all_less, same_less, same_less_two}
use Rattle.fw_aes.proofs.EntryFacts.{IsBlock}

-- a block, written out
pub whole : (xs : List ℕ) → length xs ≡ 16 → pick_l 0 xs (range_with_len 0 16) ≡ xs
whole xs len = pick_l_whole 0 xs 16 len

pub xor_blocks : (s k : List ℕ) → IsBlock s → IsBlock k → zip2 bit_xor s k ≡ zip2 bit_xor (pick_l 0 s (range_with_len 0 16)) (pick_l 0 k (range_with_len 0 16))
xor_blocks s k fs fk =
    ap (λ (xs : List ℕ). zip2 bit_xor xs k) (sym (whole s fs.0)) ∙ ap (zip2 bit_xor (pick_l 0 s (range_with_len 0 16))) (sym (whole k fk.0))

-- ---- the product with x

abbrev doubled : ℕ → ℕ
doubled x = bit_xor ((x + x) % 2 ^ 8) (cond (top 7 (cond (leb 128 x) 255 0)) 27 0)

doubled_all : all_less 256 (λ x. eqb (doubled x) (times 2 x)) ≡ true
unfolding product_below remainder times
doubled_all = refl

pub x_times_from : (xs : List ℕ) (n : ℕ) → length xs ≡ n → Each1 (Fits w8) xs
    → zip2 bit_xor (zip2 (λ (a b : ℕ). (a + b) % 2 ^ 8) xs xs)
    (sel_l (map (top 7) (zip2 (λ (a b : ℕ). cond (leb a b) 255 0) (replicate n 128) xs)) (replicate n 27) (replicate n 0))
    ≡ map (times 2) xs
x_times_from [] n len fits = refl
x_times_from (x ∷ xs) zero len fits = absurd (omega arith)
x_times_from (x ∷ xs) (suc n) len fits =
    let tail = x_times_from xs n (omega arith) fits.1 in
    λ k. same_less 256 doubled (times 2) doubled_all x fits.0.fits k ∷ tail k

-- ---- MIXCOLUMNS

sums_all : all_less 256 (λ a. all_less 256 (λ b. eqb (times 2 (bit_xor a b)) (bit_xor (times 2 a) (times 2 b)))) ≡ true
unfolding product_below remainder times
sums_all = refl

thrice_all : all_less 256 (λ a. eqb (bit_xor (times 2 a) a) (times 3 a)) ≡ true
unfolding product_below remainder times
thrice_all = refl

mix_one : (a b c d : ℕ) → a < 256 → b < 256 → bit_xor (bit_xor (times 2 (bit_xor a b)) b) (bit_xor c d) ≡ mix_byte a b c d
mix_one a b c d ha hb =
    sym (xor_assoc (bit_xor (times 2 (bit_xor a b)) b) c d)
    ∙ ap (λ (n : ℕ). bit_xor (bit_xor n c) d)
    (ap (λ (n : ℕ). bit_xor n b) (same_less_two 256 (λ x y. times 2 (bit_xor x y)) (λ x y. bit_xor (times 2 x) (times 2 y)) sums_all a b ha hb)
    ∙ xor_assoc (times 2 a) (times 2 b) b ∙ ap (bit_xor (times 2 a)) (same_less 256 (λ x. bit_xor (times 2 x) x) (times 3) thrice_all b hb))

abbrev pub next_places : List ℕ
next_places = 1 ∷ 2 ∷ 3 ∷ 0 ∷ 5 ∷ 6 ∷ 7 ∷ 4 ∷ 9 ∷ 10 ∷ 11 ∷ 8 ∷ 13 ∷ 14 ∷ 15 ∷ 12 ∷ []

abbrev pub other_places : List ℕ
other_places = 2 ∷ 3 ∷ 0 ∷ 1 ∷ 6 ∷ 7 ∷ 4 ∷ 5 ∷ 10 ∷ 11 ∷ 8 ∷ 9 ∷ 14 ∷ 15 ∷ 12 ∷ 13 ∷ []

abbrev pub next_of : List ℕ → List ℕ
next_of s = pick_l 0 (s ++ s) next_places

abbrev pub sums_of : List ℕ → List ℕ
sums_of s = zip2 bit_xor s (next_of s)

abbrev pub mix_code : List ℕ → List ℕ
mix_code s = zip2 bit_xor (zip2 bit_xor (map (times 2) (sums_of s)) (next_of s)) (pick_l 0 (sums_of s ++ sums_of s) other_places)

mix_written : (a0 a1 a2 a3 a4 a5 a6 a7 a8 a9 a10 a11 a12 a13 a14 a15 : ℕ) → a0 < 256 → a1 < 256 → a2 < 256 → a3 < 256 → a4 < 256 → a5 < 256 → a6 < 256 → a7 < 256
    → a8 < 256 → a9 < 256 → a10 < 256 → a11 < 256 → a12 < 256 → a13 < 256 → a14 < 256 → a15 < 256
    → mix_code (a0 ∷ a1 ∷ a2 ∷ a3 ∷ a4 ∷ a5 ∷ a6 ∷ a7 ∷ a8 ∷ a9 ∷ a10 ∷ a11 ∷ a12 ∷ a13 ∷ a14 ∷ a15 ∷ [])
    ≡ mix_columns (a0 ∷ a1 ∷ a2 ∷ a3 ∷ a4 ∷ a5 ∷ a6 ∷ a7 ∷ a8 ∷ a9 ∷ a10 ∷ a11 ∷ a12 ∷ a13 ∷ a14 ∷ a15 ∷ [])
mix_written a0 a1 a2 a3 a4 a5 a6 a7 a8 a9 a10 a11 a12 a13 a14 a15 h0 h1 h2 h3 h4 h5 h6 h7 h8 h9 h10 h11 h12 h13 h14 h15 = λ k.
    mix_one a0 a1 a2 a3 h0 h1 k ∷ mix_one a1 a2 a3 a0 h1 h2 k ∷ mix_one a2 a3 a0 a1 h2 h3 k ∷ mix_one a3 a0 a1 a2 h3 h0 k
    ∷ mix_one a4 a5 a6 a7 h4 h5 k ∷ mix_one a5 a6 a7 a4 h5 h6 k ∷ mix_one a6 a7 a4 a5 h6 h7 k ∷ mix_one a7 a4 a5 a6 h7 h4 k
    ∷ mix_one a8 a9 a10 a11 h8 h9 k ∷ mix_one a9 a10 a11 a8 h9 h10 k ∷ mix_one a10 a11 a8 a9 h10 h11 k ∷ mix_one a11 a8 a9 a10 h11 h8 k
    ∷ mix_one a12 a13 a14 a15 h12 h13 k ∷ mix_one a13 a14 a15 a12 h13 h14 k ∷ mix_one a14 a15 a12 a13 h14 h15 k ∷ mix_one a15 a12 a13 a14 h15 h12 k ∷ []

fits_at : (v : List ℕ) (i : ℕ) → Each1 (Fits w8) v → get_or v i 0 < 256
fits_at [] i h = omega arith
fits_at (x ∷ xs) zero h = h.0.fits
fits_at (x ∷ xs) (suc i) h = fits_at xs i h.1

pub mix_all : (s : List ℕ) → IsBlock s → mix_code s ≡ mix_columns s
mix_all s fits =
    let at : (i : ℕ) → get_or s i 0 < 256 = λ i. fits_at s i fits.1 in
    ap mix_code (sym (whole s fits.0))
    ∙ mix_written (get_or s 0 0) (get_or s 1 0) (get_or s 2 0) (get_or s 3 0) (get_or s 4 0) (get_or s 5 0) (get_or s 6 0) (get_or s 7 0) (get_or s 8 0) (get_or s 9 0)
    (get_or s 10 0) (get_or s 11 0) (get_or s 12 0) (get_or s 13 0) (get_or s 14 0) (get_or s 15 0) (at 0) (at 1) (at 2) (at 3) (at 4) (at 5) (at 6) (at 7) (at 8) (at 9) (at 10)
    (at 11) (at 12) (at 13) (at 14) (at 15)
    ∙ ap mix_columns (whole s fits.0)
