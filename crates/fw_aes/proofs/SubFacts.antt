-- SBOX by tables of 16 entries.
use Rattle.std.proofs.Common.{◌≡◌, ℕ, suc, ◌<◌, true, eqb, List, [], ◌∷◌, map, bit_xor, refl, w8, Fits}
use lib.Lanes.{Each1}
use Rattle.fw_aes.specs.Field.{product_below, remainder, times, even_power, inverse, affine_below, sbox}
use Rattle.fw_aes.specs.Entries.{is_place, entry, entry_by_halves}
use Rattle.fw_aes.specs.declared.sub_bytes.TheConstants.{I_LOW, I_HIGH, K_LOW, K_HIGH, INVERSE, A_OVER, FROM_R, FROM_S}
use Rattle.fw_aes.proofs.EveryByte.{all_less, same_less}

abbrev pub i_of : ℕ → ℕ
i_of = entry_by_halves I_LOW I_HIGH

abbrev pub k_of : ℕ → ℕ
k_of = entry_by_halves K_LOW K_HIGH

abbrev pub j_of : ℕ → ℕ
j_of x = bit_xor (i_of x) (k_of x)

-- 1/i + a/k
abbrev pub p_of : ℕ → ℕ
p_of x = bit_xor (entry INVERSE (i_of x)) (entry A_OVER (k_of x))

-- 1/j + a/k
abbrev pub q_of : ℕ → ℕ
q_of x = bit_xor (entry INVERSE (j_of x)) (entry A_OVER (k_of x))

abbrev pub r_of : ℕ → ℕ
r_of x = bit_xor (entry INVERSE (p_of x)) (j_of x)

abbrev pub s_of : ℕ → ℕ
s_of x = bit_xor (entry INVERSE (q_of x)) (i_of x)

abbrev pub sbox_code : ℕ → ℕ
sbox_code x = bit_xor (bit_xor (entry FROM_R (r_of x)) (entry FROM_S (s_of x))) 0x63

pub i_all : all_less 256 (λ x. is_place (i_of x)) ≡ true
i_all = refl

pub j_all : all_less 256 (λ x. is_place (j_of x)) ≡ true
j_all = refl

pub k_all : all_less 256 (λ x. is_place (k_of x)) ≡ true
k_all = refl

pub p_all : all_less 256 (λ x. is_place (p_of x)) ≡ true
p_all = refl

pub q_all : all_less 256 (λ x. is_place (q_of x)) ≡ true
q_all = refl

pub r_all : all_less 256 (λ x. is_place (r_of x)) ≡ true
r_all = refl

pub s_all : all_less 256 (λ x. is_place (s_of x)) ≡ true
s_all = refl

sbox_all : all_less 256 (λ x. eqb (sbox_code x) (sbox x)) ≡ true
unfolding product_below remainder times even_power inverse affine_below sbox
sbox_all = refl

pub map_bytes : (f g : ℕ → ℕ) (xs : List ℕ) → Each1 (Fits w8) xs → ((x : ℕ) → x < 256 → f x ≡ g x) → map f xs ≡ map g xs
map_bytes f g [] small same = refl
map_bytes f g (x ∷ xs) small same =
    let tail = map_bytes f g xs small.1 same in
    λ k. same x small.0.fits k ∷ tail k

pub sbox_bytes : (xs : List ℕ) → Each1 (Fits w8) xs → map sbox_code xs ≡ map sbox xs
sbox_bytes xs small = map_bytes sbox_code sbox xs small (same_less 256 sbox_code sbox sbox_all)

-- the definitions on some bytes that are known
pub known_bytes : map sbox (0 ∷ 1 ∷ 2 ∷ 3 ∷ 0x53 ∷ 0xff ∷ []) ≡ 0x63 ∷ 0x7c ∷ 0x77 ∷ 0x7b ∷ 0xed ∷ 0x16 ∷ []
unfolding product_below remainder times even_power inverse affine_below sbox
known_bytes = refl

inverses : all_less 255 (λ a. eqb (times (suc a) (inverse (suc a))) 1) ≡ true
unfolding product_below remainder times even_power inverse
inverses = refl
