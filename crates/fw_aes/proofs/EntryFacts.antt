-- Tables of 16 entries over the lanes of a vector.
use Rattle.std.proofs.Common.{subst, ◌≡◌, ℕ, zero, suc, ◌+◌, ◌*◌, ◌/◌, ◌^◌, ◌≤◌, Bool, true, cond, T, leb, List, [], ◌∷◌, length, map, replicate, bit_and, bit_xor, refl, sym, ap, ◌∙◌, arith, get_or, w8, Fits}
use Rattle.std.proofs.lemmas.Simd.{swz_l, SwzOk, SwzOk-from_Each1, zip2_splat, zip2_of_maps, map-map}
use lib.Lanes.{zip2, Each1}
use Rattle.fw_aes.specs.Entries.{is_place, ArePlaces, entry, entry_by_halves}
use Rattle.fw_aes.proofs.EveryByte.{all_less, at_less}

abbrev pub IsBlock : List ℕ → Type 0
IsBlock v = (length v ≡ 16) × Each1 (Fits w8) v

-- ---- a table at places

pub places_ok : (js : List ℕ) → length js ≡ 16 → ArePlaces js → SwzOk w8 16 16 0 js
places_ok js len are = SwzOk-from_Each1 w8 16 1 16 0 js refl (omega arith) are

pub entries_from : (table js : List ℕ) (i n : ℕ) → length js ≡ n → i + n ≤ 16 → swz_l w8 16 table i js ≡ map (entry table) js
entries_from table [] i n len fits = refl
entries_from table (j ∷ js) i zero len fits = absurd (omega arith)
entries_from table (j ∷ js) i (suc n) len fits =
    let at : 16 * (i / 16) + j ≡ j = omega arith in
    let tail = entries_from table js (suc i) n (omega arith) (omega arith) in
    λ k. cond (leb 128 j) 0 (get_or table (at k) 0) ∷ tail k

-- ---- places that are computed lane by lane

T_of : (b : Bool) → b ≡ true → T b
T_of b e = subst T (sym e) tt

places_map : (g : ℕ → ℕ) (vs : List ℕ) → Each1 (Fits w8) vs → all_less 256 (λ v. is_place (g v)) ≡ true → ArePlaces (map g vs)
places_map g [] fits all = tt
places_map g (v ∷ vs) fits all = (T_of (is_place (g v)) (at_less 256 (λ x. is_place (g x)) all v fits.0.fits), places_map g vs fits.1 all)

pub places_of : (g : ℕ → ℕ) (vs js : List ℕ) → js ≡ map g vs → Each1 (Fits w8) vs → all_less 256 (λ v. is_place (g v)) ≡ true → ArePlaces js
places_of g vs js e fits all = subst ArePlaces (sym e) (places_map g vs fits all)

-- a table at places that were computed lane by lane
pub through : (f g : ℕ → ℕ) (vs js r : List ℕ) → r ≡ map f js → js ≡ map g vs → r ≡ map (λ v. f (g v)) vs
through f g vs js r er ej = er ∙ ap (map f) ej ∙ map-map f g vs

-- ---- the halves of bytes

abbrev pub low_half : ℕ → ℕ
low_half x = bit_and x 15

abbrev pub high_half : ℕ → ℕ
high_half x = x / 16

abbrev down : ℕ → ℕ → ℕ
down a b = a / 2 ^ b

low_all : all_less 256 (λ v. is_place (low_half v)) ≡ true
low_all = refl

high_all : all_less 256 (λ v. is_place (high_half v)) ≡ true
high_all = refl

pub low_places : (v : List ℕ) → IsBlock v → ArePlaces (zip2 bit_and v (replicate 16 15))
low_places v fits = places_of low_half v (zip2 bit_and v (replicate 16 15)) (zip2_splat bit_and v 16 15 fits.0) fits.1 low_all

pub high_places : (v : List ℕ) → IsBlock v → ArePlaces (zip2 down v (replicate 16 4))
high_places v fits = places_of high_half v (zip2 down v (replicate 16 4)) (zip2_splat down v 16 4 fits.0) fits.1 high_all

pub halves : (low high v a b : List ℕ) → IsBlock v → a ≡ map (entry low) (zip2 bit_and v (replicate 16 15)) → b ≡ map (entry high) (zip2 down v (replicate 16 4))
    → zip2 bit_xor a b ≡ map (entry_by_halves low high) v
halves low high v a b fits ea eb =
    zip2_of_maps bit_xor (λ x. entry low (low_half x)) (λ x. entry high (high_half x)) v
    (through (entry low) low_half v (zip2 bit_and v (replicate 16 15)) a ea (zip2_splat bit_and v 16 15 fits.0))
    (through (entry high) high_half v (zip2 down v (replicate 16 4)) b eb (zip2_splat down v 16 4 fits.0))
