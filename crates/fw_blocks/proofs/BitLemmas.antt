-- Bits and the bytes that hold them.
use Rattle.std.proofs.Common.{◌≡◌, ℕ, zero, suc, ◌+◌, ◌-◌, ◌*◌, ◌/◌, ◌%◌, ◌^◌, ◌<◌, ◌≤◌, Bool, false, List, [], ◌∷◌, ◌++◌, length, get_or, take, drop, refl, ap, ◌∙◌, arith}
use Rattle.std.proofs.lemmas.List.{drop-drop}
use Rattle.fw_axdr.specs.Bits.{bit, bits, byte_of, packed_into}

pub length-bits : (bytes : List ℕ) → length (bits bytes) ≡ 8 * length bytes
length-bits [] = refl
length-bits (y ∷ ys) = omega (arith, length-bits ys)

-- ---- a bit, in its byte

pub get_or-bits : (bytes : List ℕ) (i : ℕ) → i < 8 * length bytes → get_or (bits bytes) i false ≡ bit (get_or bytes (i / 8) 0) (2 ^ (7 - i % 8))
get_or-bits [] i h = absurd (omega arith)
get_or-bits (y ∷ ys) zero h = refl
get_or-bits (y ∷ ys) (suc zero) h = refl
get_or-bits (y ∷ ys) (suc (suc zero)) h = refl
get_or-bits (y ∷ ys) (suc (suc (suc zero))) h = refl
get_or-bits (y ∷ ys) (suc (suc (suc (suc zero)))) h = refl
get_or-bits (y ∷ ys) (suc (suc (suc (suc (suc zero))))) h = refl
get_or-bits (y ∷ ys) (suc (suc (suc (suc (suc (suc zero)))))) h = refl
get_or-bits (y ∷ ys) (suc (suc (suc (suc (suc (suc (suc zero))))))) h = refl
get_or-bits (y ∷ ys) (suc (suc (suc (suc (suc (suc (suc (suc i)))))))) h =
    let next : suc (suc (suc (suc (suc (suc (suc (suc i))))))) / 8 ≡ suc (i / 8) = omega arith in
    let same : suc (suc (suc (suc (suc (suc (suc (suc i))))))) % 8 ≡ i % 8 = omega arith in
    rw (next, same) (get_or-bits ys i (omega arith))

-- ---- the first of them

-- the first bits need the first bytes alone
pub take-bits : (bytes : List ℕ) (k n : ℕ) → n ≤ 8 * k → take n (bits (take k bytes)) ≡ take n (bits bytes)
take-bits bytes k zero h = refl
take-bits bytes zero (suc n) h = absurd (omega arith)
take-bits [] (suc k) (suc n) h = refl
take-bits (y ∷ ys) (suc k) (suc zero) h = refl
take-bits (y ∷ ys) (suc k) (suc (suc zero)) h = refl
take-bits (y ∷ ys) (suc k) (suc (suc (suc zero))) h = refl
take-bits (y ∷ ys) (suc k) (suc (suc (suc (suc zero)))) h = refl
take-bits (y ∷ ys) (suc k) (suc (suc (suc (suc (suc zero))))) h = refl
take-bits (y ∷ ys) (suc k) (suc (suc (suc (suc (suc (suc zero)))))) h = refl
take-bits (y ∷ ys) (suc k) (suc (suc (suc (suc (suc (suc (suc zero))))))) h = refl
take-bits (y ∷ ys) (suc k) (suc (suc (suc (suc (suc (suc (suc (suc n)))))))) h = rw (take-bits ys k n (omega arith)) refl

-- one more byte
pub packed_into-more : (n : ℕ) (bs : List Bool) → packed_into (suc n) bs ≡ packed_into n bs ++ byte_of (drop (8 * n) bs) ∷ []
packed_into-more zero bs = refl
packed_into-more (suc n) bs =
    let next : 8 + 8 * n ≡ 8 * suc n = omega arith in
    let behind : drop (8 * n) (drop 8 bs) ≡ drop (8 * suc n) bs = drop-drop (8 * n) 8 bs ∙ ap (λ (k : ℕ). drop k bs) next in
    ap (λ (rest : List ℕ). byte_of bs ∷ rest)
    (packed_into-more n (drop 8 bs) ∙ ap (λ (at : List Bool). packed_into n (drop 8 bs) ++ byte_of at ∷ []) behind)
