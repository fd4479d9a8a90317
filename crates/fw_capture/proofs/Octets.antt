-- Addresses of IPv6 by their bytes.
use Rattle.std.proofs.Common.{◌≡◌, ℕ, zero, suc, ◌+◌, ◌*◌, ◌<◌, ◌/◌, ◌%◌, List, [], ◌∷◌, ◌≤◌, length, get_or, take, drop, refl, ap, ◌∙◌, arith}
use Rattle.std.proofs.lemmas.List.{length-take, length-drop, get_or-drop}
use Rattle.std.specs.Net.Addr.{octets_of, segments_of}

-- two bytes are one segment
pub octets_of-segments_of : (n : ℕ) (xs : List ℕ) → length xs ≡ 2 * n → ((k : ℕ) → get_or xs k 0 < 256) → octets_of (segments_of xs) ≡ xs
octets_of-segments_of n [] even small = refl
octets_of-segments_of n (a ∷ []) even small = absurd (omega arith)
octets_of-segments_of zero (a ∷ b ∷ xs) even small = absurd (omega arith)
octets_of-segments_of (suc n) (a ∷ b ∷ xs) even small =
    let low : b < 256 = small 1 in
    let high : (a * 256 + b) / 256 ≡ a = omega arith in
    let rest : (a * 256 + b) % 256 ≡ b = omega arith in
    λ i. high i ∷ rest i ∷ octets_of-segments_of n xs (omega arith) (λ k. small (suc (suc k))) i

-- a part of bytes is bytes
take_fits : (n : ℕ) (xs : List ℕ) → ((k : ℕ) → get_or xs k 0 < 256) → (k : ℕ) → get_or (take n xs) k 0 < 256
take_fits zero xs fits k = omega arith
take_fits (suc n) [] fits k = omega arith
take_fits (suc n) (x ∷ xs) fits zero = fits 0
take_fits (suc n) (x ∷ xs) fits (suc k) = take_fits n xs (λ j. fits (suc j)) k

part_fits : (i n : ℕ) (bytes : List ℕ) → ((k : ℕ) → get_or bytes k 0 < 256) → (k : ℕ) → get_or (take n (drop i bytes)) k 0 < 256
part_fits i n bytes fits k = take_fits n (drop i bytes) (λ j. rw (get_or-drop i bytes j 0) (fits (i + j))) k

-- the address that sixteen bytes at a place are
pub address_is : (place size : ℕ) (bytes octets segments : List ℕ) → ((k : ℕ) → get_or bytes k 0 < 256) → place + 16 ≤ length bytes → size ≡ 16
    → octets ≡ take size (drop place bytes) → segments ≡ segments_of octets → octets_of segments ≡ take 16 (drop place bytes)
address_is place size bytes octets segments fits there sixteen copied parts =
    let here : octets ≡ take 16 (drop place bytes) = copied ∙ ap (λ (n : ℕ). take n (drop place bytes)) sixteen in
    let len : length octets ≡ 2 * 8 = omega (arith, ap length here, length-take 16 (drop place bytes), length-drop place bytes) in
    ap octets_of parts ∙ octets_of-segments_of 8 octets len (λ k. rw here (part_fits place 16 bytes fits k)) ∙ here
