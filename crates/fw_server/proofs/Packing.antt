-- Bits in bytes: how many bytes, and that the bits come back.
use Rattle.std.proofs.Common.{◌≡◌, ℕ, zero, suc, ◌*◌, ◌≤◌, Bool, false, List, [], ◌∷◌, ◌++◌, length, take, drop, refl, sym, ap, ◌∙◌, length-append, arith}
use Rattle.fw_axdr.specs.Bits.{byte_bits, bits, byte_of, bytes_for, packed_into, packed}
use Rattle.fw_axdr.specs.Value.{bit_string}
use Rattle.fw_axdr.specs.Laws.{ShortSpells}

length_into : (n : ℕ) (bs : List Bool) → length (packed_into n bs) ≡ n
length_into zero bs = refl
length_into (suc n) bs = ap suc (length_into n (drop 8 bs))

pub length_packed : (bs : List Bool) → length (packed bs) ≡ bytes_for (length bs)
length_packed bs = length_into (bytes_for (length bs)) bs

-- the one byte after a length of one byte
last_byte : (len body : List ℕ) (n x : ℕ) → 4 ∷ n ∷ x ∷ [] ≡ 4 ∷ len ++ body → length body ≡ 1 → body ≡ x ∷ []
last_byte [] body n x parts size = absurd (grind arith)
last_byte (l ∷ []) body n x parts size = grind arith
last_byte (l ∷ m ∷ ls) body n x parts size = let sizes = ap length parts in absurd (grind (arith, length-append))

-- the byte of eight bits has these bits, since their bit-string is spelled by it
eight : ShortSpells → (a b c d e f g h : Bool) → byte_bits (byte_of (a ∷ b ∷ c ∷ d ∷ e ∷ f ∷ g ∷ h ∷ [])) ≡ a ∷ b ∷ c ∷ d ∷ e ∷ f ∷ g ∷ h ∷ []
eight law a b c d e f g h =
    let bs : List Bool = a ∷ b ∷ c ∷ d ∷ e ∷ f ∷ g ∷ h ∷ [] in
    let spelled = (law 1 (bit_string bs) tt refl).0 in
    let byte = last_byte spelled.0 spelled.1 8 (byte_of bs) spelled.2 spelled.4 in
    sym (spelled.5 ∙ ap (λ (body : List ℕ). take 8 (bits body)) byte)

into_bits : ShortSpells → (n : ℕ) (bs : List Bool) → length bs ≤ 8 * n → take (length bs) (bits (packed_into n bs)) ≡ bs
into_bits law n [] room = refl
into_bits law zero (a ∷ bs) room = absurd (omega arith)
into_bits law (suc n) (a ∷ []) room = ap (take 1) (eight law a false false false false false false false)
into_bits law (suc n) (a ∷ b ∷ []) room = ap (take 2) (eight law a b false false false false false false)
into_bits law (suc n) (a ∷ b ∷ c ∷ []) room = ap (take 3) (eight law a b c false false false false false)
into_bits law (suc n) (a ∷ b ∷ c ∷ d ∷ []) room = ap (take 4) (eight law a b c d false false false false)
into_bits law (suc n) (a ∷ b ∷ c ∷ d ∷ e ∷ []) room = ap (take 5) (eight law a b c d e false false false)
into_bits law (suc n) (a ∷ b ∷ c ∷ d ∷ e ∷ f ∷ []) room = ap (take 6) (eight law a b c d e f false false)
into_bits law (suc n) (a ∷ b ∷ c ∷ d ∷ e ∷ f ∷ g ∷ []) room = ap (take 7) (eight law a b c d e f g false)
into_bits law (suc n) (a ∷ b ∷ c ∷ d ∷ e ∷ f ∷ g ∷ h ∷ rest) room =
    ap (λ (front : List Bool). front ++ take (length rest) (bits (packed_into n rest))) (eight law a b c d e f g h)
    ∙ ap (λ (back : List Bool). (a ∷ b ∷ c ∷ d ∷ e ∷ f ∷ g ∷ h ∷ []) ++ back) (into_bits law n rest (omega arith))

pub packed_bits : ShortSpells → (bs : List Bool) → take (length bs) (bits (packed bs)) ≡ bs
packed_bits law bs = into_bits law (bytes_for (length bs)) bs (omega arith)
