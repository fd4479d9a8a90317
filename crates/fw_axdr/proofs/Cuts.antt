-- A byte string cut to a number of bits, with zeros after them.
use Rattle.std.proofs.Common.{◌≡◌, ◌≢◌, ℕ, zero, suc, ◌+◌, ◌-◌, ◌*◌, ◌/◌, ◌%◌, ◌^◌, ◌<◌, ◌≤◌, Bool, false, cond, eqb, List, [], ◌∷◌, ◌++◌, length, get_or, set, take, drop, Some, refl, inl, inr, sym, ap, subst, ◌∙◌, arith, lit<}
use Rattle.std.proofs.lemmas.List.{length-append, length-take, take-append-drop, append-nil, nil_from_length, length-drop, get_or-take, get_or_past}
use Rattle.std.proofs.lemmas.Bool.{cases_lt}
use Rattle.std.proofs.lemmas.Grind.{flat_map-append}
use Rattle.std.proofs.Math.Nat.{mod-eq-sub-mul-div, mul-div-le, mul-div-mul_left, div-div-eq-div-mul}
use Rattle.std.proofs.Math.Seq.{take-append-add, set-append_seam, take-length, drop-cons}
use Rattle.std.specs.Prelude.{slice_get, All}
use Rattle.std.proofs.lemmas.Option.{slice_get-get_or}
use Rattle.fw_axdr.specs.Bits.{bit, byte_bits, bits, bytes_for, byte_of, packed_into, packed}
use Rattle.fw_axdr.specs.Private.{Keeps}

abbrev pub IsBytes : List ℕ → Type 0
IsBytes bytes = (i : ℕ) → get_or bytes i 0 < 256

-- a bit of worth w, as a number
bit_worth : (q w : ℕ) → q < 2 → cond (eqb q 1) w 0 ≡ w * q
bit_worth zero w h = omega arith
bit_worth (suc zero) w h = omega arith
bit_worth (suc (suc q)) w h = absurd (omega arith)

byte_again : (y : ℕ) → y < 256 → byte_of (byte_bits y) ≡ y
byte_again y h =
    let e128 = bit_worth (y / 128 % 2) 128 (omega arith) in
    let e64 = bit_worth (y / 64 % 2) 64 (omega arith) in
    let e32 = bit_worth (y / 32 % 2) 32 (omega arith) in
    let e16 = bit_worth (y / 16 % 2) 16 (omega arith) in
    let e8 = bit_worth (y / 8 % 2) 8 (omega arith) in
    let e4 = bit_worth (y / 4 % 2) 4 (omega arith) in
    let e2 = bit_worth (y / 2 % 2) 2 (omega arith) in
    let e1 = bit_worth (y / 1 % 2) 1 (omega arith) in
    omega (arith, e128, e64, e32, e16, e8, e4, e2, e1)

-- a bit above those that are cut stays
bit_cut : (y w m : ℕ) → 0 < w → (y - y % w) / (w * m) % 2 ≡ y / (w * m) % 2
bit_cut y w m some =
    let whole : y - y % w ≡ w * (y / w) = omega (arith, mod-eq-sub-mul-div y w, mul-div-le y w) in
    ap (λ x. x % 2) (ap (λ x. x / (w * m)) whole ∙ mul-div-mul_left (y / w) m some ∙ div-div-eq-div-mul y w m)

-- the first r bits of a byte stay, and are those of the byte with zeros after them
record Cut (y r cut : ℕ) : Type 0 where
  pub packs : byte_of (take r (byte_bits y)) ≡ cut
  pub same : take r (byte_bits cut) ≡ take r (byte_bits y)

byte_cut : (r y : ℕ) → 1 ≤ r → r ≤ 8 → y < 256 → Cut y r (y - y % 2 ^ (8 - r))
byte_cut zero y some few h = absurd (omega arith)
byte_cut (suc zero) y some few h =
    let e128 = bit_worth (y / 128 % 2) 128 (omega arith) in
    let packs : byte_of (take 1 (byte_bits y)) ≡ y - y % 128 = omega (arith, e128) in
    record { packs = packs; same = rw (bit_cut y 128 1 (lit< tt)) refl }
byte_cut (suc (suc zero)) y some few h =
    let e128 = bit_worth (y / 128 % 2) 128 (omega arith) in
    let e64 = bit_worth (y / 64 % 2) 64 (omega arith) in
    let packs : byte_of (take 2 (byte_bits y)) ≡ y - y % 64 = omega (arith, e128, e64) in
    record { packs = packs; same = rw (bit_cut y 64 2 (lit< tt), bit_cut y 64 1 (lit< tt)) refl }
byte_cut (suc (suc (suc zero))) y some few h =
    let e128 = bit_worth (y / 128 % 2) 128 (omega arith) in
    let e64 = bit_worth (y / 64 % 2) 64 (omega arith) in
    let e32 = bit_worth (y / 32 % 2) 32 (omega arith) in
    let packs : byte_of (take 3 (byte_bits y)) ≡ y - y % 32 = omega (arith, e128, e64, e32) in
    record { packs = packs; same = rw (bit_cut y 32 4 (lit< tt), bit_cut y 32 2 (lit< tt), bit_cut y 32 1 (lit< tt)) refl }
byte_cut (suc (suc (suc (suc zero)))) y some few h =
    let e128 = bit_worth (y / 128 % 2) 128 (omega arith) in
    let e64 = bit_worth (y / 64 % 2) 64 (omega arith) in
    let e32 = bit_worth (y / 32 % 2) 32 (omega arith) in
    let e16 = bit_worth (y / 16 % 2) 16 (omega arith) in
    let packs : byte_of (take 4 (byte_bits y)) ≡ y - y % 16 = omega (arith, e128, e64, e32, e16) in
    record { packs = packs; same = rw (bit_cut y 16 8 (lit< tt), bit_cut y 16 4 (lit< tt), bit_cut y 16 2 (lit< tt), bit_cut y 16 1 (lit< tt)) refl }
byte_cut (suc (suc (suc (suc (suc zero))))) y some few h =
    let e128 = bit_worth (y / 128 % 2) 128 (omega arith) in
    let e64 = bit_worth (y / 64 % 2) 64 (omega arith) in
    let e32 = bit_worth (y / 32 % 2) 32 (omega arith) in
    let e16 = bit_worth (y / 16 % 2) 16 (omega arith) in
    let e8 = bit_worth (y / 8 % 2) 8 (omega arith) in
    let packs : byte_of (take 5 (byte_bits y)) ≡ y - y % 8 = omega (arith, e128, e64, e32, e16, e8) in
    record { packs = packs; same = rw (bit_cut y 8 16 (lit< tt), bit_cut y 8 8 (lit< tt), bit_cut y 8 4 (lit< tt), bit_cut y 8 2 (lit< tt), bit_cut y 8 1 (lit< tt)) refl }
byte_cut (suc (suc (suc (suc (suc (suc zero)))))) y some few h =
    let e128 = bit_worth (y / 128 % 2) 128 (omega arith) in
    let e64 = bit_worth (y / 64 % 2) 64 (omega arith) in
    let e32 = bit_worth (y / 32 % 2) 32 (omega arith) in
    let e16 = bit_worth (y / 16 % 2) 16 (omega arith) in
    let e8 = bit_worth (y / 8 % 2) 8 (omega arith) in
    let e4 = bit_worth (y / 4 % 2) 4 (omega arith) in
    let packs : byte_of (take 6 (byte_bits y)) ≡ y - y % 4 = omega (arith, e128, e64, e32, e16, e8, e4) in
    record { packs = packs; same = rw (bit_cut y 4 32 (lit< tt), bit_cut y 4 16 (lit< tt), bit_cut y 4 8 (lit< tt), bit_cut y 4 4 (lit< tt), bit_cut y 4 2 (lit< tt), bit_cut y 4 1 (lit< tt)) refl }
byte_cut (suc (suc (suc (suc (suc (suc (suc zero))))))) y some few h =
    let e128 = bit_worth (y / 128 % 2) 128 (omega arith) in
    let e64 = bit_worth (y / 64 % 2) 64 (omega arith) in
    let e32 = bit_worth (y / 32 % 2) 32 (omega arith) in
    let e16 = bit_worth (y / 16 % 2) 16 (omega arith) in
    let e8 = bit_worth (y / 8 % 2) 8 (omega arith) in
    let e4 = bit_worth (y / 4 % 2) 4 (omega arith) in
    let e2 = bit_worth (y / 2 % 2) 2 (omega arith) in
    let packs : byte_of (take 7 (byte_bits y)) ≡ y - y % 2 = omega (arith, e128, e64, e32, e16, e8, e4, e2) in
    record { packs = packs; same = rw (bit_cut y 2 64 (lit< tt), bit_cut y 2 32 (lit< tt), bit_cut y 2 16 (lit< tt), bit_cut y 2 8 (lit< tt), bit_cut y 2 4 (lit< tt), bit_cut y 2 2 (lit< tt), bit_cut y 2 1 (lit< tt)) refl }
byte_cut (suc (suc (suc (suc (suc (suc (suc (suc zero)))))))) y some few h =
    let whole : y - y % 1 ≡ y = omega arith in
    record { packs = byte_again y h ∙ sym whole; same = ap byte_bits whole }
byte_cut (suc (suc (suc (suc (suc (suc (suc (suc (suc r))))))))) y some few h = absurd (omega arith)

pub length_bits : (bytes : List ℕ) → length (bits bytes) ≡ 8 * length bytes
length_bits [] = refl
length_bits (y ∷ ys) = omega (arith, length_bits ys)

IsBytes-rest : (y : ℕ) (ys : List ℕ) → IsBytes (y ∷ ys) → IsBytes ys
IsBytes-rest y ys h i = h (suc i)

-- whole bytes come back, whatever bits follow
packed_front : (front : List ℕ) (t : List Bool) (m : ℕ) → IsBytes front → packed_into (length front + m) (bits front ++ t) ≡ front ++ packed_into m t
packed_front [] t m h = let e : 0 + m ≡ m = omega arith in rw e refl
packed_front (y ∷ ys) t m h =
    let e : suc (length ys) + m ≡ suc (length ys + m) = omega arith in
    rw (e, byte_again y (h 0)) (ap (λ (x : List ℕ). y ∷ x) (packed_front ys t m (IsBytes-rest y ys h)))

front_bits : (front : List ℕ) (y r n : ℕ) → 8 * length front + r ≡ n → take n (bits (front ++ y ∷ [])) ≡ bits front ++ take r (byte_bits y)
front_bits front y r n e =
    let whole : bits (front ++ y ∷ []) ≡ bits front ++ byte_bits y = flat_map-append byte_bits front (y ∷ []) in
    let n-is : n ≡ length (bits front) + r = omega (arith, length_bits front) in
    rw (whole, n-is) (take-append-add (bits front) (byte_bits y) r)

short_len : (r y : ℕ) → r ≤ 8 → length (take r (byte_bits y)) ≡ r
short_len r y h = omega (arith, length-take r (byte_bits y))

pub keeps_seam : (front : List ℕ) (y r n : ℕ) → 8 * length front + r ≡ n → 1 ≤ r → r ≤ 8 → y < 256 → IsBytes front → Keeps n (front ++ y ∷ []) (front ++ (y - y % 2 ^ (8 - r)) ∷ [])
keeps_seam front y r n e some few h fits =
    let c = byte_cut r y some few h in
    let cut : ℕ = y - y % 2 ^ (8 - r) in
    let old = front_bits front y r n e in
    let new = front_bits front cut r n e in
    let bits-is : take n (bits (front ++ cut ∷ [])) ≡ bits front ++ take r (byte_bits y) = new ∙ ap (λ (x : List Bool). bits front ++ x) c.same in
    let len : length (take n (bits (front ++ cut ∷ []))) ≡ n =
    ap length bits-is ∙ omega (arith, length-append (bits front) (take r (byte_bits y)), length_bits front, short_len r y few) in
    let room : bytes_for n ≡ length front + 1 = omega arith in
    let packs : packed (take n (bits (front ++ cut ∷ []))) ≡ front ++ cut ∷ [] =
    ap (λ (k : ℕ). packed_into (bytes_for k) (take n (bits (front ++ cut ∷ [])))) len ∙ ap (λ (k : ℕ). packed_into k (take n (bits (front ++ cut ∷ [])))) room
    ∙ ap (λ (x : List Bool). packed_into (length front + 1) x) bits-is ∙ packed_front front (take r (byte_bits y)) 1 fits ∙ ap (λ (x : ℕ). front ++ x ∷ []) c.packs in
    record { same = bits-is ∙ sym old; len = len; packs = sym packs }

IsBytes-take : (n : ℕ) (bytes : List ℕ) → IsBytes bytes → IsBytes (take n bytes)
IsBytes-take n bytes h i =
    elim (cases_lt i n) [
      | inl lt ↦ rw (get_or-take n bytes i 0 lt) (h i)
      | inr le ↦ rw (get_or_past (take n bytes) i 0 (omega (arith, length-take n bytes))) (omega arith)
    ]

last_apart : (bytes : List ℕ) → 1 ≤ length bytes → bytes ≡ take (length bytes - 1) bytes ++ get_or bytes (length bytes - 1) 0 ∷ []
last_apart bytes some =
    let i : ℕ = length bytes - 1 in
    let lt : i < length bytes = omega arith in
    let past : drop (suc i) bytes ≡ [] = nil_from_length (drop (suc i) bytes) (omega (arith, length-drop (suc i) bytes)) in
    sym (take-append-drop i bytes) ∙ ap (λ (x : List ℕ). take i bytes ++ x) (drop-cons bytes i 0 lt ∙ ap (λ (x : List ℕ). get_or bytes i 0 ∷ x) past)

-- if bytes are as many as n bits ask for, and the last is cut or whole
pub keeps_cut : (bytes : List ℕ) (n : ℕ) → IsBytes bytes → length bytes ≡ bytes_for n → n % 8 ≢ 0
    → Keeps n bytes (set bytes (length bytes - 1) (get_or bytes (length bytes - 1) 0 - get_or bytes (length bytes - 1) 0 % 2 ^ (8 - n % 8)))
keeps_cut bytes n fits len ne =
    let last : ℕ = length bytes - 1 in
    let y : ℕ = get_or bytes last 0 in
    let some : 1 ≤ n % 8 = omega (arith, ne) in
    let few : n % 8 ≤ 8 = omega arith in
    let front : List ℕ = take last bytes in
    let front_len : length front ≡ last = omega (arith, length-take last bytes) in
    let whole : bytes ≡ front ++ y ∷ [] = last_apart bytes (omega arith) in
    let bits-are : 8 * length front + n % 8 ≡ n = omega (arith, front_len) in
    let k = keeps_seam front y (n % 8) n bits-are some few (fits last) (IsBytes-take last bytes fits) in
    let cut : ℕ = y - y % 2 ^ (8 - n % 8) in
    let written : set bytes last cut ≡ front ++ cut ∷ [] = ap (λ (x : List ℕ). set x last cut) whole ∙ ap (λ (i : ℕ). set (front ++ y ∷ []) i cut) (sym front_len) ∙ set-append_seam front y [] cut in
    subst (λ (x : List ℕ). Keeps n bytes x) (sym written) (subst (λ (x : List ℕ). Keeps n x (front ++ cut ∷ [])) (sym whole) k)

-- whole bytes are those of their bits
pub packed_bytes : (bytes : List ℕ) → IsBytes bytes → packed (bits bytes) ≡ bytes
packed_bytes bytes fits =
    let room : bytes_for (length (bits bytes)) ≡ length bytes + 0 = omega (arith, length_bits bytes) in
    ap (λ (k : ℕ). packed_into k (bits bytes)) room ∙ ap (λ (x : List Bool). packed_into (length bytes + 0) x) (sym (append-nil (bits bytes))) ∙ packed_front bytes [] 0 fits ∙ append-nil bytes

pub packed_whole : (bytes : List ℕ) → All (λ b. b < 256) bytes → packed (bits bytes) ≡ bytes
packed_whole bytes fits =
    packed_bytes bytes (λ i. elim (cases_lt i (length bytes)) as (λ _. get_or bytes i 0 < 256) [
      | inl lt ↦ fits i 0 lt
      | inr ge ↦ rw (get_or_past bytes i 0 ge) (omega arith)
    ])

pub keeps_whole : (bytes : List ℕ) (n : ℕ) → IsBytes bytes → length bytes ≡ bytes_for n → n % 8 ≡ 0 → Keeps n bytes bytes
keeps_whole bytes n fits len e =
    let n-is : n ≡ length (bits bytes) = omega (arith, length_bits bytes) in
    let all : take n (bits bytes) ≡ bits bytes = ap (λ (k : ℕ). take k (bits bytes)) n-is ∙ take-length (bits bytes) in
    record { same = refl; len = ap length all ∙ sym n-is; packs = sym (ap packed all ∙ packed_bytes bytes fits) }

-- the bit at a place, in its byte
pub get_bits : (bytes : List ℕ) (i : ℕ) → i < 8 * length bytes → get_or (bits bytes) i false ≡ bit (get_or bytes (i / 8) 0) (2 ^ (7 - i % 8))
get_bits [] i h = absurd (omega arith)
get_bits (y ∷ ys) zero h = refl
get_bits (y ∷ ys) (suc zero) h = refl
get_bits (y ∷ ys) (suc (suc zero)) h = refl
get_bits (y ∷ ys) (suc (suc (suc zero))) h = refl
get_bits (y ∷ ys) (suc (suc (suc (suc zero)))) h = refl
get_bits (y ∷ ys) (suc (suc (suc (suc (suc zero))))) h = refl
get_bits (y ∷ ys) (suc (suc (suc (suc (suc (suc zero)))))) h = refl
get_bits (y ∷ ys) (suc (suc (suc (suc (suc (suc (suc zero))))))) h = refl
get_bits (y ∷ ys) (suc (suc (suc (suc (suc (suc (suc (suc i)))))))) h =
    let next : suc (suc (suc (suc (suc (suc (suc (suc i))))))) / 8 ≡ suc (i / 8) = omega arith in
    let same : suc (suc (suc (suc (suc (suc (suc (suc i))))))) % 8 ≡ i % 8 = omega arith in
    rw (next, same) (get_bits ys i (omega arith))

-- the same for the first n bits
pub get_cut : (bytes : List ℕ) (n i : ℕ) → length (take n (bits bytes)) ≡ n → i < n → slice_get (take n (bits bytes)) i ≡ Some (get_or (bits bytes) i false)
get_cut bytes n i len lt =
    slice_get-get_or (take n (bits bytes)) i false (omega (arith, len)) ∙ ap Some (get_or-take n (bits bytes) i false lt)
