-- The short spelling spells its value.
use Rattle.std.proofs.Common.{◌≡◌, ℕ, zero, suc, ◌+◌, ◌-◌, ◌*◌, ◌/◌, ◌%◌, ◌^◌, ◌<◌, ◌≤◌, inl, inr, Bool, true, false, cond, eqb, ltb, List, [], ◌∷◌, ◌++◌, length, take, drop, Option, Some, None, refl, sym, ap, ◌∙◌, arith}
use Rattle.std.specs.Prelude.{ℤ, FitsSigned}
use Rattle.std.specs.Int.{Width, w8, w16, w32, w64, to_be_bytes, from_be_bytes, cast_signed, cast_unsigned}
use Rattle.std.specs.Option.{option_or}
use Rattle.std.proofs.lemmas.Bool.{le-ltb, lt-ltb, ne_eqb, cases_lt}
use Rattle.std.proofs.lemmas.Nat.{from_be_bytes-to_be_bytes_8}
use Rattle.std.proofs.lemmas.Int.{to_z-of_z}
use Rattle.std.proofs.Math.Facts.{Fits-of_z, Fits-lt-pow}
use Rattle.fw_axdr.specs.Reading.{number}
use Rattle.fw_axdr.specs.declared.error.AxdrError.{AxdrError}
use Rattle.fw_axdr.specs.declared.error.AxdrError.TheVariants.{BadLength}
use Rattle.fw_axdr.specs.Bits.{bit, byte_bits, bits, bytes_for, packed_into, packed}
use Rattle.fw_axdr.specs.Value.{Value, Values, null, array, structure, boolean, bit_string, double_long, double_long_unsigned, octet_string, visible_string, integer, long, unsigned, long_unsigned, long64, long64_unsigned, enumerated, none, more, count, deepest}
use Rattle.fw_axdr.specs.Spelling.{SpellEach, IsData, short, shorts, short_length, signed_bytes}
use Rattle.fw_axdr.specs.Fault.{within, counted, unwritable, first_unwritable}
use Rattle.fw_axdr.specs.Laws.{HasNumbers, HaveNumbers}
use Rattle.fw_axdr.proofs.Lengths.{short_is_length}

-- ---- bits

one : Bool → ℕ
one true = 1
one false = 0

one_small : (b : Bool) → one b ≤ 1
unfolding one
one_small true = omega arith
one_small false = omega arith

worth_one : (b : Bool) (w : ℕ) → cond b w 0 ≡ w * one b
unfolding one
worth_one true w = omega arith
worth_one false w = omega arith

-- the byte of eight bits
abbrev total : (a b c d e f g h : Bool) → ℕ
total a b c d e f g h = 128 * one a + 64 * one b + 32 * one c + 16 * one d + 8 * one e + 4 * one f + 2 * one g + 1 * one h

bit_is : (n w : ℕ) (b : Bool) → n / w % 2 ≡ one b → bit n w ≡ b
unfolding one
bit_is n w true e = rw e refl
bit_is n w false e = rw e refl

bit128 : (a b c d e f g h : Bool) → bit (total a b c d e f g h) 128 ≡ a
bit128 a b c d e f g h = bit_is (total a b c d e f g h) 128 a (omega (arith, one_small a, one_small b, one_small c, one_small d, one_small e, one_small f, one_small g, one_small h))

bit64 : (a b c d e f g h : Bool) → bit (total a b c d e f g h) 64 ≡ b
bit64 a b c d e f g h = bit_is (total a b c d e f g h) 64 b (omega (arith, one_small a, one_small b, one_small c, one_small d, one_small e, one_small f, one_small g, one_small h))

bit32 : (a b c d e f g h : Bool) → bit (total a b c d e f g h) 32 ≡ c
bit32 a b c d e f g h = bit_is (total a b c d e f g h) 32 c (omega (arith, one_small a, one_small b, one_small c, one_small d, one_small e, one_small f, one_small g, one_small h))

bit16 : (a b c d e f g h : Bool) → bit (total a b c d e f g h) 16 ≡ d
bit16 a b c d e f g h = bit_is (total a b c d e f g h) 16 d (omega (arith, one_small a, one_small b, one_small c, one_small d, one_small e, one_small f, one_small g, one_small h))

bit8 : (a b c d e f g h : Bool) → bit (total a b c d e f g h) 8 ≡ e
bit8 a b c d e f g h = bit_is (total a b c d e f g h) 8 e (omega (arith, one_small a, one_small b, one_small c, one_small d, one_small e, one_small f, one_small g, one_small h))

bit4 : (a b c d e f g h : Bool) → bit (total a b c d e f g h) 4 ≡ f
bit4 a b c d e f g h = bit_is (total a b c d e f g h) 4 f (omega (arith, one_small a, one_small b, one_small c, one_small d, one_small e, one_small f, one_small g, one_small h))

bit2 : (a b c d e f g h : Bool) → bit (total a b c d e f g h) 2 ≡ g
bit2 a b c d e f g h = bit_is (total a b c d e f g h) 2 g (omega (arith, one_small a, one_small b, one_small c, one_small d, one_small e, one_small f, one_small g, one_small h))

bit1 : (a b c d e f g h : Bool) → bit (total a b c d e f g h) 1 ≡ h
bit1 a b c d e f g h = bit_is (total a b c d e f g h) 1 h (omega (arith, one_small a, one_small b, one_small c, one_small d, one_small e, one_small f, one_small g, one_small h))

eight : (a b c d e f g h : Bool) → byte_bits (cond a 128 0 + cond b 64 0 + cond c 32 0 + cond d 16 0 + cond e 8 0 + cond f 4 0 + cond g 2 0 + cond h 1 0) ≡ a ∷ b ∷ c ∷ d ∷ e ∷ f ∷ g ∷ h ∷ []
eight a b c d e f g h =
    let whole : cond a 128 0 + cond b 64 0 + cond c 32 0 + cond d 16 0 + cond e 8 0 + cond f 4 0 + cond g 2 0 + cond h 1 0 ≡ total a b c d e f g h =
    rw (worth_one a 128, worth_one b 64, worth_one c 32, worth_one d 16, worth_one e 8, worth_one f 4, worth_one g 2, worth_one h 1) refl in
    ap byte_bits whole
    ∙ rw (bit128 a b c d e f g h, bit64 a b c d e f g h, bit32 a b c d e f g h, bit16 a b c d e f g h, bit8 a b c d e f g h, bit4 a b c d e f g h, bit2 a b c d e f g h, bit1 a b c d e f g h) refl

pub packed_bits : (n : ℕ) (bs : List Bool) → length bs ≤ 8 * n → take (length bs) (bits (packed_into n bs)) ≡ bs
packed_bits n [] room = refl
packed_bits zero (a ∷ bs) room = absurd (omega arith)
packed_bits (suc n) (a ∷ []) room = ap (λ (l : List Bool). take 1 l) (eight a false false false false false false false)
packed_bits (suc n) (a ∷ b ∷ []) room = ap (λ (l : List Bool). take 2 l) (eight a b false false false false false false)
packed_bits (suc n) (a ∷ b ∷ c ∷ []) room = ap (λ (l : List Bool). take 3 l) (eight a b c false false false false false)
packed_bits (suc n) (a ∷ b ∷ c ∷ d ∷ []) room = ap (λ (l : List Bool). take 4 l) (eight a b c d false false false false)
packed_bits (suc n) (a ∷ b ∷ c ∷ d ∷ e ∷ []) room = ap (λ (l : List Bool). take 5 l) (eight a b c d e false false false)
packed_bits (suc n) (a ∷ b ∷ c ∷ d ∷ e ∷ f ∷ []) room = ap (λ (l : List Bool). take 6 l) (eight a b c d e f false false)
packed_bits (suc n) (a ∷ b ∷ c ∷ d ∷ e ∷ f ∷ g ∷ []) room = ap (λ (l : List Bool). take 7 l) (eight a b c d e f g false)
packed_bits (suc n) (a ∷ b ∷ c ∷ d ∷ e ∷ f ∷ g ∷ h ∷ rest) room =
    ap (λ (l : List Bool). l ++ take (length rest) (bits (packed_into n rest))) (eight a b c d e f g h) ∙ ap (λ (l : List Bool). (a ∷ b ∷ c ∷ d ∷ e ∷ f ∷ g ∷ h ∷ []) ++ l) (packed_bits n rest (omega arith))

pub packed_len : (n : ℕ) (bs : List Bool) → length (packed_into n bs) ≡ n
packed_len zero bs = refl
packed_len (suc n) bs = ap suc (packed_len n (drop 8 bs))

-- ---- numbers

number_16 : (n : ℕ) → n < 2 ^ 16 → n ≡ number (to_be_bytes w16 n)
number_16 n h = omega arith

number_32 : (n : ℕ) → n < 2 ^ 32 → n ≡ number (to_be_bytes w32 n)
number_32 n h = omega arith

eight_bytes : (a b c d e f g h : ℕ) → from_be_bytes w64 (a ∷ b ∷ c ∷ d ∷ e ∷ f ∷ g ∷ h ∷ []) ≡ number (a ∷ b ∷ c ∷ d ∷ e ∷ f ∷ g ∷ h ∷ [])
eight_bytes a b c d e f g h = omega arith

number_64 : (n : ℕ) → n < 2 ^ 64 → n ≡ number (to_be_bytes w64 n)
number_64 n h = sym (from_be_bytes-to_be_bytes_8 n h) ∙ eight_bytes _ _ _ _ _ _ _ _

signed_again : (w : Width) (z : ℤ) → FitsSigned w z → z ≡ cast_signed w (cast_unsigned w z)
signed_again w z h = sym (to_z-of_z w z h)

-- ---- values

pub within_none : (levels : ℕ) (o : Option AxdrError) → within levels o ≡ None → (1 ≤ levels) × (o ≡ None)
within_none zero o e = absurd cc
within_none (suc n) o e =
    let deep : eqb (suc n) 0 ≡ false = ne_eqb (suc n) 0 (λ z. omega arith) in
    (omega arith, let same : within (suc n) o ≡ o = rw deep refl in sym same ∙ e)

pub counted_none : (n : ℕ) (o : Option AxdrError) → counted n o ≡ None → (n < 2 ^ 32) × (o ≡ None)
counted_none n o e =
    elim (cases_lt n (2 ^ 32)) [
      | inl lt ↦ let same : counted n o ≡ o = rw (lt-ltb n (2 ^ 32) lt) refl in (lt, sym same ∙ e)
      | inr ge ↦ let bad : cond (ltb n (2 ^ 32)) o (Some BadLength) ≡ Some BadLength = rw (le-ltb n (2 ^ 32) ge) refl in absurd cc
    ]

pub or_none : (a b : Option AxdrError) → option_or a b ≡ None → (a ≡ None) × (b ≡ None)
or_none None b e = (refl, e)
or_none (Some f) b e = absurd cc

mutual
  pub short_spells : (v : Value) (levels : ℕ) → HasNumbers v → unwritable v levels ≡ None → IsData levels (short v) v
  short_spells null levels h e = (refl, (within_none levels None e).0)
  short_spells (array vs) levels h e =
      let a = within_none levels (counted (count vs) (first_unwritable vs (levels - 1))) e in
      let b = counted_none (count vs) (first_unwritable vs (levels - 1)) a.1 in
      let each = shorts_spell vs (levels - 1) h b.1 in
      ((short_length (count vs), shorts vs, refl, short_is_length (count vs) b.0, each.0), omega (arith, a.0, each.1))
  short_spells (structure vs) levels h e =
      let a = within_none levels (counted (count vs) (first_unwritable vs (levels - 1))) e in
      let b = counted_none (count vs) (first_unwritable vs (levels - 1)) a.1 in
      let each = shorts_spell vs (levels - 1) h b.1 in
      ((short_length (count vs), shorts vs, refl, short_is_length (count vs) b.0, each.0), omega (arith, a.0, each.1))
  short_spells (boolean true) levels h e = ((1, (1 ∷ [], refl, refl, refl), refl), (within_none levels None e).0)
  short_spells (boolean false) levels h e = ((0, (0 ∷ [], refl, refl, refl), refl), (within_none levels None e).0)
  short_spells (bit_string bs) levels h e =
      let a = within_none levels (counted (length bs) None) e in
      let b = counted_none (length bs) None a.1 in
      let room : length bs ≤ 8 * bytes_for (length bs) = omega arith in
      ((short_length (length bs), packed bs, refl, short_is_length (length bs) b.0, packed_len (bytes_for (length bs)) bs, sym (packed_bits (bytes_for (length bs)) bs room)), a.0)
  short_spells (double_long z) levels h e = ((cast_unsigned w32 z, (signed_bytes w32 z, refl, refl, number_32 (cast_unsigned w32 z) (Fits-lt-pow {w = w32} (Fits-of_z {w = w32} {z = z} h))), signed_again w32 z h), (within_none levels None e).0)
  short_spells (double_long_unsigned n) levels h e = ((to_be_bytes w32 n, refl, refl, number_32 n h), (within_none levels None e).0)
  short_spells (octet_string o) levels h e =
      let a = within_none levels (counted (length o) None) e in
      let b = counted_none (length o) None a.1 in
      ((short_length (length o), refl, short_is_length (length o) b.0), a.0)
  short_spells (visible_string o) levels h e =
      let a = within_none levels (counted (length o) None) e in
      let b = counted_none (length o) None a.1 in
      ((short_length (length o), refl, short_is_length (length o) b.0), a.0)
  short_spells (integer z) levels h e = ((cast_unsigned w8 z, (signed_bytes w8 z, refl, refl, (let small : cast_unsigned w8 z < 2 ^ 8 = Fits-lt-pow {w = w8} (Fits-of_z {w = w8} {z = z} h) in omega arith)), signed_again w8 z h), (within_none levels None e).0)
  short_spells (long z) levels h e = ((cast_unsigned w16 z, (signed_bytes w16 z, refl, refl, number_16 (cast_unsigned w16 z) (Fits-lt-pow {w = w16} (Fits-of_z {w = w16} {z = z} h))), signed_again w16 z h), (within_none levels None e).0)
  short_spells (unsigned n) levels h e = ((n ∷ [], refl, refl, omega arith), (within_none levels None e).0)
  short_spells (long_unsigned n) levels h e = ((to_be_bytes w16 n, refl, refl, number_16 n h), (within_none levels None e).0)
  short_spells (long64 z) levels h e = ((cast_unsigned w64 z, (signed_bytes w64 z, refl, refl, number_64 (cast_unsigned w64 z) (Fits-lt-pow {w = w64} (Fits-of_z {w = w64} {z = z} h))), signed_again w64 z h), (within_none levels None e).0)
  short_spells (long64_unsigned n) levels h e = ((to_be_bytes w64 n, refl, refl, number_64 n h), (within_none levels None e).0)
  short_spells (enumerated n) levels h e = ((n ∷ [], refl, refl, omega arith), (within_none levels None e).0)

  pub shorts_spell : (vs : Values) (levels : ℕ) → HaveNumbers vs → first_unwritable vs levels ≡ None → SpellEach (shorts vs) vs × (deepest vs ≤ levels)
  shorts_spell none levels h e = (refl, omega arith)
  shorts_spell (more v vs) levels h e =
      let o = or_none (unwritable v levels) (first_unwritable vs levels) e in
      let first = short_spells v levels h.0 o.0 in
      let others = shorts_spell vs levels h.1 o.1 in
      ((short v, shorts vs, refl, first.0, others.0), omega (arith, first.1, others.1))
