-- Sets of block numbers: the least absent number.
use Rattle.std.proofs.Common.{◌≡◌, ℕ, zero, suc, ◌+◌, ◌-◌, ◌<◌, ◌≤◌, Bool, true, false, List, [], ◌∷◌, ◌++◌, length, get_or, set, take, replicate, refl, sym, ap, ◌∙◌, inl, inr, arith, append_assoc}
use Rattle.std.proofs.lemmas.Bool.{cases_lt}
use Rattle.std.proofs.lemmas.List.{set_at, set-get_or, get_or_at, take_more, length-take-le}
use Rattle.fw_blocks.specs.Members.{has, IsComplete, first_missing, IsFirstMissing}

-- a member is below the count
pub has-below : (members : List Bool) (i : ℕ) → has members i ≡ true → i < length members
has-below [] i h = cc
has-below (b ∷ bs) zero h = omega arith
has-below (b ∷ bs) (suc i) h = omega (arith, has-below bs i h)

pub first_missing-within : (members : List Bool) → first_missing members ≤ length members
first_missing-within [] = omega arith
first_missing-within (true ∷ bs) = omega (arith, first_missing-within bs)
first_missing-within (false ∷ bs) = omega arith

-- all numbers before it are members
pub first_missing-before : (members : List Bool) (i : ℕ) → i < first_missing members → has members i ≡ true
first_missing-before [] i h = absurd (omega arith)
first_missing-before (true ∷ bs) zero h = refl
first_missing-before (true ∷ bs) (suc i) h = first_missing-before bs i (omega arith)
first_missing-before (false ∷ bs) i h = absurd (omega arith)

-- it is no member itself
pub first_missing-absent : (members : List Bool) → has members (first_missing members) ≡ false
first_missing-absent [] = refl
first_missing-absent (true ∷ bs) =
    let next : 1 + first_missing bs ≡ suc (first_missing bs) = omega arith in
    ap (has (true ∷ bs)) next ∙ first_missing-absent bs
first_missing-absent (false ∷ bs) = refl

pub is_first_missing : (members : List Bool) → IsFirstMissing members (first_missing members)
is_first_missing bs = record {
  within = first_missing-within bs;
  all_before = first_missing-before bs;
  absent = λ below. record { below = below; absent = first_missing-absent bs };
}

pub first_missing-replicate : (n : ℕ) → first_missing (replicate n false) ≡ 0
first_missing-replicate zero = refl
first_missing-replicate (suc n) = refl

-- a mark lowers it never
pub first_missing-set : (members : List Bool) (i : ℕ) → first_missing members ≤ first_missing (set members i true)
first_missing-set [] i = omega arith
first_missing-set (true ∷ bs) zero = omega arith
first_missing-set (false ∷ bs) zero = omega arith
first_missing-set (true ∷ bs) (suc i) = omega (arith, first_missing-set bs i)
first_missing-set (false ∷ bs) (suc i) = omega arith

-- past a member it is further on
pub first_missing-past : (members : List Bool) (i : ℕ) → i ≤ first_missing members → has members i ≡ true → i + 1 ≤ first_missing members
first_missing-past [] i h member = cc
first_missing-past (true ∷ bs) zero h member = omega arith
first_missing-past (false ∷ bs) zero h member = cc
first_missing-past (true ∷ bs) (suc i) h member = omega (arith, first_missing-past bs i (omega arith) member)
first_missing-past (false ∷ bs) (suc i) h member = absurd (omega arith)

-- if there is no member, it is there
pub first_missing-here : (members : List Bool) (i : ℕ) → i ≤ first_missing members → has members i ≡ false → i ≡ first_missing members
first_missing-here [] i h absent = omega arith
first_missing-here (true ∷ bs) zero h absent = cc
first_missing-here (false ∷ bs) zero h absent = refl
first_missing-here (true ∷ bs) (suc i) h absent = omega (arith, first_missing-here bs i (omega arith) absent)
first_missing-here (false ∷ bs) (suc i) h absent = absurd (omega arith)

-- among the numbers below a count

pub first_missing-take : (members : List Bool) (n : ℕ) → first_missing members ≤ n → first_missing (take n members) ≡ first_missing members
first_missing-take [] zero h = refl
first_missing-take [] (suc n) h = refl
first_missing-take (true ∷ bs) zero h = absurd (omega arith)
first_missing-take (true ∷ bs) (suc n) h = omega (arith, first_missing-take bs n (omega arith))
first_missing-take (false ∷ bs) zero h = refl
first_missing-take (false ∷ bs) (suc n) h = refl

pub first_missing-take_all : (members : List Bool) (n : ℕ) → n ≤ first_missing members → first_missing (take n members) ≡ n
first_missing-take_all bs zero h = refl
first_missing-take_all [] (suc n) h = absurd (omega arith)
first_missing-take_all (true ∷ bs) (suc n) h = omega (arith, first_missing-take_all bs n (omega arith))
first_missing-take_all (false ∷ bs) (suc n) h = absurd (omega arith)

-- no other number is the least absent one
pub only_first_missing : (members : List Bool) (n : ℕ) → IsFirstMissing members n → n ≡ first_missing members
only_first_missing bs n f =
    elim (cases_lt (first_missing bs) n) [
      | inl early ↦
          let member = f.all_before (first_missing bs) early in
          let absent = first_missing-absent bs in
          cc
      | inr late ↦ elim (cases_lt n (first_missing bs)) [
        | inl later ↦
            let member = first_missing-before bs n later in
            let within : n < length bs = omega (arith, first_missing-within bs) in
            let absent = (f.absent within).absent in
            cc
        | inr same ↦ omega arith
      ]
    ]

pub complete_first_missing : (members : List Bool) → IsComplete members → first_missing members ≡ length members
complete_first_missing bs all =
    elim (cases_lt (first_missing bs) (length bs)) [
      | inl within ↦
          let member = all (first_missing bs) within in
          let absent = first_missing-absent bs in
          cc
      | inr past ↦ omega (arith, first_missing-within bs)
    ]

pub first_missing_complete : (members : List Bool) → first_missing members ≡ length members → IsComplete members
first_missing_complete bs none i below = first_missing-before bs i (omega arith)

-- ---- a set that is filled with bits, the first ones first

fill_next : (bits : List Bool) (n count : ℕ) → n < count → n < length bits
    → set (take n bits ++ replicate (count - n) false) n (get_or bits n false) ≡ take (n + 1) bits ++ replicate (count - (n + 1)) false
fill_next bits n count within below =
    let one_less : count - n ≡ suc (count - (n + 1)) = omega arith in
    let bit = get_or bits n false in
    let rest : List Bool = replicate (count - (n + 1)) false in
    ap (λ (k : ℕ). set (take n bits ++ replicate k false) n bit) one_less
    ∙ set_at (take n bits) false rest bit n (length-take-le n bits (omega arith))
    ∙ sym (append_assoc (take n bits) (bit ∷ []) rest)
    ∙ ap (λ (front : List Bool). front ++ rest) (sym (take_more bits n false below))

pub fill_member : (bits : List Bool) (n count : ℕ) → n < count → n < length bits → get_or bits n false ≡ true
    → set (take n bits ++ replicate (count - n) false) n true ≡ take (n + 1) bits ++ replicate (count - (n + 1)) false
fill_member bits n count within below bit =
    ap (set (take n bits ++ replicate (count - n) false) n) (sym bit) ∙ fill_next bits n count within below

pub fill_absent : (bits : List Bool) (n count : ℕ) → n < count → n < length bits → get_or bits n false ≡ false
    → take n bits ++ replicate (count - n) false ≡ take (n + 1) bits ++ replicate (count - (n + 1)) false
fill_absent bits n count within below bit =
    let one_less : count - n ≡ suc (count - (n + 1)) = omega arith in
    let there : get_or (take n bits ++ replicate (count - n) false) n false ≡ false =
    ap (λ (k : ℕ). get_or (take n bits ++ replicate k false) n false) one_less
    ∙ get_or_at (take n bits) false (replicate (count - (n + 1)) false) false n (length-take-le n bits (omega arith)) in
    sym (set-get_or (take n bits ++ replicate (count - n) false) n false)
    ∙ ap (set (take n bits ++ replicate (count - n) false) n) (there ∙ sym bit) ∙ fill_next bits n count within below
