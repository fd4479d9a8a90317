-- Lengths: what `length_at` takes is a length, a length is taken, and its fault is the leftmost one.
use Rattle.std.proofs.Common.{◌≡◌, ℕ, ◌+◌, ◌-◌, ◌^◌, ◌<◌, ◌≤◌, ◌⊎◌, inl, inr, true, false, eqb, ltb, ◌||◌, List, [], ◌∷◌, ◌++◌, length, take, drop, Result, Ok, Err, refl, sym, ap, subst, ◌∙◌, arith}
use Rattle.std.specs.Result.{MatchResult}
use Rattle.std.proofs.lemmas.Bool.{ltb-true, ltb-false, eqb-true, eqb-false, lt-ltb, le-ltb, ne_eqb, or_cases, or_parts, or_from, cases_lt, cond_both}
use Rattle.std.proofs.lemmas.List.{take_at, drop_at, take-append-drop, length-take, length-append}
use Rattle.fw_axdr.specs.Reading.{◌>>=◌, number}
use Rattle.fw_axdr.specs.Reading as reader
use Rattle.fw_axdr.specs.declared.error.AxdrError.{AxdrError}
use Rattle.fw_axdr.specs.Spelling.{IsLength, short_length}
use Rattle.fw_axdr.specs.Fault.{LengthFails}
use Rattle.fw_axdr.specs.Private.{seen, length_at}

-- what holds of a step and of what follows it
pub bind_both : {A B : Type 0} (r : Result A AxdrError) (f : A → Result B AxdrError) (P : A → Type 0) (Q : AxdrError → Type 0) (P' : B → Type 0) (Q' : AxdrError → Type 0)
    → MatchResult r P Q → ((x : A) → P x → MatchResult (f x) P' Q') → ((e : AxdrError) → Q e → Q' e) → MatchResult (r >>= f) P' Q'
bind_both (Ok x) f P Q P' Q' h ok err = ok x h
bind_both (Err e) f P Q P' Q' h ok err = err e h

-- the bytes that a length took, and the length that they are
pub record LengthTaken (s : List ℕ) (n : ℕ) (rest : List ℕ) : Type 0 where
  pub len : List ℕ
  pub parts : s ≡ len ++ rest
  pub is : IsLength len n

abbrev LengthRead : List ℕ → Result (ℕ × List ℕ) AxdrError → Type 0
LengthRead s r = MatchResult r (λ x. LengthTaken s x.0 x.1) (LengthFails s)

long_taken : (b k : ℕ) (bs : List ℕ) → b ≡ 128 + k → 1 ≤ k → k ≤ 4 → k ≤ length bs → LengthTaken (b ∷ bs) (number (take k bs)) (drop k bs)
long_taken b k bs is some few room =
    let len_is : length (take k bs) ≡ k = omega (arith, length-take k bs) in
    record {
      len = b ∷ take k bs;
      parts = ap (λ (x : List ℕ). b ∷ x) (sym (take-append-drop k bs));
      is = inr (omega (arith, len_is), omega (arith, len_is), omega (arith, len_is), refl);
    }

-- one byte is the number that it holds
pub one_byte : (b : ℕ) (bs : List ℕ) → reader.number_at 1 (b ∷ bs) ≡ Ok (b, bs)
unfolding reader.number_at
one_byte b bs =
    let room : ltb (length (b ∷ bs)) 1 ≡ false = le-ltb (length (b ∷ bs)) 1 (omega arith) in
    let same : number (b ∷ []) ≡ b = omega arith in
    rw room (ap (λ (n : ℕ). Ok (n, bs)) same)

-- a length, whose first byte is read
abbrev pub length_by : ℕ → List ℕ → Result (ℕ × List ℕ) AxdrError
length_by first rest = seen (reader.length_by first rest)

pub length_at_front : (b : ℕ) (bs : List ℕ) → length_at (b ∷ bs) ≡ length_by b bs
unfolding reader.length_at
length_at_front b bs = rw (one_byte b bs) refl

length_by_sound : (b : ℕ) (bs : List ℕ) → LengthRead (b ∷ bs) (length_by b bs)
unfolding reader.number_at
length_by_sound b bs =
    cond_both (ltb b 128) _ _ (λ r. LengthRead (b ∷ bs) (seen r)) (λ lt. record { len = b ∷ []; parts = refl; is = inl (ltb-true b 128 lt, refl, refl) }) (λ ge.
    cond_both (eqb b 128 || ltb 132 b) _ _ (λ r. LengthRead (b ∷ bs) (seen r))
    (λ bad. inl (elim (or_cases (eqb b 128) (ltb 132 b) bad) as (λ _. (b ≡ 128) ⊎ (132 < b)) [ inl x ↦ inl (eqb-true b 128 x) | inr x ↦ inr (ltb-true 132 b x) ], refl)) (λ good.
    let low : 128 ≤ b = ltb-false b 128 ge in
    let ne = eqb-false b 128 (or_parts (eqb b 128) (ltb 132 b) good).0 in
    let above : 129 ≤ b = omega (arith, ne) in
    let high : b ≤ 132 = ltb-false 132 b (or_parts (eqb b 128) (ltb 132 b) good).1 in
    cond_both (ltb (length bs) (b - 128)) _ _ (λ r. LengthRead (b ∷ bs) (seen r))
    (λ lacks. inr (b - 128, omega arith, omega arith, omega arith, ltb-true (length bs) (b - 128) lacks, refl))
    (λ room. long_taken b (b - 128) bs (omega arith) (omega arith) (omega arith) (ltb-false (length bs) (b - 128) room))))

pub length_sound : (s : List ℕ) → LengthRead s (length_at s)
unfolding reader.length_at reader.number_at
length_sound [] = refl
length_sound (b ∷ bs) = subst (LengthRead (b ∷ bs)) (sym (length_at_front b bs)) (length_by_sound b bs)

length_by_again : (b : ℕ) (bs rest : List ℕ) (n : ℕ) → IsLength (b ∷ bs) n → length_by b (bs ++ rest) ≡ Ok (n, rest)
unfolding reader.number_at
length_by_again b bs rest n (inl h) =
    let lt : ltb b 128 ≡ true = lt-ltb b 128 h.0 in
    let none : bs ≡ [] = h.1 in
    let n-is : n ≡ b = h.2 in
    rw (lt, none, n-is) refl
length_by_again b bs rest n (inr h) =
    let b-is : b ≡ 128 + length bs = h.0 in
    let some : 1 ≤ length bs = h.1 in
    let few : length bs ≤ 4 = h.2 in
    let not_short : ltb b 128 ≡ false = le-ltb b 128 (omega arith) in
    let good : (eqb b 128 || ltb 132 b) ≡ false = or_from _ _ (ne_eqb b 128 (λ e. omega arith)) (le-ltb 132 b (omega arith)) in
    let k-is : length bs ≡ b - 128 = omega arith in
    let room : ltb (length (bs ++ rest)) (b - 128) ≡ false = le-ltb _ _ (omega (arith, length-append bs rest)) in
    let n-is : n ≡ number bs = h.3 in
    rw (not_short, good, room, take_at bs rest (b - 128) k-is, drop_at bs rest (b - 128) k-is, n-is) refl

pub length_again : (len rest : List ℕ) (n : ℕ) → IsLength len n → length_at (len ++ rest) ≡ Ok (n, rest)
length_again [] rest n h = absurd h
length_again (b ∷ bs) rest n h = length_at_front b (bs ++ rest) ∙ length_by_again b bs rest n h

pub short_is_length : (n : ℕ) → n < 2 ^ 32 → IsLength (short_length n) n
short_is_length n h =
    elim (cases_lt n 128) [
      | inl a ↦ rw (lt-ltb n 128 a) (inl (a, refl, refl))
      | inr a ↦ elim (cases_lt n (2 ^ 8)) [
        | inl b ↦ rw (le-ltb n 128 a, lt-ltb n (2 ^ 8) b) (inr (refl, omega arith, omega arith, omega arith))
        | inr b ↦ elim (cases_lt n (2 ^ 16)) [
          | inl c ↦ rw (le-ltb n 128 a, le-ltb n (2 ^ 8) b, lt-ltb n (2 ^ 16) c) (inr (refl, omega arith, omega arith, omega arith))
          | inr c ↦ elim (cases_lt n (2 ^ 24)) [
            | inl d ↦ rw (le-ltb n 128 a, le-ltb n (2 ^ 8) b, le-ltb n (2 ^ 16) c, lt-ltb n (2 ^ 24) d) (inr (refl, omega arith, omega arith, omega arith))
            | inr d ↦ rw (le-ltb n 128 a, le-ltb n (2 ^ 8) b, le-ltb n (2 ^ 16) c, le-ltb n (2 ^ 24) d) (inr (refl, omega arith, omega arith, omega arith))
          ]
        ]
      ]
    ]
