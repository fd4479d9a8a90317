-- What holds of every number below a bound, by trying each.
use Rattle.std.proofs.Common.{◌≡◌, ℕ, zero, suc, ◌<◌, Bool, true, false, cond, refl, eqb, eqb-true, arith, inl, inr}
use Rattle.std.proofs.lemmas.Bool.{cases_lt}

abbrev pub all_less : ℕ → (ℕ → Bool) → Bool
all_less zero p = true
all_less (suc n) p = cond (p n) (all_less n p) false

cond_first : (b c : Bool) → cond b c false ≡ true → b ≡ true
cond_first true c h = refl
cond_first false c h = h

cond_second : (b c : Bool) → cond b c false ≡ true → c ≡ true
cond_second true c h = h
cond_second false c h = absurd (cc)

pub at_less : (n : ℕ) (p : ℕ → Bool) → all_less n p ≡ true → (a : ℕ) → a < n → p a ≡ true
at_less zero p h a lt = absurd (omega arith)
at_less (suc n) p h a lt = elim (cases_lt a n) [
  | inl less ↦ at_less n p (cond_second (p n) (all_less n p) h) a less
  | inr ge ↦
      let e : a ≡ n = omega arith in
      rw e (cond_first (p n) (all_less n p) h)
]

pub same_less : (n : ℕ) (f g : ℕ → ℕ) → all_less n (λ a. eqb (f a) (g a)) ≡ true → (a : ℕ) → a < n → f a ≡ g a
same_less n f g h a lt = eqb-true _ _ (at_less n (λ a. eqb (f a) (g a)) h a lt)

pub same_less_two : (n : ℕ) (f g : ℕ → ℕ → ℕ) → all_less n (λ a. all_less n (λ b. eqb (f a b) (g a b))) ≡ true → (a b : ℕ) → a < n → b < n → f a b ≡ g a b
same_less_two n f g h a b la lb = same_less n (f a) (g a) (at_less n (λ d. all_less n (λ c. eqb (f d c) (g d c))) h a la) b lb
