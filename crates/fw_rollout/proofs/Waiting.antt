-- Which times and places a set has, after one was put in or taken out.
use Rattle.std.proofs.Common.{◌≡◌, ◌↔◌, ◌⊎◌, ℕ, Bool, true, false, cond, List, Contains, Option, Some, None, Bor, inl, inr, ⊎_elim, refl, sym, ap, subst, ◌∙◌}
use Rattle.std.specs.Prelude.{IfSome, IsTrue, slice_get}
use Rattle.std.specs.Option.{option_copied}
use Rattle.std.specs.BTreeMap.{is_at}
use Rattle.std.specs.BTreeSet.{BTreeSet, contains}
use Rattle.std.specs.Cmp.{IsTotalOrder}
use Rattle.std.specs.Ordering.{nat_cmp, ordering_then, is_eq}
use Rattle.std.specs.declared.cmp.Ordering.{Ordering}
use Rattle.std.proofs.lemmas.Bool.{false≢true, false_from_ne_true}
use Rattle.std.proofs.lemmas.Cmp.{nat_cmp_total, on_total, then_total, tied_itself}
use Rattle.std.proofs.lemmas.Map.Lookups.{CmpEqualImpliesEq, exact_pairs, exact_unsigned}
use Rattle.std.proofs.lemmas.Map.Views.{btree_set_contains_iff, tells_apart}
use Rattle.std.proofs.lemmas.Option.{get_or_from_slice_get, none-some, same_Some, slice_get_within}

-- by the time, and then by the place
abbrev pub by_time : ℕ × ℕ → ℕ × ℕ → Ordering
by_time x y = ordering_then (nat_cmp x.0 y.0) (nat_cmp x.1 y.1)

total : IsTotalOrder by_time
total = then_total (on_total (λ (p : ℕ × ℕ). p.0) nat_cmp_total) (on_total (λ (p : ℕ × ℕ). p.1) nat_cmp_total)

exact : CmpEqualImpliesEq by_time
exact = exact_pairs nat_cmp nat_cmp exact_unsigned exact_unsigned

found : (s : BTreeSet (ℕ × ℕ)) (q : ℕ × ℕ) → IsTrue (contains by_time s q) ↔ Contains s.keys q
found s q = btree_set_contains_iff total exact s q

same_key : (k q : ℕ × ℕ) → is_at (by_time k) q ≡ true → k ≡ q
same_key k q h = tells_apart exact k q h

at_itself : (k : ℕ × ℕ) → is_at (by_time k) k ≡ true
at_itself k = ap is_eq (tied_itself total k)

same_pair : (t place time other : ℕ) → ◌≡◌ {A = ℕ × ℕ} (t, place) (time, other) → (t ≡ time) × (place ≡ other)
same_pair t place time other e = (ap (λ (p : ℕ × ℕ). p.0) e, ap (λ (p : ℕ × ℕ). p.1) e)

put_cases : (b c d : Bool) → d ≡ cond b true c → d ≡ true → (b ≡ true) ⊎ (c ≡ true)
put_cases true c d e h = inl refl
put_cases false c d e h = inr (sym e ∙ h)

put_here : (b c d : Bool) → d ≡ cond b true c → b ≡ true → d ≡ true
put_here true c d e h = e
put_here false c d e h = absurd (false≢true h)

put_before : (b c d : Bool) → d ≡ cond b true c → c ≡ true → d ≡ true
put_before true c d e h = e
put_before false c d e h = e ∙ h

pair : (t time place other : ℕ) → t ≡ time → place ≡ other → ◌≡◌ {A = ℕ × ℕ} (t, place) (time, other)
pair t time place other e h = cc

-- one was put in
abbrev pub PutIn : ℕ → ℕ → BTreeSet (ℕ × ℕ) → BTreeSet (ℕ × ℕ) → Type 0
PutIn time place old new = (q : ℕ × ℕ) → contains by_time new q ≡ cond (is_at (by_time (time, place)) q) true (contains by_time old q)

has_it : (t place : ℕ) (until : Option ℕ) (old new : BTreeSet (ℕ × ℕ)) → until ≡ Some t → PutIn t place old new → (other time : ℕ)
    → Contains new.keys (time, other) → ((other ≡ place) × (until ≡ Some time)) ⊎ Contains old.keys (time, other)
has_it t place until old new is put other time has = ⊎_elim
    (λ (h : is_at (by_time (t, place)) (time, other) ≡ true).
    let e = same_pair t place time other (same_key (t, place) (time, other) h) in inl (sym e.1, is ∙ ap (λ (n : ℕ). Some n) e.0))
    (λ (h : IsTrue (contains by_time old (time, other))). inr ((found old (time, other)).0 h))
    (put_cases _ _ _ (put (time, other)) ((found new (time, other)).1 has))

had_it : (t place : ℕ) (until : Option ℕ) (old new : BTreeSet (ℕ × ℕ)) → until ≡ Some t → PutIn t place old new → (other time : ℕ)
    → ((other ≡ place) × (until ≡ Some time)) ⊎ Contains old.keys (time, other) → Contains new.keys (time, other)
had_it t place until old new is put other time either = (found new (time, other)).0 (⊎_elim
    (λ (h : (other ≡ place) × (until ≡ Some time)). put_here _ _ _ (put (time, other))
    (subst (λ (q : ℕ × ℕ). is_at (by_time (t, place)) q ≡ true) (pair t time place other (same_Some t time (sym is ∙ h.1)) (sym h.0)) (at_itself (t, place))))
    (λ (h : Contains old.keys (time, other)). put_before _ _ _ (put (time, other)) ((found old (time, other)).1 h))
    either)

pub has_put : (t place : ℕ) (until : Option ℕ) (old new : BTreeSet (ℕ × ℕ)) → until ≡ Some t → PutIn t place old new → (other time : ℕ)
    → Contains new.keys (time, other) ↔ (((other ≡ place) × (until ≡ Some time)) ⊎ Contains old.keys (time, other))
has_put t place until old new is put other time = (has_it t place until old new is put other time, had_it t place until old new is put other time)

-- one was taken out
abbrev pub TakenOut : ℕ → ℕ → BTreeSet (ℕ × ℕ) → BTreeSet (ℕ × ℕ) → Type 0
TakenOut time place old new = (q : ℕ × ℕ) → contains by_time new q ≡ cond (is_at (by_time (time, place)) q) false (contains by_time old q)

taken_cases : (b c d : Bool) → d ≡ cond b false c → d ≡ true → (b ≡ false) × (c ≡ true)
taken_cases true c d e h = absurd (false≢true (sym e ∙ h))
taken_cases false c d e h = (refl, sym e ∙ h)

taken_before : (b c d : Bool) → d ≡ cond b false c → b ≡ false → c ≡ true → d ≡ true
taken_before true c d e h g = absurd (false≢true (sym h))
taken_before false c d e h g = e ∙ g

lacks_it : (t place : ℕ) (until : Option ℕ) (old new : BTreeSet (ℕ × ℕ)) → until ≡ Some t → TakenOut t place old new → (other time : ℕ)
    → Contains new.keys (time, other) → (¬ ((other ≡ place) × (until ≡ Some time))) × Contains old.keys (time, other)
lacks_it t place until old new is out other time has =
    let both = taken_cases _ _ _ (out (time, other)) ((found new (time, other)).1 has) in (
      λ (h : (other ≡ place) × (until ≡ Some time)). false≢true (sym both.0 ∙
          subst (λ (q : ℕ × ℕ). is_at (by_time (t, place)) q ≡ true) (pair t time place other (same_Some t time (sym is ∙ h.1)) (sym h.0)) (at_itself (t, place))),
      (found old (time, other)).0 both.1,
    )

lacked_it : (t place : ℕ) (until : Option ℕ) (old new : BTreeSet (ℕ × ℕ)) → until ≡ Some t → TakenOut t place old new → (other time : ℕ)
    → (¬ ((other ≡ place) × (until ≡ Some time))) × Contains old.keys (time, other) → Contains new.keys (time, other)
lacked_it t place until old new is out other time both = (found new (time, other)).0 (taken_before _ _ _ (out (time, other))
    (false_from_ne_true _ (λ (h : is_at (by_time (t, place)) (time, other) ≡ true).
    let e = same_pair t place time other (same_key (t, place) (time, other) h) in both.0 (sym e.1, is ∙ ap (λ (n : ℕ). Some n) e.0)))
    ((found old (time, other)).1 both.1))

pub has_taken : (t place : ℕ) (until : Option ℕ) (old new : BTreeSet (ℕ × ℕ)) → until ≡ Some t → TakenOut t place old new → (other time : ℕ)
    → Contains new.keys (time, other) ↔ ((¬ ((other ≡ place) × (until ≡ Some time))) × Contains old.keys (time, other))
has_taken t place until old new is out other time = (lacks_it t place until old new is out other time, lacked_it t place until old new is out other time)

-- the first is there
pub has_first : (t place : ℕ) (keys : List (ℕ × ℕ)) → slice_get keys 0 ≡ Some (t, place) → Contains keys (t, place)
has_first t place keys is = (0, slice_get_within keys 0 (t, place) is, get_or_from_slice_get keys 0 (t, place) (t, place) is)

-- what `first` and `copied` find is the first
pub first_key : (keys : List (ℕ × ℕ)) (r : Option (Bor (ℕ × ℕ))) (x : ℕ × ℕ) → IfSome r (λ k. slice_get keys 0 ≡ Some k.now) → option_copied r ≡ Some x → slice_get keys 0 ≡ Some x
first_key keys None x h e = absurd (none-some x e)
first_key keys (Some k) x h e = h ∙ e
