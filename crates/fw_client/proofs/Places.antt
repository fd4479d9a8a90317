-- The asks at the places of a list are a map from their places.
use Rattle.std.proofs.Common.{◌≡◌, ℕ, zero, suc, ◌+◌, ◌<◌, ◌≤◌, ◌==◌, Bool, true, false, cond, List, [], ◌∷◌, length, slice_set, get_or, Some, None, Option, is_some, IsSome, MatchBool, refl, sym, ap, subst, ◌∙◌, arith, zero-add}
use Rattle.std.proofs.lemmas.Bool.Decides.{nat_tests}
use Rattle.std.proofs.lemmas.Grind.{common_steps}
use Rattle.std.specs.List.{list_any}
use Rattle.std.proofs.lemmas.Bool.{false≢true}
use Rattle.std.specs.Ordering.{nat_cmp, eq_by_cmp}
use Rattle.std.specs.Cmp.{nat_cmp_total}
use Rattle.std.specs.FinMap.{insert, remove, get, get-insert, get-remove, get-empty, same_map, nat_cmp-IsAntisymmetric}
use Rattle.fw_client.specs.declared.ask.Asked.{Asked}
use Rattle.fw_client.specs.State.{Asks}
use Rattle.fw_client.specs.Private.{asks_from}

nat_tie : (k n : ℕ) → eq_by_cmp nat_cmp k n ≡ (k == n)
nat_tie k n = grind (arith, nat_tests)

apart : (k n : ℕ) → n < k → (k == n) ≡ false
apart k n h = grind (arith, nat_tests)

before : (k n : ℕ) → k < n → (k == n) ≡ false
before k n h = grind (arith, nat_tests)

-- below the first place there is none
get_below : (n : ℕ) (os : List (Option Asked)) (q : ℕ) → q < n → get (asks_from n os) q ≡ None
get_below n [] q h = get-empty nat_cmp q
get_below n (None ∷ os) q h = get_below (suc n) os q (omega arith)
get_below n (Some a ∷ os) q h =
    get-insert nat_cmp_total (asks_from (suc n) os) n a q
    ∙ ap (λ (t : Bool). cond t (Some a) (get (asks_from (suc n) os) q)) (nat_tie q n ∙ before q n h)
    ∙ get_below (suc n) os q (omega arith)

get_at : (n : ℕ) (os : List (Option Asked)) (k : ℕ) → get (asks_from n os) (n + k) ≡ get_or os k None
get_at n [] k = get-empty nat_cmp (n + k)
get_at n (None ∷ os) zero = get_below (suc n) os (n + 0) (omega arith)
get_at n (None ∷ os) (suc k) =
    let next : n + suc k ≡ suc n + k = omega arith in
    ap (get (asks_from (suc n) os)) next ∙ get_at (suc n) os k
get_at n (Some a ∷ os) zero =
    let here : (n + 0 == n) ≡ true = grind (arith, nat_tests) in
    get-insert nat_cmp_total (asks_from (suc n) os) n a (n + 0)
    ∙ ap (λ (t : Bool). cond t (Some a) (get (asks_from (suc n) os) (n + 0))) (nat_tie (n + 0) n ∙ here)
get_at n (Some a ∷ os) (suc k) =
    let next : n + suc k ≡ suc n + k = omega arith in
    get-insert nat_cmp_total (asks_from (suc n) os) n a (n + suc k)
    ∙ ap (λ (t : Bool). cond t (Some a) (get (asks_from (suc n) os) (n + suc k))) (nat_tie (n + suc k) n ∙ apart (n + suc k) n (omega arith))
    ∙ ap (get (asks_from (suc n) os)) next ∙ get_at (suc n) os k

pub get_asks : (os : List (Option Asked)) (q : ℕ) → get (asks_from 0 os) q ≡ get_or os q None
get_asks os q = ap (get (asks_from 0 os)) (sym (zero-add q)) ∙ get_at 0 os q

-- after the last place there is none
past : (os : List (Option Asked)) (q : ℕ) → length os ≤ q → get_or os q None ≡ None
past [] q h = refl
past (o ∷ os) zero h = absurd (omega arith)
past (o ∷ os) (suc q) h = past os q (omega arith)

pub past_asks : (os : List (Option Asked)) (q : ℕ) → length os ≤ q → get (asks_from 0 os) q ≡ None
past_asks os q h = get_asks os q ∙ past os q h

-- ---- a place that is written

set_at : (os : List (Option Asked)) (i q : ℕ) (o : Option Asked) → i < length os → get_or (slice_set os i o) q None ≡ cond (q == i) o (get_or os q None)
set_at os i q o h = grind (arith, nat_tests, common_steps)

pub asks_put : (os : List (Option Asked)) (i : ℕ) (a : Asked) → i < length os → asks_from 0 (slice_set os i (Some a)) ≡ insert (asks_from 0 os) i a
asks_put os i a h =
    same_map nat_cmp_total nat_cmp-IsAntisymmetric (asks_from 0 (slice_set os i (Some a))) (insert (asks_from 0 os) i a) (λ q.
    get_asks (slice_set os i (Some a)) q ∙ set_at os i q (Some a) h
    ∙ sym (get-insert nat_cmp_total (asks_from 0 os) i a q
    ∙ (λ x. cond (nat_tie q i x) (Some a) (get_asks os q x))))

pub asks_out : (os : List (Option Asked)) (i : ℕ) → i < length os → asks_from 0 (slice_set os i None) ≡ remove (asks_from 0 os) i
asks_out os i h =
    same_map nat_cmp_total nat_cmp-IsAntisymmetric (asks_from 0 (slice_set os i None)) (remove (asks_from 0 os) i) (λ q.
    get_asks (slice_set os i None) q ∙ set_at os i q None h
    ∙ sym (get-remove nat_cmp_total (asks_from 0 os) i q
    ∙ (λ x. cond (nat_tie q i x) None (get_asks os q x))))

-- ---- whether any place has an ask

some_there : (os : List (Option Asked)) → list_any (λ o. is_some o) os ≡ true → (q : ℕ) × IsSome (get_or os q None)
some_there [] h = absurd (false≢true h)
some_there (Some a ∷ os) h = (0, refl)
some_there (None ∷ os) h = let later = some_there os h in (suc later.0, later.1)

none_there : (os : List (Option Asked)) → list_any (λ o. is_some o) os ≡ false → (q : ℕ) → get_or os q None ≡ None
none_there [] h q = refl
none_there (Some a ∷ os) h q = absurd (false≢true (sym h))
none_there (None ∷ os) h zero = refl
none_there (None ∷ os) h (suc q) = none_there os h q

pub any_asks : (r : Bool) (os : List (Option Asked)) (asks : Asks) → r ≡ list_any (λ o. is_some o) os → asks_from 0 os ≡ asks → MatchBool r ((q : ℕ) × IsSome (get asks q)) ((q : ℕ) → get asks q ≡ None)
any_asks true os asks e is =
    let found = some_there os (sym e) in
    let P : Option Asked → Type 0 = λ o. IsSome o in
    (found.0, subst P (sym (ap (λ (a : Asks). get a found.0) (sym is) ∙ get_asks os found.0)) found.1)
any_asks false os asks e is = λ q. ap (λ (a : Asks). get a q) (sym is) ∙ get_asks os q ∙ none_there os (sym e) q
