-- Up to sixteen asks after a client forgot what it asked, none of them meets an outstanding one.
use Rattle.std.proofs.Common.{◌≡◌, ℕ, ◌+◌, ◌%◌, ◌≤◌, ◌==◌, Bool, true, false, cond, IsSome, Some, None, Option, refl, subst, arith, rules}
use Rattle.std.proofs.lemmas.Bool.{false≢true}
use Rattle.std.proofs.lemmas.Bool.Decides.{nat_tests}
use Rattle.std.specs.Ordering.{nat_cmp, eq_by_cmp}
use Rattle.std.specs.Cmp.{nat_cmp_total}
use Rattle.std.specs.FinMap.{empty, get, get-insert, get-empty}
use Rattle.fw_blocks.specs.Width.{max_width}
use Rattle.fw_apdu.specs.Request.{invoke_ids}
use Rattle.fw_client.specs.State.{State, Asks, asking}
use Rattle.fw_client.specs.declared.ask.Asked.{Asked}
use Rattle.fw_head.specs.Private.{AskedLately}

nothing : (o : Option Asked) → ¬ (IsSome o) → o ≡ None
nothing None h = refl
nothing (Some a) h = absurd (h (search rules))

-- a client that waits for no answer
pub none_lately : (c : State) (n : ℕ) → c.asks ≡ empty → AskedLately c n
none_lately c n h id some =
    let P : Asks → Type 0 = λ asks. IsSome (get asks id) in
    let in_empty : IsSome (get empty id) = subst P h some in
    let Q : Option Asked → Type 0 = λ o. IsSome o in
    absurd (false≢true (subst Q (get-empty nat_cmp id) in_empty))

pub next_free : (c : State) (n : ℕ) → n ≤ max_width → AskedLately c n → get c.asks c.next ≡ None
next_free c n few lately = nothing (get c.asks c.next) (λ some.
    let x = lately c.next some in
    omega (arith, x.1, x.2, x.3))

pub first_free : (c : State) → c.asks ≡ empty → get c.asks c.next ≡ None
first_free c h = next_free c 0 (omega arith) (none_lately c 0 h)

id_tie : (k n : ℕ) → eq_by_cmp nat_cmp k n ≡ (k == n)
id_tie k n = grind (arith, nat_tests)

same_id : (k n : ℕ) → (k == n) ≡ true → k ≡ n
same_id k n h = grind (arith, nat_tests)

-- an id is the new ask's, or was outstanding before
lately_by : (c : State) (asked : Asked) (n id : ℕ) (b : Bool) → (id == c.next) ≡ b → AskedLately c n → IsSome (cond b (Some asked) (get c.asks id)) → (back : ℕ) × (1 ≤ back) × (back ≤ n + 1) × ((id + back) % invoke_ids ≡ ((c.next + 1) % invoke_ids) % invoke_ids)
lately_by c asked n id true h lately some =
    let same = same_id id c.next h in
    (1, omega arith, omega arith, omega (arith, same))
lately_by c asked n id false h lately some =
    let x = lately id some in
    (x.0 + 1, omega arith, omega (arith, x.2), omega (arith, x.3))

-- each ask is one more
pub one_later : (c : State) (asked : Asked) (n : ℕ) → AskedLately c n → AskedLately (asking c asked) (n + 1)
one_later c asked n lately id some =
    let Q : Option Asked → Type 0 = λ o. IsSome o in
    let R : Bool → Type 0 = λ b. IsSome (cond b (Some asked) (get c.asks id)) in
    lately_by c asked n id (id == c.next) refl lately
    (subst R (id_tie id c.next) (subst Q (get-insert nat_cmp_total c.asks c.next asked id) some))
