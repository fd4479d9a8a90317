-- Cells that are compared one by one.
use Rattle.std.proofs.Common.{◌≡◌, ◌≢◌, ℕ, ◌+◌, ◌<◌, ◌≤◌, Bool, true, false, cond, ◌&&◌, nat_lt, MatchBool, IsTrue, List, length, take, slice_index_or, Some, None, Option, refl, sym, ap, subst, ◌∙◌, arith, inl, inr}
use Rattle.std.specs.Prelude.{SomeIff}
use Rattle.std.specs.List.{HoldsAt, AllWithin, range_with_len}
use Rattle.std.proofs.lemmas.Bool.{cases_lt, false≢true}
use Rattle.std.proofs.lemmas.Bool.Decides.{nat_tests}
use Rattle.std.proofs.lemmas.List.{length-take-le}
use Rattle.std.proofs.lemmas.List.FromFn.{length-range_with_len, get_or-range_with_len}
use Rattle.std.specs.Ordering.{nat_cmp}
use Rattle.std.specs.Cmp.{nat_cmp_total}
use Rattle.std.specs.FinMap.{get, get-empty, same_map, nat_cmp-IsAntisymmetric}
use Rattle.fw_blocks.specs.Cuts.{cut, block_count}
use Rattle.fw_blocks.specs.Members.{has}
use Rattle.fw_store.specs.Header.{goal_count}
use Rattle.fw_store.specs.declared.header.Goal.{Goal}
use Rattle.fw_image.specs.Meter.{Cells}
use Rattle.fw_image.specs.Stored.{cells_of}
use Rattle.fw_image.proofs.Blocks.{get-blocks, get_unmarked}

-- those that are the same below a number, and have no block from it on
pub same_cells : (a b : Cells) (n : ℕ) → ((k : ℕ) → k < n → get a k ≡ get b k) → ((k : ℕ) → n ≤ k → get a k ≡ None) → ((k : ℕ) → n ≤ k → get b k ≡ None) → a ≡ b
same_cells a b n below past past' =
    same_map nat_cmp_total nat_cmp-IsAntisymmetric a b (λ k. elim (cases_lt k n) [
      | inl inside ↦ below k inside
      | inr outside ↦ past k outside ∙ sym (past' k outside)
    ])

past_at : (k n : ℕ) (mark : Bool) (c : List ℕ) → n ≤ k → cond (nat_lt k n && mark) (Some c) None ≡ None
past_at k n mark c past = grind (arith, nat_tests)

-- no block has a number at the goal's count or above it
pub cells_past : (b : ℕ) (marks : List Bool) (spare : List ℕ) (goal : Option Goal) (k : ℕ) → goal_count b goal ≤ k → get (cells_of b marks spare goal) k ≡ None
cells_past b marks spare None k past = get-empty nat_cmp k
cells_past b marks spare (Some goal) k past =
    get-blocks b marks (take goal.size spare) (block_count b goal.size) k
    ∙ past_at k (block_count b goal.size) (has marks k) (cut b (take goal.size spare) k) past

-- nor has one that is not marked
pub cells_unmarked : (b : ℕ) (marks : List Bool) (spare : List ℕ) (goal : Option Goal) (k : ℕ) → has marks k ≡ false → get (cells_of b marks spare goal) k ≡ None
cells_unmarked b marks spare None k unmarked = get-empty nat_cmp k
cells_unmarked b marks spare (Some goal) k unmarked = get_unmarked b marks (take goal.size spare) (block_count b goal.size) k unmarked

cut_at : (o : Option (List ℕ)) (k n : ℕ) (mark : Bool) (c : List ℕ) → mark ≡ true → SomeIff o (k < n) c → o ≡ cond (nat_lt k n && mark) (Some c) None
cut_at None k n mark c marked none = grind (arith, nat_tests)
cut_at (Some x) k n mark c marked one = grind (arith, nat_tests)

-- a marked one has the bytes of its cut of the goal's bytes, where that has a block of the number
pub cell_is : (o : Option (List ℕ)) (b size : ℕ) (marks : List Bool) (spare image : List ℕ) (there : Option Goal) (goal : Goal) (k : ℕ) → there ≡ Some goal → size ≡ b → image ≡ take goal.size spare → goal.size ≤ length spare
    → has marks k ≡ true → SomeIff o (k < block_count size (length image)) (cut size image k) → o ≡ get (cells_of b marks spare there) k
cell_is o b size marks spare image there goal k has_goal same is fits marked one =
    let long : length (take goal.size spare) ≡ goal.size = length-take-le goal.size spare fits in
    cut_at o k (block_count b goal.size) (has marks k) (cut b (take goal.size spare) k) marked
    (subst (λ (n : ℕ). SomeIff o (k < block_count b n) (cut b (take goal.size spare) k)) long
    (subst (λ (bytes : List ℕ). SomeIff o (k < block_count b (length bytes)) (cut b bytes k)) is
    (subst (λ (n : ℕ). SomeIff o (k < block_count n (length image)) (cut n image k)) same one)))
    ∙ sym (get-blocks b marks (take goal.size spare) (block_count b goal.size) k)
    ∙ ap (λ (g : Option Goal). get (cells_of b marks spare g) k) (sym has_goal)

-- ---- all of them

pub same_cells_iff : (r : Bool) (a b : Cells) (count : ℕ) → ((k : ℕ) → count ≤ k → get a k ≡ None) → ((k : ℕ) → count ≤ k → get b k ≡ None)
    → MatchBool r (AllWithin (λ k. get a k ≡ get b k) (range_with_len 0 count) 0 (length (range_with_len 0 count)))
    ((i : ℕ) × (i < length (range_with_len 0 count)) × HoldsAt (λ k. get a k ≢ get b k) (range_with_len 0 count) i)
    → (IsTrue r → a ≡ b) × (a ≡ b → IsTrue r)
same_cells_iff true a b count past past' all = (
  λ _. same_cells a b count (λ k below.
      let here : 0 + k ≡ k = omega arith in
      subst (λ n. get a n ≡ get b n) (get_or-range_with_len 0 count k 0 below ∙ here) (all k 0 (omega arith) (omega (arith, length-range_with_len 0 count)))) past past',
  λ _. refl,
)
same_cells_iff false a b count past past' one =
    let at : ℕ = slice_index_or (range_with_len 0 count) one.0 0 in
    (λ no. absurd (false≢true no), λ e. absurd (one.2 0 (ap (λ (cells : Cells). get cells at) e)))
