-- The blocks that marks and stored bytes are.
use Rattle.std.proofs.Common.{◌≡◌, ◌≢◌, ℕ, zero, suc, ◌+◌, ◌<◌, ◌≤◌, Bool, true, false, cond, ◌&&◌, List, [], ◌∷◌, ◌++◌, length, take, replicate, slice_index_or, Some, None, Option, nat_lt, is_some, slice_set, ◌||◌, ◌==◌, refl, sym, ap, ◌∙◌, arith, inl, inr, ◌⊎◌, append-nil}
use Rattle.std.specs.List.{flat_map, range_with_len}
use Rattle.std.proofs.lemmas.Grind.{common_steps, flat_map-append}
use Rattle.std.proofs.lemmas.Bool.Decides.{nat_tests}
use Rattle.std.proofs.Math.Seq.{take-suc}
use Rattle.std.specs.Ordering.{nat_cmp, eq_by_cmp}
use Rattle.std.specs.Cmp.{nat_cmp_total}
use Rattle.std.specs.FinMap.{insert, empty, get, get-insert, get-empty, same_map, nat_cmp-IsAntisymmetric}
use Rattle.fw_blocks.specs.Cuts.{cut, block_count}
use Rattle.fw_blocks.specs.Members.{has}
use Rattle.fw_blocks.specs.Laws.{CutsJoin}
use Rattle.fw_image.specs.Meter.{Cells, joined, both, marks_of}
use Rattle.fw_image.specs.Stored.{blocks_below}

-- ---- no mark, no block

index_false : (n k : ℕ) → slice_index_or (replicate n false) k false ≡ false
index_false zero k = refl
index_false (suc n) zero = refl
index_false (suc n) (suc k) = index_false n k

pub none_has : (n : ℕ) (marks : List Bool) → marks ≡ replicate n false → (i : ℕ) → has marks i ≡ false
none_has n marks e i = ap (λ (m : List Bool). has m i) e ∙ index_false n i

pub blocks_none : (b : ℕ) (marks : List Bool) (bytes : List ℕ) → ((i : ℕ) → has marks i ≡ false) → (n : ℕ) → blocks_below b marks bytes n ≡ empty
blocks_none b marks bytes none zero = refl
blocks_none b marks bytes none (suc n) = rw (none n) (blocks_none b marks bytes none n)

-- ---- what the blocks below n have at k

abbrev block_at : ℕ → List Bool → List ℕ → ℕ → ℕ → Option (List ℕ)
block_at b marks bytes n k = cond (nat_lt k n && has marks k) (Some (cut b bytes k)) None

nat_tie : (k n : ℕ) → eq_by_cmp nat_cmp k n ≡ (k == n)
nat_tie k n = grind (arith, nat_tests)

get_step : (t : Bool) (fewer : Cells) (n : ℕ) (v : List ℕ) (k : ℕ) → get (cond t (insert fewer n v) fewer) k ≡ cond (t && (k == n)) (Some v) (get fewer k)
get_step true fewer n v k = get-insert nat_cmp_total fewer n v k ∙ ap (λ t. cond t (Some v) (get fewer k)) (nat_tie k n)
get_step false fewer n v k = refl

not_below : (k : ℕ) → nat_lt k zero ≡ false
not_below k = grind (arith, nat_tests)

one_more : (n k : ℕ) (mn mk : Bool) (vn vk : List ℕ) → (k ≡ n → mk ≡ mn) → (k ≡ n → vk ≡ vn) → cond (mn && (k == n)) (Some vn) (cond (nat_lt k n && mk) (Some vk) None) ≡ cond (nat_lt k (suc n) && mk) (Some vk) None
one_more n k mn mk vn vk same_mark same_cut = grind (arith, nat_tests)

pub get-blocks : (b : ℕ) (marks : List Bool) (bytes : List ℕ) (n k : ℕ) → get (blocks_below b marks bytes n) k ≡ block_at b marks bytes n k
get-blocks b marks bytes zero k = get-empty nat_cmp k ∙ ap (λ t. cond (t && has marks k) (Some (cut b bytes k)) None) (sym (not_below k))
get-blocks b marks bytes (suc n) k =
    get_step (has marks n) (blocks_below b marks bytes n) n (cut b bytes n) k
    ∙ ap (cond (has marks n && (k == n)) (Some (cut b bytes n))) (get-blocks b marks bytes n k)
    ∙ one_more n k (has marks n) (has marks k) (cut b bytes n) (cut b bytes k) (ap (has marks)) (ap (cut b bytes))

marked_here : (k n : ℕ) (mark : Bool) (c : List ℕ) → k < n → mark ≡ true → cond (nat_lt k n && mark) (Some c) None ≡ Some c
marked_here k n mark c h marked = grind (arith, nat_tests)

pub get_marked : (b : ℕ) (marks : List Bool) (bytes : List ℕ) (n k : ℕ) → k < n → has marks k ≡ true → get (blocks_below b marks bytes n) k ≡ Some (cut b bytes k)
get_marked b marks bytes n k below marked = get-blocks b marks bytes n k ∙ marked_here k n (has marks k) (cut b bytes k) below marked

there_here : (k n : ℕ) (mark : Bool) (c cell : List ℕ) → cond (nat_lt k n && mark) (Some c) None ≡ Some cell → c ≡ cell
there_here k n mark c cell e = go (nat_lt k n && mark) e
  where
    go : (t : Bool) → cond t (Some c) None ≡ Some cell → c ≡ cell
    go true e = cc
    go false e = cc

-- what is there is a cut
pub block_there : (b : ℕ) (marks : List Bool) (bytes : List ℕ) (n k : ℕ) (cell : List ℕ) → get (blocks_below b marks bytes n) k ≡ Some cell → cut b bytes k ≡ cell
block_there b marks bytes n k cell e = there_here k n (has marks k) (cut b bytes k) cell (sym (get-blocks b marks bytes n k) ∙ e)

unmarked_here : (k n : ℕ) (mark : Bool) (c : List ℕ) → mark ≡ false → cond (nat_lt k n && mark) (Some c) None ≡ None
unmarked_here k n mark c e = grind (arith, nat_tests)

pub get_unmarked : (b : ℕ) (marks : List Bool) (bytes : List ℕ) (n k : ℕ) → has marks k ≡ false → get (blocks_below b marks bytes n) k ≡ None
get_unmarked b marks bytes n k unmarked = get-blocks b marks bytes n k ∙ unmarked_here k n (has marks k) (cut b bytes k) unmarked

-- ---- a block that is written

marked_at : (marks : List Bool) (i k : ℕ) → i < length marks → has (slice_set marks i true) k ≡ ((k == i) || has marks k)
marked_at marks i k within = grind (arith, nat_tests, common_steps)

-- the marks with one more
pub mark_more : (marks new : List Bool) (i : ℕ) → i < length marks → new ≡ slice_set marks i true → (k : ℕ) → has new k ≡ ((k == i) || has marks k)
mark_more marks new i within e k = ap (λ (m : List Bool). has m k) e ∙ marked_at marks i k within

-- and the same marks, if it is there
again_at : (i k : ℕ) (mark was : Bool) → was ≡ true → (k ≡ i → mark ≡ was) → mark ≡ ((k == i) || mark)
again_at i k mark was marked same = grind (arith, nat_tests)

pub mark_again : (marks : List Bool) (i : ℕ) → has marks i ≡ true → (k : ℕ) → has marks k ≡ ((k == i) || has marks k)
mark_again marks i marked k = again_at i k (has marks k) (has marks i) marked (ap (has marks))

put_at : (q i n : ℕ) (old new : Bool) (was is v : List ℕ) → new ≡ ((q == i) || old) → i < n → (q ≡ i → is ≡ v) → (q ≢ i → is ≡ was) → cond (nat_lt q n && new) (Some is) None ≡ cond (q == i) (Some v) (cond (nat_lt q n && old) (Some was) None)
put_at q i n old new was is v marked below there elsewhere = grind (arith, nat_tests)

-- if it is marked, it is there
pub blocks_put : (b i n : ℕ) (old new : List Bool) (bytes after v : List ℕ) → i < n → ((k : ℕ) → has new k ≡ ((k == i) || has old k)) → cut b after i ≡ v → ((k : ℕ) → k ≢ i → cut b after k ≡ cut b bytes k)
    → blocks_below b new after n ≡ insert (blocks_below b old bytes n) i v
blocks_put b i n old new bytes after v below marked there elsewhere =
    same_map nat_cmp_total nat_cmp-IsAntisymmetric (blocks_below b new after n) (insert (blocks_below b old bytes n) i v) (λ q.
    get-blocks b new after n q
    ∙ put_at q i n (has old q) (has new q) (cut b bytes q) (cut b after q) v (marked q) below (λ e. ap (cut b after) e ∙ there) (elsewhere q)
    ∙ sym (get-insert nat_cmp_total (blocks_below b old bytes n) i v q ∙ ap (λ t. cond t (Some v) (get (blocks_below b old bytes n) q)) (nat_tie q i) ∙ ap (cond (q == i) (Some v)) (get-blocks b old bytes n q)))

kept_at : (q i n : ℕ) (mark old : Bool) (was is : List ℕ) → (q ≡ i → mark ≡ old) → old ≡ false → (q ≢ i → is ≡ was) → cond (nat_lt q n && mark) (Some is) None ≡ cond (nat_lt q n && mark) (Some was) None
kept_at q i n mark old was is same unmarked elsewhere = grind (arith, nat_tests)

-- if it is not marked, it is not there
pub blocks_kept : (b i n : ℕ) (marks : List Bool) (bytes after : List ℕ) → has marks i ≡ false → ((k : ℕ) → k ≢ i → cut b after k ≡ cut b bytes k) → blocks_below b marks after n ≡ blocks_below b marks bytes n
blocks_kept b i n marks bytes after unmarked elsewhere =
    same_map nat_cmp_total nat_cmp-IsAntisymmetric (blocks_below b marks after n) (blocks_below b marks bytes n) (λ q.
    get-blocks b marks after n q
    ∙ kept_at q i n (has marks q) (has marks i) (cut b bytes q) (cut b after q) (ap (has marks)) unmarked (elsewhere q)
    ∙ sym (get-blocks b marks bytes n q))

-- ---- the marks again

has_mark : (i n : ℕ) (mark : Bool) (c : List ℕ) → i < n → is_some (cond (nat_lt i n && mark) (Some c) None) ≡ mark
has_mark i n mark c below = grind (arith, nat_tests)

-- a block below the count is there if it is marked
pub is_some-get : (b : ℕ) (marks : List Bool) (bytes : List ℕ) (count n : ℕ) → n < count → is_some (get (blocks_below b marks bytes count) n) ≡ has marks n
is_some-get b marks bytes count n below = ap is_some (get-blocks b marks bytes count n) ∙ has_mark n count (has marks n) (cut b bytes n) below

marks_below : (b : ℕ) (marks : List Bool) (bytes : List ℕ) (count n : ℕ) → n ≤ count → count ≤ length marks → marks_of (blocks_below b marks bytes count) n ≡ take n marks
marks_below b marks bytes count zero within fits = refl
marks_below b marks bytes count (suc n) within fits =
    let there = is_some-get b marks bytes count n (omega arith) in
    rw (marks_below b marks bytes count n (omega arith) fits, there) (sym (take-suc marks n false (omega arith)))

pub marks_again : (b : ℕ) (marks : List Bool) (bytes : List ℕ) (count : ℕ) → count ≤ length marks → marks_of (blocks_below b marks bytes count) count ≡ take count marks
marks_again b marks bytes count fits = marks_below b marks bytes count count (omega arith) fits

-- ---- whole images

range_more : (from n : ℕ) → range_with_len from (suc n) ≡ range_with_len from n ++ (from + n) ∷ []
range_more from zero =
    let here : from ≡ from + zero = omega arith in
    ap (λ (k : ℕ). k ∷ []) here
range_more from (suc n) =
    let last : from + 1 + n ≡ from + suc n = omega arith in
    ap (λ (rest : List ℕ). from ∷ rest) (range_more (from + 1) n ∙ ap (λ (k : ℕ). range_with_len (from + 1) n ++ k ∷ []) last)

joined_below : (b : ℕ) (bytes : List ℕ) (cells : Cells) (n : ℕ) → ((k : ℕ) → k < n → get cells k ≡ Some (cut b bytes k)) → joined cells n ≡ Some (flat_map (cut b bytes) (range_with_len 0 n))
joined_below b bytes cells zero there = refl
joined_below b bytes cells (suc n) there =
    let front = joined_below b bytes cells n (λ k h. there k (omega arith)) in
    let last : 0 + n ≡ n = omega arith in
    let split : flat_map (cut b bytes) (range_with_len 0 (suc n)) ≡ flat_map (cut b bytes) (range_with_len 0 n) ++ cut b bytes n =
    ap (flat_map (cut b bytes)) (range_more 0 n ∙ ap (λ (k : ℕ). range_with_len 0 n ++ k ∷ []) last) ∙ flat_map-append (cut b bytes) (range_with_len 0 n) (n ∷ [])
    ∙ ap (λ (x : List ℕ). flat_map (cut b bytes) (range_with_len 0 n) ++ x) (append-nil (cut b bytes n)) in
    rw (front, there n (omega arith)) (ap Some (sym split))

-- if all are marked, the blocks are the bytes
pub joined_all : CutsJoin → (b : ℕ) (marks : List Bool) (bytes : List ℕ) (n : ℕ) → 1 ≤ b → n ≡ block_count b (length bytes) → ((i : ℕ) → i < n → has marks i ≡ true) → joined (blocks_below b marks bytes n) n ≡ Some bytes
joined_all cuts b marks bytes n some count complete =
    joined_below b bytes (blocks_below b marks bytes n) n (λ k h. get_marked b marks bytes n k h (complete k h))
    ∙ ap (λ (m : ℕ). Some (flat_map (cut b bytes) (range_with_len 0 m))) count ∙ ap Some (cuts b bytes some)

none_back : (front : Option (List ℕ)) → both front None ≡ None
none_back (Some front) = refl
none_back None = refl

joined_missing : (cells : Cells) (n k : ℕ) → k < n → get cells k ≡ None → joined cells n ≡ None
joined_missing cells zero k below missing = absurd (omega arith)
joined_missing cells (suc n) k below missing =
    elim (last k n below) [
      | inl here ↦ ap (both (joined cells n)) (ap (get cells) (sym here) ∙ missing) ∙ none_back (joined cells n)
      | inr before ↦ ap (λ f. both f (get cells n)) (joined_missing cells n k before missing)
    ]
  where
    last : (k n : ℕ) → k < suc n → (k ≡ n) ⊎ (k < n)
    last k n below = grind arith

-- and where one is not, they have no bytes together
pub joined_unmarked : (b : ℕ) (marks : List Bool) (bytes : List ℕ) (n k : ℕ) → k < n → has marks k ≡ false → joined (blocks_below b marks bytes n) n ≡ None
joined_unmarked b marks bytes n k below unmarked = joined_missing (blocks_below b marks bytes n) n k below (get_unmarked b marks bytes n k unmarked)
