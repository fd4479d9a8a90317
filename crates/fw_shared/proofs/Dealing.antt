-- Rows that are dealt to shards, one by one: each stands in the shard of its meter, and none is lost.
use Rattle.std.specs.List.{filter, flat_map, range_with_len}
use Rattle.std.specs.List.Sorted.{IsPermutation}
use Rattle.std.specs.Prelude.{◌==◌, MatchOption}
use Rattle.std.proofs.Common.{◌≡◌, ℕ, zero, suc, ◌+◌, ◌<◌, cond, List, [], ◌∷◌, ◌++◌, Option, None, Some, map, set, get_or, length, ap, sym, subst, ◌∙◌, inl, inr, arith, length-set, append_assoc, append-nil}
use Rattle.std.proofs.Math.ListN.{get_or-map}
use Rattle.std.proofs.lemmas.Bool.Decides.{eqb_tells}
use Rattle.std.proofs.lemmas.List.{get_or_read, map-append, map-set, get_or-set_same, get_or-set_other, same_lists}
use Rattle.std.proofs.lemmas.List.Concat.{flat_map-append}
use Rattle.std.proofs.lemmas.List.Elements.{filter-append}
use Rattle.std.proofs.lemmas.List.FromFn.{length-map-range_with_len, get_or-map-range_with_len, map-range_with_len_more}
use Rattle.std.proofs.lemmas.List.Sorted.{IsPermutation-append_right, IsPermutation-cons, IsPermutation-middle, IsPermutation-sym, IsPermutation-to_front, IsPermutation-trans}

-- what an iterator gives first, and where it ends
pub first_is : {X : Type 0} (s t : List X) (r : Option X) (x : X) → r ≡ Some x → MatchOption r ((s ≡ []) × (t ≡ [])) (λ y. s ≡ y ∷ t) → s ≡ x ∷ t
first_is s t None x is gives = cc
first_is s t (Some y) x is gives = let same : y ≡ x = cc in gives ∙ ap (λ z. z ∷ t) same

pub none_is : {X : Type 0} (s t : List X) (r : Option X) → r ≡ None → MatchOption r ((s ≡ []) × (t ≡ [])) (λ y. s ≡ y ∷ t) → s ≡ []
none_is s t None is gives = gives.0
none_is s t (Some y) is gives = cc

module _ {S X : Type 0} (items : S → List X) (key : X → ℕ) where
  -- what is dealt to place i
  abbrev pub share : List X → ℕ → List X
  share xs i = filter (λ (x : X). key x == i) xs

  abbrev pub shares : ℕ → List X → List (List X)
  shares n xs = map (share xs) (range_with_len 0 n)

  -- one empty place more
  pub empty_more : (n : ℕ) (all : List S) (s : S) → map items all ≡ shares n [] → items s ≡ [] → map items (all ++ s ∷ []) ≡ shares (n + 1) []
  empty_more n all s were empty =
      map-append items all (s ∷ [])
      ∙ ap (λ xs. xs ++ items s ∷ []) were
      ∙ ap (λ xs. shares n [] ++ xs ∷ []) empty
      ∙ sym (map-range_with_len_more (share []) 0 n n (omega arith))

  pub none_more : (all : List S) (s : S) → flat_map items all ≡ [] → items s ≡ [] → flat_map items (all ++ s ∷ []) ≡ []
  none_more all s were empty = flat_map-append items all (s ∷ []) ∙ ap (λ xs. xs ++ (items s ++ [])) were ∙ ap (λ xs. xs ++ []) empty

  -- what place i has, where one more was put to place k
  share_at : (places : List (List X)) (k i : ℕ) (xs d : List X) (x : X) → k < length places → xs ≡ get_or places k xs
      → get_or (set places k (xs ++ x ∷ [])) i d ≡ get_or places i d ++ cond (k == i) (x ∷ []) []
  share_at places k i xs d x inside is =
      elim (eqb_tells k i) [
        | inl h ↦ ap (λ n. get_or (set places k (xs ++ x ∷ [])) n d) (sym h.1) ∙ get_or-set_same places k (xs ++ x ∷ []) d inside
            ∙ ap (λ ys. ys ++ x ∷ []) (get_or_read places k xs inside is d ∙ ap (λ n. get_or places n d) h.1)
            ∙ ap (λ b. get_or places i d ++ cond b (x ∷ []) []) (sym h.0)
        | inr h ↦ get_or-set_other places k i (xs ++ x ∷ []) d (λ e. h.1 (sym e)) ∙ sym (append-nil (get_or places i d))
            ∙ ap (λ b. get_or places i d ++ cond b (x ∷ []) []) (sym h.0)
      ]

  -- one more, to the place of its key
  pub dealt_more : (n : ℕ) (xs : List X) (all : List S) (x : X) (k : ℕ) (old new : S) → k ≡ key x → k < n
      → map items all ≡ shares n xs → old ≡ get_or all k old → items new ≡ items old ++ x ∷ []
      → map items (set all k new) ≡ shares n (xs ++ x ∷ [])
  dealt_more n xs all x k old new by within were is more =
      let before : List (List X) = shares n xs in
      let after : List X = xs ++ x ∷ [] in
      let many : length before ≡ n = length-map-range_with_len (share xs) 0 n in
      let inside : k < length before = omega arith in
      let held : items old ≡ get_or before k (items old) = ap items is ∙ sym (get_or-map items all k old) ∙ ap (λ hs. get_or hs k (items old)) were in
      map-set items all k new
      ∙ ap (λ ys. set (map items all) k ys) more
      ∙ ap (λ hs. set hs k (items old ++ x ∷ [])) were
      ∙ same_lists (set before k (items old ++ x ∷ [])) (shares n after)
      (length-set before k (items old ++ x ∷ []) ∙ many ∙ sym (length-map-range_with_len (share after) 0 n))
      (λ i d h. (
      let in_range : i < n = omega (arith, length-set before k (items old ++ x ∷ [])) in
      share_at before k i (items old) d x inside held
      ∙ ap (λ ys. ys ++ cond (k == i) (x ∷ []) []) (get_or-map-range_with_len (share xs) 0 n i i d in_range (omega arith))
      ∙ ap (λ m. share xs i ++ cond (m == i) (x ∷ []) []) by
      ∙ sym (filter-append (λ (y : X). key y == i) xs (x ∷ []))
      ∙ sym (get_or-map-range_with_len (share after) 0 n i i d in_range (omega arith))))

  -- what one place got is one more among all
  got : (all : List S) (k : ℕ) (x : X) (old new : S) → k < length all → old ≡ get_or all k old → items new ≡ items old ++ x ∷ []
      → IsPermutation (x ∷ flat_map items all) (flat_map items (set all k new))
  got [] k x old new inside is more = absurd (omega arith)
  got (s ∷ later) zero x old new inside is more =
      let rest : List X = flat_map items later in
      let same : items new ++ rest ≡ items s ++ x ∷ rest =
      ap (λ xs. xs ++ rest) (more ∙ ap (λ (t : S). items t ++ x ∷ []) is) ∙ append_assoc (items s) (x ∷ []) rest in
      subst (λ ys. IsPermutation (x ∷ (items s ++ rest)) ys) (sym same)
      (IsPermutation-sym (items s ++ x ∷ rest) (x ∷ (items s ++ rest)) (IsPermutation-middle (items s) x rest))
  got (s ∷ later) (suc k) x old new inside is more =
      let rest : List X = flat_map items later in
      let after : List X = flat_map items (set later k new) in
      IsPermutation-trans (x ∷ (items s ++ rest)) (items s ++ x ∷ rest) (items s ++ after)
      (IsPermutation-sym (items s ++ x ∷ rest) (x ∷ (items s ++ rest)) (IsPermutation-middle (items s) x rest))
      (IsPermutation-append_right (items s) (x ∷ rest) after (got later k x old new (omega arith) is more))

  -- none of those that were dealt is lost, nor is one more
  pub moved_more : (done : List X) (all : List S) (x : X) (k : ℕ) (old new : S) → IsPermutation done (flat_map items all) → k < length all
      → old ≡ get_or all k old → items new ≡ items old ++ x ∷ [] → IsPermutation (done ++ x ∷ []) (flat_map items (set all k new))
  moved_more done all x k old new were inside is more =
      IsPermutation-trans (done ++ x ∷ []) (x ∷ done) (flat_map items (set all k new)) (IsPermutation-to_front done x)
      (IsPermutation-trans (x ∷ done) (x ∷ flat_map items all) (flat_map items (set all k new))
      (IsPermutation-cons x done (flat_map items all) were) (got all k x old new inside is more))
