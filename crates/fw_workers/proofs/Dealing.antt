-- Links that are dealt one by one.
use Rattle.std.specs.List.{filter, range_with_len}
use Rattle.std.specs.Prelude.{◌==◌}
use Rattle.std.specs.declared.vec.Vec.{Vec}
use Rattle.std.proofs.Common.{◌≡◌, ℕ, ◌+◌, ◌%◌, ◌<◌, true, false, cond, List, [], ◌∷◌, ◌++◌, map, set, get_or, length, refl, ap, sym, ◌∙◌, inl, inr, arith, length-set}
use Rattle.std.proofs.Math.ListN.{get_or-map}
use Rattle.std.proofs.lemmas.Bool.Decides.{eqb_tells}
use Rattle.std.proofs.lemmas.List.{get_or_read, map-append, map-set, append-nil, get_or-set_same, get_or-set_other, same_lists}
use Rattle.std.proofs.lemmas.List.Elements.{filter-append}
use Rattle.std.proofs.lemmas.List.FromFn.{length-map-range_with_len, get_or-map-range_with_len, map-range_with_len_more}
use Rattle.fw_workers.specs.Deals.{share}

-- what worker i has of numbered links
abbrev pub share_of : {X : Type 0} → ℕ → List (ℕ × X) → ℕ → List X
share_of {X} workers numbered i = map (λ (p : ℕ × X). p.1) (filter (λ (p : ℕ × X). p.0 % workers == i) numbered)

abbrev pub shares_of : {X : Type 0} → ℕ → List (ℕ × X) → List (List X)
shares_of workers numbered = map (share_of workers numbered) (range_with_len 0 workers)

-- the links of each share
abbrev pub links_of : {X Z : Type 0} → List (Vec X Z) → List (List X)
links_of {X} {Z} all = map (λ (v : Vec X Z). v.items) all

-- one empty share more
pub empty_more : {X Z : Type 0} (workers n : ℕ) (all : List (Vec X Z)) (v : Vec X Z) → links_of all ≡ map (share workers []) (range_with_len 0 n)
    → v.items ≡ [] → links_of (all ++ v ∷ []) ≡ map (share workers []) (range_with_len 0 (n + 1))
empty_more {X} {Z} workers n all v were empty =
    map-append (λ (w : Vec X Z). w.items) all (v ∷ [])
    ∙ ap (λ xs. xs ++ v.items ∷ []) were
    ∙ ap (λ xs. map (share {X = X} workers []) (range_with_len 0 n) ++ xs ∷ []) empty
    ∙ sym (map-range_with_len_more (share {X = X} workers []) 0 n n (omega arith))

-- a link more goes to one worker
share_more : {X : Type 0} (workers : ℕ) (numbered : List (ℕ × X)) (j : ℕ) (x : X) (i : ℕ)
    → share_of workers (numbered ++ (j, x) ∷ []) i ≡ share_of workers numbered i ++ cond (j % workers == i) (x ∷ []) []
share_more {X} workers numbered j x i =
    ap (λ ps. map (λ (p : ℕ × X). p.1) ps) (filter-append (λ (p : ℕ × X). p.0 % workers == i) numbered ((j, x) ∷ []))
    ∙ map-append (λ (p : ℕ × X). p.1) (filter (λ (p : ℕ × X). p.0 % workers == i) numbered) (cond (j % workers == i) ((j, x) ∷ []) [])
    ∙ ap (λ xs. share_of workers numbered i ++ xs)
    (elim (j % workers == i) as (λ b. map (λ (p : ℕ × X). p.1) (cond b ((j, x) ∷ []) []) ≡ cond b (x ∷ []) []) [ true ↦ refl | false ↦ refl ])

-- the share of worker i, where a link was put onto the share of worker k
share_at : {X : Type 0} (shares : List (List X)) (k i : ℕ) (xs d : List X) (x : X) → k < length shares → xs ≡ get_or shares k xs
    → get_or (set shares k (xs ++ x ∷ [])) i d ≡ get_or shares i d ++ cond (k == i) (x ∷ []) []
share_at shares k i xs d x inside is =
    elim (eqb_tells k i) [
      | inl h ↦ ap (λ n. get_or (set shares k (xs ++ x ∷ [])) n d) (sym h.1) ∙ get_or-set_same shares k (xs ++ x ∷ []) d inside
          ∙ ap (λ ys. ys ++ x ∷ []) (get_or_read shares k xs inside is d ∙ ap (λ n. get_or shares n d) h.1)
          ∙ ap (λ b. get_or shares i d ++ cond b (x ∷ []) []) (sym h.0)
      | inr h ↦ get_or-set_other shares k i (xs ++ x ∷ []) d (λ e. h.1 (sym e)) ∙ sym (append-nil (get_or shares i d))
          ∙ ap (λ b. get_or shares i d ++ cond b (x ∷ []) []) (sym h.0)
    ]

-- a link more, onto the share of its worker
pub dealt_more : {X Z : Type 0} (workers : ℕ) (numbered : List (ℕ × X)) (all : List (Vec X Z)) (j : ℕ) (x : X) (old new : Vec X Z) → 0 < workers
    → links_of all ≡ shares_of workers numbered → old ≡ get_or all (j % workers) old → new.items ≡ old.items ++ x ∷ []
    → links_of (set all (j % workers) new) ≡ shares_of workers (numbered ++ (j, x) ∷ [])
dealt_more {X} {Z} workers numbered all j x old new some were is more =
    let items : Vec X Z → List X = λ v. v.items in
    let k : ℕ = j % workers in
    let before : List (List X) = shares_of workers numbered in
    let after : List (ℕ × X) = numbered ++ (j, x) ∷ [] in
    let xs : List X = old.items ++ x ∷ [] in
    let many : length before ≡ workers = length-map-range_with_len (share_of workers numbered) 0 workers in
    let inside : k < length before = omega arith in
    let held : old.items ≡ get_or before k old.items = ap items is ∙ sym (get_or-map items all k old) ∙ ap (λ hs. get_or hs k old.items) were in
    map-set items all k new
    ∙ ap (λ ys. set (links_of all) k ys) more
    ∙ ap (λ hs. set hs k xs) were
    ∙ same_lists (set before k xs) (shares_of workers after)
    (length-set before k xs ∙ many ∙ sym (length-map-range_with_len (share_of workers after) 0 workers))
    (λ i d h. (
    let within : i < workers = omega (arith, length-set before k xs) in
    share_at before k i old.items d x inside held
    ∙ ap (λ ys. ys ++ cond (k == i) (x ∷ []) []) (get_or-map-range_with_len (share_of workers numbered) 0 workers i i d within (omega arith))
    ∙ sym (share_more workers numbered j x i)
    ∙ sym (get_or-map-range_with_len (share_of workers after) 0 workers i i d within (omega arith))))
