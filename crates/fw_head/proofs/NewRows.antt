-- New rows after the live ones, each of a meter that has none.
use Rattle.std.proofs.Common.{◌≡◌, ℕ, ◌+◌, ◌≤◌, nat_eq, length, arith, false, List, [], ◌∷◌, ◌++◌, Some, None, refl, sym, ap, subst, ◌∙◌, append_assoc}
use Rattle.std.specs.List.{IsDistinct, AllByRecursion}
use Rattle.std.specs.Map.{lookup, keys_of}
use Rattle.std.proofs.lemmas.List.{map-append}
use Rattle.std.proofs.lemmas.Map.Keys.{IsDistinct-head, IsDistinct-tail}
use Rattle.std.proofs.lemmas.Grind.{common_steps}
use Rattle.std.proofs.lemmas.Bool.{cond-false, false_from_ne_true, false≢true}
use Rattle.std.proofs.lemmas.Bool.Decides.{Decides-eqb}
use Rattle.fw_names.specs.Name.{Name}
use Rattle.fw_head.specs.Row.{Row, new_row}
use Rattle.fw_head.specs.Head.{Rows, row_of, new_rows}

middle : (P : ℕ → Type 0) (xs : List ℕ) (y : ℕ) (ys : List ℕ) → AllByRecursion P (xs ++ y ∷ ys) → P y
middle P [] y ys h = h.0
middle P (x ∷ xs) y ys h = middle P xs y ys h.1

pub flipped : (a b : ℕ) → nat_eq a b ≡ false → nat_eq b a ≡ false
flipped a b h = false_from_ne_true (nat_eq b a) (λ same. false≢true (sym h ∙ (Decides-eqb a b).1 (sym ((Decides-eqb b a).0 same))))

-- the next meter has no row
not_there : (rows : Rows) (meter : ℕ) (others : List ℕ) → IsDistinct nat_eq (keys_of rows ++ meter ∷ others) → row_of rows meter ≡ None
not_there [] meter others once = refl
not_there (entry ∷ entries) meter others once =
    cond-false (nat_eq meter entry.0) (Some entry.1) (lookup (nat_eq meter) entries) (flipped entry.0 meter (middle (λ y. nat_eq entry.0 y ≡ false) (keys_of entries) meter others (IsDistinct-head nat_eq entry.0 (keys_of entries ++ meter ∷ others) once)))
    ∙ not_there entries meter others (IsDistinct-tail nat_eq entry.0 (keys_of entries ++ meter ∷ others) once)

pub absent : (rows : Rows) (meter : ℕ) (rest others : List ℕ) → rest ≡ meter ∷ others → IsDistinct nat_eq (keys_of rows ++ rest) → row_of rows meter ≡ None
absent rows meter rest others next once =
    let P : List ℕ → Type 0 = λ ms. IsDistinct nat_eq (keys_of rows ++ ms) in
    not_there rows meter others (subst P next once)

-- what is there and what is still to be added stays the whole
pub rows_more : (rows new : Rows) (name : Name) (size meter : ℕ) (rest others : List ℕ) (whole : Rows) → rows ++ new_rows name size rest ≡ whole → rest ≡ meter ∷ others → new ≡ rows ++ (meter, new_row meter name size) ∷ [] → new ++ new_rows name size others ≡ whole
rows_more rows new name size meter rest others whole so_far next added =
    ap (λ (rs : Rows). rs ++ new_rows name size others) added
    ∙ append_assoc rows ((meter, new_row meter name size) ∷ []) (new_rows name size others)
    ∙ ap (λ (ms : List ℕ). rows ++ new_rows name size ms) (sym next)
    ∙ so_far

-- and no meter stands twice in it
pub once_more : (rows new : Rows) (row : Row) (meter : ℕ) (rest others : List ℕ) → rest ≡ meter ∷ others → new ≡ rows ++ (meter, row) ∷ [] → IsDistinct nat_eq (keys_of rows ++ rest) → IsDistinct nat_eq (keys_of new ++ others)
once_more rows new row meter rest others next added once =
    let keys : keys_of new ≡ keys_of rows ++ meter ∷ [] = ap (λ (rs : Rows). keys_of rs) added ∙ map-append (λ (entry : ℕ × Row). entry.0) rows ((meter, row) ∷ []) in
    let all : keys_of new ++ others ≡ keys_of rows ++ rest = ap (λ (ks : List ℕ). ks ++ others) keys ∙ append_assoc (keys_of rows) (meter ∷ []) others ∙ ap (λ (ms : List ℕ). keys_of rows ++ ms) (sym next) in
    let P : List ℕ → Type 0 = λ ks. IsDistinct nat_eq ks in
    subst P (sym all) once

-- there is room for those that are left
pub fewer_left : {X : Type 0} (x : X) (rest others : List X) (room left : ℕ) → rest ≡ x ∷ others → length rest ≤ room → room ≤ left + 1 → length others ≤ left
fewer_left x rest others room left next fits used =
    let one : length rest ≡ 1 + length others = grind (arith, common_steps, next) in
    omega (arith, one, fits, used)
