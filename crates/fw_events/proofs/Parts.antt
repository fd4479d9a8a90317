-- Texts one behind the other.
use Rattle.std.proofs.Common.{◌≡◌, ◌∙◌, ◌+◌, ◌<◌, ◌++◌, ℕ, List, [], ◌∷◌, length, take, get_or, ap, sym, append_assoc, append-nil}
use Rattle.std.specs.Prelude.{flat_map}
use Rattle.std.proofs.lemmas.List.{take_more}

-- a text goes on with a part, and then with the rest
pub onto : (a b c first rest : List ℕ) → b ≡ a ++ first → c ≡ b ++ rest → c ≡ a ++ (first ++ rest)
onto a b c first rest one more = more ∙ ap (λ (t : List ℕ). t ++ rest) one ∙ append_assoc a first rest

flat_one : {X : Type 0} (f : X → List ℕ) (xs : List X) (x : X) → flat_map f (xs ++ x ∷ []) ≡ flat_map f xs ++ f x
flat_one f [] x = append-nil (f x)
flat_one f (y ∷ ys) x = ap (λ (t : List ℕ). f y ++ t) (flat_one f ys x) ∙ sym (append_assoc (f y) (flat_map f ys) (f x))

-- the text of the first of these, and of the next one
pub flat_more : {X : Type 0} (f : X → List ℕ) (xs : List X) (k : ℕ) (x : X) → k < length xs → x ≡ get_or xs k x
    → flat_map f (take (k + 1) xs) ≡ flat_map f (take k xs) ++ f x
flat_more f xs k x inside at =
    ap (flat_map f) (take_more xs k x inside ∙ ap (λ y. take k xs ++ y ∷ []) (sym at)) ∙ flat_one f (take k xs) x
