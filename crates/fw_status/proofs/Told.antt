-- Texts one behind the other.
use Rattle.std.proofs.Common.{◌≡◌, ◌∙◌, ◌+◌, ◌<◌, ◌≤◌, ◌++◌, ℕ, List, [], ◌∷◌, Option, length, take, get_or, ap, refl, sym, subst, append_assoc, append-nil}
use Rattle.std.proofs.lemmas.List.{take_all, take_more}
use Rattle.fw_status.specs.Campaigns.{AreTold, IsTimeIf}

-- one more is told
told_more : {X : Type 0} (Is : X → List ℕ → Type 0) (xs : List X) (x : X) (text its : List ℕ) → AreTold Is xs text → Is x its
    → AreTold Is (xs ++ x ∷ []) (text ++ its)
told_more Is [] x text its told is = (its, [], is, refl, ap (λ (t : List ℕ). t ++ its) told ∙ sym (append-nil its))
told_more Is (y ∷ ys) x text its told is =
    (told.0, told.1 ++ its, told.2, told_more Is ys x told.1 its told.3 is, ap (λ (t : List ℕ). t ++ its) told.4 ∙ append_assoc told.0 told.1 its)

-- those so far are told behind a text
abbrev pub Behind : {X : Type 0} → (X → List ℕ → Type 0) → List X → List ℕ → List ℕ → Type 0
Behind Is xs first text = (told : List ℕ) × AreTold Is xs told × (text ≡ first ++ told)

pub none_told : {X : Type 0} (Is : X → List ℕ → Type 0) (first : List ℕ) → Behind Is [] first first
none_told Is first = ([], refl, sym (append-nil first))

-- the next of these is told
pub told_next : {X : Type 0} (Is : X → List ℕ → Type 0) (xs : List X) (k : ℕ) (x : X) (first text next : List ℕ) → k < length xs → x ≡ get_or xs k x
    → Behind Is (take k xs) first text → (its : List ℕ) × Is x its × (next ≡ text ++ its) → Behind Is (take (k + 1) xs) first next
told_next Is xs k x first text next inside at so_far its =
    let more : take k xs ++ x ∷ [] ≡ take (k + 1) xs = ap (λ y. take k xs ++ y ∷ []) at ∙ sym (take_more xs k x inside) in (
      so_far.0 ++ its.0,
      subst (λ l. AreTold Is l (so_far.0 ++ its.0)) more (told_more Is (take k xs) x so_far.0 its.0 so_far.1 its.1),
      its.2 ∙ ap (λ (t : List ℕ). t ++ its.0) so_far.2 ∙ append_assoc first so_far.0 its.0,
    )

-- all of these are
pub all_told : {X : Type 0} (Is : X → List ℕ → Type 0) (xs : List X) (k : ℕ) (first text : List ℕ) → length xs ≤ k → Behind Is (take k xs) first text
    → Behind Is xs first text
all_told Is xs k first text past so_far = subst (λ l. Behind Is l first text) (take_all k xs past) so_far

-- a text goes on with a part, and then with the rest
pub onto : (a b c first rest : List ℕ) → b ≡ a ++ first → c ≡ b ++ rest → c ≡ a ++ (first ++ rest)
onto a b c first rest one more = more ∙ ap (λ (t : List ℕ). t ++ rest) one ∙ append_assoc a first rest

-- a text that goes on three times
pub three_parts : (a b c d first second third : List ℕ) → b ≡ a ++ first → c ≡ b ++ second → d ≡ c ++ third → d ≡ a ++ (first ++ (second ++ third))
three_parts a b c d first second third one two last =
    last ∙ ap (λ (t : List ℕ). t ++ third) (two ∙ ap (λ (t : List ℕ). t ++ second) one)
    ∙ append_assoc (a ++ first) second third ∙ append_assoc a first (second ++ third)

-- it goes on with a time, if that is known, between two parts
pub around_time : (word : List ℕ) (time : Option ℕ) (a b c d first last : List ℕ) → b ≡ a ++ first → (told : List ℕ) × IsTimeIf word time told × (c ≡ b ++ told)
    → d ≡ c ++ last → (all told : List ℕ) × IsTimeIf word time told × (all ≡ first ++ (told ++ last)) × (d ≡ a ++ all)
around_time word time a b c d first last one mid end =
    (first ++ (mid.0 ++ last), mid.0, mid.1, refl, three_parts a b c d first mid.0 last one mid.2 end)
