-- Parts that are appended one behind the other.
use Rattle.std.proofs.Common.{◌≡◌, ◌∙◌, ◌++◌, ℕ, List, ap, append_assoc}

-- what was appended, and then the rest
pub onto : (a b c first given rest : List ℕ) → b ≡ a ++ first → c ≡ b ++ given → given ≡ rest → c ≡ a ++ (first ++ rest)
onto a b c first given rest one more is =
    more ∙ ap (λ (t : List ℕ). t ++ given) one ∙ append_assoc a first given ∙ ap (λ (t : List ℕ). a ++ (first ++ t)) is

-- words, whatever their text is
pub words_onto : (a b words text : List ℕ) → b ≡ a ++ text → text ≡ words → b ≡ a ++ words
words_onto a b words text one is = one ∙ ap (λ (t : List ℕ). a ++ t) is
