-- Texts one behind the other.
use Rattle.std.proofs.Common.{◌≡◌, ◌∙◌, ◌++◌, ℕ, List, Result, Ok, Err, ap, append_assoc}
use Rattle.std.specs.Prelude.{OnOk, is_ok, if◌then◌else◌}

-- a text goes on with a part, and then with the rest
pub onto : (a b c first rest : List ℕ) → b ≡ a ++ first → c ≡ b ++ rest → c ≡ a ++ (first ++ rest)
onto a b c first rest one more = more ∙ ap (λ (t : List ℕ). t ++ rest) one ∙ append_assoc a first rest

-- and then with another
pub three_parts : (a b c d first second rest : List ℕ) → b ≡ a ++ first → c ≡ b ++ second → d ≡ c ++ rest → d ≡ a ++ (first ++ (second ++ rest))
three_parts a b c d first second rest one two more = onto a b d first (second ++ rest) one (onto b c d second rest two more)

-- a call that may fail leaves a text with its part, or as it was
pub if_put : {T E : Type 0} (r : Result T E) (before after part : List ℕ) → after ≡ (if is_ok r then before ++ part else before) → OnOk r (after ≡ before ++ part)
if_put (Ok x) before after part is = is
if_put (Err e) before after part is = tt
