-- Which meters have a live row, once that of one of them went on.
use Rattle.std.proofs.Common.{◌≡◌, ℕ, ◌==◌, nat_eq, Bool, true, false, cond, [], ◌∷◌, Option, Some, is_some, refl, ap, ◌∙◌, ⊎_elim}
use Rattle.std.specs.Map.{lookup}
use Rattle.std.proofs.lemmas.Bool.{cases_Bool, cond-true, cond-false}
use Rattle.fw_head.specs.Row.{Row}
use Rattle.fw_head.specs.Head.{Rows, row_of, at_meter}

same_first : (b : Bool) (x y : Row) (o : Option Row) → is_some (cond b (Some x) o) ≡ is_some (cond b (Some y) o)
same_first true x y o = refl
same_first false x y o = refl

same_rest : (b : Bool) (x : Row) (o p : Option Row) → is_some o ≡ is_some p → is_some (cond b (Some x) o) ≡ is_some (cond b (Some x) p)
same_rest true x o p e = refl
same_rest false x o p e = e

-- a row that goes on stays
pub stays : (meter : ℕ) (change : Row → Row) (rows : Rows) (m : ℕ) → is_some (row_of (at_meter meter change rows) m) ≡ is_some (row_of rows m)
stays meter change [] m = refl
stays meter change (entry ∷ entries) m =
    let one : Rows = (entry.0, change entry.1) ∷ entries in
    let rest : Rows = entry ∷ at_meter meter change entries in
    ⊎_elim
    (λ here.
    ap (λ (rs : Rows). is_some (row_of rs m)) (cond-true (meter == entry.0) one rest here)
    ∙ same_first (nat_eq m entry.0) (change entry.1) entry.1 (lookup (nat_eq m) entries))
    (λ other.
    ap (λ (rs : Rows). is_some (row_of rs m)) (cond-false (meter == entry.0) one rest other)
    ∙ same_rest (nat_eq m entry.0) entry.1 (lookup (nat_eq m) (at_meter meter change entries)) (lookup (nat_eq m) entries) (stays meter change entries m))
    (cases_Bool (meter == entry.0))
