-- What holds of an error that is passed on.
use Rattle.std.proofs.Common.{◌≡◌, Result, Ok, Err, IfErr, sym, subst}

-- it holds of the result that has the error
pub passed_to : {A E : Type 0} (r : Result A E) (P : E → Type 0) (e f : E) → r ≡ Err e → e ≡ f → P f → IfErr r P
passed_to {A} {E} r P e f was same is = subst (λ (x : Result A E). IfErr x P) (sym was) (subst P (sym same) is)

-- what two clauses say of an error
pub err_both : {A E : Type 0} (r : Result A E) (P Q R : E → Type 0) → ((e : E) → P e → Q e → R e) → IfErr r P → IfErr r Q → IfErr r R
err_both {A} {E} (Ok x) P Q R both p q = tt
err_both {A} {E} (Err e) P Q R both p q = both e p q
