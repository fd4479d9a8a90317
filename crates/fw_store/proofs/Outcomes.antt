-- What follows where results succeed, or fail, together and alone.
use Rattle.std.specs.Prelude.{◌≡◌, true, false, Result, Ok, Err, is_ok, IsOk, OnOk, OnErr}

pub on_ok_too : {A B E F : Type 0} {P Q : Type 0} (r : Result A E) (s : Result B F) → is_ok r ≡ is_ok s → (P → Q) → OnOk s P → OnOk r Q
on_ok_too (Ok a) (Ok b) same f p = f p
on_ok_too (Ok a) (Err b) same f p = cc
on_ok_too (Err a) s same f p = tt

pub on_ok : {A E : Type 0} {P : Type 0} (r : Result A E) → P → OnOk r P
on_ok (Ok a) p = p
on_ok (Err e) p = tt

pub on_err_too : {A B E F : Type 0} {P Q : Type 0} (r : Result A E) (s : Result B F) → is_ok r ≡ is_ok s → (P → Q) → OnErr s P → OnErr r Q
on_err_too (Ok a) s same f p = tt
on_err_too (Err a) (Ok b) same f p = cc
on_err_too (Err a) (Err b) same f p = f p

-- what a result says of its success, where it succeeded, and of its failure, where it failed
pub when_ok : {A E : Type 0} {P : Type 0} (r : Result A E) → true ≡ is_ok r → OnOk r P → P
when_ok (Ok a) same p = p
when_ok (Err e) same p = cc

pub when_err : {A E : Type 0} {P : Type 0} (r : Result A E) → false ≡ is_ok r → OnErr r P → P
when_err (Ok a) same p = cc
when_err (Err e) same p = p

-- none succeeds that failed
pub not_both : {A E : Type 0} (r : Result A E) → false ≡ is_ok r → IsOk r → ⊥
not_both (Ok a) failed ok = cc
not_both (Err e) failed ok = cc
