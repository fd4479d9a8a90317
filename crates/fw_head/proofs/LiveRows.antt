-- The live rows as a list of entries: what a write to one row makes of it.
use Rattle.std.proofs.Common.{◌≡◌, ℕ, nat_eq, List, [], ◌∷◌, Option, Some, None, Result, Ok, Err, IfOk, IfErr, inl, refl, sym, ap, subst, ◌∙◌, ⊎_elim}
use Rattle.std.specs.Map.{lookup, set_value}
use Rattle.std.proofs.lemmas.Bool.{cases_Bool, cond-true, cond-false}
use Rattle.fw_head.specs.declared.news.RowNews.{RowNews}
use Rattle.fw_head.specs.Row.{Row, RowHears}
use Rattle.fw_head.specs.Private.{IsOwnNews}
use Rattle.fw_head.specs.Head.{Rows, RowsHear, at_meter}

pub some_row : (row other : Row) → let o : Option Row = Some row in o ≡ Some other → row ≡ other
some_row row other e = cc

at_meter-set_value : (meter : ℕ) (change : Row → Row) (rows : Rows) (row : Row) → lookup (nat_eq meter) rows ≡ Some row → set_value (nat_eq meter) rows (change row) ≡ at_meter meter change rows
at_meter-set_value meter change [] row h = refl
at_meter-set_value meter change (entry ∷ entries) row h =
    let written : Rows = (entry.0, change row) ∷ entries in
    let one : Rows = (entry.0, change entry.1) ∷ entries in
    ⊎_elim
    (λ here.
    let same : entry.1 ≡ row = some_row entry.1 row (sym (cond-true (nat_eq meter entry.0) (Some entry.1) (lookup (nat_eq meter) entries) here) ∙ h) in
    cond-true (nat_eq meter entry.0) written (entry ∷ set_value (nat_eq meter) entries (change row)) here
    ∙ ap (λ (r : Row). (let es : Rows = (entry.0, change r) ∷ entries in es)) (sym same)
    ∙ sym (cond-true (nat_eq meter entry.0) one (entry ∷ at_meter meter change entries) here))
    (λ other.
    let later : lookup (nat_eq meter) entries ≡ Some row = sym (cond-false (nat_eq meter entry.0) (Some entry.1) (lookup (nat_eq meter) entries) other) ∙ h in
    cond-false (nat_eq meter entry.0) written (entry ∷ set_value (nat_eq meter) entries (change row)) other
    ∙ ap (λ (es : Rows). (let all : Rows = entry ∷ es in all)) (at_meter-set_value meter change entries row later)
    ∙ sym (cond-false (nat_eq meter entry.0) one (entry ∷ at_meter meter change entries) other))
    (cases_Bool (nat_eq meter entry.0))

-- a meter that isn't there is not changed
pub at_meter-none : (meter : ℕ) (change : Row → Row) (rows : Rows) → lookup (nat_eq meter) rows ≡ None → at_meter meter change rows ≡ rows
at_meter-none meter change [] h = refl
at_meter-none meter change (entry ∷ entries) h =
    let one : Rows = (entry.0, change entry.1) ∷ entries in
    ⊎_elim
    (λ here.
    let same : Some entry.1 ≡ None = sym (cond-true (nat_eq meter entry.0) (Some entry.1) (lookup (nat_eq meter) entries) here) ∙ h in
    cc)
    (λ other.
    let later : lookup (nat_eq meter) entries ≡ None = sym (cond-false (nat_eq meter entry.0) (Some entry.1) (lookup (nat_eq meter) entries) other) ∙ h in
    cond-false (nat_eq meter entry.0) one (entry ∷ at_meter meter change entries) other
    ∙ ap (λ (es : Rows). (let all : Rows = entry ∷ es in all)) (at_meter-none meter change entries later))
    (cases_Bool (nat_eq meter entry.0))

pub changed_row : (meter : ℕ) (change : Row → Row) (old new : Rows) (row written : Row) → lookup (nat_eq meter) old ≡ Some row → written ≡ change row → new ≡ set_value (nat_eq meter) old written → new ≡ at_meter meter change old
changed_row meter change old new row written found write set =
    set ∙ ap (λ (r : Row). set_value (nat_eq meter) old r) write ∙ at_meter-set_value meter change old row found

-- the same where the key is the meter's number
pub changed_at : (key meter : ℕ) (change : Row → Row) (old new : Rows) (row written : Row) → key ≡ meter → lookup (nat_eq key) old ≡ Some row → written ≡ change row → new ≡ set_value (nat_eq key) old written → new ≡ at_meter meter change old
changed_at key meter change old new row written same found write set =
    changed_row key change old new row written found write set ∙ ap (λ k. at_meter k change old) same

pub at_meter-same : (meter : ℕ) (rows : Rows) → at_meter meter (λ row. row) rows ≡ rows
at_meter-same meter [] = refl
at_meter-same meter (entry ∷ entries) =
    let one : Rows = (entry.0, entry.1) ∷ entries in
    ⊎_elim
    (λ here. cond-true (nat_eq meter entry.0) one (entry ∷ at_meter meter (λ row. row) entries) here)
    (λ other.
    cond-false (nat_eq meter entry.0) one (entry ∷ at_meter meter (λ row. row) entries) other
    ∙ ap (λ (es : Rows). (let all : Rows = entry ∷ es in all)) (at_meter-same meter entries))
    (cases_Bool (nat_eq meter entry.0))

-- a row that is written back as it was
pub unchanged_at : (key : ℕ) (old new : Rows) (row written : Row) → lookup (nat_eq key) old ≡ Some row → written ≡ row → new ≡ set_value (nat_eq key) old written → new ≡ old
unchanged_at key old new row written found write set =
    changed_row key (λ r. r) old new row written found write set ∙ at_meter-same key old

pub none_at : (key meter : ℕ) (change : Row → Row) (old new : Rows) → key ≡ meter → lookup (nat_eq key) old ≡ None → new ≡ old → new ≡ at_meter meter change old
none_at key meter change old new same absent unchanged =
    unchanged ∙ sym (at_meter-none key change old absent) ∙ ap (λ k. at_meter k change old) same

pub on_ok : {X E : Type 0} (r : Result X E) (P Q : X → Type 0) → ((x : X) → P x → Q x) → IfOk r P → IfOk r Q
on_ok (Ok x) P Q f h = f x h
on_ok (Err e) P Q f h = h

pub on_err : {X E : Type 0} (r : Result X E) (P Q : E → Type 0) → ((e : E) → P e → Q e) → IfErr r P → IfErr r Q
on_err (Ok x) P Q f h = h
on_err (Err e) P Q f h = f e h

pub told_err : {X E : Type 0} (r : Result X E) (P : Type 0) → P → IfErr r (λ _. P)
told_err (Ok x) P p = tt
told_err (Err e) P p = p

pub rows_hear : (key meter : ℕ) (datagram : List ℕ) (told : RowNews) (old new : Rows) (row next : Row) → key ≡ meter → lookup (nat_eq key) old ≡ Some row → new ≡ set_value (nat_eq key) old next → RowHears row datagram told next → RowsHear old meter datagram told new
rows_hear key meter datagram told old new row next same found set hears =
    inl (row, next, ap (λ k. lookup (nat_eq k) old) (sym same) ∙ found, hears, changed_at key meter (λ was. next) old new row next same found refl set)

-- two changes that agree on the row of the meter
pub at_meter-alike : (meter : ℕ) (f g : Row → Row) (rows : Rows) (row : Row) → lookup (nat_eq meter) rows ≡ Some row → f row ≡ g row → at_meter meter f rows ≡ at_meter meter g rows
at_meter-alike meter f g [] row found alike = refl
at_meter-alike meter f g (entry ∷ entries) row found alike =
    let by_f : Rows = (entry.0, f entry.1) ∷ entries in
    let by_g : Rows = (entry.0, g entry.1) ∷ entries in
    ⊎_elim
    (λ here.
    let same : entry.1 ≡ row = some_row entry.1 row (sym (cond-true (nat_eq meter entry.0) (Some entry.1) (lookup (nat_eq meter) entries) here) ∙ found) in
    cond-true (nat_eq meter entry.0) by_f (entry ∷ at_meter meter f entries) here
    ∙ ap (λ (r : Row). (let es : Rows = (entry.0, r) ∷ entries in es)) (ap f same ∙ alike ∙ sym (ap g same))
    ∙ sym (cond-true (nat_eq meter entry.0) by_g (entry ∷ at_meter meter g entries) here))
    (λ other.
    let later : lookup (nat_eq meter) entries ≡ Some row = sym (cond-false (nat_eq meter entry.0) (Some entry.1) (lookup (nat_eq meter) entries) other) ∙ found in
    cond-false (nat_eq meter entry.0) by_f (entry ∷ at_meter meter f entries) other
    ∙ ap (λ (es : Rows). (let all : Rows = entry ∷ es in all)) (at_meter-alike meter f g entries row later alike)
    ∙ sym (cond-false (nat_eq meter entry.0) by_g (entry ∷ at_meter meter g entries) other))
    (cases_Bool (nat_eq meter entry.0))

pub either_way : {X E : Type 0} (r : Result X E) (P : Type 0) → IfOk r (λ _. P) → IfErr r (λ _. P) → P
either_way (Ok x) P h k = h
either_way (Err e) P h k = k

pub same_found : (key meter : ℕ) (rows : Rows) (a b : Row) → key ≡ meter → lookup (nat_eq key) rows ≡ Some a → lookup (nat_eq meter) rows ≡ Some b → a ≡ b
same_found key meter rows a b same first second = some_row a b (sym first ∙ ap (λ k. lookup (nat_eq k) rows) same ∙ second)

-- what is reported of the row that is found
pub own_of_row : (key meter : ℕ) (told : RowNews) (rows : Rows) (a b : Row) → key ≡ meter → lookup (nat_eq key) rows ≡ Some a → lookup (nat_eq meter) rows ≡ Some b → IsOwnNews a.client.meter a.name told → IsOwnNews b.client.meter b.name told
own_of_row key meter told rows a b same first second own =
    let P : Row → Type 0 = λ r. IsOwnNews r.client.meter r.name told in
    subst P (same_found key meter rows a b same first second) own
