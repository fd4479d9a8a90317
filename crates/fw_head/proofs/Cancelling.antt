-- A campaign is cancelled in the book, and its rows are taken out: that keeps a head end.
use Rattle.std.proofs.Common.{◌≡◌, ◌≢◌, ℕ, ◌==◌, nat_eq, not, Bool, true, false, [], ◌∷◌, Option, Some, None, refl, sym, ap, subst, ◌∙◌, ⊎_elim}
use Rattle.std.specs.List.{IsDistinct, AllByRecursion}
use Rattle.std.specs.Map.{lookup, keys_of}
use Rattle.std.proofs.lemmas.Map.Keys.{IsDistinct-head, IsDistinct-tail}
use Rattle.std.proofs.lemmas.Map.Made.{IsDistinct-keys_filter}
use Rattle.std.proofs.lemmas.Bool.{cases_Bool, cond-true, cond-false, false_from_ne_true, false≢true}
use Rattle.std.proofs.lemmas.Bool.Decides.{Decides-eqb}
use Rattle.fw_names.specs.Name.{Campaign}
use Rattle.fw_book.specs.Contents.{Contents}
use Rattle.fw_book.specs.Changes.{cancelled}
use Rattle.fw_book.specs.Laws.{ImagesStay, StatesFollowCalls}
use Rattle.fw_head.specs.Row.{Row}
use Rattle.fw_head.specs.Head.{Rows, row_of, without_serial, IsHead}
use Rattle.fw_head.proofs.LiveRows.{some_row}
use Rattle.fw_head.proofs.Names.{cancel_name}
use Rattle.fw_head.proofs.States.{cancelled_ends, elsewhere_stays, row_stays}

-- ---- in the live rows

abbrev is_of : ℕ → Row → Bool
is_of serial row = row.name.campaign.serial == serial

none_row : (row : Row) → (let o : Option Row = None in o ≡ Some row) → ⊥
none_row row e = cc

-- a meter that differs from all of them has no row
no_other : (meter : ℕ) (rows : Rows) → AllByRecursion (λ m. nat_eq meter m ≡ false) (keys_of rows) → row_of rows meter ≡ None
no_other meter [] apart = refl
no_other meter (entry ∷ entries) apart =
    cond-false (nat_eq meter entry.0) (Some entry.1) (lookup (nat_eq meter) entries) apart.0 ∙ no_other meter entries apart.1

dropped : (serial : ℕ) (entry : ℕ × Row) (entries : Rows) → is_of serial entry.1 ≡ true → without_serial serial (entry ∷ entries) ≡ without_serial serial entries
dropped serial entry entries here =
    let rest : Rows = without_serial serial entries in
    let kept : Rows = entry ∷ rest in
    cond-false (not (is_of serial entry.1)) kept rest (ap not here)

stays : (serial : ℕ) (entry : ℕ × Row) (entries : Rows) → is_of serial entry.1 ≡ false → without_serial serial (entry ∷ entries) ≡ entry ∷ without_serial serial entries
stays serial entry entries other =
    let rest : Rows = without_serial serial entries in
    let kept : Rows = entry ∷ rest in
    cond-true (not (is_of serial entry.1)) kept rest (ap not other)

-- a row that is left was there, and is of another campaign
was_there : (serial m : ℕ) (rows : Rows) (row : Row) → IsDistinct nat_eq (keys_of rows) → row_of (without_serial serial rows) m ≡ Some row → (row_of rows m ≡ Some row) × (is_of serial row ≡ false)
was_there serial m [] row once found = absurd (none_row row found)
was_there serial m (entry ∷ entries) row once found =
    let rest : Rows = without_serial serial entries in
    let tail = IsDistinct-tail nat_eq entry.0 (keys_of entries) once in
    ⊎_elim
    (λ here.
    let was = was_there serial m entries row tail (ap (λ (rs : Rows). row_of rs m) (sym (dropped serial entry entries here)) ∙ found) in
    let away : nat_eq m entry.0 ≡ false = false_from_ne_true (nat_eq m entry.0) (λ same.
    let none = ap (λ k. row_of entries k) ((Decides-eqb m entry.0).0 same) ∙ no_other entry.0 entries (IsDistinct-head nat_eq entry.0 (keys_of entries) once) in
    none_row row (sym none ∙ was.0)) in
    (cond-false (nat_eq m entry.0) (Some entry.1) (lookup (nat_eq m) entries) away ∙ was.0, was.1))
    (λ other.
    let now : row_of (entry ∷ rest) m ≡ Some row = ap (λ (rs : Rows). row_of rs m) (sym (stays serial entry entries other)) ∙ found in
    ⊎_elim
    (λ it.
    let same : entry.1 ≡ row = some_row entry.1 row (sym (cond-true (nat_eq m entry.0) (Some entry.1) (lookup (nat_eq m) rest) it) ∙ now) in (
      cond-true (nat_eq m entry.0) (Some entry.1) (lookup (nat_eq m) entries) it ∙ ap (λ (r : Row). (let o : Option Row = Some r in o)) same,
      ap (λ (r : Row). is_of serial r) (sym same) ∙ other,
    ))
    (λ away.
    let was = was_there serial m entries row tail (sym (cond-false (nat_eq m entry.0) (Some entry.1) (lookup (nat_eq m) rest) away) ∙ now) in
    (cond-false (nat_eq m entry.0) (Some entry.1) (lookup (nat_eq m) entries) away ∙ was.0, was.1))
    (cases_Bool (nat_eq m entry.0)))
    (cases_Bool (is_of serial entry.1))

-- a row of another campaign is left
is_left : (serial m : ℕ) (rows : Rows) (row : Row) → row_of rows m ≡ Some row → is_of serial row ≡ false → row_of (without_serial serial rows) m ≡ Some row
is_left serial m [] row found apart = absurd (none_row row found)
is_left serial m (entry ∷ entries) row found apart =
    let rest : Rows = without_serial serial entries in
    ⊎_elim
    (λ it.
    let first_is : row_of (entry ∷ entries) m ≡ Some entry.1 = cond-true (nat_eq m entry.0) (Some entry.1) (lookup (nat_eq m) entries) it in
    let same : entry.1 ≡ row = some_row entry.1 row (sym first_is ∙ found) in
    ap (λ (rs : Rows). row_of rs m) (stays serial entry entries (ap (λ (r : Row). is_of serial r) same ∙ apart))
    ∙ cond-true (nat_eq m entry.0) (Some entry.1) (lookup (nat_eq m) rest) it
    ∙ ap (λ (r : Row). (let o : Option Row = Some r in o)) same)
    (λ away.
    let later : row_of entries m ≡ Some row = sym (cond-false (nat_eq m entry.0) (Some entry.1) (lookup (nat_eq m) entries) away) ∙ found in
    ⊎_elim
    (λ here. ap (λ (rs : Rows). row_of rs m) (dropped serial entry entries here) ∙ is_left serial m entries row later apart)
    (λ other.
    ap (λ (rs : Rows). row_of rs m) (stays serial entry entries other)
    ∙ cond-false (nat_eq m entry.0) (Some entry.1) (lookup (nat_eq m) rest) away
    ∙ is_left serial m entries row later apart)
    (cases_Bool (is_of serial entry.1)))
    (cases_Bool (nat_eq m entry.0))

-- ---- the head end

module _ (follow : StatesFollowCalls) (stay : ImagesStay) where
  head_cancelled : (book : Contents) (width : ℕ) (rows : Rows) (serial : ℕ) → IsHead (record { book = book; width = width; rows = rows }) → IsHead (record { book = cancelled book serial; width = width; rows = without_serial serial rows })
  head_cancelled book width rows serial is = record {
    of_book = λ m row at.
        let was = was_there serial m rows row is.once at in
        let apart : row.name.campaign.serial ≢ serial = λ same. false≢true (sym was.1 ∙ (Decides-eqb row.name.campaign.serial serial).1 same) in
        row_stays book (cancelled book serial) m row (elsewhere_stays follow book serial row.name.campaign m apart) ((stay book row.name.campaign).at_cancelling serial)
        (cancel_name book serial row.name.campaign) (is.of_book m row was.0);
    of_rows = λ c m live.
        let before = cancelled_ends follow book serial c m live in
        let was = is.of_rows c m before.1 in
        let other : is_of serial was.0 ≡ false = false_from_ne_true (is_of serial was.0) (λ same. before.0 (ap (λ (x : Campaign). x.serial) (sym was.2) ∙ (Decides-eqb was.0.name.campaign.serial serial).0 same)) in
        (was.0, is_left serial m rows was.0 was.1 other, was.2);
    once = IsDistinct-keys_filter nat_eq (λ (entry : ℕ × Row). not (is_of serial entry.1)) rows is.once;
  }

  -- the same for a book and rows that equal these
  pub head_cancelled_by : (book new : Contents) (width : ℕ) (rows left : Rows) (serial : ℕ) → new ≡ cancelled book serial → left ≡ without_serial serial rows → IsHead (record { book = book; width = width; rows = rows }) → IsHead (record { book = new; width = width; rows = left })
  head_cancelled_by book new width rows left serial mark out is =
      let P : Contents → Type 0 = λ b. IsHead (record { book = b; width = width; rows = left }) in
      let Q : Rows → Type 0 = λ rs. IsHead (record { book = cancelled book serial; width = width; rows = rs }) in
      subst P (sym mark) (subst Q (sym out) (head_cancelled book width rows serial is))
