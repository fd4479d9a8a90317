-- Lists that are compared place by place, and the live rows of two head ends.
use Rattle.std.proofs.Common.{◌≡◌, ℕ, zero, suc, ◌<◌, Bool, true, false, MatchBool, IsTrue, List, [], ◌∷◌, length, map, slice_get, slice_index_or, Option, Some, None, nat_eq, refl, sym, ap, subst, ◌∙◌, arith, All}
use Rattle.std.specs.List.{AllWithin, AllZip, Any, Contains, HoldsAt, zip}
use Rattle.std.specs.Map.{values_of}
use Rattle.std.specs.Option.{option_map}
use Rattle.std.proofs.lemmas.Bool.{false≢true}
use Rattle.std.proofs.lemmas.Cmp.{nat_eq_equiv}
use Rattle.std.proofs.lemmas.List.{get_or-map, length-map}
use Rattle.std.proofs.lemmas.List.Elements.{All-nil, All-cons, All-head, All-tail, All-contains_itself, All-from_all_within}
use Rattle.std.proofs.lemmas.Map.Entries.{lookup_head, lookup_tail, lookup_from_place}
use Rattle.std.proofs.lemmas.Option.{slice_get-get_or}
use Rattle.fw_book.specs.declared.row.RowState.TheVariants as state
use Rattle.fw_book.specs.Contents.{Contents, state_in}
use Rattle.fw_book.specs.declared.phase.Phase.{Phase}
use Rattle.fw_head.specs.Head.{Head, IsHead, Rows, AreRowsOf, row_of}
use Rattle.fw_head.specs.Phase.{phase_of}
use Rattle.fw_head.specs.Row.{Row}
use Rattle.fw_world.specs.Parts.{head_behind}
use Rattle.fw_air.specs.Audits.{IsSameHead, AreSameHeads}
use Rattle.fw_air.specs.Private.{IsInPhase}

-- ---- some element, and each

pub any_at : {X : Type 0} (P : X → Type 0) (xs : List X) (k : ℕ) → k < length xs → HoldsAt P xs k → Any P xs
any_at P [] k inside h = absurd (omega arith)
any_at P (x ∷ xs) zero inside h = (0, x, omega arith, refl, h x)
any_at P (x ∷ xs) (suc k) inside h =
    let more = any_at P xs k (omega arith) h in
    let below : more.0 < length xs = more.2 in
    (suc more.0, more.1, omega arith, more.3, more.4)

none_at : {X : Type 0} (P : X → Type 0) (xs : List X) (k : ℕ) → k < length xs → HoldsAt (λ x. ¬ P x) xs k → All P xs → ⊥
none_at P xs k inside h all =
    let other = any_at (λ x. ¬ P x) xs k inside h in
    other.4 (subst P other.3 (all other.0 other.1 other.2))

pub any_iff : {X : Type 0} (P : X → Type 0) (r : Bool) (xs : List X) → MatchBool r ((k : ℕ) × (k < length xs) × HoldsAt P xs k) (AllWithin (λ x. ¬ P x) xs 0 (length xs)) → (IsTrue r → Any P xs) × (Any P xs → IsTrue r)
any_iff P true xs h = (λ e. any_at P xs h.0 h.1 h.2, λ a. refl)
any_iff P false xs h = (λ e. absurd (false≢true e), λ a. absurd (h a.0 a.1 (omega arith) a.2 (subst P (sym a.3) a.4)))

pub all_iff : {X : Type 0} (P : X → Type 0) (r : Bool) (xs : List X) → MatchBool r (AllWithin P xs 0 (length xs)) ((k : ℕ) × (k < length xs) × HoldsAt (λ x. ¬ P x) xs k) → (IsTrue r → All P xs) × (All P xs → IsTrue r)
all_iff P true xs h = (λ e. All-from_all_within P xs h, λ a. refl)
all_iff P false xs h = (λ e. absurd (false≢true e), λ a. absurd (none_at P xs h.0 h.1 h.2 a))

-- ---- two lists, place by place

zip_all : {A B : Type 0} (R : A → B → Type 0) (xs : List A) (ys : List B) → length xs ≡ length ys → All (λ (p : A × B). R p.0 p.1) (zip xs ys) → AllZip R xs ys
zip_all R [] [] e h = tt
zip_all R [] (y ∷ ys) e h = absurd (omega arith)
zip_all R (x ∷ xs) [] e h = absurd (omega arith)
zip_all {A} {B} R (x ∷ xs) (y ∷ ys) e h =
    let P : A × B → Type 0 = λ p. R p.0 p.1 in
    (All-head P (x, y) (zip xs ys) h, zip_all R xs ys (omega arith) (All-tail P (x, y) (zip xs ys) h))

all_zip : {A B : Type 0} (R : A → B → Type 0) (xs : List A) (ys : List B) → AllZip R xs ys → All (λ (p : A × B). R p.0 p.1) (zip xs ys)
all_zip R [] [] h = All-nil _
all_zip R [] (y ∷ ys) h = absurd h
all_zip R (x ∷ xs) [] h = absurd h
all_zip {A} {B} R (x ∷ xs) (y ∷ ys) h =
    let P : A × B → Type 0 = λ p. R p.0 p.1 in
    All-cons P (x, y) (zip xs ys) h.0 (all_zip R xs ys h.1)

pub zipped_iff : {A B : Type 0} (R : A → B → Type 0) (r : Bool) (xs : List A) (ys : List B) → length xs ≡ length ys
    → MatchBool r (AllWithin (λ (p : A × B). R p.0 p.1) (zip xs ys) 0 (length (zip xs ys))) ((k : ℕ) × (k < length (zip xs ys)) × HoldsAt (λ (p : A × B). ¬ R p.0 p.1) (zip xs ys) k)
    → (IsTrue r → AllZip R xs ys) × (AllZip R xs ys → IsTrue r)
zipped_iff {A} {B} R r xs ys same m =
    let P : A × B → Type 0 = λ p. R p.0 p.1 in
    let by = all_iff P r (zip xs ys) m in
    (λ e. zip_all R xs ys same (by.0 e), λ a. by.1 (all_zip R xs ys a))

pub behind : (ones others : List Head) → AllZip IsSameHead ones others → AreSameHeads (map head_behind ones) others
behind [] [] h = tt
behind [] (other ∷ others) h = absurd h
behind (one ∷ ones) [] h = absurd h
behind (one ∷ ones) (other ∷ others) h = (h.0, behind ones others h.1)

pub in_front : (ones others : List Head) → AreSameHeads (map head_behind ones) others → AllZip IsSameHead ones others
in_front [] [] h = tt
in_front [] (other ∷ others) h = absurd h
in_front (one ∷ ones) [] h = absurd h
in_front (one ∷ ones) (other ∷ others) h = (h.0, in_front ones others h.1)

-- ---- live rows

at_found_by : (P : Row → Type 0) (entry : ℕ × Row) (es : Rows) (m : ℕ) (row : Row) (b : Bool) → nat_eq m entry.0 ≡ b → row_of (entry ∷ es) m ≡ Some row → P entry.1 → (row_of es m ≡ Some row → P row) → P row
at_found_by P entry es m row true is found here there =
    let both : Some entry.1 ≡ Some row = sym (lookup_head (nat_eq m) entry es is) ∙ found in
    let same : entry.1 ≡ row = cc in
    subst P same here
at_found_by P entry es m row false is found here there = there (sym (lookup_tail (nat_eq m) entry es is) ∙ found)

-- what holds of each live row holds of a meter's
at_found : (P : Row → Type 0) (rows : Rows) (m : ℕ) (row : Row) → row_of rows m ≡ Some row → All P (values_of rows) → P row
at_found P [] m row found all = absurd cc
at_found P (entry ∷ es) m row found all =
    at_found_by P entry es m row (nat_eq m entry.0) refl found (All-head P entry.1 (values_of es) all) (λ later. at_found P es m row later (All-tail P entry.1 (values_of es) all))

-- each live row is that of its meter
own_row : (book : Contents) (rows : Rows) → AreRowsOf book rows → All (λ row. row_of rows row.client.meter ≡ Some row) (values_of rows)
own_row book rows are k d inside =
    let value_in : ℕ × Row → Row = λ e. e.1 in
    let long = length-map rows value_in in
    let within : k < length rows = omega (arith, long, inside) in
    let entry : ℕ × Row = slice_index_or rows k (0, d) in
    let there : slice_get rows k ≡ Some entry = slice_get-get_or rows k (0, d) within in
    let value : slice_index_or (values_of rows) k d ≡ entry.1 = get_or-map value_in rows k (0, d) d within in
    let found : row_of rows entry.0 ≡ Some entry.1 = lookup_from_place nat_eq_equiv rows k entry.0 entry.1 are.once there in
    let own : entry.1.client.meter ≡ entry.0 = (are.of_book entry.0 entry.1 found).asks in
    subst (λ (row : Row). row_of rows row.client.meter ≡ Some row) (sym value) (subst (λ m. row_of rows m ≡ Some entry.1) (sym own) found)

own_at : (book : Contents) (rows : Rows) (row : Row) → AreRowsOf book rows → Contains (values_of rows) row → row_of rows row.client.meter ≡ Some row
own_at book rows row are among = subst (λ (r : Row). row_of rows r.client.meter ≡ Some r) among.2 (own_row book rows are among.0 row among.1)

abbrev phase_in : Option Row → Option Phase
phase_in o = option_map (λ (row : Row). phase_of row.stage) o

module _ (one other : Head) (own : IsHead one) (theirs : IsHead other) where
  phases_by : one.book ≡ other.book → All (λ row. Any (IsInPhase row) (values_of other.rows)) (values_of one.rows) → (m : ℕ) (a b : Option Row) → row_of one.rows m ≡ a → row_of other.rows m ≡ b → phase_in a ≡ phase_in b
  phases_by book all m None None here there = refl
  phases_by book all m None (Some row) here there =
      let live : state_in one.book row.name.campaign m ≡ Some state.Live = subst (λ (b : Contents). state_in b row.name.campaign m ≡ Some state.Live) (sym book) (theirs.of_book m row there).live in
      let mine = own.of_rows row.name.campaign m live in
      let both : None ≡ Some mine.0 = sym here ∙ mine.1 in
      absurd cc
  phases_by book all m (Some row) b here there =
      let like = at_found (λ row. Any (IsInPhase row) (values_of other.rows)) one.rows m row here all in
      let found : row_of other.rows like.1.client.meter ≡ Some like.1 = own_at other.book other.rows like.1 theirs (like.0, like.2, like.3) in
      let of_it : like.1.client.meter ≡ m = sym like.4.meter ∙ (own.of_book m row here).asks in
      let same : Some like.1 ≡ b = sym (subst (λ n. row_of other.rows n ≡ Some like.1) of_it found) ∙ there in
      ap (λ p. Some p) like.4.phase ∙ ap phase_in same

  phases_from_all : one.book ≡ other.book → All (λ row. Any (IsInPhase row) (values_of other.rows)) (values_of one.rows) → IsSameHead one other
  phases_from_all book all = record { book = book; phases = λ m. phases_by book all m (row_of one.rows m) (row_of other.rows m) refl refl }

  like_by : (row : Row) (b : Option Row) → row_of other.rows row.client.meter ≡ b → phase_in (Some row) ≡ phase_in b → Any (IsInPhase row) (values_of other.rows)
  like_by row None there same = absurd cc
  like_by row (Some like) there same =
      let among = at_found (Contains (values_of other.rows)) other.rows row.client.meter like there (All-contains_itself (values_of other.rows)) in
      let phases : phase_of row.stage ≡ phase_of like.stage = cc in
      (among.0, like, among.1, among.2, record { meter = sym (theirs.of_book row.client.meter like there).asks; phase = phases })

  all_from_phases : IsSameHead one other → All (λ row. Any (IsInPhase row) (values_of other.rows)) (values_of one.rows)
  all_from_phases same k d inside =
      let row : Row = slice_index_or (values_of one.rows) k d in
      let mine : row_of one.rows row.client.meter ≡ Some row = own_row one.book one.rows own k d inside in
      like_by row (row_of other.rows row.client.meter) refl (sym (ap phase_in mine) ∙ same.phases row.client.meter)

  pub same_head_iff : (r : Bool) (rows others : List Row) → one.book ≡ other.book → rows ≡ values_of one.rows → others ≡ values_of other.rows
      → (IsTrue r → All (λ row. Any (IsInPhase row) others) rows) × (All (λ row. Any (IsInPhase row) others) rows → IsTrue r)
      → (IsTrue r → IsSameHead one other) × (IsSameHead one other → IsTrue r)
  same_head_iff r rows others book are_rows are_others by =
      let P : List Row → List Row → Type 0 = λ xs ys. All (λ row. Any (IsInPhase row) ys) xs in (
        λ e. phases_from_all book (subst (λ xs. P xs (values_of other.rows)) are_rows (subst (P rows) are_others (by.0 e))),
        λ same. by.1 (subst (P rows) (sym are_others) (subst (λ xs. P xs (values_of other.rows)) (sym are_rows) (all_from_phases same))),
      )
