-- A row that ends is marked in the book and taken out: that keeps a head end.
use Rattle.std.proofs.Common.{◌≡◌, ℕ, ◌==◌, false, Option, Some, None, Result, Ok, Err, IfOk, IsOk, refl, sym, ap, subst, ◌∙◌, ⊎_elim}
use Rattle.std.proofs.lemmas.Bool.{cases_Bool, false≢true}
use Rattle.std.proofs.lemmas.Bool.Decides.{Decides-eqb}
use Rattle.fw_names.specs.Name.{Campaign}
use Rattle.fw_book.specs.declared.row.RowState.{RowState}
use Rattle.fw_book.specs.declared.row.RowState.TheVariants.{Live}
use Rattle.fw_book.specs.Rows.{is_live}
use Rattle.fw_book.specs.Contents.{Contents, state_in}
use Rattle.fw_book.specs.Changes.{marked}
use Rattle.fw_book.specs.Laws.{ImagesStay, StatesFollowCalls}
use Rattle.fw_head.specs.Row.{Row}
use Rattle.fw_head.specs.Head.{Rows, row_of, without_meter, IsHead}
use Rattle.fw_head.proofs.LiveRows.{same_found}
use Rattle.fw_head.proofs.Ended.{left_without, elsewhere, taken_out}
use Rattle.fw_head.proofs.Names.{mark_name}
use Rattle.fw_head.proofs.States.{state_stays, marked_ends, row_stays}

none_some : (row : Row) → (let o : Option Row = None in o ≡ Some row) → ⊥
none_some row e = cc

module _ (follow : StatesFollowCalls) (stay : ImagesStay) where
  -- no campaign has the meter live then
  not_live : (book : Contents) (width : ℕ) (rows : Rows) (meter : ℕ) (row : Row) (serial : ℕ) (state : RowState) (c : Campaign) → is_live state ≡ false → row_of rows meter ≡ Some row → serial ≡ row.name.campaign.serial → IsHead (record { book = book; width = width; rows = rows }) → ¬ (state_in (marked book serial meter state) c meter ≡ Some Live)
  not_live book width rows meter row serial state c ended found of is live =
      let before = marked_ends follow book serial meter state c ended live in
      let was = is.of_rows c meter before.1 in
      let same : was.0 ≡ row = same_found meter meter rows was.0 row refl was.1 found in
      before.0 (ap (λ (x : Campaign). x.serial) (sym was.2) ∙ ap (λ (r : Row). r.name.campaign.serial) same ∙ sym of)

  pub head_ended : (book : Contents) (width : ℕ) (rows : Rows) (meter : ℕ) (row : Row) (serial : ℕ) (state : RowState) → is_live state ≡ false → row_of rows meter ≡ Some row → serial ≡ row.name.campaign.serial → IsHead (record { book = book; width = width; rows = rows }) → IsHead (record { book = marked book serial meter state; width = width; rows = without_meter meter rows })
  head_ended book width rows meter row serial state ended found of is = record {
    of_book = λ m r at.
        ⊎_elim
        (λ here.
        let same : m ≡ meter = (Decides-eqb m meter).0 here in
        absurd (none_some r (sym (taken_out meter rows is.once) ∙ ap (λ n. row_of (without_meter meter rows) n) (sym same) ∙ at)))
        (λ other.
        let apart : ¬ (m ≡ meter) = λ same. false≢true (sym other ∙ (Decides-eqb m meter).1 same) in
        row_stays book (marked book serial meter state) m r (state_stays follow book serial meter state r.name.campaign m apart) ((stay book r.name.campaign).at_mark serial meter state)
        (mark_name book serial meter state r.name.campaign) (is.of_book m r (sym (elsewhere meter m rows is.once apart) ∙ at)))
        (cases_Bool (m == meter));
    of_rows = λ c m live.
        ⊎_elim
        (λ here.
        let same : m ≡ meter = (Decides-eqb m meter).0 here in
        absurd (not_live book width rows meter row serial state c ended found of is (ap (λ n. state_in (marked book serial meter state) c n) (sym same) ∙ live)))
        (λ other.
        let apart : ¬ (m ≡ meter) = λ same. false≢true (sym other ∙ (Decides-eqb m meter).1 same) in
        let was = is.of_rows c m (sym (state_stays follow book serial meter state c m apart) ∙ live) in
        (was.0, elsewhere meter m rows is.once apart ∙ was.1, was.2))
        (cases_Bool (m == meter));
    once = (left_without meter rows is.once).once;
  }

  -- the same for a book and rows that equal these
  pub head_ended_by : (book new : Contents) (width : ℕ) (rows left : Rows) (meter : ℕ) (row : Row) (serial : ℕ) (state : RowState) → is_live state ≡ false → row_of rows meter ≡ Some row → serial ≡ row.name.campaign.serial → new ≡ marked book serial meter state → left ≡ without_meter meter rows → IsHead (record { book = book; width = width; rows = rows }) → IsHead (record { book = new; width = width; rows = left })
  head_ended_by book new width rows left meter row serial state ended found of mark out is =
      let P : Contents → Type 0 = λ b. IsHead (record { book = b; width = width; rows = left }) in
      let Q : Rows → Type 0 = λ rs. IsHead (record { book = marked book serial meter state; width = width; rows = rs }) in
      subst P (sym mark) (subst Q (sym out) (head_ended book width rows meter row serial state ended found of is))

pub of_ok : {X E : Type 0} (r : Result X E) (P : Type 0) → IsOk r → IfOk r (λ _. P) → P
of_ok (Ok x) P is h = h
of_ok (Err e) P is h = absurd (false≢true is)
