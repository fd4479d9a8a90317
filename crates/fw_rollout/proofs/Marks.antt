-- A mark in a book: the row has its state then, and a row that had ended keeps its own.
use Rattle.std.proofs.Common.{◌≡◌, ◌≢◌, ℕ, ◌==◌, nat_eq, Bool, true, false, cond, ◌⊎◌, inl, inr, Option, Some, None, option_map, refl, sym, ap, ◌∙◌, ⊎_elim}
use Rattle.std.specs.Map.{lookup}
use Rattle.std.specs.Option.{option_and_then}
use Rattle.std.proofs.lemmas.Bool.{cases_Bool, cond-true, cond-false, false≢true}
use Rattle.std.proofs.lemmas.Bool.Decides.{Decides-eqb}
use Rattle.fw_names.specs.Name.{Campaign}
use Rattle.fw_book.specs.declared.row.RowState.{RowState}
use Rattle.fw_book.specs.declared.row.RowState.TheVariants as state
use Rattle.fw_book.specs.Rows.{state_of}
use Rattle.fw_book.specs.Contents.{Contents, Offered, state_in}
use Rattle.fw_book.specs.Changes.{marked}
use Rattle.fw_book.specs.Laws.{StatesFollowCalls}

same_campaign : (a b : Campaign) → a.head ≡ b.head → a.serial ≡ b.serial → a ≡ b
same_campaign a b h s =
    let at_head : ℕ → Campaign = λ n. record { head = n; serial = a.serial } in
    let at_serial : ℕ → Campaign = λ n. record { head = b.head; serial = n } in
    ap at_head h ∙ ap at_serial s

either_campaign : (a b : Campaign) → (a ≡ b) ⊎ (a ≢ b)
either_campaign a b =
    ⊎_elim
    (λ serials.
    ⊎_elim
    (λ heads. inl (same_campaign a b ((Decides-eqb a.head b.head).0 heads) ((Decides-eqb a.serial b.serial).0 serials)))
    (λ away. inr (λ is. false≢true (sym away ∙ (Decides-eqb a.head b.head).1 (ap (λ (x : Campaign). x.head) is))))
    (cases_Bool (a.head == b.head)))
    (λ away. inr (λ is. false≢true (sym away ∙ (Decides-eqb a.serial b.serial).1 (ap (λ (x : Campaign). x.serial) is))))
    (cases_Bool (a.serial == b.serial))

none_live : (let o : Option RowState = None in o ≡ Some state.Live) → ⊥
none_live e = cc

same_state : (a b : RowState) → (let o : Option RowState = Some a in o ≡ Some b) → a ≡ b
same_state a b e = cc

-- only a campaign of the book's head end has states
of_head : (book : Contents) (c : Campaign) (m : ℕ) → state_in book c m ≡ Some state.Live → c.head ≡ book.head
of_head book c m live = go (c.head == book.head) refl live
  where
    go : (b : Bool) → (c.head == book.head) ≡ b → option_and_then (λ (offer : Offered). state_of offer.rows m) (cond b (lookup (nat_eq c.serial) book.campaigns) None) ≡ Some state.Live → c.head ≡ book.head
    go true is e = (Decides-eqb c.head book.head).0 is
    go false is e = absurd (none_live e)

module _ (follow : StatesFollowCalls) (book : Contents) (c : Campaign) (meter : ℕ) (new : RowState) (live : state_in book c meter ≡ Some state.Live) where
  -- the row of the meter has the new state
  pub mark_notes : state_in (marked book c.serial meter new) c meter ≡ Some new
  mark_notes =
      let goes = (follow book c (of_head book c meter live)).at_mark meter new in
      goes.own meter
      ∙ cond-true (meter == meter) (option_map (λ was. new) (state_in book c meter)) (state_in book c meter) ((Decides-eqb meter meter).1 refl)
      ∙ ap (λ (o : Option RowState). option_map (λ was. new) o) live

  -- a row that had ended is as it was
  pub mark_keeps : (x : Campaign) (m : ℕ) (s : RowState) → s ≢ state.Live → state_in book x m ≡ Some s → state_in (marked book c.serial meter new) x m ≡ Some s
  mark_keeps x m s ended is =
      let goes = (follow book c (of_head book c meter live)).at_mark meter new in
      ⊎_elim
      (λ own.
      ⊎_elim
      (λ here.
      let same : m ≡ meter = (Decides-eqb m meter).0 here in
      absurd (ended (same_state s state.Live (sym is ∙ ap (λ (y : Campaign). state_in book y m) own ∙ ap (λ (n : ℕ). state_in book c n) same ∙ live))))
      (λ away.
      ap (λ (y : Campaign). state_in (marked book c.serial meter new) y m) own ∙ goes.own m
      ∙ cond-false (m == meter) (option_map (λ was. new) (state_in book c m)) (state_in book c m) away
      ∙ ap (λ (y : Campaign). state_in book y m) (sym own) ∙ is)
      (cases_Bool (m == meter)))
      (λ other. goes.others x m other ∙ is)
      (either_campaign x c)
