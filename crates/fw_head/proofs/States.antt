-- Which states in a book, and which offers, a call leaves as they are.
use Rattle.std.proofs.Common.{◌≡◌, ◌≢◌, ℕ, ◌==◌, nat_eq, Bool, true, false, cond, ◌⊎◌, inl, inr, List, length, Option, Some, None, option_map, refl, sym, ap, ◌∙◌, ⊎_elim}
use Rattle.std.specs.Map.{lookup}
use Rattle.std.specs.Option.{option_and_then}
use Rattle.std.proofs.lemmas.Bool.{cases_Bool, cond-true, cond-false, false_from_ne_true, false≢true}
use Rattle.std.proofs.lemmas.Bool.Decides.{Decides-eqb}
use Rattle.fw_names.specs.Name.{Campaign}
use Rattle.fw_book.specs.declared.row.RowState.{RowState}
use Rattle.fw_book.specs.declared.row.RowState.TheVariants.{Live, Done, Failed, Cancelled}
use Rattle.fw_book.specs.Rows.{is_live, state_of}
use Rattle.fw_book.specs.Contents.{Contents, Offered, image_in, name_in, state_in}
use Rattle.fw_book.specs.Changes.{marked, cancelled}
use Rattle.fw_book.specs.Laws.{StatesFollowCalls}
use Rattle.fw_head.specs.Row.{Row}
use Rattle.fw_head.specs.Head.{IsRowOf}

pub same_campaign : (a b : Campaign) → a.head ≡ b.head → a.serial ≡ b.serial → a ≡ b
same_campaign a b h s =
    let at_head : ℕ → Campaign = λ n. record { head = n; serial = a.serial } in
    let at_serial : ℕ → Campaign = λ n. record { head = b.head; serial = n } in
    ap at_head h ∙ ap at_serial s

-- a campaign of this book's head end, or another
pub either_campaign : (c : Campaign) (book : Contents) (serial : ℕ) → (c ≡ record { head = book.head; serial = serial }) ⊎ (c ≢ record { head = book.head; serial = serial })
either_campaign c book serial =
    ⊎_elim
    (λ serials.
    ⊎_elim
    (λ heads. inl (same_campaign c (record { head = book.head; serial = serial }) ((Decides-eqb c.head book.head).0 heads) ((Decides-eqb c.serial serial).0 serials)))
    (λ away. inr (λ is. false≢true (sym away ∙ (Decides-eqb c.head book.head).1 (ap (λ (x : Campaign). x.head) is))))
    (cases_Bool (c.head == book.head)))
    (λ away. inr (λ is. false≢true (sym away ∙ (Decides-eqb c.serial serial).1 (ap (λ (x : Campaign). x.serial) is))))
    (cases_Bool (c.serial == serial))

none_live : (let o : Option RowState = None in o ≡ Some Live) → ⊥
none_live e = cc

live_is : (s : RowState) → (let o : Option RowState = Some s in o ≡ Some Live) → s ≡ Live
live_is s e = cc

-- only a campaign of the book's head end has states
pub of_head : (book : Contents) (c : Campaign) (m : ℕ) → state_in book c m ≡ Some Live → c.head ≡ book.head
of_head book c m live = go (c.head == book.head) refl live
  where
    state_at : Option Offered → Option RowState
    state_at o = option_and_then (λ (offer : Offered). state_of offer.rows m) o

    go : (b : Bool) → (c.head == book.head) ≡ b → option_and_then (λ (offer : Offered). state_of offer.rows m) (cond b (lookup (nat_eq c.serial) book.campaigns) None) ≡ Some Live → c.head ≡ book.head
    go true is e = (Decides-eqb c.head book.head).0 is
    go false is e = absurd (none_live e)

module _ (follow : StatesFollowCalls) where
  -- a mark leaves every other meter's state
  pub state_stays : (book : Contents) (serial meter : ℕ) (state : RowState) (c : Campaign) (m : ℕ) → m ≢ meter → state_in (marked book serial meter state) c m ≡ state_in book c m
  state_stays book serial meter state c m apart =
      let own : Campaign = record { head = book.head; serial = serial } in
      let goes = (follow book own refl).at_mark meter state in
      let away : (m == meter) ≡ false = false_from_ne_true (m == meter) (λ same. apart ((Decides-eqb m meter).0 same)) in
      ⊎_elim
      (λ is.
      ap (λ x. state_in (marked book serial meter state) x m) is ∙ goes.own m
      ∙ cond-false (m == meter) (option_map (λ was. state) (state_in book own m)) (state_in book own m) away
      ∙ ap (λ x. state_in book x m) (sym is))
      (λ other. goes.others c m other)
      (either_campaign c book serial)

  -- the meter that is marked ended is live in no campaign except another one
  pub marked_ends : (book : Contents) (serial meter : ℕ) (state : RowState) (c : Campaign) → is_live state ≡ false → state_in (marked book serial meter state) c meter ≡ Some Live → (c.serial ≢ serial) × (state_in book c meter ≡ Some Live)
  marked_ends book serial meter state c ended live =
      let own : Campaign = record { head = book.head; serial = serial } in
      let goes = (follow book own refl).at_mark meter state in
      ⊎_elim
      (λ is.
      let now = sym (cond-true (meter == meter) (option_map (λ was. state) (state_in book own meter)) (state_in book own meter) ((Decides-eqb meter meter).1 refl))
      ∙ sym (goes.own meter) ∙ ap (λ x. state_in (marked book serial meter state) x meter) (sym is) ∙ live in
      absurd (not_live (state_in book own meter) now))
      (λ other.
      let was = sym (goes.others c meter other) ∙ live in
      (λ serials. other (same_campaign c own (of_head book c meter was) serials), was))
      (either_campaign c book serial)
    where
      not_live : (o : Option RowState) → option_map (λ was. state) o ≡ Some Live → ⊥
      not_live None e = none_live e
      not_live (Some s) e = false≢true (sym ended ∙ ap is_live (live_is state e))

  -- who is live once a campaign is cancelled is so in another campaign, and was before
  pub cancelled_ends : (book : Contents) (serial : ℕ) (c : Campaign) (m : ℕ) → state_in (cancelled book serial) c m ≡ Some Live → (c.serial ≢ serial) × (state_in book c m ≡ Some Live)
  cancelled_ends book serial c m live =
      let own : Campaign = record { head = book.head; serial = serial } in
      let goes = (follow book own refl).at_cancelling in
      ⊎_elim
      (λ is.
      absurd (not_live (state_in book own m) (sym (goes.own m) ∙ ap (λ x. state_in (cancelled book serial) x m) (sym is) ∙ live)))
      (λ other.
      let was = sym (goes.others c m other) ∙ live in
      (λ serials. other (same_campaign c own (of_head book c m was) serials), was))
      (either_campaign c book serial)
    where
      over : (s : RowState) → cond (is_live s) Cancelled s ≡ Live → ⊥
      over Live e = cc
      over Done e = cc
      over Failed e = cc
      over Cancelled e = cc

      not_live : (o : Option RowState) → option_map (λ was. cond (is_live was) Cancelled was) o ≡ Some Live → ⊥
      not_live None e = none_live e
      not_live (Some s) e = over s (live_is (cond (is_live s) Cancelled s) e)

  -- and every other campaign stays
  pub elsewhere_stays : (book : Contents) (serial : ℕ) (c : Campaign) (m : ℕ) → c.serial ≢ serial → state_in (cancelled book serial) c m ≡ state_in book c m
  elsewhere_stays book serial c m apart =
      (follow book (record { head = book.head; serial = serial }) refl).at_cancelling.others c m (λ is. apart (ap (λ (x : Campaign). x.serial) is))

-- a row's campaign has it live still, and offers what it offered, under the same name
pub row_stays : (before after : Contents) (m : ℕ) (row : Row) → state_in after row.name.campaign m ≡ state_in before row.name.campaign m → image_in after row.name.campaign ≡ image_in before row.name.campaign
    → name_in after row.name.campaign ≡ name_in before row.name.campaign → IsRowOf before m row → IsRowOf after m row
row_stays before after m row states images names is = record {
  asks = is.asks;
  live = states ∙ is.live;
  named = names ∙ is.named;
  sized = ap (λ (o : Option (List ℕ)). option_map length o) images ∙ is.sized;
  going = is.going;
}
