-- The names under which campaigns offer their images stay.
use Rattle.std.proofs.Common.{◌≡◌, ℕ, ◌==◌, nat_eq, Bool, true, false, cond, is_some, List, [], ◌∷◌, ◌++◌, map, Option, Some, None, option_map, refl, sym, ap, ◌∙◌}
use Rattle.std.specs.Map.{lookup}
use Rattle.std.proofs.lemmas.Bool.{cond_both, cond-true, false≢true}
use Rattle.std.proofs.lemmas.Bool.Decides.{Decides-eqb}
use Rattle.fw_names.specs.Name.{Campaign, Name, name_of}
use Rattle.fw_book.specs.declared.row.Row as book_row
use Rattle.fw_book.specs.declared.row.RowState.{RowState}
use Rattle.fw_book.specs.Rows.{live_row, with_state, cancelled_rows}
use Rattle.fw_book.specs.Contents.{Contents, Offered, name_in, has_serial}
use Rattle.fw_book.specs.Changes.{opened, marked, cancelled, at_serial}

-- the name under which a campaign offers this
abbrev pub offer_name : Campaign → Option Offered → Option Name
offer_name c o = option_map (λ (offer : Offered). name_of c offer.release offer.image) o

-- ---- where rows change

same_here : (c : Campaign) (b : Bool) (rows : List book_row.Row) (o : Offered) (r : Option Offered)
    → offer_name c (cond b (Some (record { release = o.release; image = o.image; rows = rows })) r) ≡ offer_name c (cond b (Some o) r)
same_here c true rows o r = refl
same_here c false rows o r = refl

same_later : (c : Campaign) (b : Bool) (o : Offered) (r new : Option Offered) → offer_name c new ≡ offer_name c r → offer_name c (cond b (Some o) new) ≡ offer_name c (cond b (Some o) r)
same_later c true o r new same = refl
same_later c false o r new same = same

changed : (c : Campaign) (k serial : ℕ) (change : List book_row.Row → List book_row.Row) (entries : List (ℕ × Offered))
    → offer_name c (lookup (nat_eq k) (at_serial serial change entries)) ≡ offer_name c (lookup (nat_eq k) entries)
changed c k serial change [] = refl
changed c k serial change (entry ∷ entries) =
    let new : Offered = record { release = entry.1.release; image = entry.1.image; rows = change entry.1.rows } in
    cond_both (nat_eq serial entry.0) ((entry.0, new) ∷ entries) (entry ∷ at_serial serial change entries)
    (λ (es : List (ℕ × Offered)). offer_name c (lookup (nat_eq k) es) ≡ offer_name c (lookup (nat_eq k) (entry ∷ entries)))
    (λ here. same_here c (nat_eq k entry.0) (change entry.1.rows) entry.1 (lookup (nat_eq k) entries))
    (λ away. same_later c (nat_eq k entry.0) entry.1 (lookup (nat_eq k) entries) (lookup (nat_eq k) (at_serial serial change entries)) (changed c k serial change entries))

in_book : (c : Campaign) (b : Bool) (r new : Option Offered) → offer_name c new ≡ offer_name c r → offer_name c (cond b new None) ≡ offer_name c (cond b r None)
in_book c true r new same = same
in_book c false r new same = refl

pub mark_name : (book : Contents) (serial meter : ℕ) (state : RowState) (c : Campaign) → name_in (marked book serial meter state) c ≡ name_in book c
mark_name book serial meter state c =
    in_book c (c.head == book.head) (lookup (nat_eq c.serial) book.campaigns) (lookup (nat_eq c.serial) (marked book serial meter state).campaigns)
    (changed c c.serial serial (with_state meter state) book.campaigns)

pub cancel_name : (book : Contents) (serial : ℕ) (c : Campaign) → name_in (cancelled book serial) c ≡ name_in book c
cancel_name book serial c =
    in_book c (c.head == book.head) (lookup (nat_eq c.serial) book.campaigns) (lookup (nat_eq c.serial) (cancelled book serial).campaigns)
    (changed c c.serial serial cancelled_rows book.campaigns)

-- ---- at an opening

none_some : (c : Campaign) (name : Name) → offer_name c None ≡ Some name → ⊥
none_some c name e = cc

first_name : (c : Campaign) (b : Bool) (o : Offered) (r new : Option Offered) (name : Name) → (offer_name c r ≡ Some name → offer_name c new ≡ Some name) → offer_name c (cond b (Some o) r) ≡ Some name
    → offer_name c (cond b (Some o) new) ≡ Some name
first_name c true o r new name later e = e
first_name c false o r new name later e = later e

behind : (c : Campaign) (k : ℕ) (entries : List (ℕ × Offered)) (last : ℕ × Offered) (name : Name) → offer_name c (lookup (nat_eq k) entries) ≡ Some name → offer_name c (lookup (nat_eq k) (entries ++ last ∷ [])) ≡ Some name
behind c k [] last name e = absurd (none_some c name e)
behind c k (entry ∷ entries) last name e =
    first_name c (nat_eq k entry.0) entry.1 (lookup (nat_eq k) entries) (lookup (nat_eq k) (entries ++ last ∷ [])) name (behind c k entries last name) e

opened_book : (c : Campaign) (b : Bool) (r new : Option Offered) (name : Name) → (offer_name c r ≡ Some name → offer_name c new ≡ Some name) → offer_name c (cond b r None) ≡ Some name → offer_name c (cond b new None) ≡ Some name
opened_book c true r new name grows e = grows e
opened_book c false r new name grows e = absurd (none_some c name e)

-- what had a name has it still
pub old_name : (book : Contents) (serial release : ℕ) (image meters : List ℕ) (c : Campaign) (name : Name) → name_in book c ≡ Some name → name_in (opened book serial release image meters) c ≡ Some name
old_name book serial release image meters c name e =
    opened_book c (c.head == book.head) (lookup (nat_eq c.serial) book.campaigns) (lookup (nat_eq c.serial) (opened book serial release image meters).campaigns) name
    (behind c c.serial book.campaigns (serial, record { release = release; image = image; rows = map live_row meters }) name) e

found_last : (k : ℕ) (entries : List (ℕ × Offered)) (offer : Offered) → is_some (lookup (nat_eq k) entries) ≡ false → lookup (nat_eq k) (entries ++ (k, offer) ∷ []) ≡ Some offer
found_last k [] offer none = cond-true (nat_eq k k) (Some offer) None ((Decides-eqb k k).1 refl)
found_last k (entry ∷ entries) offer none = go (nat_eq k entry.0) (lookup (nat_eq k) entries) none (found_last k entries offer)
  where
    go : (b : Bool) (r : Option Offered) → is_some (cond b (Some entry.1) r) ≡ false → (is_some r ≡ false → lookup (nat_eq k) (entries ++ (k, offer) ∷ []) ≡ Some offer)
        → cond b (Some entry.1) (lookup (nat_eq k) (entries ++ (k, offer) ∷ [])) ≡ Some offer
    go true r none later = absurd (false≢true (sym none))
    go false r none later = later none

-- and the new campaign has its own
pub new_name : (book : Contents) (campaign : Campaign) (release : ℕ) (image meters : List ℕ) → campaign.head ≡ book.head → has_serial book campaign.serial ≡ false
    → name_in (opened book campaign.serial release image meters) campaign ≡ Some (name_of campaign release image)
new_name book campaign release image meters own new =
    let offer : Offered = record { release = release; image = image; rows = map live_row meters } in
    ap (offer_name campaign)
    (cond-true (campaign.head == book.head) (lookup (nat_eq campaign.serial) (opened book campaign.serial release image meters).campaigns) None ((Decides-eqb campaign.head book.head).1 own)
    ∙ found_last campaign.serial book.campaigns offer new)
