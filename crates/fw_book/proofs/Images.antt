-- That the offered images stay.
use Rattle.std.proofs.Common.{◌≡◌, ◌≢◌, ℕ, Bool, true, false, eqb, nat_eq, cond, is_some, List, [], ◌∷◌, ◌++◌, map, Option, Some, None, refl, sym, ap, ◌∙◌, ⊎_elim}
use Rattle.std.specs.Map.{lookup}
use Rattle.std.specs.Option.{option_map}
use Rattle.std.proofs.lemmas.Bool.{false≢true, cases_Bool, false_from_ne_true, cond_both, cond-true, cond-false}
use Rattle.std.proofs.lemmas.Bool.Decides.{Decides-eqb}
use Rattle.fw_book.specs.declared.row.Row.{Row}
use Rattle.fw_book.specs.Rows.{live_row, with_state, cancelled_rows}
use Rattle.fw_names.specs.Name.{Campaign}
use Rattle.fw_book.specs.Contents.{Offered, Contents, image_in}
use Rattle.fw_book.specs.Changes.{opened, marked, cancelled, at_serial}
use Rattle.fw_book.specs.Laws.{ImagesStay, OpeningOffers}

abbrev image_of : Option Offered → Option (List ℕ)
image_of o = option_map (λ (offer : Offered). offer.image) o

abbrev image_at : ℕ → List (ℕ × Offered) → Option (List ℕ)
image_at serial entries = image_of (lookup (nat_eq serial) entries)

same_here : (b : Bool) (o o' : Offered) (r : Option Offered) → o'.image ≡ o.image → image_of (cond b (Some o') r) ≡ image_of (cond b (Some o) r)
same_here true o o' r e = ap (λ i. Some i) e
same_here false o o' r e = refl

same_later : (b : Bool) (o : Offered) (r r' : Option Offered) → image_of r' ≡ image_of r → image_of (cond b (Some o) r') ≡ image_of (cond b (Some o) r)
same_later true o r r' e = refl
same_later false o r r' e = e

changed_stays : (k serial : ℕ) (change : List Row → List Row) (entries : List (ℕ × Offered)) → image_at k (at_serial serial change entries) ≡ image_at k entries
changed_stays k serial change [] = refl
changed_stays k serial change (entry ∷ entries) =
    let new : Offered = record { release = entry.1.release; image = entry.1.image; rows = change entry.1.rows } in
    cond_both (eqb serial entry.0) ((entry.0, new) ∷ entries) (entry ∷ at_serial serial change entries)
    (λ (xs : List (ℕ × Offered)). image_at k xs ≡ image_at k (entry ∷ entries))
    (λ _. same_here (nat_eq k entry.0) entry.1 new (lookup (nat_eq k) entries) refl)
    (λ _. same_later (nat_eq k entry.0) entry.1 (lookup (nat_eq k) entries) (lookup (nat_eq k) (at_serial serial change entries)) (changed_stays k serial change entries))

-- a step that keeps what is found keeps what is found first
keeps_later : (b : Bool) (o : Offered) (r r' : Option Offered) (image : List ℕ) → (image_of r ≡ Some image → image_of r' ≡ Some image) → image_of (cond b (Some o) r) ≡ Some image → image_of (cond b (Some o) r') ≡ Some image
keeps_later true o r r' image step h = h
keeps_later false o r r' image step h = step h

no_image : (image : List ℕ) (o : Option (List ℕ)) → (let n : Option (List ℕ) = None in n) ≡ Some image → o ≡ Some image
no_image image o h = cc

added_stays : (k : ℕ) (entries : List (ℕ × Offered)) (entry : ℕ × Offered) (image : List ℕ) → image_at k entries ≡ Some image → image_at k (entries ++ entry ∷ []) ≡ Some image
added_stays k [] entry image h = no_image image (image_at k (entry ∷ [])) h
added_stays k (x ∷ xs) entry image h =
    keeps_later (nat_eq k x.0) x.1 (lookup (nat_eq k) xs) (lookup (nat_eq k) (xs ++ entry ∷ [])) image (added_stays k xs entry image) h

-- the same in a book, whose head end's number stays
in_book : (b : Bool) (r r' : Option Offered) (image : List ℕ) → (image_of r ≡ Some image → image_of r' ≡ Some image) → image_of (cond b r None) ≡ Some image → image_of (cond b r' None) ≡ Some image
in_book true r r' image step h = step h
in_book false r r' image step h = h

-- a change of rows leaves what the book offers
changed_in_book : (b : Bool) (r r' : Option Offered) → image_of r' ≡ image_of r → image_of (cond b r' None) ≡ image_of (cond b r None)
changed_in_book true r r' e = e
changed_in_book false r r' e = refl

pub images_stay : ImagesStay
images_stay book campaign = record {
  at_opening = λ serial release image other meters h.
      in_book (eqb campaign.head book.head) (lookup (nat_eq campaign.serial) book.campaigns) (lookup (nat_eq campaign.serial) (opened book serial release other meters).campaigns) image
      (added_stays campaign.serial book.campaigns (serial, record { release = release; image = other; rows = map live_row meters }) image) h;
  at_mark = λ serial meter state.
      changed_in_book (eqb campaign.head book.head) (lookup (nat_eq campaign.serial) book.campaigns) (lookup (nat_eq campaign.serial) (marked book serial meter state).campaigns)
      (changed_stays campaign.serial serial (with_state meter state) book.campaigns);
  at_cancelling = λ serial.
      changed_in_book (eqb campaign.head book.head) (lookup (nat_eq campaign.serial) book.campaigns) (lookup (nat_eq campaign.serial) (cancelled book serial).campaigns)
      (changed_stays campaign.serial serial cancelled_rows book.campaigns);
}

found_step : (b : Bool) (o : Offered) (r r' : Option Offered) (offer : Offered) → (is_some r ≡ false → r' ≡ Some offer) → is_some (cond b (Some o) r) ≡ false → cond b (Some o) r' ≡ Some offer
found_step true o r r' offer step h = absurd (false≢true (sym h))
found_step false o r r' offer step h = step h

pub found_last : (k : ℕ) (entries : List (ℕ × Offered)) (offer : Offered) → is_some (lookup (nat_eq k) entries) ≡ false → lookup (nat_eq k) (entries ++ (k, offer) ∷ []) ≡ Some offer
found_last k [] offer h = cond-true (nat_eq k k) (Some offer) None ((Decides-eqb k k).1 refl)
found_last k (x ∷ xs) offer h =
    found_step (nat_eq k x.0) x.1 (lookup (nat_eq k) xs) (lookup (nat_eq k) (xs ++ (k, offer) ∷ [])) offer (found_last k xs offer) h

-- of another serial number nothing else is found
pub passed_over : (j k : ℕ) (entries : List (ℕ × Offered)) (offer : Offered) → nat_eq j k ≡ false → lookup (nat_eq j) (entries ++ (k, offer) ∷ []) ≡ lookup (nat_eq j) entries
passed_over j k [] offer differ = cond-false (nat_eq j k) (Some offer) None differ
passed_over j k (x ∷ xs) offer differ = ap (λ (r : Option Offered). cond (nat_eq j x.0) (Some x.1) r) (passed_over j k xs offer differ)

pub same_campaign : (a b : Campaign) → a.head ≡ b.head → a.serial ≡ b.serial → a ≡ b
same_campaign a b heads serials =
    let at_head : ℕ → Campaign = λ n. record { head = n; serial = a.serial } in
    let at_serial : ℕ → Campaign = λ n. record { head = b.head; serial = n } in
    ap at_head heads ∙ ap at_serial serials

others_stay : (book : Contents) (campaign other : Campaign) (release : ℕ) (image meters : List ℕ) → campaign.head ≡ book.head → other ≢ campaign → image_in (opened book campaign.serial release image meters) other ≡ image_in book other
others_stay book campaign other release image meters same differs =
    let offer : Offered = record { release = release; image = image; rows = map live_row meters } in
    let before : Option Offered = lookup (nat_eq other.serial) book.campaigns in
    let after : Option Offered = lookup (nat_eq other.serial) (book.campaigns ++ (campaign.serial, offer) ∷ []) in
    ⊎_elim
    (λ here.
    let heads : other.head ≡ campaign.head = (Decides-eqb other.head book.head).0 here ∙ sym same in
    let serials : nat_eq other.serial campaign.serial ≡ false = false_from_ne_true _ (λ t. differs (same_campaign other campaign heads ((Decides-eqb other.serial campaign.serial).0 t))) in
    ap (λ (r : Option Offered). image_of (cond (eqb other.head book.head) r None)) (passed_over other.serial campaign.serial book.campaigns offer serials))
    (λ elsewhere.
    ap (λ b. image_of (cond b after None)) elsewhere ∙ sym (ap (λ b. image_of (cond b before None)) elsewhere))
    (cases_Bool (eqb other.head book.head))

pub opening_offers : OpeningOffers
opening_offers book campaign release image meters same new =
    let offer : Offered = record { release = release; image = image; rows = map live_row meters } in
    record {
      own = ap (λ o. image_of o)
          (cond-true (eqb campaign.head book.head) (lookup (nat_eq campaign.serial) (opened book campaign.serial release image meters).campaigns) None ((Decides-eqb campaign.head book.head).1 same)
          ∙ found_last campaign.serial book.campaigns offer new);
      others = λ other differs. others_stay book campaign other release image meters same differs;
    }
