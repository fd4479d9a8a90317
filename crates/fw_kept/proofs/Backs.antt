-- That what a power cut leaves offers what the book in memory does.
use Rattle.std.proofs.Common.{◌≡◌, ◌⊎◌, ⊎_elim, ℕ, ◌≤◌, List, [], ◌∷◌, ◌++◌, Option, Some, None, Bool, true, false, cond, eqb, nat_eq, map, sym, subst}
use Rattle.std.specs.Map.{lookup}
use Rattle.fw_book.specs.Contents.{Offered, Contents}
use Rattle.fw_book.specs.Changes.{opened, cancelled}
use Rattle.fw_book.specs.Rows.{live_row, cancelled_rows}
use Rattle.fw_journal.specs.Device.{LeavesOnly}
use Rattle.fw_kept.specs.Kept.{HasBook}
use Rattle.fw_kept.specs.Head.{OfferSame, OffersAlso, HasOffers, IsBacked, Holds}
use Rattle.fw_kept.specs.declared.head.KeptHead.{KeptHead}
use Rattle.fw_kept.proofs.Books.{left_has}
use Rattle.fw_kept.proofs.Heads.{shown_of, shown_at, same_also, change_offers}

-- ---- what a call adds to what is offered

or_later : (b : Bool) (o : Offered) (r more : Option Offered) (shown : ℕ × List ℕ) → (shown_of r ≡ Some shown → shown_of more ≡ Some shown) → shown_of (cond b (Some o) r) ≡ Some shown → shown_of (cond b (Some o) more) ≡ Some shown
or_later true o r more shown later is = is
or_later false o r more shown later is = later is

added_shows : (k : ℕ) (entries more : List (ℕ × Offered)) (shown : ℕ × List ℕ) → shown_at k entries ≡ Some shown → shown_at k (entries ++ more) ≡ Some shown
added_shows k [] more shown is = absurd (cc is)
added_shows k (entry ∷ entries) more shown is =
    or_later (nat_eq k entry.0) entry.1 (lookup (nat_eq k) entries) (lookup (nat_eq k) (entries ++ more)) shown (added_shows k entries more shown) is

own_later : (b : Bool) (r more : Option Offered) (shown : ℕ × List ℕ) → (shown_of r ≡ Some shown → shown_of more ≡ Some shown) → shown_of (cond b r None) ≡ Some shown → shown_of (cond b more None) ≡ Some shown
own_later true r more shown later is = later is
own_later false r more shown later is = is

pub opened_also : (book : Contents) (serial release : ℕ) (image meters : List ℕ) → OffersAlso book (opened book serial release image meters)
opened_also book serial release image meters campaign shown is =
    let next = opened book serial release image meters in
    own_later (eqb campaign.head book.head) (lookup (nat_eq campaign.serial) book.campaigns) (lookup (nat_eq campaign.serial) next.campaigns) shown
    (added_shows campaign.serial book.campaigns ((serial, record { release = release; image = image; rows = map live_row meters }) ∷ []) shown) is

pub cancelled_also : (book : Contents) (serial : ℕ) → OffersAlso book (cancelled book serial)
cancelled_also book serial = same_also book (cancelled book serial) (λ campaign. sym (change_offers book serial cancelled_rows campaign))

pub also_on : (a b c : Contents) → OffersAlso a b → OffersAlso b c → OffersAlso a c
also_on a b c first second = λ campaign shown is. second campaign shown (first campaign shown is)

-- ---- what a power cut leaves

-- a cut after the call left one of two books
pub either_has : (book synced next : Contents) (left : List ℕ) → OffersAlso book synced → OffersAlso book next → HasBook book.head left synced ⊎ HasBook book.head left next → HasOffers book left
either_has book synced next left first second has =
    ⊎_elim (λ is. record { other = synced; has = is; also = first }) (λ is. record { other = next; has = is; also = second }) has

-- the bytes offer what a book does that offers the same
pub offers_back : (book later : Contents) (left : List ℕ) → later.head ≡ book.head → OfferSame later book → HasOffers book left → HasOffers later left
offers_back book later left number same has = record {
  other = has.other;
  has = subst (λ (n : ℕ). HasBook n left has.other) (sym number) has.has;
  also = also_on later book has.other (same_also later book same) has.also;
}

module _ {D : Type 0} (moment : D → ℕ) (left_since : D → ℕ → List ℕ → Type 0) (may_leave : D → List ℕ → Type 0) where
  pub left_is : ((device : D) (since : ℕ) (left : List ℕ) → since ≤ moment device → may_leave device left → left_since device since left)
      → (old new : D) (P : List ℕ → Type 0) → LeavesOnly moment left_since old new P → (left : List ℕ) → may_leave new left → P left
  left_is counts old new P leaves left now = leaves.each left (counts new (moment old) left leaves.later now)

module _ {D : Type 0} (honest : D → Bool) (contents : D → List ℕ) (may_leave : D → List ℕ → Type 0) where
  pub holds_backs : (kept : KeptHead D) (synced : Contents) → Holds honest contents may_leave kept synced → IsBacked may_leave kept
  holds_backs kept synced holds left now = record {
    other = synced;
    has = left_has honest contents may_leave kept.head.book.head kept.journal synced kept.head.book holds.0 kept.notes holds.1.keeps left now;
    also = same_also kept.head.book synced holds.1.offers;
  }
