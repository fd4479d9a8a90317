-- Which books offer the same, and what hearing makes of the book of a head end.
use Rattle.std.proofs.Common.{◌≡◌, ⊎_elim, ℕ, List, [], ◌∷◌, Bool, true, false, cond, eqb, nat_eq, Option, Some, None, IsSome, option_map, option_and_then, Result, Ok, Err, OnOk, OnErr, IfOk, All, slice_index_or, refl, sym, ap, subst, ◌∙◌}
use Rattle.std.specs.Map.{lookup}
use Rattle.std.specs.Option.{option_map_or}
use Rattle.std.proofs.lemmas.Bool.{cond_both}
use Rattle.fw_names.specs.Name.{Campaign, Name, IsRelease, name_of}
use Rattle.fw_book.specs.declared.row.Row.{Row}
use Rattle.fw_book.specs.declared.row.RowState.{RowState}
use Rattle.fw_book.specs.declared.row.RowState.TheVariants as state
use Rattle.fw_book.specs.Rows.{state_of, with_state}
use Rattle.fw_book.specs.Contents.{Offered, Contents, offered_in}
use Rattle.fw_book.specs.Changes.{marked, at_serial}
use Rattle.fw_head.specs.declared.giving_up.GivenUp.{GivenUp}
use Rattle.fw_head.specs.declared.giving_up.WhyGivenUp.{WhyGivenUp}
use Rattle.fw_head.specs.declared.news.News.{News}
use Rattle.fw_head.specs.declared.news.News.TheVariants as news
use Rattle.fw_head.specs.declared.news.Told.{Told}
use Rattle.fw_head.specs.declared.news.RowNews.{RowNews}
use Rattle.fw_head.specs.declared.news.RowNews.TheVariants.{Nothing, Moved, Done, Failed}
use Rattle.fw_head.specs.Row as row
use Rattle.fw_head.specs.Row.{IsPermitted}
use Rattle.fw_head.specs.Head.{Head, IsHead, IsRowOf, GivesUpRow, HeadTakes, HeadHears, IsOfferedIn, went_on, news_of, ticked_head}
use Rattle.fw_head.specs.Laws.{RowKeepsGoal}
use Rattle.fw_kept.specs.Head.{OfferSame, OffersAlso}
use Rattle.fw_kept.specs.Private.{IsNewsOf, NewsMake}
use Rattle.fw_kept.proofs.Books.{live_admits}

-- ---- a mark leaves what is offered

abbrev pub shown_of : Option Offered → Option (ℕ × List ℕ)
shown_of o = option_map (λ (offer : Offered). (offer.release, offer.image)) o

abbrev pub shown_at : ℕ → List (ℕ × Offered) → Option (ℕ × List ℕ)
shown_at serial entries = shown_of (lookup (nat_eq serial) entries)

same_here : (b : Bool) (o o' : Offered) (r : Option Offered) → shown_of (Some o') ≡ shown_of (Some o) → shown_of (cond b (Some o') r) ≡ shown_of (cond b (Some o) r)
same_here true o o' r e = e
same_here false o o' r e = refl

same_later : (b : Bool) (o : Offered) (r r' : Option Offered) → shown_of r' ≡ shown_of r → shown_of (cond b (Some o) r') ≡ shown_of (cond b (Some o) r)
same_later true o r r' e = refl
same_later false o r r' e = e

changed_shows : (k serial : ℕ) (change : List Row → List Row) (entries : List (ℕ × Offered)) → shown_at k (at_serial serial change entries) ≡ shown_at k entries
changed_shows k serial change [] = refl
changed_shows k serial change (entry ∷ entries) =
    let new : Offered = record { release = entry.1.release; image = entry.1.image; rows = change entry.1.rows } in
    cond_both (eqb serial entry.0) ((entry.0, new) ∷ entries) (entry ∷ at_serial serial change entries)
    (λ (xs : List (ℕ × Offered)). shown_at k xs ≡ shown_at k (entry ∷ entries))
    (λ _. same_here (nat_eq k entry.0) entry.1 new (lookup (nat_eq k) entries) refl)
    (λ _. same_later (nat_eq k entry.0) entry.1 (lookup (nat_eq k) entries) (lookup (nat_eq k) (at_serial serial change entries)) (changed_shows k serial change entries))

in_book : (b : Bool) (r r' : Option Offered) → shown_of r' ≡ shown_of r → shown_of (cond b r' None) ≡ shown_of (cond b r None)
in_book true r r' e = e
in_book false r r' e = refl

pub change_offers : (book : Contents) (serial : ℕ) (change : List Row → List Row) → OfferSame (record { head = book.head; campaigns = at_serial serial change book.campaigns }) book
change_offers book serial change campaign =
    in_book (eqb campaign.head book.head) (lookup (nat_eq campaign.serial) book.campaigns) (lookup (nat_eq campaign.serial) (at_serial serial change book.campaigns))
    (changed_shows campaign.serial serial change book.campaigns)

pub mark_offers : (book : Contents) (serial meter : ℕ) (new : RowState) → OfferSame (marked book serial meter new) book
mark_offers book serial meter new = change_offers book serial (with_state meter new)

-- ---- what one book offers, the other does

record Shows (o : Option Offered) (x : Offered) : Type 0 where
  pub offer : Offered
  pub found : o ≡ Some offer
  pub release : offer.release ≡ x.release
  pub image : offer.image ≡ x.image

shows : (o : Option Offered) (x : Offered) → shown_of (Some x) ≡ shown_of o → Shows o x
shows None x e = absurd (cc e)
shows (Some y) x e = record {
  offer = y;
  found = refl;
  release = ap (λ (o : Option (ℕ × List ℕ)). option_map_or (λ (p : ℕ × List ℕ). p.0) o 0) (sym e);
  image = ap (λ (o : Option (ℕ × List ℕ)). option_map_or (λ (p : ℕ × List ℕ). p.1) o []) (sym e);
}

pub same_also : (a b : Contents) → OfferSame a b → OffersAlso a b
same_also a b same = λ campaign shown is. sym (same campaign) ∙ is

also_offered : (a b : Contents) (datagram : List ℕ) → OffersAlso a b → IsOfferedIn a datagram → IsOfferedIn b datagram
also_offered a b datagram also is =
    let there = also is.campaign (is.offer.release, is.offer.image) (ap (λ (o : Option Offered). shown_of o) is.offered) in
    let s = shows (offered_in b is.campaign) is.offer (sym there) in
    record {
      campaign = is.campaign;
      offer = s.offer;
      offered = s.found;
      is_release = subst (λ (r : ℕ). IsRelease is.campaign r) (sym s.release) is.is_release;
      permitted = subst (λ (r : ℕ). IsPermitted (name_of is.campaign r s.offer.image) s.offer.image datagram) (sym s.release)
          (subst (λ (i : List ℕ). IsPermitted (name_of is.campaign is.offer.release i) i datagram) (sym s.image) is.permitted);
    }

pub all_offered : (a b : Contents) (sent : List (List ℕ)) → OffersAlso a b → All (IsOfferedIn a) sent → All (IsOfferedIn b) sent
all_offered a b sent also all = λ k d within. also_offered a b (slice_index_or sent k d) also (all k d within)

pub if_ok : {T E : Type 0} (r : Result T E) (P Q : T → Type 0) → ((x : T) → P x → Q x) → IfOk r P → IfOk r Q
if_ok (Ok x) P Q implies is = implies x is
if_ok (Err e) P Q implies is = tt

-- ---- a tick leaves the book

pub ticked_book : {T E : Type 0} (r : Result T E) (old new : Head) (meter : ℕ) → OnOk r (new ≡ ticked_head old meter) → OnErr r (new ≡ old) → new.book ≡ old.book
ticked_book (Ok x) old new meter ticked same = ap (λ (h : Head). h.book) ticked
ticked_book (Err e) old new meter ticked same = ap (λ (h : Head). h.book) same

-- ---- what hearing makes of the book

some_of : (o o' : Option Offered) → shown_of o' ≡ shown_of o → IsSome o → IsSome o'
some_of o (Some y) e is = refl
some_of None None e is = absurd (cc is)
some_of (Some x) None e is = absurd (cc e)

some_live : (o : Option Offered) (meter : ℕ) → option_and_then (λ (offer : Offered). state_of offer.rows meter) o ≡ Some state.Live → IsSome o
some_live None meter e = absurd (cc e)
some_live (Some x) meter e = refl

-- the row of a meter that hears these news
module _ (old : Head) (from : ℕ) (was next : row.Row) (is : IsRowOf old.book from was) (same : next.name ≡ was.name) where
  abbrev book_after : RowNews → Contents
  book_after heard = (went_on old from next heard).book

  row_makes : (heard : RowNews) → NewsMake (news_of was.name.campaign from heard) old.book (book_after heard)
  row_makes Nothing = refl
  row_makes Moved = refl
  row_makes (Done claim) = (live_admits old.book was.name.campaign from is.live, ap (λ (n : Name). marked old.book n.campaign.serial from state.Done) same)
  row_makes (Failed why) = (live_admits old.book was.name.campaign from is.live, ap (λ (n : Name). marked old.book n.campaign.serial from state.Failed) same)

  row_number : (heard : RowNews) → (book_after heard).head ≡ old.book.head
  row_number Nothing = refl
  row_number Moved = refl
  row_number (Done claim) = refl
  row_number (Failed why) = refl

  row_offers : (heard : RowNews) → OfferSame (book_after heard) old.book
  row_offers Nothing = λ campaign. refl
  row_offers Moved = λ campaign. refl
  row_offers (Done claim) = mark_offers old.book next.name.campaign.serial from state.Done
  row_offers (Failed why) = mark_offers old.book next.name.campaign.serial from state.Failed

  row_found : (heard : RowNews) → IsSome (offered_in (book_after heard) was.name.campaign)
  row_found heard =
      some_of (offered_in old.book was.name.campaign) (offered_in (book_after heard) was.name.campaign) (row_offers heard was.name.campaign)
      (some_live (offered_in old.book was.name.campaign) from is.live)

  row_news : (heard : RowNews) → IsNewsOf (book_after heard) (news_of was.name.campaign from heard)
  row_news Nothing = tt
  row_news Moved = tt
  row_news (Done claim) = row_found (Done claim)
  row_news (Failed why) = row_found (Failed why)

-- what a head end that hears these news makes of its book
pub record Hears (old : Contents) (told : News) (new : Contents) : Type 0 where
  pub makes : NewsMake told old new
  pub number : new.head ≡ old.head
  pub offers : OfferSame new old
  pub news : IsNewsOf new told

hears_of : (old new : Head) (told other : News) (after : Head) → new ≡ after → told ≡ other → Hears old.book other after.book → Hears old.book told new.book
hears_of old new told other after new_is told_is hears =
    subst (λ (h : Head). Hears old.book told h.book) (sym new_is) (subst (λ (t : News). Hears old.book t after.book) (sym told_is) hears)

taken_hears : RowKeepsGoal → (old new : Head) (from : ℕ) (datagram : List ℕ) (told : News) → IsHead old → HeadTakes old from datagram told new → Hears old.book told new.book
taken_hears keeps old new from datagram told is takes =
    let own = is.of_book from takes.row takes.found in
    let same = (keeps takes.row takes.next datagram takes.heard takes.hears).name in
    hears_of old new told (news_of takes.row.name.campaign from takes.heard) (went_on old from takes.next takes.heard) takes.new_is takes.told_is (record {
      makes = row_makes old from takes.row takes.next own same takes.heard;
      number = row_number old from takes.row takes.next own same takes.heard;
      offers = row_offers old from takes.row takes.next own same takes.heard;
      news = row_news old from takes.row takes.next own same takes.heard;
    })

pub head_hears : RowKeepsGoal → (old new : Head) (from : ℕ) (datagram : List ℕ) (told : News) → IsHead old → HeadHears old from datagram told new → Hears old.book told new.book
head_hears keeps old new from datagram told is hears =
    ⊎_elim (λ takes. taken_hears keeps old new from datagram told is takes)
    (λ ignores. hears_of old new told _ old ignores.2 ignores.1 (record { makes = refl; number = refl; offers = λ campaign. refl; news = tt })) hears

-- and whatever comes of it, what is offered stays
pub told_offers : {E : Type 0} → RowKeepsGoal → (r : Result Told E) (old new : Head) (from : ℕ) (datagram : List ℕ) → IsHead old → IfOk r (λ told. HeadHears old from datagram told.news new) → OnErr r (new ≡ old) → OfferSame new.book old.book
told_offers keeps (Ok told) old new from datagram is hears same = (head_hears keeps old new from datagram told.news is hears).offers
told_offers keeps (Err e) old new from datagram is hears same = λ campaign. ap (λ (h : Head). shown_of (offered_in h.book campaign)) same

pub told_number : {E : Type 0} → RowKeepsGoal → (r : Result Told E) (old new : Head) (from : ℕ) (datagram : List ℕ) → IsHead old → IfOk r (λ told. HeadHears old from datagram told.news new) → OnErr r (new ≡ old) → new.book.head ≡ old.book.head
told_number keeps (Ok told) old new from datagram is hears same = (head_hears keeps old new from datagram told.news is hears).number
told_number keeps (Err e) old new from datagram is hears same = ap (λ (h : Head). h.book.head) same

-- a row that is given up makes of the book what news of a failed row do
pub gives_up : (old new : Head) (meter : ℕ) (why : WhyGivenUp) (given : GivenUp) → IsHead old → GivesUpRow old meter why given new → Hears old.book (news.Failed given.campaign meter) new.book
gives_up old new meter why given is gives =
    let own = is.of_book meter gives.row gives.found in
    let of : given.campaign ≡ gives.row.name.campaign = ap (λ (g : GivenUp). g.campaign) gives.given_is in
    hears_of old new (news.Failed given.campaign meter) (news.Failed gives.row.name.campaign meter) (went_on old meter gives.row (Failed given.reason)) gives.new_is
    (ap (λ (c : Campaign). news.Failed c meter) of) (record {
      makes = row_makes old meter gives.row gives.row own refl (Failed given.reason);
      number = row_number old meter gives.row gives.row own refl (Failed given.reason);
      offers = row_offers old meter gives.row gives.row own refl (Failed given.reason);
      news = row_news old meter gives.row gives.row own refl (Failed given.reason);
    })

-- books that offer the same as a third
pub offers_on : (a b c : Contents) → OfferSame a b → OfferSame b c → OfferSame a c
offers_on a b c first second = λ campaign. first campaign ∙ second campaign
