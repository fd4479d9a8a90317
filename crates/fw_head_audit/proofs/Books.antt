-- The campaigns of a book.
use Rattle.std.proofs.Common.{◌≡◌, ◌≢◌, ◌++◌, ◌+◌, ◌<◌, ◌≤◌, ◌^◌, ℕ, zero, suc, Bool, true, false, cond, eqb, nat_eq, List, [], ◌∷◌, Option, Some, None, length, inl, inr, refl, sym, ap, subst, ◌∙◌, arith, ⊎_elim, append_assoc, append-nil}
use Rattle.std.specs.Prelude.{All, Contains, find}
use Rattle.std.specs.List.{AllByRecursion}
use Rattle.std.specs.Map.{lookup}
use Rattle.std.specs.Option.{option_and_then, option_map}
use Rattle.std.proofs.lemmas.Bool.{cases_Bool, eqb-true, eqb-false}
use Rattle.std.proofs.lemmas.Bool.Decides.{Decides-eqb}
use Rattle.std.proofs.lemmas.List.Elements.{All-contains, All-from_recursion, All-nil, All-push}
use Rattle.std.proofs.lemmas.Map.Views.{Contains-from_lookup}
use Rattle.fw_names.specs.Name.{Campaign, IsOpened, IsRelease, factory}
use Rattle.fw_blocks.specs.Cuts.{max_image}
use Rattle.fw_book.specs.Contents.{AllApart, Apart, Contents, IsBook, IsEntry, Offered, offered_in, state_in}
use Rattle.fw_book.specs.Rows.{state_of}
use Rattle.fw_book.specs.declared.row.RowState.{RowState}
use Rattle.fw_fleet_audit.specs.Rows.{campaign_of}
use Rattle.fw_head_audit.specs.Private.{IsAskedTo, Kind, Lets}

-- a campaign that the book has
pub record IsKept (book : Contents) (campaign : Campaign) (offer : Offered) : Type 0 where
  pub own : campaign ≡ campaign_of book.head campaign.serial
  pub inside : Contains book.campaigns (campaign.serial, offer)
  pub release : IsRelease campaign offer.release

found_with : (own : Bool) (found : Option Offered) (offer : Offered) → cond own found None ≡ Some offer → (own ≡ true) × (found ≡ Some offer)
found_with true found offer e = (refl, e)
found_with false found offer e = absurd cc

no_head : (campaign : Campaign) (head : ℕ) → 1 ≤ head → campaign.head ≡ head → campaign ≡ factory → ⊥
no_head campaign head begins own is =
    let none : campaign.head ≡ 0 = ap (λ (c : Campaign). c.head) is in omega (arith, begins, own, none)

pub entry_of : (book : Contents) (campaign : Campaign) (offer : Offered) → IsBook book → offered_in book campaign ≡ Some offer → IsKept book campaign offer
entry_of book campaign offer is_book e =
    let found = found_with (eqb campaign.head book.head) (lookup (nat_eq campaign.serial) book.campaigns) offer e in
    let head : campaign.head ≡ book.head = eqb-true campaign.head book.head found.0 in
    let inside = Contains-from_lookup eqb-true campaign.serial offer book.campaigns found.1 in
    let entry : IsEntry (campaign.serial, offer) =
    All-contains IsEntry book.campaigns (campaign.serial, offer) (All-from_recursion IsEntry book.campaigns is_book.entries) inside in
    record {
      own = ap (λ (h : ℕ). campaign_of h campaign.serial) head;
      inside = inside;
      release = record { fits = entry.release_fits; none = λ is. absurd (no_head campaign book.head is_book.head_begins head is) };
    }

-- ---- the state of a meter

pub state_of_campaign : (book : Contents) (campaign : Campaign) (offer : Offered) (meter : ℕ) (state : RowState) → offered_in book campaign ≡ Some offer
    → state_of offer.rows meter ≡ Some state → state_in book campaign meter ≡ Some state
state_of_campaign book campaign offer meter state offered row = ap (option_and_then (λ (o : Offered). state_of o.rows meter)) offered ∙ row

pub row_of_campaign : (book : Contents) (campaign : Campaign) (offer : Offered) (meter : ℕ) (state : RowState) → offered_in book campaign ≡ Some offer
    → state_in book campaign meter ≡ Some state → state_of offer.rows meter ≡ Some state
row_of_campaign book campaign offer meter state offered row = sym (ap (option_and_then (λ (o : Offered). state_of o.rows meter)) offered) ∙ row

-- ---- the campaigns, one after the other

in_middle : {X : Type 0} (front rest : List X) (x : X) → Contains (front ++ x ∷ rest) x
in_middle [] rest x = (zero, omega arith, refl)
in_middle (y ∷ front) rest x = let later = in_middle front rest x in (suc later.0, omega (arith, later.1), later.2)

abbrev pub Entries : Type 0
Entries = List (ℕ × Offered)

apart_later : (first entry : ℕ × Offered) (front rest : Entries) → AllByRecursion (λ (other : ℕ × Offered). Apart first other) (front ++ entry ∷ rest) → Apart first entry
apart_later first entry [] rest all = all.0
apart_later first entry (other ∷ front) rest all = apart_later first entry front rest all.1

lookup_own : (front rest : Entries) (entry : ℕ × Offered) → AllApart (front ++ entry ∷ rest) → lookup (nat_eq entry.0) (front ++ entry ∷ rest) ≡ Some entry.1
lookup_own [] rest entry apart =
    ap (λ (b : Bool). cond b (Some entry.1) (lookup (nat_eq entry.0) rest)) ((Decides-eqb entry.0 entry.0).1 refl)
lookup_own (first ∷ front) rest entry apart =
    let other : first.0 ≢ entry.0 = (apart_later first entry front rest apart.0).serials in
    let differ : eqb entry.0 first.0 ≡ false =
    ⊎_elim (λ (same : eqb entry.0 first.0 ≡ true). absurd (other (sym (eqb-true entry.0 first.0 same)))) (λ (no : eqb entry.0 first.0 ≡ false). no) (cases_Bool (eqb entry.0 first.0)) in
    ap (λ (b : Bool). cond b (Some first.1) (lookup (nat_eq entry.0) (front ++ entry ∷ rest))) differ ∙ lookup_own front rest entry apart.1

offered_own : (book : Contents) (front rest : Entries) (entry : ℕ × Offered) → IsBook book → book.campaigns ≡ front ++ entry ∷ rest → offered_in book (campaign_of book.head entry.0) ≡ Some entry.1
offered_own book front rest entry is_book all =
    ap (λ (b : Bool). cond b (lookup (nat_eq entry.0) book.campaigns) None) ((Decides-eqb book.head book.head).1 refl)
    ∙ ap (lookup (nat_eq entry.0)) all ∙ lookup_own front rest entry (subst AllApart all is_book.apart)

-- A campaign has no row of the meter, or doesn't offer it that.
abbrev pub NotLets : ℕ → ℕ → Kind → ℕ × Offered → Type 0
NotLets head meter kind entry = Lets entry.1 (campaign_of head entry.0) meter kind → ⊥

-- So it is with the campaigns before the rest.
pub record Passed (book : Contents) (meter : ℕ) (kind : Kind) (rest : Entries) : Type 0 where
  pub front : Entries
  pub is : book.campaigns ≡ front ++ rest
  pub none : All (NotLets book.head meter kind) front

pub passed_none : (book : Contents) (meter : ℕ) (kind : Kind) (rest : Entries) → rest ≡ book.campaigns → Passed book meter kind rest
passed_none book meter kind rest all = record { front = []; is = sym all; none = All-nil (NotLets book.head meter kind) }

pub passed_more : (book : Contents) (meter : ℕ) (kind : Kind) (rest less : Entries) (entry : ℕ × Offered) → Passed book meter kind rest → rest ≡ entry ∷ less
    → NotLets book.head meter kind entry → Passed book meter kind less
passed_more book meter kind rest less entry passed next none = record {
  front = passed.front ++ entry ∷ [];
  is = passed.is ∙ ap (λ (l : Entries). passed.front ++ l) next ∙ sym (append_assoc passed.front (entry ∷ []) less);
  none = All-push (NotLets book.head meter kind) passed.front entry passed.none none;
}

pub passed_all : (book : Contents) (meter : ℕ) (kind : Kind) (rest : Entries) → IsBook book → Passed book meter kind rest → rest ≡ [] → IsAskedTo book meter kind → ⊥
passed_all book meter kind rest is_book passed none asked =
    let kept = entry_of book asked.campaign asked.offer is_book asked.offered in
    let all : book.campaigns ≡ passed.front = passed.is ∙ ap (λ (l : Entries). passed.front ++ l) none ∙ append-nil passed.front in
    let refuses : NotLets book.head meter kind (asked.campaign.serial, asked.offer) =
    All-contains (NotLets book.head meter kind) passed.front (asked.campaign.serial, asked.offer) passed.none
    (subst (λ (l : Entries). Contains l (asked.campaign.serial, asked.offer)) all kept.inside) in
    refuses (subst (λ (c : Campaign). Lets asked.offer c meter kind) kept.own asked.lets)

pub passed_at : (book : Contents) (meter : ℕ) (kind : Kind) (rest less : Entries) (entry : ℕ × Offered) (campaign : Campaign) → IsBook book → Passed book meter kind rest → rest ≡ entry ∷ less
    → campaign ≡ campaign_of book.head entry.0 → Lets entry.1 campaign meter kind → IsAskedTo book meter kind
passed_at book meter kind rest less entry campaign is_book passed next own lets =
    let offered : offered_in book campaign ≡ Some entry.1 =
    ap (offered_in book) own ∙ offered_own book passed.front less entry is_book (passed.is ∙ ap (λ (l : Entries). passed.front ++ l) next) in
    record {
      campaign = campaign;
      offer = entry.1;
      offered = offered;
      is_release = (entry_of book campaign entry.1 is_book offered).release;
      lets = lets;
    }

-- what a book keeps of the entry that is next
pub entry_next : (book : Contents) (meter : ℕ) (kind : Kind) (rest less : Entries) (entry : ℕ × Offered) → IsBook book → Passed book meter kind rest → rest ≡ entry ∷ less → IsEntry entry
entry_next book meter kind rest less entry is_book passed next =
    All-contains IsEntry book.campaigns entry (All-from_recursion IsEntry book.campaigns is_book.entries)
    (subst (λ (l : Entries). Contains l entry) (sym (passed.is ∙ ap (λ (l : Entries). passed.front ++ l) next)) (in_middle passed.front less entry))
