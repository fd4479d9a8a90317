-- The rows of a book, campaign after campaign.
use Rattle.std.proofs.Common.{◌≡◌, ◌+◌, ◌<◌, ◌≤◌, ◌++◌, ℕ, List, [], ◌∷◌, Some, length, take, slice_get, slice_index_or, refl, sym, ap, subst, ◌∙◌, arith, append_assoc, append-nil}
use Rattle.std.specs.Prelude.{All}
use Rattle.std.specs.List.{AllByRecursion, AllWithin}
use Rattle.std.proofs.lemmas.List.{take_at}
use Rattle.std.proofs.lemmas.List.Elements.{All-nil, All-push}
use Rattle.fw_names.specs.Name.{Campaign, Name}
use Rattle.fw_book.specs.Contents.{Contents, Offered, IsBook, IsEntry}
use Rattle.fw_book.specs.declared.row.Row.{Row}
use Rattle.fw_fleet_audit.specs.Rows.{AreBorneOut, AreRowsBorneOut, Audited, HasSwitched, HasSwitchedTo, IsBorneOut, IsFirstLacking, IsRowDeparture, Lacks, campaign_of, offered_name}
use Rattle.fw_fleet_audit.specs.Private.{IsUnborne}
use Rattle.fw_fleet_audit.specs.declared.error.RowRule.{RowRule}
use Rattle.fw_fleet_audit.proofs.Lists.{got_behind, read_at}

-- ---- the meters

-- no meter before this place switched to it
abbrev pub NoneBefore : List Audited → ℕ → Name → ℕ → Type 0
NoneBefore meters meter name at = AllWithin (λ (a : Audited). HasSwitchedTo meter name a → ⊥) meters 0 at

pub one_has : (meters : List Audited) (meter : ℕ) (name : Name) (at : ℕ) (a : Audited) → at < length meters → a ≡ slice_index_or meters at a → HasSwitchedTo meter name a → HasSwitched meters meter name
one_has meters meter name at a inside is has = (a, (at, inside, sym is), has)

pub none_has : (meters : List Audited) (meter : ℕ) (name : Name) (at : ℕ) → length meters ≤ at → NoneBefore meters meter name at → HasSwitched meters meter name → ⊥
none_has meters meter name at all none (a, (k, inside, is), has) = none k a (omega arith) (omega arith) (subst (HasSwitchedTo meter name) (sym is) has)

-- ---- the rows of a campaign

pub lacking_at : (meters : List Audited) (name : Name) (rows : List Row) (at : ℕ) (row : Row) (rule : RowRule) → at < length rows → row ≡ slice_index_or rows at row
    → All (IsBorneOut meters name) (take at rows) → IsUnborne meters name row → Lacks meters row.meter name rule
    → IsFirstLacking meters name rows row.meter rule
lacking_at meters name rows at row rule inside is before unborne lacks = record {
  at = at;
  before = before;
  row = row;
  there = read_at rows at row inside ∙ ap (λ (r : Row). Some r) (sym is);
  done = unborne.0;
  own = refl;
  lacks = lacks;
}

-- ---- the campaigns of a book

abbrev pub Numbered : List (ℕ × Offered) → Type 0
Numbered entries = AllByRecursion (λ (entry : ℕ × Offered). 1 ≤ entry.0) entries

-- the campaigns of a book are numbered from 1 on
numbered : (entries : List (ℕ × Offered)) → AllByRecursion (λ (entry : ℕ × Offered). IsEntry entry) entries → Numbered entries
numbered [] all = tt
numbered (entry ∷ entries) all = (all.0.serial_begins, numbered entries all.1)

-- The rows of the campaigns before the rest are borne out.
pub record Passed (book : Contents) (meters : List Audited) (rest : List (ℕ × Offered)) : Type 0 where
  pub front : List (ℕ × Offered)
  pub is : book.campaigns ≡ front ++ rest
  pub borne : All (AreRowsBorneOut meters book.head) front
  pub counted : Numbered rest

pub passed_none : (book : Contents) (meters : List Audited) (rest : List (ℕ × Offered)) → rest ≡ book.campaigns → IsBook book → Passed book meters rest
passed_none book meters rest all is = record {
  front = [];
  is = sym all;
  borne = All-nil (AreRowsBorneOut meters book.head);
  counted = subst Numbered (sym all) (numbered book.campaigns is.entries);
}

pub next_number : (book : Contents) (meters : List Audited) (rest less : List (ℕ × Offered)) (entry : ℕ × Offered) → Passed book meters rest → rest ≡ entry ∷ less → 1 ≤ entry.0
next_number book meters rest less entry passed next = (subst Numbered next passed.counted).0

pub passed_more : (book : Contents) (meters : List Audited) (rest less : List (ℕ × Offered)) (entry : ℕ × Offered) → Passed book meters rest → rest ≡ entry ∷ less
    → AreRowsBorneOut meters book.head entry → Passed book meters less
passed_more book meters rest less entry passed next borne = record {
  front = passed.front ++ entry ∷ [];
  is = passed.is ∙ ap (λ (l : List (ℕ × Offered)). passed.front ++ l) next ∙ sym (append_assoc passed.front (entry ∷ []) less);
  borne = All-push (AreRowsBorneOut meters book.head) passed.front entry passed.borne borne;
  counted = (subst Numbered next passed.counted).1;
}

pub passed_all : (book : Contents) (meters : List Audited) (rest : List (ℕ × Offered)) → Passed book meters rest → rest ≡ [] → AreBorneOut book meters
passed_all book meters rest passed none =
    let all : book.campaigns ≡ passed.front = passed.is ∙ ap (λ (l : List (ℕ × Offered)). passed.front ++ l) none ∙ append-nil passed.front in
    subst (All (AreRowsBorneOut meters book.head)) (sym all) passed.borne

pub departs_at : (book : Contents) (meters : List Audited) (rest less : List (ℕ × Offered)) (entry : ℕ × Offered) (campaign : Campaign) (meter : ℕ) (rule : RowRule)
    → Passed book meters rest → rest ≡ entry ∷ less → campaign ≡ campaign_of book.head entry.0
    → IsFirstLacking meters (offered_name book.head entry) entry.1.rows meter rule
    → IsRowDeparture book meters (record { campaign = campaign; meter = meter; rule = rule })
departs_at book meters rest less entry campaign meter rule passed next own first =
    let front = passed.front in
    let all : book.campaigns ≡ front ++ entry ∷ less = passed.is ∙ ap (λ (l : List (ℕ × Offered)). front ++ l) next in
    record {
      at = length front;
      before = subst (All (AreRowsBorneOut meters book.head)) (sym (ap (take (length front)) all ∙ take_at front (entry ∷ less) (length front) refl)) passed.borne;
      entry = entry;
      there = ap (λ (l : List (ℕ × Offered)). slice_get l (length front)) all ∙ got_behind front entry less;
      own = own;
      first = first;
    }

-- ---- with what the calls returned

pub borne_as : (meters : List Audited) (head : ℕ) (entry : ℕ × Offered) (name : Name) (rows : List Row) → name ≡ offered_name head entry → rows ≡ entry.1.rows
    → All (IsBorneOut meters name) rows → AreRowsBorneOut meters head entry
borne_as meters head entry name rows named same borne =
    subst (λ (n : Name). All (IsBorneOut meters n) entry.1.rows) named (subst (All (IsBorneOut meters name)) same borne)

pub first_as : (meters : List Audited) (head : ℕ) (entry : ℕ × Offered) (name : Name) (rows : List Row) (meter : ℕ) (rule : RowRule) → name ≡ offered_name head entry → rows ≡ entry.1.rows
    → IsFirstLacking meters name rows meter rule → IsFirstLacking meters (offered_name head entry) entry.1.rows meter rule
first_as meters head entry name rows meter rule named same first =
    subst (λ (n : Name). IsFirstLacking meters n entry.1.rows meter rule) named (subst (λ (l : List Row). IsFirstLacking meters name l meter rule) same first)
