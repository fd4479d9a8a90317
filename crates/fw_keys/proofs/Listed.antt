-- The links of an end, one more behind others.
use Rattle.std.proofs.Common.{◌≡◌, ◌<◌, ◌≤◌, ◌+◌, ℕ, List, [], ◌∷◌, ◌++◌, length, get_or, take, All, AllPairs, Any, Contains, refl, sym, ap, subst, subst₂, ◌∙◌, arith, length-append}
use Rattle.std.specs.Prelude.{◌≢◌, MatchOption, Option, Some, None, is_some, true, slice_index_or}
use Rattle.std.proofs.lemmas.Bool.{false≢true}
use Rattle.std.proofs.lemmas.List.{get_or_append_left, get_or_at, get_or_default, take_all}
use Rattle.std.proofs.lemmas.List.Elements.{All-contains, All-more, All-nil, All-push, Contains-append_left, Contains-append_right, Contains-push}
use Rattle.std.proofs.lemmas.List.Quantifiers.{all_pairs_push}
use Rattle.fw_keys.specs.declared.entry.Entry.{Entry}
use Rattle.fw_keys.specs.Links.{AreLinks, Differ, IsNew}

-- ---- a loop over links

pub is_in : {N : Type 0} (entries : List (Entry N)) (i : ℕ) (entry : Entry N) → i < length entries → entry ≡ get_or entries i entry → Contains entries entry
is_in entries i entry inside is = (i, inside, sym is)

pub one_is : {N : Type 0} (P : Entry N → Type 0) (entries : List (Entry N)) (entry : Entry N) → Contains entries entry → P entry → Any P entries
one_is P entries entry within holds = (within.0, entry, within.1, within.2, holds)

pub all_more : {N : Type 0} (P : Entry N → Type 0) (entries : List (Entry N)) (i : ℕ) (entry : Entry N) → i < length entries → entry ≡ get_or entries i entry → All P (take i entries) → P entry
    → All P (take (i + 1) entries)
all_more P entries i entry inside is all one = All-more P entries i entry inside all (subst (λ e. P e) is one)

pub all_of : {N : Type 0} (P : Entry N → Type 0) (entries : List (Entry N)) (i : ℕ) → length entries ≤ i → All P (take i entries) → All P entries
all_of {N} P entries i past all = subst (λ (es : List (Entry N)). All P es) (take_all i entries past) all

pub some_of : {X : Type 0} (P : Type 0) (Q : X → Type 0) (o : Option X) → MatchOption o P Q → is_some o ≡ true → (x : X) × Q x
some_of P Q None h some = absurd (false≢true some)
some_of P Q (Some x) h some = (x, h)

-- ---- links

pub no_links : {N : Type 0} (own : List ℕ) → AreLinks {N = N} own []
no_links {N} own = record {
  titles = All-nil (λ (e : Entry N). e.keys.title ≢ own);
  apart = λ i j d before within. absurd (omega (arith, within));
}

pub links_more : {N : Type 0} (own : List ℕ) (entries : List (Entry N)) (entry : Entry N) → AreLinks own entries → IsNew own entries entry → AreLinks own (entries ++ entry ∷ [])
links_more {N} own entries entry are new = record {
  titles = All-push (λ (e : Entry N). e.keys.title ≢ own) entries entry are.titles new.title;
  apart = all_pairs_push (λ (e other : Entry N). Differ e other) entries entry are.apart (λ k d within. record { ends = new.name k d within; keys = new.key k d within });
}

-- one that may stand behind none
pub first_link : {N : Type 0} (own : List ℕ) (entry : Entry N) → entry.keys.title ≢ own → IsNew own [] entry
first_link {N} own entry other = record {
  title = other;
  key = All-nil (λ (e : Entry N). e.keys.encryption ≢ entry.keys.encryption);
  name = All-nil (λ (e : Entry N). e.end ≢ entry.end);
}

pub here : {X : Type 0} (x : X) (xs : List X) → Contains (x ∷ xs) x
here x xs = Contains-append_left (x ∷ []) xs x (Contains-push [] x)

-- the other end of a link hasn't the title of this one
pub other_title : {N : Type 0} (own : List ℕ) (entries : List (Entry N)) (entry : Entry N) → AreLinks own entries → Contains entries entry → entry.keys.title ≢ own
other_title {N} own entries entry are within = All-contains (λ (e : Entry N). e.keys.title ≢ own) entries entry are.titles within

pub titled_behind : {N : Type 0} (own : List ℕ) (before behind : List (Entry N)) (entry : Entry N) → AreLinks own (before ++ entry ∷ behind) → entry.keys.title ≢ own
titled_behind own before behind entry are =
    other_title own (before ++ entry ∷ behind) entry are (Contains-append_right before (entry ∷ behind) entry (here entry behind))

-- a link differs from each one before it
pub apart_from : {N : Type 0} (own : List ℕ) (before behind : List (Entry N)) (entry : Entry N) → AreLinks own (before ++ entry ∷ behind) → (k : ℕ) (other : Entry N) → k < length before
    → slice_index_or before k other ≡ other → Differ other entry
apart_from {N} own before behind entry are k other within is =
    let inside : length before < length (before ++ entry ∷ behind) = omega (arith, length-append before (entry ∷ behind)) in
    let first : get_or (before ++ entry ∷ behind) k entry ≡ other = get_or_append_left before (entry ∷ behind) entry k within ∙ get_or_default before k entry other within ∙ is in
    let second : get_or (before ++ entry ∷ behind) (length before) entry ≡ entry = get_or_at before entry behind entry (length before) refl in
    subst₂ (λ (a b : Entry N). Differ a b) first second (are.apart k (length before) entry within inside)
