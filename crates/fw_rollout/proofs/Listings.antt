-- The meters of a list, and the sets of their numbers and addresses.
use Rattle.std.proofs.Common.{◌≡◌, Bool, true, false, List, [], ◌∷◌, ◌++◌, map, sym, ap, subst, ◌∙◌, arith, inl, inr}
use Rattle.std.specs.Prelude.{◌↔◌, ◌⊎◌, Contains}
use Rattle.std.specs.Cmp.{IsEquivalence}
use Rattle.std.specs.List.Sorted.{IsPermutation}
use Rattle.std.specs.HashSet as bag
use Rattle.std.specs.HashSet.{HashSet, keys, PutsKey}
use Rattle.std.proofs.lemmas.Bool.{false≢true}
use Rattle.std.proofs.lemmas.List.Elements.{Contains-append_left, Contains-append_right, Contains-append_cases, Contains-push, Contains-push_cases}
use Rattle.std.proofs.lemmas.List.Sorted.{Contains-permutation, IsPermutation-sym}
use Rattle.std.proofs.lemmas.Map.Views.{hash_set_contains_iff}
use Rattle.fw_rollout.specs.declared.link.Listed.{Listed}
use Rattle.fw_rollout.specs.Daemon.{IsList}

-- ---- elements

here : {X : Type 0} (x : X) (xs : List X) → Contains (x ∷ xs) x
here x xs = Contains-append_left (x ∷ []) xs x (Contains-push [] x)

later : {X : Type 0} (x : X) (xs : List X) (y : X) → Contains xs y → Contains (x ∷ xs) y
later x xs y within = Contains-append_right (x ∷ []) xs y within

no_element : {X : Type 0} (x : X) → ¬ Contains [] x
no_element x within = absurd (omega (arith, within.1))

first_or_later : {X : Type 0} (x : X) (xs : List X) (y : X) → Contains (x ∷ xs) y → (x ≡ y) ⊎ Contains xs y
first_or_later x xs y within = elim (Contains-append_cases (x ∷ []) xs y within) [
  | inl first ↦ elim (Contains-push_cases [] x y first) [
    | inl none ↦ absurd (no_element y none)
    | inr same ↦ inl same
  ]
  | inr others ↦ inr others
]

-- ---- lists

-- the number and the address of another are new
pub record IsNew (list : List Listed) (at : Listed) : Type 0 where
  pub number : ¬ Contains (map (λ (other : Listed). other.meter) list) at.meter
  pub address : ¬ Contains (map (λ (other : Listed). other.address) list) at.address

new_behind : (first : Listed) (list : List Listed) (at : Listed) → IsNew (first ∷ list) at → IsNew list at
new_behind first list at new = record {
  number = λ within. new.number (later _ _ _ within);
  address = λ within. new.address (later _ _ _ within);
}

pub list_more : (list : List Listed) (at : Listed) → IsList list → IsNew list at → IsList (list ++ at ∷ [])
list_more [] at once new = (λ other within. absurd (no_element other within), tt)
list_more (first ∷ list) at once new = (
  λ other within. elim (Contains-push_cases list at other within) [
    | inl earlier ↦ once.0 other earlier
    | inr same ↦ (
      λ e. new.number (subst (λ n. Contains (map (λ (a : Listed). a.meter) (first ∷ list)) n) (sym e ∙ sym (ap (λ (a : Listed). a.meter) same)) (here _ _)),
      λ e. new.address (subst (λ n. Contains (map (λ (a : Listed). a.address) (first ∷ list)) n) (sym e ∙ sym (ap (λ (a : Listed). a.address) same)) (here _ _)),
    )
  ],
  list_more list at once.1 (new_behind first list at new),
)

pub number_is_new : (list : List Listed) (at : Listed) → IsList (list ++ at ∷ []) → ¬ Contains (map (λ (other : Listed). other.meter) list) at.meter
number_is_new [] at once within = no_element _ within
number_is_new (first ∷ list) at once within = elim (first_or_later _ _ _ within) [
  | inl same ↦ (once.0 at (Contains-push list at)).0 (sym same)
  | inr others ↦ number_is_new list at once.1 others
]

pub address_is_new : (list : List Listed) (at : Listed) → IsList (list ++ at ∷ []) → ¬ Contains (map (λ (other : Listed). other.address) list) at.address
address_is_new [] at once within = no_element _ within
address_is_new (first ∷ list) at once within = elim (first_or_later _ _ _ within) [
  | inl same ↦ (once.0 at (Contains-push list at)).1 (sym same)
  | inr others ↦ address_is_new list at once.1 others
]

-- ---- sets

-- a set has just these keys
abbrev pub HasKeys : {K S : Type 0} → HashSet K S → List K → Type 0
HasKeys {K} set xs = (key : K) → Contains (keys set) key ↔ Contains xs key

pub key_is_known : {K S : Type 0} {eq : K → K → Bool} → IsEquivalence eq → ((x y : K) → eq x y ≡ true → x ≡ y) → (set : HashSet K S) (key other : K) (xs : List K)
    → HasKeys set xs → bag.contains eq set key ≡ true → key ≡ other → Contains xs other
key_is_known {K} {S} {eq} laws exact set key other xs has known same =
    subst (λ k. Contains xs k) same ((has key).0 ((hash_set_contains_iff laws exact set key).0 known))

pub key_is_new : {K S : Type 0} {eq : K → K → Bool} → IsEquivalence eq → ((x y : K) → eq x y ≡ true → x ≡ y) → (set : HashSet K S) (key other : K) (xs : List K)
    → HasKeys set xs → bag.contains eq set key ≡ false → key ≡ other → ¬ Contains xs other
key_is_new {K} {S} {eq} laws exact set key other xs has unknown same within =
    absurd (false≢true (sym unknown ∙ (hash_set_contains_iff laws exact set key).1 ((has key).1 (subst (λ k. Contains xs k) (sym same) within))))

-- memory for more keys was taken, perhaps
pub keys_moved : {K S : Type 0} (old new : HashSet K S) (xs : List K) → HasKeys old xs → IsPermutation (keys old) (keys new) → HasKeys new xs
keys_moved old new xs has moved = λ key. (
  λ within. (has key).0 (Contains-permutation _ _ key (IsPermutation-sym _ _ moved) within),
  λ within. Contains-permutation _ _ key moved ((has key).1 within),
)

-- a key that was not there is
pub keys_more : {K S : Type 0} (old new : HashSet K S) (key other : K) (xs : List K) (added : Bool) → HasKeys old xs → added ≡ true → PutsKey old new key added → key ≡ other
    → HasKeys new (xs ++ other ∷ [])
keys_more old new key other xs false has is puts same = absurd (false≢true is)
keys_more old new key other xs true has is puts same = subst (λ k. HasKeys new (xs ++ k ∷ [])) same (λ one. (
  λ within. elim (first_or_later key (keys old) one (Contains-permutation _ _ one (IsPermutation-sym _ _ puts) within)) [
    | inl first ↦ subst (λ k. Contains (xs ++ key ∷ []) k) first (Contains-push xs key)
    | inr earlier ↦ Contains-append_left xs (key ∷ []) one ((has one).0 earlier)
  ],
  λ within. Contains-permutation _ _ one puts (elim (Contains-push_cases xs key one within) [
    | inl earlier ↦ later key (keys old) one ((has one).1 earlier)
    | inr first ↦ subst (λ k. Contains (key ∷ keys old) k) first (here key (keys old))
  ]),
))
