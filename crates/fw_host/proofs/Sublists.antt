-- The meters of some waves of a list are a list too, each number and each address once.
use Rattle.std.proofs.Common.{◌≡◌, ◌⊎◌, ℕ, ◌+◌, ◌<◌, ◌≤◌, Bool, true, false, List, [], ◌∷◌, ◌++◌, length, get_or, take, drop, filter, cond, nat_le, Contains, MatchBool, inl, inr, sym, ap, subst, ◌∙◌, arith}
use Rattle.std.proofs.lemmas.Bool.Decides.{nat_tests}
use Rattle.std.proofs.lemmas.List.{append-nil, map-append, take-append-drop, take_more}
use Rattle.std.proofs.lemmas.List.Elements.{Contains-append_left, Contains-append_right, Contains-append_cases, Contains-push, Contains-push_cases, filter-append}
use Rattle.fw_rollout.specs.declared.link.Listed.{Listed}
use Rattle.fw_rollout.specs.Daemon.{IsList}
use Rattle.fw_host.specs.declared.wave_list.Planned.{Planned}
use Rattle.fw_host.specs.Waves.{listed_in, up_to_wave}

-- ---- one more at the end

pub listed_more : (list : List Planned) (planned : Planned) → listed_in (list ++ planned ∷ []) ≡ listed_in list ++ planned.at ∷ []
listed_more list planned = map-append (λ (p : Planned). p.at) list (planned ∷ [])

-- ---- elements

first_there : (x : Listed) (xs : List Listed) → Contains (x ∷ xs) x
first_there x xs = Contains-append_left (x ∷ []) xs x (Contains-push [] x)

later_there : (first x : Listed) (xs : List Listed) → Contains xs x → Contains (first ∷ xs) x
later_there first x xs has = Contains-append_right (first ∷ []) xs x has

none_there : (x : Listed) → Contains [] x → ⊥
none_there x (k, within, same) = absurd (omega arith)

cases_there : (first : Listed) (xs : List Listed) (x : Listed) → Contains (first ∷ xs) x → (first ≡ x) ⊎ Contains xs x
cases_there first xs x has = elim (Contains-append_cases (first ∷ []) xs x has) [
  | inl here ↦ elim (Contains-push_cases [] first x here) [
    | inl none ↦ absurd (none_there x none)
    | inr same ↦ inl same
  ]
  | inr later ↦ inr later
]

-- ---- some of a list

kept_there : (b : Bool) (first : Planned) (kept list : List Planned) (x : Listed) → (Contains (listed_in kept) x → Contains (listed_in list) x)
    → Contains (listed_in (cond b (first ∷ kept) kept)) x → Contains (first.at ∷ listed_in list) x
kept_there true first kept list x others has = elim (cases_there first.at (listed_in kept) x has) [
  | inl same ↦ subst (λ (y : Listed). Contains (first.at ∷ listed_in list) y) same (first_there first.at (listed_in list))
  | inr later ↦ later_there first.at x (listed_in list) (others later)
]
kept_there false first kept list x others has = later_there first.at x (listed_in list) (others has)

some_there : (p : Planned → Bool) (list : List Planned) (x : Listed) → Contains (listed_in (filter p list)) x → Contains (listed_in list) x
some_there p [] x has = has
some_there p (first ∷ list) x has = kept_there (p first) first (filter p list) list x (some_there p list x) has

kept_list : (b : Bool) (first : Planned) (kept list : List Planned) → ((x : Listed) → Contains (listed_in kept) x → Contains (listed_in list) x) → IsList (first.at ∷ listed_in list)
    → IsList (listed_in kept) → IsList (listed_in (cond b (first ∷ kept) kept))
kept_list true first kept list within is others = (λ other has. is.0 other (within other has), others)
kept_list false first kept list within is others = others

some_list : (p : Planned → Bool) (list : List Planned) → IsList (listed_in list) → IsList (listed_in (filter p list))
some_list p [] is = is
some_list p (first ∷ list) is = kept_list (p first) first (filter p list) list (some_there p list) is (some_list p list is.1)

-- the front of a list
front_list : (front rest : List Listed) → IsList (front ++ rest) → IsList front
front_list [] rest is = tt
front_list (first ∷ front) rest is = (λ other has. is.0 other (Contains-append_left front rest other has), front_list front rest is.1)

taken_list : (k : ℕ) (list : List Planned) → IsList (listed_in list) → IsList (listed_in (take k list))
taken_list k list is =
    let parts : IsList (listed_in (take k list ++ drop k list)) = subst (λ (l : List Planned). IsList (listed_in l)) (sym (take-append-drop k list)) is in
    front_list (listed_in (take k list)) (listed_in (drop k list)) (subst IsList (map-append (λ (p : Planned). p.at) (take k list) (drop k list)) parts)

-- ---- those up to a wave, one after the other

pub up_to_next : (wave : ℕ) (list : List Planned) (k : ℕ) (planned : Planned) → k < length list → planned ≡ get_or list k planned
    → up_to_wave wave (take (k + 1) list) ≡ up_to_wave wave (take k list) ++ up_to_wave wave (planned ∷ [])
up_to_next wave list k planned inside is =
    ap (λ (l : List Planned). up_to_wave wave l) (take_more list k planned inside ∙ ap (λ (x : Planned). take k list ++ x ∷ []) (sym is))
    ∙ ap listed_in (filter-append (λ (p : Planned). nat_le p.wave wave) (take k list) (planned ∷ []))
    ∙ map-append (λ (p : Planned). p.at) (filter (λ (p : Planned). nat_le p.wave wave) (take k list)) (filter (λ (p : Planned). nat_le p.wave wave) (planned ∷ []))

pub next_is_list : (wave : ℕ) (list : List Planned) (k : ℕ) (planned : Planned) → k < length list → planned ≡ get_or list k planned → IsList (listed_in list)
    → IsList (up_to_wave wave (take k list) ++ up_to_wave wave (planned ∷ []))
next_is_list wave list k planned inside is once =
    subst IsList (up_to_next wave list k planned inside is) (some_list (λ (p : Planned). nat_le p.wave wave) (take (k + 1) list) (taken_list (k + 1) list once))

one_up_to : (wave : ℕ) (planned : Planned) (b : Bool) → nat_le planned.wave wave ≡ b → up_to_wave wave (planned ∷ []) ≡ listed_in (cond b (planned ∷ []) [])
one_up_to wave planned b is = ap (λ (c : Bool). listed_in (cond c (planned ∷ []) [])) is

is_later : (a b : ℕ) → b < a → nat_le a b ≡ false
is_later a b later = grind (arith, nat_tests)

is_within : (a b : ℕ) → a ≤ b → nat_le a b ≡ true
is_within a b within = grind (arith, nat_tests)

-- a meter of a later wave adds nothing
pub later_adds_none : (wave : ℕ) (planned : Planned) (meters : List Listed) → wave < planned.wave → meters ≡ meters ++ up_to_wave wave (planned ∷ [])
later_adds_none wave planned meters later =
    sym (append-nil meters) ∙ ap (λ (l : List Listed). meters ++ l) (sym (one_up_to wave planned false (is_later planned.wave wave later)))

added_one : (added : Bool) (old new : List Listed) (at : Listed) → MatchBool added (new ≡ old ++ at ∷ []) ((new ≡ old) × ¬ IsList (old ++ at ∷ [])) → IsList (old ++ at ∷ [])
    → new ≡ old ++ at ∷ []
added_one true old new at is list = is
added_one false old new at is list = absurd (is.1 list)

-- another one is added
pub within_adds_one : (wave : ℕ) (planned : Planned) (added : Bool) (old new : List Listed) → planned.wave ≤ wave
    → MatchBool added (new ≡ old ++ planned.at ∷ []) ((new ≡ old) × ¬ IsList (old ++ planned.at ∷ [])) → IsList (old ++ up_to_wave wave (planned ∷ []))
    → new ≡ old ++ up_to_wave wave (planned ∷ [])
within_adds_one wave planned added old new within is list =
    let one : up_to_wave wave (planned ∷ []) ≡ planned.at ∷ [] = one_up_to wave planned true (is_within planned.wave wave within) in
    added_one added old new planned.at is (subst (λ (l : List Listed). IsList (old ++ l)) one list) ∙ ap (λ (l : List Listed). old ++ l) (sym one)
