-- Which letters spell fates.
use Rattle.std.proofs.Common.{◌≡◌, ℕ, ◌<◌, ◌≤◌, true, eqb, List, [], ◌∷◌, length, get_or, map, refl, sym, ap, ◌∙◌, inl, inr, arith}
use Rattle.std.specs.Prelude.{◌||◌}
use Rattle.std.specs.List.{list_all}
use Rattle.std.proofs.lemmas.Bool.{or_cases, and_parts, eqb-true}
use Rattle.std.proofs.lemmas.List.{get_or-map, length-map}
use Rattle.fw_air.specs.declared.fates.Fate.{Fate}
use Rattle.fw_air.specs.declared.fates.Fate.TheVariants.{Deliver, Drop, Twice, Late}
use Rattle.fw_air.specs.Fates.{max_fates}
use Rattle.fw_script.specs.Fates.{letter_of, is_letter, SpellsSome}

fate_for : (letter : ℕ) → is_letter letter ≡ true → (fate : Fate) × (letter_of fate ≡ letter)
fate_for letter one = elim (or_cases (eqb letter 100) (eqb letter 120 || (eqb letter 116 || eqb letter 108)) one) [
  | inl is ↦ (Deliver, sym (eqb-true letter 100 is))
  | inr two ↦ elim (or_cases (eqb letter 120) (eqb letter 116 || eqb letter 108) two) [
    | inl is ↦ (Drop, sym (eqb-true letter 120 is))
    | inr three ↦ elim (or_cases (eqb letter 116) (eqb letter 108) three) [
      | inl is ↦ (Twice, sym (eqb-true letter 116 is))
      | inr is ↦ (Late, sym (eqb-true letter 108 is))
    ]
  ]
]

is_one : (fate : Fate) → is_letter (letter_of fate) ≡ true
is_one Deliver = refl
is_one Drop = refl
is_one Twice = refl
is_one Late = refl

fates_for : (letters : List ℕ) → list_all is_letter letters ≡ true → (fates : List Fate) × (map letter_of fates ≡ letters)
fates_for [] all = ([], refl)
fates_for (letter ∷ letters) all =
    let parts = and_parts (is_letter letter) (list_all is_letter letters) all in
    let first = fate_for letter parts.0 in
    let others = fates_for letters parts.1 in
    (first.0 ∷ others.0, rw (first.1, others.1) refl)

are_all : (fates : List Fate) → list_all is_letter (map letter_of fates) ≡ true
are_all [] = refl
are_all (fate ∷ fates) = rw (is_one fate, are_all fates) refl

pub spells : (letters : List ℕ) → 1 ≤ length letters → length letters ≤ max_fates → list_all is_letter letters ≡ true → SpellsSome letters
spells letters some few all =
    let found = fates_for letters all in
    let size : length found.0 ≡ length letters = sym (length-map found.0 letter_of) ∙ ap (λ (l : List ℕ). length l) found.1 in
    (found.0, record { spelled = found.1; is_fates = record { some = omega (arith, size, some); most = omega (arith, size, few) } })

pub size_of : (letters : List ℕ) → SpellsSome letters → (1 ≤ length letters) × (length letters ≤ max_fates)
size_of letters spelled =
    let size : length spelled.0 ≡ length letters = sym (length-map spelled.0 letter_of) ∙ ap (λ (l : List ℕ). length l) spelled.1.spelled in
    (omega (arith, size, spelled.1.is_fates.some), omega (arith, size, spelled.1.is_fates.most))

pub all_letters : (letters : List ℕ) → SpellsSome letters → list_all is_letter letters ≡ true
all_letters letters spelled = ap (λ (l : List ℕ). list_all is_letter l) (sym spelled.1.spelled) ∙ are_all spelled.0

-- at each place stands the letter of a fate
pub letter_at : (letters : List ℕ) (i : ℕ) → i < length letters → SpellsSome letters → (fate : Fate) × (letter_of fate ≡ get_or letters i 0)
letter_at letters i within spelled =
    let size : length spelled.0 ≡ length letters = sym (length-map spelled.0 letter_of) ∙ ap (λ (l : List ℕ). length l) spelled.1.spelled in
    let fate = get_or spelled.0 i Deliver in
    (fate, sym (get_or-map letter_of spelled.0 i Deliver 0 (omega (arith, size, within))) ∙ ap (λ (l : List ℕ). get_or l i 0) spelled.1.spelled)
