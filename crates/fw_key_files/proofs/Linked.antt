-- The links of new keys, one with each meter.
use Rattle.std.proofs.Common.{◌≡◌, ◌<◌, ◌+◌, ℕ, zero, suc, List, [], ◌∷◌, get_or, length, refl, subst, sym, arith}
use Rattle.fw_keys.specs.declared.entry.Entry.{Entry}
use Rattle.fw_keys.specs.Links.{HasEnd}
use Rattle.fw_key_files.specs.Making.{ends_in}

linked_at : (entries : List (Entry ℕ)) (k meter : ℕ) → k < length (ends_in entries) → get_or (ends_in entries) k meter ≡ meter → HasEnd entries meter
linked_at [] k meter within is = let none : ⊥ = omega (arith, within) in absurd none
linked_at (e ∷ entries) zero meter within is = (0, e, omega arith, refl, is)
linked_at (e ∷ entries) (suc k) meter within is =
    let (j, x, in_rest, at, same) = linked_at entries k meter (omega (arith, within)) is in
    (suc j, x, omega (arith, in_rest), at, same)

-- if the links are with these meters in order, there is one with each
pub linked : (entries : List (Entry ℕ)) (meters : List ℕ) (k meter : ℕ) → ends_in entries ≡ meters → k < length meters → get_or meters k meter ≡ meter
    → HasEnd entries meter
linked entries meters k meter same within is =
    linked_at entries k meter (subst (λ (ms : List ℕ). k < length ms) (sym same) within) (subst (λ (ms : List ℕ). get_or ms k meter ≡ meter) (sym same) is)
