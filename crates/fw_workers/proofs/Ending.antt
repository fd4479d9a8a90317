-- Which refusal of workers is reported.
use Rattle.std.proofs.Common.{◌≡◌, ℕ, ◌⊎◌, inl, inr, List, [], ◌∷◌, Option, None, Some, Result, Ok, Err, IfOk, IfErr, IfSome, IsErrOf, All, refl, ap, ◌∙◌, subst, arith}
use Rattle.std.specs.List.{AllZip}
use Rattle.std.proofs.lemmas.List.Elements.{All-cons}
use Rattle.fw_workers.specs.declared.error.RoundsError.{RoundsError}
use Rattle.fw_workers.specs.declared.error.RoundsError.TheVariants as unaccounted
use Rattle.fw_workers.specs.Ends.{ComesFirst, ComesLast, End, EndsAs, EndsUnder, IsLowestRefusal, IsReason, IsUnstarted, lowest_refusal}

-- if none was refused, each share may end well
all_well : {H : Type 0} (may_end : H → End → Type 0) (shares : List H) (ends : List End) → AllZip (EndsAs may_end) shares ends
    → lowest_refusal ends ≡ None → All (λ share. may_end share (Ok tt)) shares
all_well may_end [] [] each none = λ k d lt. absurd (omega arith)
all_well may_end [] (end ∷ ends) each none = absurd each
all_well may_end (share ∷ shares) [] each none = absurd each
all_well may_end (share ∷ shares) (Err refusal ∷ ends) each none = cc
all_well may_end (share ∷ shares) (Ok done ∷ ends) each none =
    let well : may_end share (Ok tt) = elim each.0 [ inl may ↦ may | inr refused ↦ cc ] in
    All-cons (λ share. may_end share (Ok tt)) share shares well (all_well may_end shares ends each.1 none)

-- the refusal of the lowest is one of its share, or it was told not to begin
lowest_may : {H : Type 0} (done : ℕ) (may_end : H → End → Type 0) (shares : List H) (ends : List End) (refusal : RoundsError)
    → AllZip (EndsAs may_end) shares ends → lowest_refusal ends ≡ Some refusal → ComesFirst done refusal ⊎ IsLowestRefusal may_end shares refusal
lowest_may done may_end [] [] refusal each is = cc
lowest_may done may_end [] (end ∷ ends) refusal each is = absurd each
lowest_may done may_end (share ∷ shares) [] refusal each is = absurd each
lowest_may done may_end (share ∷ shares) (Err told ∷ ends) refusal each is =
    let same : told ≡ refusal = cc in
    elim each.0 [
      | inl may ↦ inr (inl (subst (λ (e : RoundsError). may_end share (Err e)) same may))
      | inr refused ↦ inl (let is_refused : unaccounted.ThreadRefused ≡ refusal = cc in subst (ComesFirst done) is_refused tt)
    ]
lowest_may done may_end (share ∷ shares) (Ok fine ∷ ends) refusal each is =
    elim each.0 [
      | inl may ↦ elim (lowest_may done may_end shares ends refusal each.1 is) [ inl own ↦ inl own | inr lower ↦ inr (inr (may, lower)) ]
      | inr refused ↦ cc
    ]

-- if there is a report, each share may end well
well : {H R : Type 0} (may_end : H → End → Type 0) (shares : List H) (ends : List End) (low : Option RoundsError) (told : Result R RoundsError)
    → AllZip (EndsAs may_end) shares ends → lowest_refusal ends ≡ low → IfSome low (λ e. IsErrOf told e)
    → IfOk told (λ _. All (λ share. may_end share (Ok tt)) shares)
well may_end shares ends low (Err refusal) each is refused = tt
well may_end shares ends None (Ok report) each is refused = all_well may_end shares ends each is
well may_end shares ends (Some refusal) (Ok report) each is refused = cc

-- if there is none, the reason came first, or it is the lowest refusal, or all ended well and it came last
lowest : {H R : Type 0} (done : ℕ) (may_end : H → End → Type 0) (shares : List H) (ends : List End) (low : Option RoundsError) (told : Result R RoundsError)
    → AllZip (EndsAs may_end) shares ends → lowest_refusal ends ≡ low → IfSome low (λ e. IsErrOf told e) → (low ≡ None → IfErr told ComesLast)
    → IfErr told (IsReason done may_end shares)
lowest done may_end shares ends low (Ok report) each is refused otherwise = tt
lowest done may_end shares ends None (Err reason) each is refused otherwise = inr (inr (all_well may_end shares ends each is, otherwise refl))
lowest done may_end shares ends (Some refusal) (Err reason) each is refused otherwise =
    let same : refusal ≡ reason = cc in
    elim (lowest_may done may_end shares ends reason each (is ∙ ap (λ e. Some e) same)) [ inl first ↦ inl first | inr lower ↦ inr (inl lower) ]

pub well_told : {H R : Type 0} (may_end : H → End → Type 0) (shares : List H) (ends : List End) (told : Result R RoundsError)
    → AllZip (EndsAs may_end) shares ends → IfSome (lowest_refusal ends) (λ e. IsErrOf told e)
    → IfOk told (λ _. All (λ share. may_end share (Ok tt)) shares)
well_told may_end shares ends told each refused = well may_end shares ends (lowest_refusal ends) told each refl refused

pub lowest_told : {H R : Type 0} (done : ℕ) (may_end : H → End → Type 0) (shares : List H) (ends : List End) (told : Result R RoundsError)
    → AllZip (EndsAs may_end) shares ends → IfSome (lowest_refusal ends) (λ e. IsErrOf told e) → (lowest_refusal ends ≡ None → IfErr told ComesLast)
    → IfErr told (IsReason done may_end shares)
lowest_told done may_end shares ends told each refused otherwise = lowest done may_end shares ends (lowest_refusal ends) told each refl refused otherwise

-- what keeps workers from beginning comes first
pub unstarted_first : {H : Type 0} (done : ℕ) (may_end : H → End → Type 0) (shares : List H) (reason : RoundsError) → IsUnstarted reason
    → IsReason done may_end shares reason
unstarted_first done may_end shares unaccounted.Mismatch is = absurd is
unstarted_first done may_end shares unaccounted.ThreadRefused is = inl tt
unstarted_first done may_end shares unaccounted.OutOfMemory is = inl tt
unstarted_first done may_end shares unaccounted.GateShut is = absurd is

-- a shut gate is reported of shares that end so only if one may shut
lowest_shut : {H : Type 0} (may_shut : Type 0) (shares : List H) → IsLowestRefusal (λ _ end. EndsUnder may_shut end) shares unaccounted.GateShut → may_shut
lowest_shut may_shut [] is = absurd is
lowest_shut may_shut (share ∷ shares) is = elim is [ inl may ↦ may.1 refl | inr lower ↦ lowest_shut may_shut shares lower.1 ]

pub shut_told : {H R : Type 0} (done : ℕ) (may_shut : Type 0) (shares : List H) (told : Result R RoundsError)
    → IfErr told (IsReason done (λ _ end. EndsUnder may_shut end) shares) → IsErrOf told unaccounted.GateShut → may_shut
shut_told done may_shut shares (Ok report) low is = cc
shut_told done may_shut shares (Err unaccounted.Mismatch) low is = cc
shut_told done may_shut shares (Err unaccounted.ThreadRefused) low is = cc
shut_told done may_shut shares (Err unaccounted.OutOfMemory) low is = cc
shut_told done may_shut shares (Err unaccounted.GateShut) low is =
    elim low [ inl first ↦ absurd first | inr later ↦ elim later [ inl lower ↦ lowest_shut may_shut shares lower | inr last ↦ absurd last.1 ] ]
