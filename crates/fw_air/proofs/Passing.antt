-- What fates make of datagrams, one after another.
use Rattle.std.proofs.Common.{◌≡◌, ℕ, zero, suc, ◌+◌, ◌-◌, ◌%◌, ◌<◌, ◌≤◌, List, [], ◌∷◌, ◌++◌, length, slice_get, Option, Some, refl, sym, ap, ◌∙◌, arith, subst, append_assoc, append-nil}
use Rattle.std.specs.List.{flat_map, range_with_len}
use Rattle.std.proofs.lemmas.List.{flat_map_more, length-append, map-id}
use Rattle.std.proofs.lemmas.List.FromFn.{map-range_with_len_more}
use Rattle.fw_air.specs.declared.fates.Fate.{Fate}
use Rattle.fw_air.specs.Fates.{by_fates, fate_of}
use Rattle.fw_air.specs.Logs.{capped}

range_more : (a n j : ℕ) → a + n ≡ j → range_with_len a (n + 1) ≡ range_with_len a n ++ j ∷ []
range_more a n j e =
    sym (map-id (range_with_len a (n + 1))) ∙ map-range_with_len_more (λ (x : ℕ). x) a n j e ∙ ap (λ (l : List ℕ). l ++ j ∷ []) (map-id (range_with_len a n))

module _ (says : Option Fate → ℕ → List ℕ) (fates : List Fate) (passed from : ℕ) where
  abbrev said : ℕ → List ℕ
  said number = says (fate_of fates (capped (passed + (number - from)))) number

  up_to : ℕ → List ℕ
  up_to count = flat_map said (range_with_len from count)

  -- the same numbers
  pub same_numbers : (one other : ℕ) → one - from ≡ other - from → by_fates says fates passed from one ≡ by_fates says fates passed from other
  same_numbers one other e = ap (λ (count : ℕ). flat_map said (range_with_len from count)) e

  -- one datagram more
  pub one_more : (bs had : List ℕ) (number now : ℕ) (fate : Fate) → from ≤ number → now ≡ capped (passed + (number - from))
      → slice_get fates (now % length fates) ≡ Some fate → had ≡ bs ++ by_fates says fates passed from number
      → had ++ says (Some fate) number ≡ bs ++ by_fates says fates passed from (number + 1)
  one_more bs had number now fate later now_is fate_is had_is =
      let next : number + 1 - from ≡ (number - from) + 1 = omega arith in
      let at : from + (number - from) ≡ number = omega arith in
      let numbers : range_with_len from ((number - from) + 1) ≡ range_with_len from (number - from) ++ number ∷ [] = range_more from (number - from) number at in
      let is : said number ≡ says (Some fate) number = ap (λ (n : ℕ). says (fate_of fates n) number) (sym now_is) ∙ ap (λ (f : Option Fate). says f number) fate_is in
      ap (λ (l : List ℕ). had ++ l) (sym is)
      ∙ ap (λ (l : List ℕ). l ++ said number) had_is
      ∙ flat_map_more said bs (range_with_len from (number - from)) number
      ∙ ap (λ (l : List ℕ). bs ++ flat_map said l) (sym numbers)
      ∙ ap (λ (count : ℕ). bs ++ flat_map said (range_with_len from count)) (sym next)

-- no datagram
pub none_told : (says : Option Fate → ℕ → List ℕ) (fates : List Fate) (passed from : ℕ) → by_fates says fates passed from from ≡ []
none_told says fates passed from =
    let none : from - from ≡ zero = omega arith in
    ap (λ (count : ℕ). flat_map (λ (number : ℕ). says (fate_of fates (capped (passed + (number - from)))) number) (range_with_len from count)) none

-- those up to a number, and those from there on, with what had its fate before each
module _ (says : Option Fate → ℕ → List ℕ) (fates : List Fate) (passed from mid : ℕ) (before : from ≤ mid) where
  abbrev told : ℕ → ℕ → ℕ → List ℕ
  told passed from number = says (fate_of fates (capped (passed + (number - from)))) number

  grown : (passed from number : ℕ) → from ≤ number → by_fates says fates passed from (number + 1) ≡ by_fates says fates passed from number ++ told passed from number
  grown passed from number later =
      let next : number + 1 - from ≡ (number - from) + 1 = omega arith in
      let at : from + (number - from) ≡ number = omega arith in
      ap (λ (count : ℕ). flat_map (told passed from) (range_with_len from count)) next
      ∙ ap (flat_map (told passed from)) (range_more from (number - from) number at)
      ∙ sym (flat_map_more (told passed from) [] (range_with_len from (number - from)) number)

  joined_up : (count : ℕ) → by_fates says fates passed from mid ++ by_fates says fates (capped (passed + (mid - from))) mid (mid + count) ≡ by_fates says fates passed from (mid + count)
  joined_up zero =
      let none : mid + zero - mid ≡ zero = omega arith in
      let here : mid ≡ mid + zero = omega arith in
      ap (λ (n : ℕ). by_fates says fates passed from mid ++ flat_map (told (capped (passed + (mid - from))) mid) (range_with_len mid n)) none
      ∙ append-nil (by_fates says fates passed from mid)
      ∙ ap (by_fates says fates passed from) here
  joined_up (suc count) =
      let half = capped (passed + (mid - from)) in
      let next : mid + suc count ≡ mid + count + 1 = omega arith in
      let number : capped (half + (mid + count - mid)) ≡ capped (passed + (mid + count - from)) = omega (arith, before) in
      ap (λ (n : ℕ). by_fates says fates passed from mid ++ by_fates says fates half mid n) next
      ∙ ap (λ (l : List ℕ). by_fates says fates passed from mid ++ l) (grown half mid (mid + count) (omega arith))
      ∙ sym (append_assoc (by_fates says fates passed from mid) (by_fates says fates half mid (mid + count)) (told half mid (mid + count)))
      ∙ ap (λ (l : List ℕ). l ++ told half mid (mid + count)) (joined_up count)
      ∙ ap (λ (n : ℕ). by_fates says fates passed from (mid + count) ++ says (fate_of fates n) (mid + count)) number
      ∙ sym (grown passed from (mid + count) (omega (arith, before)))
      ∙ ap (by_fates says fates passed from) (sym next)

  pub joined : (end : ℕ) → mid ≤ end → by_fates says fates passed from mid ++ by_fates says fates (capped (passed + (mid - from))) mid end ≡ by_fates says fates passed from end
  joined end after =
      let whole : mid + (end - mid) ≡ end = omega arith in
      subst (λ (n : ℕ). by_fates says fates passed from mid ++ by_fates says fates (capped (passed + (mid - from))) mid n ≡ by_fates says fates passed from n) whole (joined_up (end - mid))

-- what one datagram says stands among what all of them say
pub one_told : (says : Option Fate → ℕ → List ℕ) (fates : List Fate) (passed from end number now : ℕ) (fate : Fate) → from ≤ number → number < end → now ≡ capped (passed + (number - from))
    → slice_get fates (now % length fates) ≡ Some fate → 1 ≤ length (says (Some fate) number) → 1 ≤ length (by_fates says fates passed from end)
one_told says fates passed from end number now fate later before now_is fate_is some =
    let more : by_fates says fates passed from number ++ says (Some fate) number ≡ by_fates says fates passed from (number + 1) =
    one_more says fates passed from [] (by_fates says fates passed from number) number now fate later now_is fate_is refl in
    let others = by_fates says fates (capped (passed + (number + 1 - from))) (number + 1) end in
    let all : by_fates says fates passed from (number + 1) ++ others ≡ by_fates says fates passed from end = joined says fates passed from (number + 1) (omega (arith, later)) end (omega (arith, before)) in
    let long = length-append (by_fates says fates passed from number) (says (Some fate) number) in
    let longer = length-append (by_fates says fates passed from (number + 1)) others in
    let same = ap (λ (l : List ℕ). length l) more in
    let whole = ap (λ (l : List ℕ). length l) all in
    omega arith
