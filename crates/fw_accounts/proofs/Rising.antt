-- Receipts whose numbers rise.
use Rattle.std.proofs.Common.{◌≡◌, ℕ, ◌+◌, ◌-◌, ◌<◌, ◌≤◌, List, length, get_or, ap, sym, ◌∙◌, arith}
use Rattle.std.proofs.lemmas.List.{get_or_default}
use mathlib.Core.Logic.{dite}
use native.Mathlib.Decide.{ℕ_discrete}
use Rattle.fw_air.specs.Events.{Receipt}
use Rattle.fw_accounts.specs.Accounts.{IsRising}

-- the number of a receipt that a place has
number_at : (rs : List Receipt) (k i : ℕ) (d r : Receipt) → k < length rs → k ≡ i → r ≡ get_or rs i r → (get_or rs k d).number ≡ r.number
number_at rs k i d r lt same is = ap (λ (x : Receipt). x.number) (get_or_default rs k d r lt ∙ ap (λ (j : ℕ). get_or rs j r) same ∙ sym is)

-- the numbers rise among the receipts before a place
abbrev pub RisesBelow : List Receipt → ℕ → Type 0
RisesBelow rs end = (k : ℕ) (d : Receipt) → k + 1 < end → (get_or rs k d).number < (get_or rs (k + 1) d).number

module _ (rs : List Receipt) (i : ℕ) (before receipt : Receipt) (some : 1 ≤ i) (lt : i < length rs) (before_is : before ≡ get_or rs (i - 1) before) (receipt_is : receipt ≡ get_or rs i receipt) where
  pub rising_more : before.number < receipt.number → RisesBelow rs i → RisesBelow rs (i + 1)
  rising_more up was k d below =
      dite (ℕ_discrete (k + 1) i)
      (λ same.
      let low = number_at rs k (i - 1) d before (omega arith) (omega arith) before_is in
      let high = number_at rs (k + 1) i d receipt (omega arith) same receipt_is in
      omega arith)
      (λ other. was k d (omega arith))

  pub not_rising : receipt.number ≤ before.number → IsRising rs → ⊥
  not_rising down rises =
      let up = rises (i - 1) before (omega arith) in
      let low = number_at rs (i - 1) (i - 1) before before (omega arith) (omega arith) before_is in
      let high = number_at rs (i - 1 + 1) i before receipt (omega arith) (omega arith) receipt_is in
      omega arith
