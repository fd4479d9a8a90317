-- A meter that has a row at a head end has a live one.
use Rattle.std.proofs.Common.{◌≡◌, ℕ, Bool, true, false, IsTrue, MatchBool, Option, Some, None, is_some, IsSomeAnd, refl, sym, ap, subst, ◌∙◌}
use Rattle.std.specs.Borrow.{Bor}
use Rattle.std.specs.Option.{option_copied}
use Rattle.fw_client.specs.State.{IsWaiting}
use Rattle.fw_head.specs.Phase.{IsLive}
use Rattle.fw_head.specs.Row.{Row}
use Rattle.fw_head.specs.Head.{Head, IsHead, row_of, HasOutstanding}
use Rattle.fw_head.proofs.LiveRows.{some_row}
use Rattle.fw_head.proofs.Openings.{none_row}

pub some_copied : {X : Type 0} (o : Option (Bor X)) (r : Option X) → option_copied o ≡ r → IsTrue (is_some o) → IsTrue (is_some r)
some_copied None r e some = absurd cc
some_copied (Some x) r e some = ap is_some (sym e)

pub live_row : (head : Head) → IsHead head → (meter : ℕ) → IsTrue (is_some (row_of head.rows meter)) → IsSomeAnd (row_of head.rows meter) (λ row. IsLive row.stage)
live_row head is meter some = go (row_of head.rows meter) refl some
  where
    go : (o : Option Row) → row_of head.rows meter ≡ o → IsTrue (is_some o) → IsSomeAnd o (λ row. IsLive row.stage)
    go None e h = absurd cc
    go (Some row) e h = (is.of_book meter row e).going

-- ---- whether an ask is outstanding

pub waiting_in : (head : Head) (meter : ℕ) (row : Row) (waits : Bool) → row_of head.rows meter ≡ Some row → MatchBool waits (IsWaiting row.client) (¬ IsWaiting row.client)
    → MatchBool waits (HasOutstanding head meter) (¬ HasOutstanding head meter)
waiting_in head meter row true found is = (row, found, is)
waiting_in head meter row false found none =
    let P : Row → Type 0 = λ r. IsWaiting r.client in
    λ has. none (subst P (some_row has.0 row (sym has.1 ∙ found)) has.2)

pub none_waiting : (head : Head) (meter : ℕ) → row_of head.rows meter ≡ None → ¬ HasOutstanding head meter
none_waiting head meter none has = none_row has.0 (sym none ∙ has.1)
