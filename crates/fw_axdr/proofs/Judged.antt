-- Judging a value, and that no fault of one is OutOfMemory.
use Rattle.std.proofs.Common.{◌≡◌, ℕ, zero, suc, ◌-◌, ◌^◌, false, eqb, inl, inr, Option, Some, None, arith}
use Rattle.std.specs.Prelude.{IfSome, length}
use Rattle.std.specs.Option.{option_or}
use Rattle.std.proofs.lemmas.Bool.{lt-ltb, le-ltb, ne_eqb, cases_lt}
use Rattle.fw_axdr.specs.declared.error.AxdrError.{AxdrError}
use Rattle.fw_axdr.specs.Value.{Value, Values, array, structure, bit_string, octet_string, visible_string, none, more, count}
use Rattle.fw_axdr.specs.Fault.{IfMemory, within, counted, unwritable, first_unwritable}

-- not OutOfMemory
abbrev pub IsNoWant : Option AxdrError → Type 0
IsNoWant o = IfSome o (λ e. IfMemory e ⊥)

within_fault : (levels : ℕ) (o : Option AxdrError) → IsNoWant o → IsNoWant (within levels o)
within_fault zero o h = tt
within_fault (suc n) o h =
    let deep : eqb (suc n) 0 ≡ false = ne_eqb (suc n) 0 (λ z. omega arith) in
    rw deep h

counted_fault : (n : ℕ) (o : Option AxdrError) → IsNoWant o → IsNoWant (counted n o)
counted_fault n o h =
    elim (cases_lt n (2 ^ 32)) [
      | inl lt ↦ rw (lt-ltb n (2 ^ 32) lt) h
      | inr ge ↦ rw (le-ltb n (2 ^ 32) ge) tt
    ]

or_fault : (a b : Option AxdrError) → IsNoWant a → IsNoWant b → IsNoWant (option_or a b)
or_fault None b h k = k
or_fault (Some f) b h k = h

mutual
  pub value_fault : (v : Value) (levels : ℕ) → IsNoWant (unwritable v levels)
  value_fault (array vs) levels = within_fault levels _ (counted_fault (count vs) _ (values_fault vs (levels - 1)))
  value_fault (structure vs) levels = within_fault levels _ (counted_fault (count vs) _ (values_fault vs (levels - 1)))
  value_fault (bit_string bs) levels = within_fault levels _ (counted_fault (length bs) None tt)
  value_fault (octet_string o) levels = within_fault levels _ (counted_fault (length o) None tt)
  value_fault (visible_string o) levels = within_fault levels _ (counted_fault (length o) None tt)
  value_fault _ levels = within_fault levels None tt

  pub values_fault : (vs : Values) (levels : ℕ) → IsNoWant (first_unwritable vs levels)
  values_fault none levels = tt
  values_fault (more v vs) levels = or_fault (unwritable v levels) (first_unwritable vs levels) (value_fault v levels) (values_fault vs levels)
