-- Writes of the parts of a header to FILE, call after call.
use Rattle.std.proofs.Common.{◌≡◌, inl, inr, ℕ, ◌+◌, ◌≤◌, List, ◌++◌, length, take, slice_range, refl, sym, subst, ◌∙◌, ap, arith, length-drop}
use Rattle.fw_cuts.specs.Write.{Write, IsWrite}
use Rattle.fw_cuts.specs.Sectors.{IsOn, Leaves, replaced, after_of}
use Rattle.fw_cuts.specs.Both.{Both, On}
use Rattle.fw_cuts.specs.Cuts.{Seen, Goes, Stays, splice, Cuts, MayResize, IsSynced}
use Rattle.fw_cuts.specs.Private.{Lays}
use Rattle.fw_cuts.specs.declared.files.Part.TheVariants.{Store}
use Rattle.fw_cuts.proofs.Goings.{unmoved, follow, widen}
use Rattle.fw_cuts.proofs.Splices.{splice_same, splice_replaced, splice_last, length-resized}
use Rattle.fw_cuts.proofs.Leavings as leavings

-- ---- what may be left is no longer than this

short_resized : (len : ℕ) (x y : List ℕ) → length x ≤ len → MayResize len x y → length y ≤ len
short_resized len x y few (inl same) = omega (arith, few, ap length same)
short_resized len x y few (inr other) = omega (arith, ap length other, length-resized x len)

pub short_same : (a b : Seen) (len : ℕ) → Goes Stays a b → IsSynced Store a → length a.held.store ≤ len
    → (left : Both) → b.may_leave left → length left.store ≤ len
short_same a b len asks synced few left may =
    let x = asks.leaves left may in
    let same : length left.store ≡ length a.held.store = ap (λ (d : Both). length d.store) x.2 ∙ ap length (synced x.0 x.1) in
    omega (arith, same, few)

pub short_grown : (a b c : Seen) (len : ℕ) → Goes Stays a b → Goes (On Store (MayResize len)) b c → IsSynced Store a → length a.held.store ≤ len
    → (left : Both) → c.may_leave left → length left.store ≤ len
short_grown a b c len asks sets synced few left may =
    let y = sets.leaves left may in
    short_resized len y.0.store left.store (short_same a b len asks synced few y.0 y.1) y.2.0

pub short_synced : (c : Seen) (len : ℕ) → IsSynced Store c → length c.held.store ≡ len → (left : Both) → c.may_leave left → length left.store ≤ len
short_synced c len synced is left may = omega (arith, ap length (synced left may), is)

-- ---- the parts of a write

module _ (w : Write) (c : List ℕ) (is : IsWrite w) (on : IsOn w c) where
  abbrev end : ℕ
  end = w.last_at + length w.last_after

  -- nothing yet
  pub begun : (x : Both) → Lays w c x x
  begun x = record { lays = λ e. subst (λ (l : List ℕ). Leaves w c l) (sym e) (leavings.before w c is on); rest = refl }

  pub resized_lays : (x y : Both) → On Store (MayResize end) x y → Lays w c x y
  resized_lays x y step = record {
    lays = λ e. leavings.resizes w c is on y.store (subst (λ (l : List ℕ). MayResize end l y.store) e step.0);
    rest = step.1;
  }

  pub last_lays : (x y z : Both) → Lays w c x y → length y.store ≤ end → On Store (Cuts w.last_at w.last_after) y z → Lays w c x z
  last_lays x y z laid short step = record {
    lays = λ e. leavings.last w c is on y.store (laid.lays e) z.store short step.0;
    rest = step.1 ∙ laid.rest;
  }

  pub front_lays : (x y z : Both) → Lays w c x y → On Store (Cuts w.at w.after) y z → Lays w c x z
  front_lays x y z laid step = record {
    lays = λ e. leavings.front w c is on y.store (laid.lays e) z.store step.0;
    rest = step.1 ∙ laid.rest;
  }

  -- one of them is written
  pub front_written : (a b : Seen) → Goes (On Store (Cuts w.at w.after)) a b → Goes (Lays w c) a b
  front_written a b goes = widen (On Store (Cuts w.at w.after)) (Lays w c) a b goes (λ x y step. front_lays x x y (begun x) step)

  pub last_written : (a b : Seen) → Goes (On Store (Cuts w.last_at w.last_after)) a b → IsSynced Store a → a.held.store ≡ c → length c ≤ end → Goes (Lays w c) a b
  last_written a b goes synced held few =
      follow Stays (On Store (Cuts w.last_at w.last_after)) (Lays w c) (λ y. length y.store ≤ end) a a b (unmoved a)
      (omega (arith, few, ap length held)) (λ left may. omega (arith, few, ap length (synced left may), ap length held)) goes
      (λ x y same. subst (λ (d : Both). Lays w c x d) (sym same) (begun x))
      (λ x y z same short step. last_lays x y z (subst (λ (d : Both). Lays w c x d) (sym same) (begun x)) short step)

-- ---- both parts, at these places

module _ (at : ℕ) (bytes : List ℕ) (last_at : ℕ) (last : List ℕ) (w : Write) (at_is : w.at ≡ at) (bytes_is : w.after ≡ bytes) (last_at_is : w.last_at ≡ last_at) (last_is : w.last_after ≡ last)
    (c : List ℕ) (is : IsWrite w) (on : IsOn w c) where
  end_is : w.last_at + length w.last_after ≡ last_at + length last
  end_is = omega (arith, last_at_is, ap length last_is)

  to_resized : (x y : Both) → On Store (MayResize (last_at + length last)) x y → On Store (MayResize (w.last_at + length w.last_after)) x y
  to_resized x y step = subst (λ (n : ℕ). On Store (MayResize n) x y) (sym end_is) step

  to_last : (x y : Both) → On Store (Cuts last_at last) x y → On Store (Cuts w.last_at w.last_after) x y
  to_last x y step = subst (λ (n : ℕ). On Store (Cuts n w.last_after) x y) (sym last_at_is) (subst (λ (l : List ℕ). On Store (Cuts last_at l) x y) (sym last_is) step)

  to_front : (x y : Both) → On Store (Cuts at bytes) x y → On Store (Cuts w.at w.after) x y
  to_front x y step = subst (λ (n : ℕ). On Store (Cuts n w.after) x y) (sym at_is) (subst (λ (l : List ℕ). On Store (Cuts at l) x y) (sym bytes_is) step)

  module _ (a b : Seen) (fits : Goes (On Store (MayResize (last_at + length last))) a b) where
    pub fitted : Goes (Lays w c) a b
    fitted = widen (On Store (MayResize (last_at + length last))) (Lays w c) a b fits (λ x y step. resized_lays w c is on x y (to_resized x y step))

    module _ (now : length b.held.store ≡ last_at + length last) (short : (left : Both) → b.may_leave left → length left.store ≤ last_at + length last)
        (d : Seen) (writes : Goes (On Store (Cuts last_at last)) b d) where
      pub with_last : Goes (Lays w c) a d
      with_last = follow (Lays w c) (On Store (Cuts last_at last)) (Lays w c) (λ y. length y.store ≤ last_at + length last) a b d fitted
          (omega (arith, now)) short writes (λ x y l. l)
          (λ x y z l q step. last_lays w c is on x y z l (omega (arith, q, end_is)) (to_last y z step))

      pub with_both : (e : Seen) → Goes (On Store (Cuts at bytes)) d e → Goes (Lays w c) a e
      with_both e writes_front = follow (Lays w c) (On Store (Cuts at bytes)) (Lays w c) (λ y. Unit {0}) a d e with_last
          tt (λ left may. tt) writes_front (λ x y l. l)
          (λ x y z l q step. front_lays w c is on x y z l (to_front y z step))

-- ---- what is written

pub front_made : (w : Write) (file : List ℕ) → IsWrite w → IsOn w file → w.last_after ≡ w.last_before → splice file w.at w.after ≡ after_of w file
front_made w file is on same =
    let order : w.at + length w.after ≤ w.last_at = omega (arith, is.order, is.same) in
    splice_replaced file w.at w.after w.last_at order on.within
    ∙ ap (λ (l : List ℕ). replaced file w.at w.after w.last_at l) (on.last ∙ sym same)

pub last_made : (w : Write) (file : List ℕ) → IsWrite w → IsOn w file → w.after ≡ w.before → length w.last_after ≡ length w.last_before → splice file w.last_at w.last_after ≡ after_of w file
last_made w file is on same size =
    let all : length file ≤ w.last_at + length w.last_after = omega (arith, length-drop w.last_at file, ap length on.last, size) in
    let front : slice_range file w.at (w.at + length w.after) ≡ w.after = ap (λ (l : List ℕ). slice_range file w.at (w.at + length l)) same ∙ on.front ∙ sym same in
    splice_last file w.last_at w.last_after all
    ∙ ap (λ (l : List ℕ). take w.last_at l ++ w.last_after) (sym (splice_same file w.at w.after front))
