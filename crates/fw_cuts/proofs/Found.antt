-- What an opening finds of a header write that was cut.
use Rattle.std.proofs.Common.{◌≡◌, ◌⊎◌, inl, inr, true, false, ℕ, ◌+◌, ◌-◌, ◌≤◌, List, [], length, take, drop, slice_range, refl, sym, subst, ◌∙◌, ap, arith}
use Rattle.std.specs.Str.{bytes_eq}
use Rattle.std.proofs.lemmas.Bool.{cases_Bool}
use Rattle.std.proofs.lemmas.List.{drop-drop}
use Rattle.std.proofs.lemmas.Slice.Eq.{bytes_eq-Decides}
use Rattle.fw_cuts.specs.Write.{Write, IsWrite, journal_bytes}
use Rattle.fw_cuts.specs.Sectors.{IsOn, Leaves, Mends, after_of}
use Rattle.fw_cuts.specs.Laws.{OneWrite, EachCutIsMended, OneSectorIsWhole}
use Rattle.fw_cuts.specs.Both.{Both}
use Rattle.fw_cuts.specs.Rest.{write_on, IsReadyFor, IsRecovered, SameOutside, IsChance, IsOldOrNew}
use Rattle.fw_cuts.proofs.Splices.{slice_of_take, replaced_front, replaced_last}
use Rattle.fw_cuts.proofs.Leavings as leavings

pub same_or_not : (xs ys : List ℕ) → (xs ≡ ys) ⊎ (¬ (xs ≡ ys))
same_or_not xs ys = by_test (cases_Bool (bytes_eq xs ys))
  where
    by_test : (bytes_eq xs ys ≡ true) ⊎ (bytes_eq xs ys ≡ false) → (xs ≡ ys) ⊎ (¬ (xs ≡ ys))
    by_test (inl found) = inl ((bytes_eq-Decides xs ys).0 found)
    by_test (inr missing) = inr (λ e. let found : bytes_eq xs ys ≡ true = (bytes_eq-Decides xs ys).1 e in cc)

-- an empty journal is that of no write
pub some_journal : (v : Write) → ¬ ([] ≡ journal_bytes v)
some_journal v e = cc

-- a write of which FILE has what stands in its places
pub on_written : (c : List ℕ) (at : ℕ) (bytes : List ℕ) (last_at : ℕ) (last : List ℕ) → IsWrite (write_on c at bytes last_at last) → last_at ≤ length c → IsOn (write_on c at bytes last_at last) c
on_written c at bytes last_at last is begins = record {
  within = begins;
  front = ap (λ (n : ℕ). slice_range c at (at + n)) (sym is.same);
  last = refl;
}

-- ---- bytes that are the same outside a place

pub same_as : (from to : ℕ) (a b : List ℕ) → b ≡ a → SameOutside from to a b
same_as from to a b is = record { size = ap length is; front = ap (take from) is; back = ap (drop to) is }

pub same_after : (from to : ℕ) (a b c : List ℕ) → SameOutside from to a b → SameOutside from to b c → SameOutside from to a c
same_after from to a b c one two = record { size = two.size ∙ one.size; front = two.front ∙ one.front; back = two.back ∙ one.back }

pub same_back : (from to : ℕ) (a b : List ℕ) → SameOutside from to a b → SameOutside from to b a
same_back from to a b one = record { size = sym one.size; front = sym one.front; back = sym one.back }

module _ (from to : ℕ) (a b : List ℕ) (same : SameOutside from to a b) where
  pub front_same : (at end : ℕ) → at ≤ end → end ≤ from → slice_range b at end ≡ slice_range a at end
  front_same at end order before =
      sym (slice_of_take b from at end order before)
      ∙ ap (λ (l : List ℕ). slice_range l at end) same.front
      ∙ slice_of_take a from at end order before

  pub back_same : (at : ℕ) → to ≤ at → drop at b ≡ drop at a
  back_same at behind =
      let split : to + (at - to) ≡ at = omega (arith, behind) in
      sym (ap (λ (n : ℕ). drop n b) split)
      ∙ sym (drop-drop (at - to) to b)
      ∙ ap (drop (at - to)) same.back
      ∙ drop-drop (at - to) to a
      ∙ ap (λ (n : ℕ). drop n a) split

-- ---- a write that was cut

module _ (held : Both) (w : Write) (one : OneWrite) (mended : EachCutIsMended) (fits : IsWrite w) (on : IsOn w held.store) where
  -- by its own journal
  by_own : (left : Both) (made : List ℕ) (v : Write) → IsWrite v → left.journal ≡ journal_bytes v → left.journal ≡ journal_bytes w → Leaves w held.store left.store → Mends v left.store made
      → (made ≡ held.store) ⊎ (made ≡ after_of w held.store)
  by_own left made v is whole own leaves mends =
      let e : v ≡ w = one v w is fits (sym whole ∙ own) in
      mended w held.store left.store made fits on leaves (subst (λ (u : Write). Mends u left.store made) e mends)

  by_any : (x z : Both) (made : List ℕ) → x.store ≡ held.store → (made ≡ held.store) ⊎ (made ≡ after_of w held.store)
      → (made ≡ x.store) ⊎ (made ≡ after_of w held.store) ⊎ IsChance held.journal w z.journal
  by_any x z made was (inl old) = inl (old ∙ sym was)
  by_any x z made was (inr new) = inr (inl new)

  -- while the journal is made ready
  module _ (from to : ℕ) (quiet : (store made : List ℕ) → SameOutside from to held.store store → IsRecovered held.journal store made → made ≡ store) where
    pub readying : (x z : Both) → x.store ≡ held.store → z.store ≡ held.store → IsOldOrNew held w x z
    readying x z was same made (inr (no_write, stays)) = inl (stays ∙ same ∙ sym was)
    readying x z was same made (inl (v, is, whole, mends)) = by_journal (same_or_not z.journal (journal_bytes w)) (same_or_not z.journal held.journal)
      where
        by_journal : (z.journal ≡ journal_bytes w) ⊎ (¬ (z.journal ≡ journal_bytes w)) → (z.journal ≡ held.journal) ⊎ (¬ (z.journal ≡ held.journal))
            → (made ≡ x.store) ⊎ (made ≡ after_of w held.store) ⊎ IsChance held.journal w z.journal
        by_journal (inl own) any =
            by_any x z made was (by_own z made v is whole own (subst (λ (l : List ℕ). Leaves w held.store l) (sym same) (leavings.before w held.store fits on)) mends)
        by_journal (inr not_new) (inl old) =
            inl (quiet z.store made (same_as from to held.store z.store same) (inl (v, is, sym old ∙ whole, mends)) ∙ same ∙ sym was)
        by_journal (inr not_new) (inr not_old) = inr (inr (record { v = v; is = is; whole = whole; not_new = not_new; not_old = not_old }))

  -- while the parts are written
  pub writing : OneSectorIsWhole → (x y z : Both) → x.store ≡ held.store → IsReadyFor y.journal w → z.journal ≡ y.journal → Leaves w held.store z.store → IsOldOrNew held w x z
  writing sector x y z was (inl ready) same leaves made (inl (v, is, whole, mends)) = by_any x z made was (by_own z made v is whole (same ∙ ready) leaves mends)
  writing sector x y z was (inl ready) same leaves made (inr (no_write, stays)) = absurd (no_write w fits (same ∙ ready))
  writing sector x y z was (inr (none, one_sector)) same leaves made (inl (v, is, whole, mends)) = absurd (some_journal v (sym none ∙ sym same ∙ whole))
  writing sector x y z was (inr (none, one_sector)) same leaves made (inr (no_write, stays)) = by_any x z made was (by_sector (sector w held.store z.store fits on one_sector leaves))
    where
      by_sector : (z.store ≡ held.store) ⊎ (z.store ≡ after_of w held.store) → (made ≡ held.store) ⊎ (made ≡ after_of w held.store)
      by_sector (inl old) = inl (stays ∙ old)
      by_sector (inr new) = inr (stays ∙ new)

-- ---- a write that is done

-- an opening takes nothing back, whatever stands between its parts
pub finished : (from to : ℕ) (w : Write) (c : List ℕ) → OneWrite → IsWrite w → IsOn w c → w.at + length w.after ≤ from → to ≤ w.last_at
    → (journal : List ℕ) → IsReadyFor journal w → (store made : List ℕ) → SameOutside from to (after_of w c) store → IsRecovered journal store made → made ≡ store
finished from to w c one is on before behind journal ready store made same (inr (no_write, stays)) = stays
finished from to w c one is on before behind journal (inr (none, one_sector)) store made same (inl (v, fits, whole, mends)) = absurd (some_journal v (sym none ∙ whole))
finished from to w c one is on before behind journal (inl ready) store made same (inl (v, fits, whole, mends)) =
    let e : v ≡ w = one v w fits is (sym whole ∙ ready) in
    let mends_w : Mends w store made = subst (λ (u : Write). Mends u store made) e mends in
    let order : w.at + length w.after ≤ w.last_at = omega (arith, is.order, is.same) in
    let end : w.at + length w.before ≡ w.at + length w.after = omega (arith, is.same) in
    let starts : w.at ≤ w.at + length w.before = omega arith in
    let ends : w.at + length w.before ≤ from = omega (arith, end, before) in
    let front : slice_range store w.at (w.at + length w.before) ≡ w.after =
    front_same from to (after_of w c) store same w.at (w.at + length w.before) starts ends
    ∙ replaced_front c w.at w.after w.last_at w.last_after (w.at + length w.before) order on.within end in
    let last : drop w.last_at store ≡ w.last_after =
    back_same from to (after_of w c) store same w.last_at behind ∙ replaced_last c w.at w.after w.last_at w.last_after order on.within in
    mends_w.whole (λ torn. torn.torn.unfinished (front, last))

-- and nothing by an empty journal
pub empty_quiet : (store made : List ℕ) → IsRecovered [] store made → made ≡ store
empty_quiet store made (inl (v, is, whole, mends)) = absurd (some_journal v whole)
empty_quiet store made (inr (no_write, stays)) = stays
