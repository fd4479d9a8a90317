-- That recovery makes whole what a power cut left.
use Rattle.std.proofs.Common.{◌≡◌, ◌⊎◌, inl, inr, true, false, ℕ, ◌+◌, ◌≤◌, List, length, drop, slice_range, sym, subst, ◌∙◌, ap, arith}
use Rattle.std.specs.Str.{bytes_eq}
use Rattle.std.proofs.lemmas.Bool.{cases_Bool}
use Rattle.std.proofs.lemmas.Slice.Eq.{bytes_eq-Decides}
use Rattle.fw_cuts.specs.Write.{Write, IsWrite}
use Rattle.fw_cuts.specs.Sectors.{IsCut, IsCutAtEnd, IsOn, Leaves, IsTorn, Mends, after_of, replaced}
use Rattle.fw_cuts.specs.Laws.{EachCutIsMended}
use Rattle.fw_cuts.proofs.Splices.{replaced_last, replaced_front, replaced_again, replaced_same, length-replaced}

-- two byte strings are the same or not
pub same_or_not : (xs ys : List ℕ) → (xs ≡ ys) ⊎ (¬ (xs ≡ ys))
same_or_not xs ys = by_test (cases_Bool (bytes_eq xs ys))
  where
    by_test : (bytes_eq xs ys ≡ true) ⊎ (bytes_eq xs ys ≡ false) → (xs ≡ ys) ⊎ (¬ (xs ≡ ys))
    by_test (inl found) = inl ((bytes_eq-Decides xs ys).0 found)
    by_test (inr missing) = inr (λ e. let found : bytes_eq xs ys ≡ true = (bytes_eq-Decides xs ys).1 e in cc)

front_is : (w : Write) (file left : List ℕ) → IsWrite w → IsOn w file → (l : Leaves w file left) → slice_range left w.at (w.at + length w.before) ≡ l.front
front_is w file left is on l =
    let order : w.at + length l.front ≤ w.last_at = omega (arith, l.size, is.order) in
    let to : w.at + length w.before ≡ w.at + length l.front = omega (arith, l.size) in
    ap (λ (bytes : List ℕ). slice_range bytes w.at (w.at + length w.before)) l.stands
    ∙ replaced_front file w.at l.front w.last_at l.last (w.at + length w.before) order on.within to

last_is : (w : Write) (file left : List ℕ) → IsWrite w → IsOn w file → (l : Leaves w file left) → drop w.last_at left ≡ l.last
last_is w file left is on l =
    let order : w.at + length l.front ≤ w.last_at = omega (arith, l.size, is.order) in
    ap (drop w.last_at) l.stands ∙ replaced_last file w.at l.front w.last_at l.last order on.within

long : (w : Write) (file left : List ℕ) → IsWrite w → IsOn w file → (l : Leaves w file left) → w.last_at ≤ length left
long w file left is on l =
    let order : w.at + length l.front ≤ w.last_at = omega (arith, l.size, is.order) in
    omega (arith, ap length l.stands, length-replaced file w.at l.front w.last_at l.last order on.within)

-- an unfinished write is taken back
taken_back : (w : Write) (file left made : List ℕ) → IsWrite w → IsOn w file → (l : Leaves w file left) → Mends w left made
    → ¬ ((l.front ≡ w.after) × (l.last ≡ w.last_after)) → made ≡ file
taken_back w file left made is on l mends unfinished =
    let order : w.at + length l.front ≤ w.last_at = omega (arith, l.size, is.order) in
    let front = front_is w file left is on l in
    let last = last_is w file left is on l in
    let torn : IsTorn w (slice_range left w.at (w.at + length w.before)) (drop w.last_at left) = record {
      front_cut = subst (λ (bytes : List ℕ). IsCut w.at bytes w.before w.after) (sym front) l.front_cut;
      last_cut = subst (λ (bytes : List ℕ). IsCutAtEnd w.last_at bytes w.last_before w.last_after) (sym last) l.last_cut;
      unfinished = λ both. unfinished (sym front ∙ both.0, sym last ∙ both.1);
    } in
    mends.torn (record { within = long w file left is on l; torn = torn })
    ∙ ap (λ (bytes : List ℕ). replaced bytes w.at w.before w.last_at w.last_before) l.stands
    ∙ replaced_again file w.at l.front w.before w.last_at l.last w.last_before (sym l.size) order on.within
    ∙ replaced_same file w.at w.before w.last_at w.last_before on.front on.last

-- and one that is finished stays
stays : (w : Write) (file left made : List ℕ) → IsWrite w → IsOn w file → (l : Leaves w file left) → Mends w left made → l.front ≡ w.after → l.last ≡ w.last_after
    → made ≡ after_of w file
stays w file left made is on l mends front last =
    mends.whole (λ t. t.torn.unfinished (front_is w file left is on l ∙ front, last_is w file left is on l ∙ last))
    ∙ l.stands
    ∙ ap (λ (bytes : List ℕ). replaced file w.at bytes w.last_at l.last) front
    ∙ ap (λ (bytes : List ℕ). replaced file w.at w.after w.last_at bytes) last

pub each_cut_is_mended : EachCutIsMended
each_cut_is_mended w file left made is on l mends = by_parts (same_or_not l.front w.after) (same_or_not l.last w.last_after)
  where
    by_parts : (l.front ≡ w.after) ⊎ (¬ (l.front ≡ w.after)) → (l.last ≡ w.last_after) ⊎ (¬ (l.last ≡ w.last_after)) → (made ≡ file) ⊎ (made ≡ after_of w file)
    by_parts (inl front) (inl last) = inr (stays w file left made is on l mends front last)
    by_parts (inr other) last = inl (taken_back w file left made is on l mends (λ both. other both.0))
    by_parts (inl front) (inr other) = inl (taken_back w file left made is on l mends (λ both. other both.1))
