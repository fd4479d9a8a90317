-- What a window remembers, by its bits.
use Rattle.std.proofs.Common.{◌≡◌, ◌≢◌, ◌↔◌, ⊎_elim, ℕ, ◌+◌, ◌-◌, ◌*◌, ◌/◌, ◌%◌, ◌^◌, ◌<◌, ◌≤◌, max, List, [], ◌∷◌, Contains, IsTrue, false, nat_eq, nat_lt, bit_or, w64, refl, sym, ap, subst, ◌∙◌, arith}
use Rattle.std.specs.Int.{bit_at}
use Rattle.std.proofs.lemmas.Bool.{false≢true}
use Rattle.std.proofs.lemmas.Bool.Decides.{leb_tells, eqb_tells, nat_tests}
use Rattle.std.proofs.lemmas.List.Elements.{Contains-append_right}
use Rattle.std.proofs.lemmas.Map.Made.{Contains-tail}
use Rattle.std.proofs.lemmas.Nat.{pow_pos, shr_split}
use Rattle.std.proofs.lemmas.Nat.Bits.{bit_at_or, bit_at-zero, bit_at-pow_other, bit_at-lt, bit_at_set_same, bit_at_set_other, bit_at_cat_low, bit_at_cat_high}
use Rattle.fw_sealport.specs.Windows.{IsNew, Remembers}
use Rattle.fw_sealport.specs.declared.window.Window.{Window}

here : (n : ℕ) (seen : List ℕ) → Contains (n ∷ seen) n
here n seen = (0, omega arith, refl)

below_two : (n : ℕ) → n < 2 → n ≢ 1 → n ≡ 0
below_two n small other = grind arith

lowest : (b : ℕ) → b < 2 → max b 1 ≡ 1
lowest b small = grind arith

shifted : (bits rise : ℕ) → bits * 2 ^ rise + 0 ≡ bits * 2 ^ rise
shifted bits rise = omega arith

shifted_low : (bits rise i : ℕ) → i < rise → bit_at (bits * 2 ^ rise) i ≡ 0
shifted_low bits rise i few = sym (ap (λ (m : ℕ). bit_at m i) (shifted bits rise)) ∙ bit_at_cat_low bits rise 0 i few ∙ bit_at-zero i

shifted_high : (bits rise i : ℕ) → rise ≤ i → bit_at (bits * 2 ^ rise) i ≡ bit_at bits (i - rise)
shifted_high bits rise i enough = sym (ap (λ (m : ℕ). bit_at m i) (shifted bits rise)) ∙ bit_at_cat_high bits rise 0 i (pow_pos rise) enough

-- ---- whether a counter is new

pub is_zero : (n : ℕ) → IsTrue (nat_eq n 0) → n ≡ 0
is_zero n is = ⊎_elim (λ (yes : (_ ≡ _) × (n ≡ 0)). yes.1) (λ (no : (nat_eq n 0 ≡ false) × (n ≢ 0)). absurd (false≢true (sym no.0 ∙ is))) (eqb_tells n 0)

pub is_below : (m n : ℕ) → IsTrue (nat_lt m n) → m < n
is_below m n is = grind (arith, nat_tests)

pub new_ahead : (width : ℕ) (w : Window) (seen : List ℕ) (n : ℕ) → Remembers w seen → w.next ≤ n → IsNew width seen n
new_ahead width w seen n r ahead = record {
  unseen = λ has. absurd (omega (arith, r.below n has, ahead));
  late = λ other has. omega (arith, r.below other has, ahead);
}

-- of a counter below the greatest its bit says it
pub unmarked_is_new : (width : ℕ) (w : Window) (seen : List ℕ) (n : ℕ) → Remembers w seen → n < w.next → width ≤ 64 → w.next - n - 1 < width
    → bit_at w.bits (w.next - n - 1) ≡ 0 → IsNew width seen n
unmarked_is_new width w seen n r inside most near unmarked =
    let close : w.next ≤ n + 64 = omega (arith, inside, most, near) in record {
      unseen = λ has. let marked = (r.marked n inside close).1 has in absurd (omega (arith, marked, unmarked));
      late = λ other has. omega (arith, r.below other has, near, inside);
    }

pub new_is_unmarked : (width : ℕ) (w : Window) (seen : List ℕ) (n : ℕ) → Remembers w seen → n < w.next → width ≤ 64 → w.next - n - 1 < width
    → IsNew width seen n → bit_at w.bits (w.next - n - 1) ≡ 0
new_is_unmarked width w seen n r inside most near new =
    let close : w.next ≤ n + 64 = omega (arith, inside, most, near) in
    ⊎_elim
    (λ (one : (_ ≡ _) × (bit_at w.bits (w.next - n - 1) ≡ 1)). absurd (new.unseen ((r.marked n inside close).0 one.1)))
    (λ (other : (_ ≡ _) × (bit_at w.bits (w.next - n - 1) ≢ 1)). below_two (bit_at w.bits (w.next - n - 1)) (bit_at-lt w.bits (w.next - n - 1)) other.1)
    (eqb_tells (bit_at w.bits (w.next - n - 1)) 1)

-- one that is overtaken by too many isn't new
pub too_late : (width : ℕ) (w : Window) (seen : List ℕ) (n : ℕ) → Remembers w seen → n < w.next → width ≤ w.next - n - 1 → ¬ IsNew width seen n
too_late width w seen n r inside far new =
    let late = new.late (w.next - 1) (r.greatest (omega (arith, inside))) in
    omega (arith, late, inside, far)

-- ---- a counter that is taken

-- what is kept of the bits where the greatest rises
pub record Keeps (kept bits rise : ℕ) : Type 0 where
  pub low : (i : ℕ) → i < 64 → i < rise → bit_at kept i ≡ 0
  pub high : (i : ℕ) → i < 64 → rise ≤ i → bit_at kept i ≡ bit_at bits (i - rise)

pub all_go : (bits rise : ℕ) → 64 ≤ rise → Keeps 0 bits rise
all_go bits rise many = record {
  low = λ i small few. bit_at-zero i;
  high = λ i small enough. absurd (omega (arith, small, enough, many));
}

cut_bit : (n i : ℕ) → i < 64 → bit_at (n % 2 ^ 64) i ≡ bit_at n i
cut_bit n i small = sym (bit_at_cat_low (n / 2 ^ 64) 64 (n % 2 ^ 64) i small) ∙ ap (λ (m : ℕ). bit_at m i) (shr_split n 64)

pub some_stay : (bits rise : ℕ) → Keeps (bits * 2 ^ rise % 2 ^ 64) bits rise
some_stay bits rise = record {
  low = λ i small few. cut_bit (bits * 2 ^ rise) i small ∙ shifted_low bits rise i few;
  high = λ i small enough. cut_bit (bits * 2 ^ rise) i small ∙ shifted_high bits rise i enough;
}

module _ (w : Window) (seen : List ℕ) (n : ℕ) (r : Remembers w seen) where
  below_more : (next : ℕ) → w.next ≤ next → n < next → (m : ℕ) → Contains (n ∷ seen) m → m < next
  below_more next risen inside m has =
      ⊎_elim
      (λ (same : (_ ≡ _) × (m ≡ n)). omega (arith, same.1, inside))
      (λ (other : (_ ≡ _) × (m ≢ n)). omega (arith, r.below m (Contains-tail n seen m (λ e. other.1 (sym e)) has), risen))
      (eqb_tells m n)

  only_then : (m : ℕ) → m ≢ n → Contains seen m ↔ Contains (n ∷ seen) m
  only_then m other = (Contains-append_right (n ∷ []) seen m, Contains-tail n seen m (λ e. other (sym e)))

  one_bit : (kept i : ℕ) → i ≢ 0 → bit_at (bit_or kept 1) i ≡ bit_at kept i
  one_bit kept i some = bit_at_or kept 1 i ∙ ap (λ (b : ℕ). max (bit_at kept i) b) (bit_at-pow_other 0 i some) ∙ omega arith

  lowest_bit : (kept : ℕ) → bit_at (bit_or kept 1) 0 ≡ 1
  lowest_bit kept = bit_at_or kept 1 0 ∙ lowest (bit_at kept 0) (bit_at-lt kept 0)

  marked_ahead : (kept : ℕ) → w.next ≤ n → Keeps kept w.bits (n - w.next + 1) → (m : ℕ) → m < n + 1 → n + 1 ≤ m + 64
      → (bit_at (bit_or kept 1) (n + 1 - m - 1) ≡ 1) ↔ Contains (n ∷ seen) m
  marked_ahead kept ahead keeps m inside close =
      ⊎_elim
      (λ (same : (_ ≡ _) × (m ≡ n)).
      let zero_place : n + 1 - m - 1 ≡ 0 = omega (arith, same.1) in (
        λ _. subst (λ (k : ℕ). Contains (n ∷ seen) k) (sym same.1) (here n seen),
        λ _. ap (λ (i : ℕ). bit_at (bit_or kept 1) i) zero_place ∙ lowest_bit kept,
      ))
      (λ (other : (_ ≡ _) × (m ≢ n)).
      let place_is : n + 1 - m - 1 ≡ n - m = omega arith in
      let some : n - m ≢ 0 = λ none. other.1 (omega (arith, none, inside)) in
      let bit : bit_at (bit_or kept 1) (n + 1 - m - 1) ≡ bit_at kept (n - m) = ap (λ (i : ℕ). bit_at (bit_or kept 1) i) place_is ∙ one_bit kept (n - m) some in
      let small : n - m < 64 = omega (arith, close, inside) in
      ⊎_elim
      (λ (new : (_ ≡ _) × (w.next ≤ m)).
      let off : bit_at kept (n - m) ≡ 0 = keeps.low (n - m) small (omega (arith, new.1, ahead, inside)) in (
        λ on. absurd (omega (arith, on, bit, off)),
        λ has. absurd (omega (arith, r.below m ((only_then m other.1).1 has), new.1)),
      ))
      (λ (old : (_ ≡ _) × (m < w.next)).
      let place : n - m - (n - w.next + 1) ≡ w.next - m - 1 = omega (arith, old.1, ahead) in
      let old_bit : bit_at kept (n - m) ≡ bit_at w.bits (w.next - m - 1) = keeps.high (n - m) small (omega (arith, old.1, ahead)) ∙ ap (λ (i : ℕ). bit_at w.bits i) place in
      let marked = r.marked m old.1 (omega (arith, close, ahead)) in (
        λ on. (only_then m other.1).0 (marked.0 (sym old_bit ∙ sym bit ∙ on)),
        λ has. bit ∙ old_bit ∙ marked.1 ((only_then m other.1).1 has),
      ))
      (leb_tells w.next m))
      (eqb_tells m n)

  back_again : n ≡ n + 1 - 1
  back_again = omega arith

  -- it is above all
  pub taken_ahead : (kept : ℕ) → w.next ≤ n → Keeps kept w.bits (n - w.next + 1) → Remembers (record { next = n + 1; bits = bit_or kept 1 }) (n ∷ seen)
  taken_ahead kept ahead keeps = record {
    below = below_more (n + 1) (omega (arith, ahead)) (omega arith);
    greatest = λ some. subst (λ (k : ℕ). Contains (n ∷ seen) k) back_again (here n seen);
    marked = λ m inside close. marked_ahead kept ahead keeps m inside close;
  }

  -- it is below the greatest, and near to it
  pub taken_inside : n < w.next → w.next - n - 1 < 64
      → Remembers (record { next = w.next; bits = bit_or w.bits (1 * 2 ^ (w.next - n - 1) % 2 ^ 64) }) (n ∷ seen)
  taken_inside inside near = record {
    below = below_more w.next (omega arith) inside;
    greatest = λ some. Contains-append_right (n ∷ []) seen (w.next - 1) (r.greatest some);
    marked = λ m within close.
        ⊎_elim
        (λ (same : (_ ≡ _) × (m ≡ n)). (
          λ _. subst (λ (k : ℕ). Contains (n ∷ seen) k) (sym same.1) (here n seen),
          λ _. ap (λ (k : ℕ). bit_at (bit_or w.bits (1 * 2 ^ (w.next - n - 1) % 2 ^ 64)) (w.next - k - 1)) same.1 ∙ bit_at_set_same w64 w.bits (w.next - n - 1) near,
        ))
        (λ (other : (_ ≡ _) × (m ≢ n)).
        let apart : w.next - m - 1 ≢ w.next - n - 1 = λ e. other.1 (omega (arith, e, inside, within)) in
        let bit = bit_at_set_other w64 w.bits (w.next - n - 1) near (w.next - m - 1) apart in
        let marked = r.marked m within close in (
          λ on. (only_then m other.1).0 (marked.0 (sym bit ∙ on)),
          λ has. bit ∙ marked.1 ((only_then m other.1).1 has),
        ))
        (eqb_tells m n);
  }

  -- it is so far below that none can ask for it
  pub taken_far : n < w.next → 64 ≤ w.next - n - 1 → Remembers w (n ∷ seen)
  taken_far inside far = record {
    below = below_more w.next (omega arith) inside;
    greatest = λ some. Contains-append_right (n ∷ []) seen (w.next - 1) (r.greatest some);
    marked = λ m within close.
        let other : m ≢ n = λ e. absurd (omega (arith, e, close, far, within)) in
        let marked = r.marked m within close in
        (λ on. (only_then m other).0 (marked.0 on), λ has. marked.1 ((only_then m other).1 has));
  }
