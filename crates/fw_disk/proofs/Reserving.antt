-- What reserving has made, so far.
use Rattle.std.proofs.Common.{◌≡◌, ◌⊎◌, ⊎_elim, ℕ, ◌+◌, ◌-◌, ◌≤◌, min, List, ◌++◌, length, take, drop, replicate, refl, sym, ◌∙◌, ap, subst, arith, IsTrue, append_assoc}
use Rattle.std.proofs.lemmas.List.{take_min, take-take, drop-drop, length-replicate, replicate-append-replicate}
use Rattle.std.proofs.lemmas.Grind.{common_steps}
use Rattle.fw_disk.specs.Disk.{Disk, Seen, Goes}
use Rattle.fw_disk.specs.Calls.{NoName, splice, IsTorn, Writes, Tears}
use Rattle.fw_disk.proofs.Goings.{follow, unmoved}
use Rattle.fw_disk.proofs.Steps.{only_refl, only_trans}

-- zeros stand up to here
pub record Reserved (n from at : ℕ) (old now : Seen) : Type 0 where
  pub begins : from ≤ at
  pub goes : Goes (Tears n from (at - from)) old now
  pub bytes : IsTrue old.honest → length (old.disk.bytes n) ≡ from → now.disk.bytes n ≡ old.disk.bytes n ++ replicate (at - from) 0

-- ---- what may be left of one write after another

tears_refl : (n at count : ℕ) (x : Disk) → Tears n at count x x
tears_refl n at count x = record {
  torn = record { before = take_min at (x.bytes n); after = refl; no_shorter = omega arith; no_longer = omega arith };
  rest = only_refl NoName (λ m. m ≡ n) x;
}

torn_fewer : (at few count : ℕ) (x y : List ℕ) → few ≤ count → IsTorn at few x y → IsTorn at count x y
torn_fewer at few count x y le t =
    let more : at + count ≡ at + few + (count - few) = omega (arith, le) in
    let past : (l : List ℕ) → drop (at + count) l ≡ drop (count - few) (drop (at + few) l) = λ l. ap (λ (j : ℕ). drop j l) more ∙ sym (drop-drop (count - few) (at + few) l) in
    record {
      before = t.before;
      after = past y ∙ ap (λ (l : List ℕ). drop (count - few) l) t.after ∙ sym (past x);
      no_shorter = t.no_shorter;
      no_longer = omega (arith, t.no_longer, le);
    }

torn_more : (from at count : ℕ) (x y z : List ℕ) → from ≤ at → IsTorn from (at - from) x y → IsTorn at count y z → IsTorn from (at + count - from) x z
torn_more from at count x y z le first second =
    let few : min from (length x) ≤ min at (length y) = omega (arith, le, first.no_shorter) in
    let inner : min from (length x) ≤ at = omega (arith, le) in
    let whole : from + (at + count - from) ≡ at + count = omega (arith, le) in
    let part : from + (at - from) ≡ at = omega (arith, le) in
    let rest : drop at y ≡ drop at x = subst (λ (j : ℕ). drop j y ≡ drop j x) part first.after in
    let end : drop (at + count) y ≡ drop (at + count) x = sym (drop-drop count at y) ∙ ap (λ (l : List ℕ). drop count l) rest ∙ drop-drop count at x in
    record {
      before = sym (take-take (min from (length x)) (min at (length y)) z few) ∙ ap (λ (l : List ℕ). take (min from (length x)) l) second.before
          ∙ take-take (min from (length x)) at y inner ∙ first.before;
      after = subst (λ (j : ℕ). drop j z ≡ drop j x) (sym whole) (second.after ∙ end);
      no_shorter = omega (arith, first.no_shorter, second.no_shorter);
      no_longer = omega (arith, first.no_longer, second.no_longer, le);
    }

tears_fewer : (n at few count : ℕ) (x y : Disk) → few ≤ count → Tears n at few x y → Tears n at count x y
tears_fewer n at few count x y le t = record { torn = torn_fewer at few count (x.bytes n) (y.bytes n) le t.torn; rest = t.rest }

tears_more : (n from at count : ℕ) (x y z : Disk) → from ≤ at → Tears n from (at - from) x y → Tears n at count y z → Tears n from (at + count - from) x z
tears_more n from at count x y z le first second = record {
  torn = torn_more from at count (x.bytes n) (y.bytes n) (z.bytes n) le first.torn second.torn;
  rest = only_trans NoName (λ m. m ≡ n) x y z first.rest second.rest;
}

more : (n from at count next : ℕ) (a b c : Seen) → from ≤ at → at + count ≤ next → Goes (Tears n from (at - from)) a b → Goes (Tears n at count) b c
    → Goes (Tears n from (next - from)) a c
more n from at count next a b c begins within first second =
    follow (Tears n from (at - from)) (Tears n at count) (Tears n from (next - from)) (λ d. Unit {0}) a b c first (λ h. tt) (λ h left may. tt) second
    (λ x y t. tears_fewer n from (at - from) (next - from) x y (omega (arith, within)) t)
    (λ x y z t q s. tears_fewer n from (at + count - from) (next - from) x z (omega (arith, within)) (tears_more n from at count x y z begins t s))

-- ---- the loop

no_zeros : (b : List ℕ) (from : ℕ) → b ≡ b ++ replicate (from - from) 0
no_zeros b from = grind (arith, common_steps)

pub begun : (n from : ℕ) (a : Seen) → Reserved n from from a a
begun n from a = record {
  begins = omega arith;
  goes = unmoved (Tears n from (from - from)) (tears_refl n from (from - from)) a;
  bytes = λ honest is_from. no_zeros (a.disk.bytes n) from;
}

splice_end : (b o : List ℕ) (at : ℕ) → length b ≡ at → splice b at o ≡ b ++ o
splice_end b o at is = grind (arith, common_steps)

length-reserved : (b : List ℕ) (k : ℕ) → length (b ++ replicate k 0) ≡ length b + k
length-reserved b k = grind (arith, common_steps)

-- a piece of zeros more
module _ (n from at count next : ℕ) (zeros : List ℕ) (a b c : Seen) (zeros_is : zeros ≡ replicate count 0) (was : Reserved n from at a b)
    (goes : Goes (Tears n at (length zeros)) b c) where
  size : length zeros ≡ count
  size = ap (λ (l : List ℕ). length l) zeros_is ∙ length-replicate count 0

  -- written, in part or whole
  pub breaks : at + count ≤ next → Goes (Tears n from (next - from)) a c
  breaks within = more n from at (length zeros) next a b c was.begins (omega (arith, size, within)) was.goes goes

  pub grows : next ≡ at + count → (IsTrue b.honest → at ≤ length (b.disk.bytes n) → Writes n at zeros b.disk c.disk) → Reserved n from next a c
  grows next_is done = record {
    begins = omega (arith, was.begins, next_is);
    goes = breaks (omega (arith, next_is));
    bytes = λ honest is_from.
        let had = was.bytes honest is_from in
        let long : length (b.disk.bytes n) ≡ at = ap (λ (l : List ℕ). length l) had ∙ length-reserved (a.disk.bytes n) (at - from) ∙ omega (arith, is_from, was.begins) in
        let w = done (was.goes honest).honest (omega (arith, long)) in
        w.written ∙ splice_end (b.disk.bytes n) zeros at long ∙ ap (λ (l : List ℕ). l ++ zeros) had
        ∙ append_assoc (a.disk.bytes n) (replicate (at - from) 0) zeros
        ∙ ap (λ (l : List ℕ). a.disk.bytes n ++ l) (ap (λ (l : List ℕ). replicate (at - from) 0 ++ l) zeros_is ∙ replicate-append-replicate (at - from) count 0 ∙ ap (λ k. replicate k 0) (omega (arith, next_is, was.begins)));
  }

-- the loop has ended: at the position, or where it began, if that is past it
pub ended : (n from at to : ℕ) (a b : Seen) → Reserved n from at a b → (at ≤ to) ⊎ (at ≡ from) → to ≤ at → Goes (Tears n from (to - from)) a b
ended n from at to a b was either past =
    let same : at - from ≡ to - from = ⊎_elim (λ le. omega (arith, le, past)) (λ is. omega (arith, is, past)) either in
    subst (λ (k : ℕ). Goes (Tears n from k) a b) same was.goes
