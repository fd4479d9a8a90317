-- What filling makes of the bytes of a file.
use Rattle.std.proofs.Common.{◌≡◌, ◌⊎◌, ⊎_elim, ℕ, ◌+◌, ◌≤◌, ◌<◌, min, max, List, [], ◌++◌, length, take, drop, sym, ◌∙◌, ap, subst, arith}
use Rattle.std.proofs.lemmas.List.{take_all, length-take}
use Rattle.std.proofs.lemmas.Grind.{common_steps}
use Rattle.fw_disk.specs.Disk.{Disk}
use Rattle.fw_disk.specs.Calls.{NoName, splice, IsTorn, Writes, Tears}
use Rattle.fw_disk.specs.Ours.{Fills}
use Rattle.fw_disk.proofs.Steps.{only_trans}

splice_empty : (f : List ℕ) → splice [] 0 f ≡ f
splice_empty f = grind (arith, common_steps)

splice_end : (f o : List ℕ) → splice f (length f) o ≡ f ++ o
splice_end f o = grind (arith, common_steps)

parts : (k : ℕ) (bytes : List ℕ) → take k bytes ++ drop k bytes ≡ bytes
parts k bytes = grind (arith, common_steps)

le_or_gt : (a b : ℕ) → (a ≤ b) ⊎ (b < a)
le_or_gt a b = grind arith

-- the bytes of a file that was empty, in two parts
module _ (ours : List ℕ → Type 0) (first n k : ℕ) (bytes f o : List ℕ) (k_is : k ≡ min (length bytes) first) (f_is : f ≡ take k bytes) (o_is : o ≡ drop k bytes) where
  length-f : length f ≡ k
  length-f = ap length f_is ∙ omega (arith, length-take k bytes, k_is)

  length-o : length bytes ≡ k → length o ≡ 0
  length-o is = ap length o_is ∙ grind (arith, common_steps)

  pub torn_first : ((b : List ℕ) → length b ≤ first → ours b) → (x y : Disk) → x.bytes n ≡ [] → Tears n 0 (length f) x y → Fills ours first n bytes x y
  torn_first small x y empty t = record {
    only = t.rest;
    left_over = λ starts. small (y.bytes n) (omega (arith, t.torn.no_longer, ap length empty, length-f, k_is));
  }

  short : (s : List ℕ) → take (min (length f) (length f)) s ≡ take (length f) f → take (length f) s ≡ take (length f) f
  short s before = subst (λ j. take j s ≡ take (length f) f) (omega arith) before

  -- what begins with the first part begins as the bytes do
  begins : (s : List ℕ) → take (min (length f) (length f)) s ≡ take (length f) f → length s ≤ max (length f) (length f + length o) → take first s ≡ take first bytes
  begins s before longest = ⊎_elim
      (λ le.
      let is : length f ≡ first = omega (arith, length-f, k_is, le) in
      let part : f ≡ take first bytes = f_is ∙ ap (λ j. take j bytes) (omega (arith, k_is, le)) in
      ap (λ j. take j s) (sym is) ∙ short s before ∙ take_all (length f) f (omega arith) ∙ part)
      (λ gt.
      let whole : f ≡ bytes = f_is ∙ take_all k bytes (omega (arith, k_is, gt)) in
      let none : length o ≡ 0 = length-o (omega (arith, k_is, gt)) in
      let all : s ≡ f = sym (take_all (length f) s (omega (arith, longest, none))) ∙ short s before ∙ take_all (length f) f (omega arith) in
      ap (λ (l : List ℕ). take first l) (all ∙ whole))
      (le_or_gt first (length bytes))

  pub torn_others : (x y z : Disk) → Fills ours first n bytes x y → y.bytes n ≡ f → Tears n (length f) (length o) y z → Fills ours first n bytes x z
  torn_others x y z filled has t = record {
    only = only_trans NoName (λ m. m ≡ n) x y z filled.only t.rest;
    left_over = λ starts.
        let torn : IsTorn (length f) (length o) f (z.bytes n) = subst (λ (l : List ℕ). IsTorn (length f) (length o) l (z.bytes n)) has t.torn in
        starts (z.bytes n) (begins (z.bytes n) torn.before torn.no_longer);
  }

  pub written_first : (x y : Disk) → x.bytes n ≡ [] → Writes n 0 f x y → y.bytes n ≡ f
  written_first x y empty w = w.written ∙ ap (λ (l : List ℕ). splice l 0 f) empty ∙ splice_empty f

  pub written_all : (y z : Disk) → y.bytes n ≡ f → Writes n (length f) o y z → z.bytes n ≡ bytes
  written_all y z has w = w.written ∙ ap (λ (l : List ℕ). splice l (length f) o) has ∙ splice_end f o ∙ ap (λ (l : List ℕ). l ++ o) f_is ∙ ap (λ (l : List ℕ). take k bytes ++ l) o_is ∙ parts k bytes
