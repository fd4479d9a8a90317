-- Blocks of an image: which block size one tells.
use Rattle.std.proofs.Common.{◌≡◌, ℕ, ◌+◌, ◌-◌, ◌*◌, ◌/◌, ◌<◌, ◌≤◌, ◌⊎◌, min, List, length, slice_range, inl, inr, sym, ap, subst, ◌∙◌, arith, ⊎_elim}
use Rattle.std.proofs.lemmas.Bool.{cases_lt}
use Rattle.std.proofs.lemmas.Nat.{div-mul-add}
use Rattle.fw_blocks.specs.Cuts.{IsWithinLimits, block_count, block_end, block_start, cut, max_blocks, max_block_size}
use Rattle.fw_blocks.specs.Laws.{BeginsWithin, CutSize}
use Rattle.fw_head.specs.Row.{IsBlockOf}
use Rattle.fw_head_audit.specs.Private.{IsCutBy}

-- the block size is that of the block, or that of the blocks before it
abbrev pub IsTold : List ℕ → ℕ → List ℕ → Type 0
IsTold image number value =
    IsCutBy (length value) image number value ⊎ ((1 ≤ number) × IsCutBy ((length image - length value) / number) image number value)

pub is_block : (image : List ℕ) (block_size number : ℕ) (value : List ℕ) → IsCutBy block_size image number value → IsBlockOf image number value
is_block image block_size number value c = record { block_size = block_size; within = c.within; below = c.below; cut_is = c.cut_is }

least : (a b : ℕ) → b ≤ a → min a b ≡ b
least a b order = omega (arith, order)

module _ (begins : BeginsWithin) (sizes : CutSize) (image : List ℕ) (number : ℕ) (value : List ℕ) (b : IsBlockOf image number value) where
  starts : number * b.block_size < length image
  starts = (begins b.block_size number (length image) b.within.block_begins).0 b.below

  size : length value ≡ min ((number + 1) * b.block_size) (length image) - number * b.block_size
  size = ap length b.cut_is ∙ sizes b.block_size number image

  pub no_longer : length value ≤ length image
  no_longer = omega (arith, size)

  whole : (number + 1) * b.block_size ≤ length image → IsTold image number value
  whole inside =
      let is : b.block_size ≡ length value = omega (arith, size, inside, starts) in
      inl (subst (λ (s : ℕ). IsCutBy s image number value) is (record { within = b.within; below = b.below; cut_is = b.cut_is }))

  -- an image of one block
  one : number ≡ 0 → length image < (number + 1) * b.block_size → IsTold image number value
  one first short =
      let s : ℕ = length image in
      let some : 1 ≤ s = b.within.begins in
      let nothing : (n : ℕ) → number * n ≡ 0 = λ n. ap (λ (k : ℕ). k * n) first ∙ omega arith in
      let unit : (n : ℕ) → (number + 1) * n ≡ n = λ n. ap (λ (k : ℕ). (k + 1) * n) first ∙ omega arith in
      let is : s ≡ length value = omega (arith, size, short, unit b.block_size, nothing b.block_size) in
      let own : s ≤ b.block_size = omega (arith, short, unit b.block_size) in
      let most : block_count s s ≤ 1 =
      ⊎_elim (λ (more : 1 < block_count s s). absurd (omega (arith, (begins s 1 s some).0 more))) (λ (few : block_count s s ≤ 1). few) (cases_lt 1 (block_count s s)) in
      let below : number < block_count s s = subst (λ (n : ℕ). n < block_count s s) (sym first) ((begins s 0 s some).1 (omega (arith, some))) in
      let from : block_start b.block_size number ≡ block_start s number = nothing b.block_size ∙ sym (nothing s) in
      let to : block_end b.block_size s number ≡ block_end s s number = ap (λ (n : ℕ). min n s) (unit b.block_size) ∙ least b.block_size s own ∙ sym (ap (λ (n : ℕ). min n s) (unit s) ∙ least s s (omega arith)) in
      inl (subst (λ (n : ℕ). IsCutBy n image number value) is (record {
        within = record { block_begins = some; block_ends = omega (arith, own, b.within.block_ends); begins = some; most = omega (arith, most) };
        below = below;
        cut_is = b.cut_is ∙ ap (λ (n : ℕ). slice_range image n (block_end b.block_size s number)) from ∙ ap (λ (n : ℕ). slice_range image (block_start s number) n) to;
      }))

  -- the last one of several
  last : 1 ≤ number → length image < (number + 1) * b.block_size → IsTold image number value
  last later short =
      let before : length image - length value ≡ b.block_size * number + 0 = omega (arith, size, short, starts) in
      let is : b.block_size ≡ (length image - length value) / number = sym (ap (λ (n : ℕ). n / number) before ∙ div-mul-add b.block_size number 0 (omega (arith, later))) in
      inr (later, subst (λ (s : ℕ). IsCutBy s image number value) is (record { within = b.within; below = b.below; cut_is = b.cut_is }))

  pub told : IsTold image number value
  told =
      ⊎_elim
      (λ (short : length image < (number + 1) * b.block_size). ⊎_elim (λ (later : 0 < number). last (omega (arith, later)) short) (λ (none : number ≤ 0). one (omega (arith, none)) short) (cases_lt 0 number))
      (λ (inside : (number + 1) * b.block_size ≤ length image). whole inside) (cases_lt (length image) ((number + 1) * b.block_size))
