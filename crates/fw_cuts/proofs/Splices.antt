-- Bytes in place of others, and what stands before them and after them.
use Rattle.std.proofs.Common.{◌≡◌, ℕ, ◌+◌, ◌-◌, ◌≤◌, List, [], ◌∷◌, ◌++◌, length, take, drop, slice_range, refl, sym, ap, ◌∙◌, arith, append_assoc, length-append, length-drop, replicate}
use Rattle.std.proofs.lemmas.List.{length-take, length-take-le, drop-drop, take-append-le, take-append-drop, take-take, take_all, drop_all, append-nil, length-replicate, drop-take, drop_at, take_at}
use Rattle.std.proofs.Math.Seq.{take-append-add, drop-append-add}
use Rattle.fw_cuts.specs.Sectors.{replaced, resized}
use Rattle.fw_cuts.specs.Cuts.{splice}

pub length-splice : (old : List ℕ) (at : ℕ) (xs : List ℕ) → at + length xs ≤ length old → length (splice old at xs) ≡ length old
length-splice old at xs within =
    omega (arith, length-append (take at old ++ xs) (drop (at + length xs) old), length-append (take at old) xs, length-take-le at old (omega arith), length-drop (at + length xs) old)

pub drop_past : (front rest : List ℕ) (n m : ℕ) → n ≡ length front + m → drop n (front ++ rest) ≡ drop m rest
drop_past front rest n m e = rw e (drop-append-add front rest m)

-- a part of the front is that of the whole
pub slice_of_take : (xs : List ℕ) (at from to : ℕ) → from ≤ to → to ≤ at → slice_range (take at xs) from to ≡ slice_range xs from to
slice_of_take xs at from to order within =
    let split : at ≡ from + (at - from) = omega arith in
    let short : to - from ≤ at - from = omega arith in
    ap (λ (n : ℕ). take (to - from) (drop from (take n xs))) split
    ∙ ap (take (to - from)) (drop-take from (at - from) xs)
    ∙ take-take (to - from) (at - from) (drop from xs) short

pub slice_front : (front back : List ℕ) (from to : ℕ) → from ≤ to → to ≤ length front → slice_range (front ++ back) from to ≡ slice_range front from to
slice_front front back from to order within =
    let all : length front ≡ length front = refl in
    sym (slice_of_take (front ++ back) (length front) from to order within)
    ∙ ap (λ (l : List ℕ). slice_range l from to) (take_at front back (length front) all)

pub take-splice : (old : List ℕ) (at : ℕ) (xs : List ℕ) (n : ℕ) → n ≤ at → at ≤ length old → take n (splice old at xs) ≡ take n old
take-splice old at xs n before within =
    let size = length-take-le at old (omega arith) in
    ap (take n) (append_assoc (take at old) xs (drop (at + length xs) old))
    ∙ take-append-le n (take at old) (xs ++ drop (at + length xs) old) (omega arith)
    ∙ take-take n at old before

pub drop-splice : (old : List ℕ) (at : ℕ) (xs : List ℕ) (n : ℕ) → at + length xs ≤ n → at + length xs ≤ length old → drop n (splice old at xs) ≡ drop n old
drop-splice old at xs n after within =
    let front = take at old ++ xs in
    let past : ℕ = n - (at + length xs) in
    let size : length front ≡ at + length xs = omega (arith, length-append (take at old) xs, length-take-le at old (omega arith)) in
    let here : n ≡ length front + past = omega arith in
    let back : at + length xs + past ≡ n = omega arith in
    drop_past front (drop (at + length xs) old) n past here
    ∙ drop-drop past (at + length xs) old
    ∙ ap (λ (k : ℕ). drop k old) back

pub slice_there : (old : List ℕ) (at : ℕ) (xs : List ℕ) (to : ℕ) → to ≡ at + length xs → at + length xs ≤ length old → slice_range (splice old at xs) at to ≡ xs
slice_there old at xs to e within =
    let size : length (take at old) ≡ at = length-take-le at old (omega arith) in
    let rest = xs ++ drop (at + length xs) old in
    let count : length xs ≡ to - at = omega arith in
    ap (λ (l : List ℕ). take (to - at) (drop at l)) (append_assoc (take at old) xs (drop (at + length xs) old))
    ∙ ap (take (to - at)) (drop_at (take at old) rest at size)
    ∙ take_at xs (drop (at + length xs) old) (to - at) count

pub take_of_splice : (old : List ℕ) (at : ℕ) (xs : List ℕ) (n : ℕ) → at + length xs ≤ n → n ≤ length old → take n (splice old at xs) ≡ splice (take n old) at xs
take_of_splice old at xs n within fits =
    let front = take at old ++ xs in
    let behind : ℕ = at + length xs in
    let rest : ℕ = n - behind in
    let size : length front ≡ behind = omega (arith, length-append (take at old) xs, length-take-le at old (omega arith)) in
    let split : n ≡ length front + rest = omega arith in
    let split' : behind + rest ≡ n = omega arith in
    let before : at ≤ n = omega arith in
    ap (λ (m : ℕ). take m (front ++ drop behind old)) split
    ∙ take-append-add front (drop behind old) rest
    ∙ ap (λ (l : List ℕ). front ++ l) (sym (drop-take behind rest old) ∙ ap (λ (m : ℕ). drop behind (take m old)) split')
    ∙ ap (λ (l : List ℕ). (l ++ xs) ++ drop behind (take n old)) (sym (take-take at n old before))

-- other bytes in the place of those that were put there
pub splice_again : (old : List ℕ) (at : ℕ) (xs ys : List ℕ) → length ys ≡ length xs → at + length xs ≤ length old → splice (splice old at xs) at ys ≡ splice old at ys
splice_again old at xs ys same within =
    let here : at ≤ at = omega arith in
    let behind : at + length xs ≤ at + length ys = omega arith in
    ap (λ (l : List ℕ). (l ++ ys) ++ drop (at + length ys) (splice old at xs)) (take-splice old at xs at here (omega arith))
    ∙ ap (λ (l : List ℕ). (take at old ++ ys) ++ l) (drop-splice old at xs (at + length ys) behind within)

-- the same bytes
pub splice_same : (old : List ℕ) (at : ℕ) (xs : List ℕ) → slice_range old at (at + length xs) ≡ xs → splice old at xs ≡ old
splice_same old at xs is =
    let count : at + length xs - at ≡ length xs = omega arith in
    let there : take (length xs) (drop at old) ≡ xs = ap (λ (n : ℕ). take n (drop at old)) (sym count) ∙ is in
    append_assoc (take at old) xs (drop (at + length xs) old)
    ∙ ap (λ (l : List ℕ). take at old ++ (l ++ drop (at + length xs) old)) (sym there)
    ∙ ap (λ (l : List ℕ). take at old ++ (take (length xs) (drop at old) ++ l)) (sym (drop-drop (length xs) at old))
    ∙ ap (λ (l : List ℕ). take at old ++ l) (take-append-drop (length xs) (drop at old))
    ∙ take-append-drop at old

-- ---- a file with other bytes in two places

pub front_size : (file : List ℕ) (at : ℕ) (xs : List ℕ) (last_at : ℕ) → at + length xs ≤ last_at → last_at ≤ length file → length (take last_at (splice file at xs)) ≡ last_at
front_size file at xs last_at order within =
    let size : length (splice file at xs) ≡ length file = length-splice file at xs (omega arith) in
    length-take-le last_at (splice file at xs) (omega arith)

pub length-replaced : (file : List ℕ) (at : ℕ) (xs : List ℕ) (last_at : ℕ) (last : List ℕ) → at + length xs ≤ last_at → last_at ≤ length file
    → length (replaced file at xs last_at last) ≡ last_at + length last
length-replaced file at xs last_at last order within =
    omega (arith, length-append (take last_at (splice file at xs)) last, front_size file at xs last_at order within)

pub replaced_last : (file : List ℕ) (at : ℕ) (xs : List ℕ) (last_at : ℕ) (last : List ℕ) → at + length xs ≤ last_at → last_at ≤ length file
    → drop last_at (replaced file at xs last_at last) ≡ last
replaced_last file at xs last_at last order within = drop_at (take last_at (splice file at xs)) last last_at (front_size file at xs last_at order within)

pub replaced_front : (file : List ℕ) (at : ℕ) (xs : List ℕ) (last_at : ℕ) (last : List ℕ) (to : ℕ) → at + length xs ≤ last_at → last_at ≤ length file → to ≡ at + length xs
    → slice_range (replaced file at xs last_at last) at to ≡ xs
replaced_front file at xs last_at last to order within e =
    let F = splice file at xs in
    let begins : at ≤ to = omega arith in
    let ends : to ≤ length (take last_at F) = omega (arith, front_size file at xs last_at order within) in
    let inside : to ≤ last_at = omega arith in
    slice_front (take last_at F) last at to begins ends
    ∙ slice_of_take F last_at at to begins inside
    ∙ slice_there file at xs to e (omega arith)

pub replaced_again : (file : List ℕ) (at : ℕ) (xs ys : List ℕ) (last_at : ℕ) (last more : List ℕ) → length ys ≡ length xs → at + length xs ≤ last_at → last_at ≤ length file
    → replaced (replaced file at xs last_at last) at ys last_at more ≡ replaced file at ys last_at more
replaced_again file at xs ys last_at last more same order within =
    let F = splice file at xs in
    let left = replaced file at xs last_at last in
    let size : length F ≡ length file = length-splice file at xs (omega arith) in
    let whole : last_at ≤ length left = omega (arith, length-replaced file at xs last_at last order within) in
    let here : at + length ys ≤ last_at = omega arith in
    let front : take last_at left ≡ take last_at F = take_at (take last_at F) last last_at (front_size file at xs last_at order within) in
    ap (λ (l : List ℕ). l ++ more)
    (take_of_splice left at ys last_at here whole
    ∙ ap (λ (l : List ℕ). splice l at ys) front
    ∙ sym (take_of_splice F at ys last_at here (omega arith))
    ∙ ap (take last_at) (splice_again file at xs ys same (omega arith)))

pub replaced_same : (file : List ℕ) (at : ℕ) (xs : List ℕ) (last_at : ℕ) (last : List ℕ) → slice_range file at (at + length xs) ≡ xs → drop last_at file ≡ last
    → replaced file at xs last_at last ≡ file
replaced_same file at xs last_at last front back =
    ap (λ (l : List ℕ). take last_at l ++ last) (splice_same file at xs front)
    ∙ ap (λ (l : List ℕ). take last_at file ++ l) (sym back)
    ∙ take-append-drop last_at file

-- bytes written before the last part stand before it
pub splice_replaced : (file : List ℕ) (at : ℕ) (xs : List ℕ) (last_at : ℕ) → at + length xs ≤ last_at → last_at ≤ length file
    → splice file at xs ≡ replaced file at xs last_at (drop last_at file)
splice_replaced file at xs last_at order within =
    sym (take-append-drop last_at (splice file at xs))
    ∙ ap (λ (l : List ℕ). take last_at (splice file at xs) ++ l) (drop-splice file at xs last_at order (omega arith))

-- and those in place of the last part
pub splice_last : (file : List ℕ) (last_at : ℕ) (xs : List ℕ) → length file ≤ last_at + length xs → splice file last_at xs ≡ take last_at file ++ xs
splice_last file last_at xs all =
    ap (λ (l : List ℕ). (take last_at file ++ xs) ++ l) (drop_all (last_at + length xs) file all)
    ∙ append-nil (take last_at file ++ xs)

-- ---- bytes of another length

pub none_of : (xs : List ℕ) → length xs ≡ 0 → xs ≡ []
none_of [] e = refl
none_of (x ∷ xs) e = absurd (omega (arith, e))

pub length-resized : (xs : List ℕ) (n : ℕ) → length (resized xs n) ≡ n
length-resized xs n = omega (arith, length-append (take n xs) (replicate (n - length xs) 0), length-take n xs, length-replicate {A = ℕ} (n - length xs) 0)

pub resized_none : (xs : List ℕ) → resized xs 0 ≡ []
resized_none xs = none_of (resized xs 0) (length-resized xs 0)

pub resized_cut : (xs : List ℕ) (n : ℕ) → n ≤ length xs → resized xs n ≡ take n xs
resized_cut xs n short =
    let none : n - length xs ≡ 0 = omega arith in
    ap (λ (k : ℕ). take n xs ++ replicate k 0) none ∙ append-nil (take n xs)

pub resized_same : (xs : List ℕ) (n : ℕ) → n ≡ length xs → resized xs n ≡ xs
resized_same xs n e = resized_cut xs n (omega (arith, e)) ∙ take_all n xs (omega (arith, e))

-- what stands at the end gets the length
pub resized_last : (front last : List ℕ) (n : ℕ) → resized (front ++ last) (length front + n) ≡ front ++ resized last n
resized_last front last n =
    let count : length front + n - length (front ++ last) ≡ n - length last = omega (arith, length-append front last) in
    ap (λ (k : ℕ). take (length front + n) (front ++ last) ++ replicate k 0) count
    ∙ ap (λ (l : List ℕ). l ++ replicate (n - length last) 0) (take-append-add front last n)
    ∙ append_assoc front (take n last) (replicate (n - length last) 0)

-- all of a file is written
pub written_over : (xs bytes : List ℕ) → splice (resized xs (length bytes)) 0 bytes ≡ bytes
written_over xs bytes = splice_last (resized xs (length bytes)) 0 bytes (omega (arith, length-resized xs (length bytes)))

-- ---- a file that gets its length, its last part and its first one

module _ (file : List ℕ) (at : ℕ) (bytes : List ℕ) (last_at : ℕ) (last : List ℕ) (order : at + length bytes ≤ last_at) (begins : last_at ≤ length file) where
  abbrev end : ℕ
  end = last_at + length last

  abbrev A : List ℕ
  A = take last_at file

  size_of_A : length A ≡ last_at
  size_of_A = length-take-le last_at file begins

  last_written : splice (resized file end) last_at last ≡ A ++ last
  last_written =
      let few : last_at ≤ end = omega arith in
      let long : last_at ≤ length (take end file) = omega (arith, length-take end file, begins) in
      splice_last (resized file end) last_at last (omega (arith, length-resized file end))
      ∙ ap (λ (l : List ℕ). l ++ last) (take-append-le last_at (take end file) (replicate (end - length file) 0) long ∙ take-take last_at end file few)

  pub both_written : splice (splice (resized file end) last_at last) at bytes ≡ replaced file at bytes last_at last
  both_written =
      let long : last_at ≤ length (A ++ last) = omega (arith, length-append A last, size_of_A) in
      ap (λ (l : List ℕ). splice l at bytes) last_written
      ∙ splice_replaced (A ++ last) at bytes last_at order long
      ∙ ap (λ (l : List ℕ). take last_at (splice (A ++ last) at bytes) ++ l) (drop_at A last last_at size_of_A)
      ∙ ap (λ (l : List ℕ). l ++ last)
      (take_of_splice (A ++ last) at bytes last_at order long
      ∙ ap (λ (l : List ℕ). splice l at bytes) (take_at A last last_at size_of_A)
      ∙ sym (take_of_splice file at bytes last_at order begins))

  -- they fit in
  pub last_fits : last_at + length last ≤ length (resized file end)
  last_fits = omega (arith, length-resized file end)

  pub front_fits : at + length bytes ≤ length (splice (resized file end) last_at last)
  front_fits = omega (arith, ap length last_written, length-append A last, size_of_A, order)
