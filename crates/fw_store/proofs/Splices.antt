-- Writes into a byte string.
use Rattle.std.proofs.Common.{◌≡◌, ℕ, ◌+◌, ◌≤◌, List, ◌++◌, length, take, drop, refl, ap, ◌∙◌, arith, append_assoc, length-append}
use Rattle.std.proofs.lemmas.List.{length-take-le, drop-drop}
use Rattle.std.proofs.Math.Seq.{take-append_seam}
use Rattle.fw_store.specs.Device.{splice}
use Rattle.fw_store.proofs.SliceLemmas.{drop_past}

-- taking the front off
take_front : (front rest : List ℕ) (n : ℕ) → n ≡ length front → take n (front ++ rest) ≡ front
take_front front rest n e = rw e (take-append_seam front rest)

-- a write and one right after it are one write
pub splice_twice : (old : List ℕ) (at : ℕ) (xs ys : List ℕ) (next : ℕ) → next ≡ at + length xs → at + length xs + length ys ≤ length old → splice (splice old at xs) next ys ≡ splice old at (xs ++ ys)
splice_twice old at xs ys next e h =
    let front = take at old ++ xs in
    let rest = drop (at + length xs) old in
    let size : next ≡ length front = omega (arith, length-append (take at old) xs, length-take-le at old (omega arith)) in
    let begin = take_front front rest next size in
    let past : drop (next + length ys) (front ++ rest) ≡ drop (length ys) rest = drop_past front rest (next + length ys) (length ys) (omega arith) in
    let far : drop (length ys) rest ≡ drop (at + length (xs ++ ys)) old = drop-drop (length ys) (at + length xs) old ∙ ap (λ k. drop k old) (omega (arith, length-append xs ys)) in
    rw (begin, past, far, append_assoc (take at old) xs ys) refl
