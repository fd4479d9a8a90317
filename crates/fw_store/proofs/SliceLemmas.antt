-- Parts of a byte string, and what a write makes of them.
use Rattle.std.proofs.Common.{◌≡◌, ℕ, ◌+◌, ◌-◌, ◌≤◌, List, ◌++◌, length, take, drop, slice_range, refl, sym, ap, ◌∙◌, arith, append_assoc, length-append, length-drop}
use Rattle.std.proofs.lemmas.List.{length-take, length-take-le, drop-drop, drop-append-le, take-append-le, take-take, drop-take, drop_at, take_at}
use Rattle.std.proofs.Math.Seq.{take-append-add, drop-append-add}
use Rattle.fw_store.specs.Device.{splice}

pub length-slice_range : (xs : List ℕ) (from to : ℕ) → to ≤ length xs → length (slice_range xs from to) ≡ to - from
length-slice_range xs from to within = omega (arith, length-take (to - from) (drop from xs), length-drop from xs)

pub length-splice : (old : List ℕ) (at : ℕ) (xs : List ℕ) → at + length xs ≤ length old → length (splice old at xs) ≡ length old
length-splice old at xs within =
    omega (arith, length-append (take at old ++ xs) (drop (at + length xs) old), length-append (take at old) xs, length-take-le at old (omega arith), length-drop (at + length xs) old)

-- dropping past the front
pub drop_past : (front rest : List ℕ) (n m : ℕ) → n ≡ length front + m → drop n (front ++ rest) ≡ drop m rest
drop_past front rest n m e = rw e (drop-append-add front rest m)

-- a part of a part
pub slice_of_slice : (xs : List ℕ) (from to a b : ℕ) → a ≤ b → from + b ≤ to → slice_range (slice_range xs from to) a b ≡ slice_range xs (from + a) (from + b)
slice_of_slice xs from to a b order within =
    let D = drop from xs in
    let split : to - from ≡ a + (to - from - a) = omega arith in
    let short : b - a ≤ to - from - a = omega arith in
    let count : b - a ≡ from + b - (from + a) = omega arith in
    ap (λ (n : ℕ). take (b - a) (drop a (take n D))) split
    ∙ ap (take (b - a)) (drop-take a (to - from - a) D)
    ∙ take-take (b - a) (to - from - a) (drop a D) short
    ∙ ap (take (b - a)) (drop-drop a from xs)
    ∙ ap (λ (n : ℕ). take n (drop (from + a) xs)) count

-- a part of the front is that of the whole
pub slice_of_take : (xs : List ℕ) (at from to : ℕ) → from ≤ to → to ≤ at → slice_range (take at xs) from to ≡ slice_range xs from to
slice_of_take xs at from to order within =
    let split : at ≡ from + (at - from) = omega arith in
    let short : to - from ≤ at - from = omega arith in
    ap (λ (n : ℕ). take (to - from) (drop from (take n xs))) split
    ∙ ap (take (to - from)) (drop-take from (at - from) xs)
    ∙ take-take (to - from) (at - from) (drop from xs) short

-- and of bytes that others stand after
pub slice_front : (front back : List ℕ) (from to : ℕ) → from ≤ to → to ≤ length front → slice_range (front ++ back) from to ≡ slice_range front from to
slice_front front back from to order within =
    let all : length front ≡ length front = refl in
    sym (slice_of_take (front ++ back) (length front) from to order within)
    ∙ ap (λ (l : List ℕ). slice_range l from to) (take_at front back (length front) all)

-- what stands before a write
pub take-splice : (old : List ℕ) (at : ℕ) (xs : List ℕ) (n : ℕ) → n ≤ at → at ≤ length old → take n (splice old at xs) ≡ take n old
take-splice old at xs n before within =
    let size = length-take-le at old (omega arith) in
    ap (take n) (append_assoc (take at old) xs (drop (at + length xs) old))
    ∙ take-append-le n (take at old) (xs ++ drop (at + length xs) old) (omega arith)
    ∙ take-take n at old before

pub slice_before : (old : List ℕ) (at : ℕ) (xs : List ℕ) (from to : ℕ) → from ≤ to → to ≤ at → at ≤ length old → slice_range (splice old at xs) from to ≡ slice_range old from to
slice_before old at xs from to order before within =
    let within_front : at ≤ at = omega arith in
    sym (slice_of_take (splice old at xs) at from to order before)
    ∙ ap (λ (l : List ℕ). slice_range l from to) (take-splice old at xs at within_front within)
    ∙ slice_of_take old at from to order before

-- what stands behind it
pub drop-splice : (old : List ℕ) (at : ℕ) (xs : List ℕ) (n : ℕ) → at + length xs ≤ n → at + length xs ≤ length old → drop n (splice old at xs) ≡ drop n old
drop-splice old at xs n after within =
    let front = take at old ++ xs in
    let past : ℕ = n - (at + length xs) in
    let size : length front ≡ at + length xs = omega (arith, length-append (take at old) xs, length-take-le at old (omega arith)) in
    let here : n ≡ length front + past = omega arith in
    let back : at + length xs + past ≡ n = omega arith in
    drop_past front (drop (at + length xs) old) n past here
    ∙ drop-drop past (at + length xs) old
    ∙ ap (λ (k : ℕ). drop k old) back

pub slice_after : (old : List ℕ) (at : ℕ) (xs : List ℕ) (from to : ℕ) → at + length xs ≤ from → at + length xs ≤ length old → slice_range (splice old at xs) from to ≡ slice_range old from to
slice_after old at xs from to after within = ap (take (to - from)) (drop-splice old at xs from after within)

-- what it wrote
pub slice_there : (old : List ℕ) (at : ℕ) (xs : List ℕ) (to : ℕ) → to ≡ at + length xs → at + length xs ≤ length old → slice_range (splice old at xs) at to ≡ xs
slice_there old at xs to e within =
    let size : length (take at old) ≡ at = length-take-le at old (omega arith) in
    let rest = xs ++ drop (at + length xs) old in
    let count : length xs ≡ to - at = omega arith in
    ap (λ (l : List ℕ). take (to - at) (drop at l)) (append_assoc (take at old) xs (drop (at + length xs) old))
    ∙ ap (take (to - at)) (drop_at (take at old) rest at size)
    ∙ take_at xs (drop (at + length xs) old) (to - at) count

-- a write within the front is a write into the front
pub take_of_splice : (old : List ℕ) (at : ℕ) (xs : List ℕ) (n : ℕ) → at + length xs ≤ n → n ≤ length old → take n (splice old at xs) ≡ splice (take n old) at xs
take_of_splice old at xs n within fits =
    let front = take at old ++ xs in
    let behind : ℕ = at + length xs in
    let rest : ℕ = n - behind in
    let size : length front ≡ behind = omega (arith, length-append (take at old) xs, length-take-le at old (omega arith)) in
    let split : n ≡ length front + rest = omega arith in
    let split' : behind + rest ≡ n = omega arith in
    let before : at ≤ n = omega arith in
    ap (λ (m : ℕ). take m (front ++ drop behind old)) split
    ∙ take-append-add front (drop behind old) rest
    ∙ ap (λ (l : List ℕ). front ++ l) (sym (drop-take behind rest old) ∙ ap (λ (m : ℕ). drop behind (take m old)) split')
    ∙ ap (λ (l : List ℕ). (l ++ xs) ++ drop behind (take n old)) (sym (take-take at n old before))

-- a write within a part is a write into that part
pub slice_of_splice : (old : List ℕ) (from to at : ℕ) (xs : List ℕ) → from + at + length xs ≤ to → to ≤ length old
    → slice_range (splice old (from + at) xs) from to ≡ splice (slice_range old from to) at xs
slice_of_splice old from to at xs within inside =
    let n : ℕ = length xs in
    let rest = xs ++ drop (from + at + n) old in
    let D = drop from old in
    let size : length (take (from + at) old) ≡ from + at = length-take-le (from + at) old (omega arith) in
    let begins : from ≤ length (take (from + at) old) = omega arith in
    -- the part begins with what stands before the write
    let front : drop from (splice old (from + at) xs) ≡ take at D ++ rest =
    ap (drop from) (append_assoc (take (from + at) old) xs (drop (from + at + n) old))
    ∙ drop-append-le from (take (from + at) old) rest begins
    ∙ ap (λ (l : List ℕ). l ++ rest) (drop-take from at old) in
    let joined : take at D ++ rest ≡ (take at D ++ xs) ++ drop (from + at + n) old = sym (append_assoc (take at D) xs (drop (from + at + n) old)) in
    let left : length (take at D) ≡ at = length-take-le at D (omega (arith, length-drop from old)) in
    let long : length (take at D ++ xs) ≡ at + n = omega (arith, length-append (take at D) xs) in
    let count : to - from ≡ length (take at D ++ xs) + (to - from - (at + n)) = omega arith in
    let cut : take (to - from) ((take at D ++ xs) ++ drop (from + at + n) old) ≡ (take at D ++ xs) ++ take (to - from - (at + n)) (drop (from + at + n) old) =
    ap (λ (k : ℕ). take k ((take at D ++ xs) ++ drop (from + at + n) old)) count
    ∙ take-append-add (take at D ++ xs) (drop (from + at + n) old) (to - from - (at + n)) in
    let split : to - from ≡ at + n + (to - from - (at + n)) = omega arith in
    let sum : from + (at + n) ≡ from + at + n = omega arith in
    let back : drop (at + n) (take (to - from) D) ≡ take (to - from - (at + n)) (drop (from + at + n) old) =
    ap (λ (k : ℕ). drop (at + n) (take k D)) split
    ∙ drop-take (at + n) (to - from - (at + n)) D
    ∙ ap (take (to - from - (at + n))) (drop-drop (at + n) from old ∙ ap (λ (k : ℕ). drop k old) sum) in
    let short : at ≤ to - from = omega arith in
    ap (take (to - from)) (front ∙ joined)
    ∙ cut
    ∙ ap (λ (l : List ℕ). (take at D ++ xs) ++ l) (sym back)
    ∙ ap (λ (l : List ℕ). (l ++ xs) ++ drop (at + n) (take (to - from) D)) (sym (take-take at (to - from) D short))
