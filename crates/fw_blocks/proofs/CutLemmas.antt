-- Block cuts: where they lie, and that joined they are the byte string.
use Rattle.std.proofs.Common.{◌≡◌, ◌≢◌, ℕ, zero, suc, ◌+◌, ◌-◌, ◌*◌, ◌<◌, ◌≤◌, min, List, [], ◌∷◌, ◌++◌, length, take, drop, slice_range, sym, ap, ◌∙◌, inl, inr, arith, append-nil}
use Rattle.std.proofs.Math.Nat.{mul-le-mul_right}
use Rattle.std.proofs.Math.Seq.{take-add}
use Rattle.std.proofs.lemmas.Bool.{cases_lt}
use Rattle.std.proofs.lemmas.Grind.{div_ceil_times, flat_map-append}
use Rattle.std.proofs.lemmas.List.{length-take, length-drop, length-take-le, take_all, take-take, drop-drop, drop-take, nil_from_length}
use Rattle.std.specs.List.{flat_map, range_with_len}
use Rattle.fw_blocks.specs.Cuts.{block_start, block_end, cut, block_count}

-- one more number
pub range_more : (from n : ℕ) → range_with_len from (suc n) ≡ range_with_len from n ++ (from + n) ∷ []
range_more from zero =
    let here : from ≡ from + zero = omega arith in
    ap (λ (k : ℕ). k ∷ []) here
range_more from (suc n) =
    let last : from + 1 + n ≡ from + suc n = omega arith in
    ap (λ (rest : List ℕ). from ∷ rest) (range_more (from + 1) n ∙ ap (λ (k : ℕ). range_with_len (from + 1) n ++ k ∷ []) last)

-- a block begins within the image exactly if its number is below the count
pub below_count : (block_size size i : ℕ) → 1 ≤ block_size → i * block_size < size → i < block_count block_size size
below_count b size i some begins =
    elim (cases_lt i (block_count b size)) [
      | inl below ↦ below
      | inr above ↦
          let grows : block_count b size * b ≤ i * b = mul-le-mul_right b above in
          absurd (omega (arith, grows, (div_ceil_times size b some).0))
    ]

pub begins_within : (block_size size i : ℕ) → 1 ≤ block_size → i < block_count block_size size → i * block_size < size
begins_within b size i some below =
    let grows : (i + 1) * b ≤ block_count b size * b = mul-le-mul_right b (omega arith) in
    omega (arith, grows, (div_ceil_times size b some).1)

-- a block is the next `block_size` bytes, or what is left
pub cut-take : (block_size : ℕ) (bytes : List ℕ) (i : ℕ) → cut block_size bytes i ≡ take block_size (drop (i * block_size) bytes)
cut-take b bytes i =
    let next : (i + 1) * b ≡ i * b + b = omega arith in
    elim (cases_lt (length bytes) (i * b + b)) [
      | inl short ↦
          let left = length-drop (i * b) bytes in
          take_all (block_end b (length bytes) i - i * b) (drop (i * b) bytes) (omega (arith, left, next))
          ∙ sym (take_all b (drop (i * b) bytes) (omega (arith, left)))
      | inr long ↦ ap (λ (n : ℕ). take n (drop (i * b) bytes)) (omega (arith, next))
    ]

pub length-cut : (block_size : ℕ) (bytes : List ℕ) (i : ℕ)
    → length (cut block_size bytes i) ≡ min block_size (length bytes - i * block_size)
length-cut b bytes i = ap length (cut-take b bytes i) ∙ length-take b (drop (i * b) bytes) ∙ ap (min b) (length-drop (i * b) bytes)

pub next_joins : (block_size i : ℕ) (bytes : List ℕ) → take (i * block_size) bytes ++ cut block_size bytes i ≡ take ((i + 1) * block_size) bytes
next_joins b i bytes =
    let next : i * b + b ≡ (i + 1) * b = omega arith in
    ap (λ (last : List ℕ). take (i * b) bytes ++ last) (cut-take b bytes i)
    ∙ sym (take-add (i * b) b bytes)
    ∙ ap (λ (n : ℕ). take n bytes) next

-- the cuts below a number, joined, are the front of the bytes
joined-cuts : (block_size : ℕ) (bytes : List ℕ) (n : ℕ) → flat_map (cut block_size bytes) (range_with_len 0 n) ≡ take (n * block_size) bytes
joined-cuts b bytes zero =
    let none : 0 ≡ zero * b = omega arith in
    ap (λ (k : ℕ). take k bytes) none
joined-cuts b bytes (suc n) =
    let last : 0 + n ≡ n = omega arith in
    let next : (n + 1) * b ≡ suc n * b = omega arith in
    ap (flat_map (cut b bytes)) (range_more 0 n ∙ ap (λ (k : ℕ). range_with_len 0 n ++ k ∷ []) last)
    ∙ flat_map-append (cut b bytes) (range_with_len 0 n) (n ∷ [])
    ∙ ap (λ (front : List ℕ). front ++ flat_map (cut b bytes) (n ∷ [])) (joined-cuts b bytes n)
    ∙ ap (λ (block : List ℕ). take (n * b) bytes ++ block) (append-nil (cut b bytes n))
    ∙ next_joins b n bytes
    ∙ ap (λ (k : ℕ). take k bytes) next

pub nonempty_below : (block_size i : ℕ) (bytes : List ℕ) → 1 ≤ block_size → cut block_size bytes i ≢ []
    → i < block_count block_size (length bytes)
nonempty_below b i bytes some nonempty =
    elim (cases_lt (i * b) (length bytes)) [
      | inl begins ↦ below_count b (length bytes) i some begins
      | inr past ↦ absurd (nonempty (nil_from_length (cut b bytes i) (omega (arith, length-cut b bytes i))))
    ]

pub below_nonempty : (block_size i : ℕ) (bytes : List ℕ) → 1 ≤ block_size → i < block_count block_size (length bytes)
    → cut block_size bytes i ≢ []
below_nonempty b i bytes some below empty =
    omega (arith, begins_within b (length bytes) i some below, length-cut b bytes i, ap length empty)

pub all_joined : (block_size : ℕ) (bytes : List ℕ) → 1 ≤ block_size
    → flat_map (cut block_size bytes) (range_with_len 0 (block_count block_size (length bytes))) ≡ bytes
all_joined b bytes some =
    let n = block_count b (length bytes) in
    joined-cuts b bytes n ∙ take_all (n * b) bytes (div_ceil_times (length bytes) b some).0

-- a block before another lies in the front of the bytes that ends there
cut-before : (block_size i k : ℕ) (bytes : List ℕ) → k < i
    → take block_size (drop (k * block_size) (take (i * block_size) bytes)) ≡ cut block_size bytes k
cut-before b i k bytes before =
    let grows : (k + 1) * b ≤ i * b = mul-le-mul_right b (omega arith) in
    let more : ℕ = i * b - k * b in
    let long : b ≤ more = omega (arith, grows) in
    let to : i * b ≡ k * b + more = omega (arith, grows) in
    ap (λ (n : ℕ). take b (drop (k * b) (take n bytes))) to
    ∙ ap (take b) (drop-take (k * b) more bytes)
    ∙ take-take b more (drop (k * b) bytes) long
    ∙ sym (cut-take b bytes k)

-- and a later one in what comes after it
cut-behind : (block_size i k size : ℕ) (bytes : List ℕ) → i < k
    → take block_size (drop (k * block_size - block_end block_size size i) (drop (block_end block_size size i) bytes)) ≡ cut block_size bytes k
cut-behind b i k size bytes behind =
    let grows : (i + 1) * b ≤ k * b = mul-le-mul_right b (omega arith) in
    let to : block_end b size i + (k * b - block_end b size i) ≡ k * b = omega (arith, grows) in
    ap (take b) (drop-drop (k * b - block_end b size i) (block_end b size i) bytes ∙ ap (λ (n : ℕ). drop n bytes) to)
    ∙ sym (cut-take b bytes k)

pub other_stays : (block_size i k : ℕ) (old new : List ℕ) → take (block_start block_size i) new ≡ take (block_start block_size i) old
    → drop (block_end block_size (length old) i) new ≡ drop (block_end block_size (length old) i) old
    → k ≢ i → cut block_size new k ≡ cut block_size old k
other_stays b i k old new front back other =
    elim (cases_lt k i) [
      | inl before ↦ sym (cut-before b i k new before) ∙ ap (λ (xs : List ℕ). take b (drop (k * b) xs)) front ∙ cut-before b i k old before
      | inr not_before ↦
          let behind : i < k = omega (arith, other) in
          let size : ℕ = length old in
          sym (cut-behind b i k size new behind)
          ∙ ap (λ (xs : List ℕ). take b (drop (k * b - block_end b size i) xs)) back
          ∙ cut-behind b i k size old behind
    ]

-- a part of a front is that part of the whole
part_of_front : (from to size : ℕ) (bytes : List ℕ) → from ≤ to → to ≤ size
    → slice_range (take size bytes) from to ≡ slice_range bytes from to
part_of_front from to size bytes order within =
    let front : size ≡ from + (size - from) = omega arith in
    let short : to - from ≤ size - from = omega arith in
    ap (λ (n : ℕ). take (to - from) (drop from (take n bytes))) front
    ∙ ap (take (to - from)) (drop-take from (size - from) bytes)
    ∙ take-take (to - from) (size - from) (drop from bytes) short

-- and where the part ends before it begins, both are empty
pub cut_of_front : (block_size i size : ℕ) (bytes : List ℕ) → size ≤ length bytes
    → cut block_size (take size bytes) i ≡ slice_range bytes (block_start block_size i) (block_end block_size size i)
cut_of_front b i size bytes fits =
    let long : length (take size bytes) ≡ size = length-take-le size bytes fits in
    let next : (i + 1) * b ≡ i * b + b = omega arith in
    let to = block_end b size i in
    ap (λ (n : ℕ). slice_range (take size bytes) (i * b) (block_end b n i)) long
    ∙ elim (cases_lt to (i * b)) [
      | inl behind ↦
          let none : to - i * b ≡ 0 = omega arith in
          ap (λ (n : ℕ). take n (drop (i * b) (take size bytes))) none ∙ sym (ap (λ (n : ℕ). take n (drop (i * b) bytes)) none)
      | inr order ↦ part_of_front (i * b) to size bytes order (omega arith)
    ]
