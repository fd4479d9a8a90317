-- A store's bytes are its fields, one after the other.
use Rattle.std.proofs.Common.{◌≡◌, ◌≢◌, ℕ, ◌+◌, ◌*◌, ◌-◌, ◌≤◌, List, [], ◌++◌, length, take, drop, slice_range, refl, sym, ap, ◌∙◌, arith, inl, inr, append_assoc, append-nil, length-append}
use Rattle.std.proofs.Math.Seq.{take-add}
use Rattle.std.proofs.lemmas.List.{take_all, take_at, drop_at, take-append-drop, length-take-le, length-drop}
use Rattle.std.specs.Int.{w32, to_be_bytes}
use Rattle.fw_store.specs.Device.{Device}
use Rattle.fw_store.specs.Setup.{IsCapacity}
use Rattle.fw_store.specs.Sizes.{IsLaidOut, stored_size, tail_of}
use Rattle.fw_store.specs.StoreBytes.{store_bytes, old_store_bytes, old_store_size, tail_at, IsStore, HoldsStore, device_at}
use Rattle.fw_store.specs.Versions.{header_size}
use Rattle.fw_store.specs.declared.tail.Tail.TheVariants.{Releases, Marks}
use Rattle.fw_store.specs.declared.version.HeaderVersion.{HeaderVersion}
use Rattle.fw_store.specs.declared.version.HeaderVersion.TheVariants.{One, Two}
use Rattle.fw_store.proofs.SliceLemmas.{length-slice_range}
use Rattle.fw_store.proofs.SlotLemmas.{same_device, tail_there, tail_absent, store_within, is_store}

-- a front and the next part
take_slice : (xs : List ℕ) (from to : ℕ) → from ≤ to → take from xs ++ slice_range xs from to ≡ take to xs
take_slice xs from to order =
    let split : from + (to - from) ≡ to = omega arith in
    sym (take-add from (to - from) xs) ∙ ap (λ (n : ℕ). take n xs) split

-- the bytes of a store except what stands after its slots
front_is : (capacity : ℕ) (bytes : List ℕ) → IsStore bytes capacity → take (old_store_size capacity) bytes ≡ old_store_bytes capacity (device_at capacity bytes)
front_is capacity bytes is =
    let within : 618 + 2 * capacity ≤ length bytes = store_within capacity bytes is in
    let d = device_at capacity bytes in
    let back = tail_at capacity bytes in
    let end : 618 + 2 * capacity ≡ 618 + capacity + capacity = omega arith in
    let short : length (slice_range bytes 4 618) ≡ 614 = length-slice_range bytes 4 618 (omega arith) in
    ap (λ (n : ℕ). take n bytes) end
    ∙ sym (take_slice bytes (618 + capacity) (618 + capacity + capacity) (omega arith))
    ∙ ap (λ (l : List ℕ). l ++ d.second) (sym (take_slice bytes 618 (618 + capacity) (omega arith)))
    ∙ ap (λ (l : List ℕ). l ++ d.first ++ d.second) (sym (take_slice bytes 4 618 (omega arith)))
    ∙ ap (λ (l : List ℕ). l ++ slice_range bytes 4 618 ++ d.first ++ d.second) is.begins
    ∙ ap (λ (l : List ℕ). to_be_bytes w32 capacity ++ l ++ d.first ++ d.second) (sym (take_at (slice_range bytes 4 618) back 614 short))

-- what stands there
back_is : (capacity : ℕ) (bytes : List ℕ) → IsStore bytes capacity → drop 614 (device_at capacity bytes).head ≡ tail_at capacity bytes
back_is capacity bytes is =
    let within : 618 + 2 * capacity ≤ length bytes = store_within capacity bytes is in
    let short : length (slice_range bytes 4 618) ≡ 614 = length-slice_range bytes 4 618 (omega arith) in
    drop_at (slice_range bytes 4 618) (tail_at capacity bytes) 614 short

-- a store's bytes are its fields
bytes_are : (capacity : ℕ) (bytes : List ℕ) → length bytes ≢ old_store_size capacity → IsStore bytes capacity
    → bytes ≡ store_bytes capacity (device_at capacity bytes)
bytes_are capacity bytes more is =
    sym (take-append-drop (618 + 2 * capacity) bytes)
    ∙ ap (λ (l : List ℕ). l ++ drop (618 + 2 * capacity) bytes) (front_is capacity bytes is)
    ∙ ap (λ (l : List ℕ). old_store_bytes capacity (device_at capacity bytes) ++ l)
    (sym (back_is capacity bytes is ∙ tail_there capacity bytes more))

-- and so are those of one without releases, which are 0
old_bytes_are : (capacity : ℕ) (bytes : List ℕ) → length bytes ≡ old_store_size capacity → IsStore bytes capacity → HoldsStore bytes capacity (device_at capacity bytes)
old_bytes_are capacity bytes size is =
    let all : length bytes ≤ 618 + 2 * capacity = omega arith in
    inr (
      sym (take_all (618 + 2 * capacity) bytes all) ∙ front_is capacity bytes is,
      back_is capacity bytes is ∙ tail_absent capacity bytes size,
    )

pub holds : (capacity : ℕ) (bytes : List ℕ) → IsStore bytes capacity → HoldsStore bytes capacity (device_at capacity bytes)
holds capacity bytes is = elim is.size [
  | inl two ↦ let more : length bytes ≢ old_store_size capacity = λ same. absurd (omega arith) in inl (bytes_are capacity bytes more is)
  | inr less ↦ elim less [
    | inl one ↦ let more : length bytes ≢ old_store_size capacity = λ same. absurd (omega arith) in inl (bytes_are capacity bytes more is)
    | inr none ↦ old_bytes_are capacity bytes none is
  ]
]

-- what is laid out with a header of a version is its fields
pub laid_are : (version : HeaderVersion) (capacity : ℕ) (bytes : List ℕ) → IsLaidOut (tail_of version) capacity bytes
    → bytes ≡ store_bytes capacity (device_at capacity bytes)
laid_are One capacity bytes is =
    let more : length bytes ≢ old_store_size capacity = λ same. absurd (omega arith) in
    bytes_are capacity bytes more (is_store Releases capacity bytes is)
laid_are Two capacity bytes is =
    let more : length bytes ≢ old_store_size capacity = λ same. absurd (omega arith) in
    bytes_are capacity bytes more (is_store Marks capacity bytes is)

-- a part between two others
slice_between : (front middle back : List ℕ) (from to : ℕ) → length front ≡ from → to ≡ from + length middle → slice_range (front ++ (middle ++ back)) from to ≡ middle
slice_between front middle back from to begins ends =
    let count : length middle ≡ to - from = omega arith in
    ap (take (to - from)) (drop_at front (middle ++ back) from begins) ∙ take_at middle back (to - from) count

-- the bytes of a store without releases are as many as those of one
old_size : (capacity : ℕ) (d : Device) → 614 ≤ length d.head → length d.first ≡ capacity → length d.second ≡ capacity
    → length (old_store_bytes capacity d) ≡ old_store_size capacity
old_size capacity d long first second =
    let number = to_be_bytes w32 capacity in
    let front = take 614 d.head in
    let short : length front ≡ 614 = length-take-le 614 d.head long in
    omega (
      arith,
      length-append number front,
      length-append (number ++ front) d.first,
      length-append (number ++ front ++ d.first) d.second,
    )

-- what was written is read back, with these bytes behind the slots
read_again : (capacity : ℕ) (d : Device) (bytes back : List ℕ) → 614 ≤ length d.head → length d.first ≡ capacity → length d.second ≡ capacity
    → bytes ≡ old_store_bytes capacity d ++ back → tail_at capacity bytes ≡ drop 614 d.head → device_at capacity bytes ≡ d
read_again capacity d bytes back long first second are tail =
    let number = to_be_bytes w32 capacity in
    let front = take 614 d.head in
    let four : length number ≡ 4 = refl in
    let short : length front ≡ 614 = length-take-le 614 d.head long in
    let headed : length (number ++ front) ≡ 618 = omega (arith, length-append number front) in
    let slotted : length (number ++ front ++ d.first) ≡ 618 + capacity = omega (arith, length-append (number ++ front) d.first) in
    let head_first : bytes ≡ number ++ (front ++ (d.first ++ (d.second ++ back))) = are ∙ simp append_assoc in
    let first_first : bytes ≡ (number ++ front) ++ (d.first ++ (d.second ++ back)) = head_first ∙ sym (append_assoc number front (d.first ++ (d.second ++ back))) in
    let second_first : bytes ≡ (number ++ front ++ d.first) ++ (d.second ++ back) = first_first ∙ sym (append_assoc (number ++ front) d.first (d.second ++ back)) in
    same_device (device_at capacity bytes) d
    (ap (λ (l : List ℕ). l ++ tail_at capacity bytes)
    (ap (λ (l : List ℕ). slice_range l 4 618) head_first ∙ slice_between number front (d.first ++ (d.second ++ back)) 4 618 four (omega arith))
    ∙ ap (λ (l : List ℕ). front ++ l) tail
    ∙ take-append-drop 614 d.head)
    (ap (λ (l : List ℕ). slice_range l 618 (618 + capacity)) first_first
    ∙ slice_between (number ++ front) d.first (d.second ++ back) 618 (618 + capacity) headed (omega arith))
    (ap (λ (l : List ℕ). slice_range l (618 + capacity) (618 + capacity + capacity)) second_first
    ∙ slice_between (number ++ front ++ d.first) d.second back (618 + capacity) (618 + capacity + capacity) slotted (omega arith))

-- a header of a version has bytes after the slots
pub some_behind : (version : HeaderVersion) (n : ℕ) → n ≡ header_size version → 615 ≤ n
some_behind One n e = omega arith
some_behind Two n e = omega arith

pub device_again : (version : HeaderVersion) (capacity : ℕ) (d : Device) (bytes : List ℕ) → length d.head ≡ header_size version → length d.first ≡ capacity
    → length d.second ≡ capacity → HoldsStore bytes capacity d → device_at capacity bytes ≡ d
device_again version capacity d bytes long first second (inl whole) =
    let some = some_behind version (length d.head) long in
    let back = drop 614 d.head in
    let old : length (old_store_bytes capacity d) ≡ old_store_size capacity = old_size capacity d (omega arith) first second in
    let all : length bytes ≡ length (old_store_bytes capacity d) + length back = ap length whole ∙ length-append (old_store_bytes capacity d) back in
    let more : length bytes ≢ old_store_size capacity = λ same. absurd (omega (arith, length-drop 614 d.head)) in
    let tail : tail_at capacity bytes ≡ back =
    tail_there capacity bytes more ∙ ap (drop (old_store_size capacity)) whole ∙ drop_at (old_store_bytes capacity d) back (old_store_size capacity) old in
    read_again capacity d bytes back (omega arith) first second whole tail
device_again version capacity d bytes long first second (inr old) =
    let some = some_behind version (length d.head) long in
    let size : length bytes ≡ old_store_size capacity = ap length old.0 ∙ old_size capacity d (omega arith) first second in
    read_again capacity d bytes [] (omega arith) first second (old.0 ∙ sym (append-nil (old_store_bytes capacity d)))
    (tail_absent capacity bytes size ∙ sym old.1)

-- N bytes after the slots
laid_size : (version : HeaderVersion) (capacity n : ℕ) → n ≡ header_size version → old_store_size capacity + (n - 614) ≡ stored_size (tail_of version) capacity
laid_size One capacity n e = omega arith
laid_size Two capacity n e = omega arith

-- the bytes of a store are laid out as those of one of the version of its header
pub bytes_laid : (version : HeaderVersion) (capacity : ℕ) (d : Device) (bytes : List ℕ) → bytes ≡ store_bytes capacity d → IsCapacity capacity
    → length d.head ≡ header_size version → length d.first ≡ capacity → length d.second ≡ capacity → IsLaidOut (tail_of version) capacity bytes
bytes_laid version capacity d bytes are room long first second =
    let some = some_behind version (length d.head) long in
    let old : length (old_store_bytes capacity d) ≡ old_store_size capacity = old_size capacity d (omega arith) first second in
    let size : length (store_bytes capacity d) ≡ old_store_size capacity + (length d.head - 614) =
    omega (arith, length-append (old_store_bytes capacity d) (drop 614 d.head), length-drop 614 d.head) in
    record { begins = ap (take 4) are; room = room; size = ap length are ∙ size ∙ laid_size version capacity (length d.head) long }
