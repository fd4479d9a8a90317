-- A store as a byte string: where its parts stand, and what a write makes of them.
use Rattle.std.proofs.Common.{◌≡◌, ◌≢◌, ℕ, ◌+◌, ◌-◌, ◌*◌, ◌<◌, ◌≤◌, Bool, cond, eqb, List, ◌++◌, length, take, drop, slice_range, replicate, refl, sym, ap, ◌∙◌, arith, inl, inr, length-append, length-drop, eq-eqb}
use Rattle.std.proofs.lemmas.Bool.{ne_eqb}
use Rattle.std.proofs.lemmas.List.{take_all, drop_at, take-take, take-append-le, length-take-le}
use Rattle.std.specs.Prelude.{Result, Ok, Err, OnOk, OnErr}
use Rattle.fw_store.specs.Device.{Device, slot_bytes, with_head, written, splice, Torn}
use Rattle.fw_store.specs.Contents.{TornAt}
use Rattle.fw_store.specs.StoreBytes.{old_store_size, slot_start, tail_at, IsStore, device_at}
use Rattle.fw_store.specs.Sizes.{IsLaidOut, stored_size, tail_of, slots_within}
use Rattle.fw_store.specs.Versions.{header_size}
use Rattle.fw_store.specs.declared.slot.Slot.{Slot}
use Rattle.fw_store.specs.declared.slot.Slot.TheVariants.{First, Second}
use Rattle.fw_store.specs.declared.tail.Tail.{Tail}
use Rattle.fw_store.specs.declared.tail.Tail.TheVariants.{Empty, Releases, Marks}
use Rattle.fw_store.specs.declared.version.HeaderVersion.{HeaderVersion}
use Rattle.fw_store.specs.declared.version.HeaderVersion.TheVariants.{One, Two}
use Rattle.fw_store.proofs.SliceLemmas.{length-splice, take-splice, drop-splice, slice_of_slice, slice_of_take, slice_front, slice_before, slice_after, slice_there, slice_of_splice}

-- a slot is the part of its size from its begin on
slot_slice : (capacity : ℕ) (bytes : List ℕ) (slot : Slot)
    → slot_bytes (device_at capacity bytes) slot ≡ slice_range bytes (slot_start capacity slot) (slot_start capacity slot + capacity)
slot_slice capacity bytes First = refl
slot_slice capacity bytes Second = refl

-- it lies after the front of the header, and before the rest of it
pub slot_within : (capacity : ℕ) (slot : Slot) (at count : ℕ) → at + count ≤ capacity → slot_start capacity slot + at + count ≤ old_store_size capacity
slot_within capacity First at count fits = omega arith
slot_within capacity Second at count fits = omega arith

pub slot_behind : (capacity : ℕ) (slot : Slot) → 618 ≤ slot_start capacity slot
slot_behind capacity First = omega arith
slot_behind capacity Second = omega arith

-- what is read at a place in a slot
pub read_slot : (capacity : ℕ) (bytes : List ℕ) (slot : Slot) (at count place to : ℕ) → at + count ≤ capacity
    → place ≡ slot_start capacity slot + at → to ≡ place + count
    → slice_range bytes place to ≡ slice_range (slot_bytes (device_at capacity bytes) slot) at (at + count)
read_slot capacity bytes slot at count place to fits here there =
    let start : ℕ = slot_start capacity slot in
    let order : at ≤ at + count = omega arith in
    let within : start + (at + count) ≤ start + capacity = omega arith in
    let last : to ≡ start + (at + count) = omega arith in
    ap (λ (n : ℕ). slice_range bytes n to) here
    ∙ ap (λ (n : ℕ). slice_range bytes (start + at) n) last
    ∙ sym (slice_of_slice bytes start (start + capacity) at (at + count) order within)
    ∙ ap (λ (l : List ℕ). slice_range l at (at + count)) (sym (slot_slice capacity bytes slot))

pub same_device : (a b : Device) → a.head ≡ b.head → a.first ≡ b.first → a.second ≡ b.second → a ≡ b
same_device a b head first second =
    ap (λ (x : List ℕ). make x a.first a.second) head ∙ ap (λ (x : List ℕ). make b.head x a.second) first ∙ ap (λ (x : List ℕ). make b.head b.first x) second
  where
    make : List ℕ → List ℕ → List ℕ → Device
    make h f s = record { head = h; first = f; second = s }

-- ---- what stands after the slots

pub tail_there : (capacity : ℕ) (bytes : List ℕ) → length bytes ≢ old_store_size capacity → tail_at capacity bytes ≡ drop (old_store_size capacity) bytes
tail_there capacity bytes more =
    let z : ℕ = 0 in
    ap (λ (b : Bool). cond b (replicate 8 z) (drop (old_store_size capacity) bytes)) (ne_eqb (length bytes) (old_store_size capacity) more)

pub tail_absent : (capacity : ℕ) (bytes : List ℕ) → length bytes ≡ old_store_size capacity → tail_at capacity bytes ≡ replicate 8 0
tail_absent capacity bytes size =
    let z : ℕ = 0 in
    ap (λ (b : Bool). cond b (replicate 8 z) (drop (old_store_size capacity) bytes)) (eq-eqb (length bytes) (old_store_size capacity) size)

-- the header is what stands before the slots and behind them
same_head : (capacity : ℕ) (a b : List ℕ) → length a ≡ length b → slice_range a 4 618 ≡ slice_range b 4 618
    → drop (old_store_size capacity) a ≡ drop (old_store_size capacity) b → (device_at capacity a).head ≡ (device_at capacity b).head
same_head capacity a b size front back =
    let z : ℕ = 0 in
    λ i. front i ++ cond (eqb (size i) (old_store_size capacity)) (replicate 8 z) (back i)

-- ---- writes

-- a write at a place in a slot is a write into that slot, and leaves the rest
pub write_slot : (capacity : ℕ) (bytes : List ℕ) (slot : Slot) (at : ℕ) (xs : List ℕ) → at + length xs ≤ capacity → old_store_size capacity ≤ length bytes
    → device_at capacity (splice bytes (slot_start capacity slot + at) xs) ≡ written (device_at capacity bytes) slot at xs
write_slot capacity bytes First at xs fits within =
    same_device (device_at capacity (splice bytes (618 + at) xs)) (written (device_at capacity bytes) First at xs)
    (same_head capacity (splice bytes (618 + at) xs) bytes (length-splice bytes (618 + at) xs (omega arith))
    (slice_before bytes (618 + at) xs 4 618 (omega arith) (omega arith) (omega arith))
    (drop-splice bytes (618 + at) xs (618 + 2 * capacity) (omega arith) (omega arith)))
    (slice_of_splice bytes 618 (618 + capacity) at xs (omega arith) (omega arith))
    (slice_after bytes (618 + at) xs (618 + capacity) (618 + capacity + capacity) (omega arith) (omega arith))
write_slot capacity bytes Second at xs fits within =
    same_device (device_at capacity (splice bytes (618 + capacity + at) xs)) (written (device_at capacity bytes) Second at xs)
    (same_head capacity (splice bytes (618 + capacity + at) xs) bytes (length-splice bytes (618 + capacity + at) xs (omega arith))
    (slice_before bytes (618 + capacity + at) xs 4 618 (omega arith) (omega arith) (omega arith))
    (drop-splice bytes (618 + capacity + at) xs (618 + 2 * capacity) (omega arith) (omega arith)))
    (slice_before bytes (618 + capacity + at) xs 618 (618 + capacity) (omega arith) (omega arith) (omega arith))
    (slice_of_splice bytes (618 + capacity) (618 + capacity + capacity) at xs (omega arith) (omega arith))

-- the slots of a store are within its bytes
pub store_within : (capacity : ℕ) (bytes : List ℕ) → IsStore bytes capacity → old_store_size capacity ≤ length bytes
store_within capacity bytes is = elim is.size [
  | inl two ↦ omega arith
  | inr less ↦ elim less [ inl one ↦ omega arith | inr none ↦ omega arith ]
]

-- what is laid out is a store
pub is_store : (tail : Tail) (capacity : ℕ) (bytes : List ℕ) → IsLaidOut tail capacity bytes → IsStore bytes capacity
is_store Empty capacity bytes is = record { begins = is.begins; room = is.room; size = inr (inr is.size) }
is_store Releases capacity bytes is = record { begins = is.begins; room = is.room; size = inr (inl is.size) }
is_store Marks capacity bytes is = record { begins = is.begins; room = is.room; size = inl is.size }

-- the bytes after a write of a header: what is after the slots is replaced
abbrev pub headed : ℕ → List ℕ → List ℕ → List ℕ → List ℕ
headed capacity bytes front last = take (old_store_size capacity) (splice bytes 4 front) ++ last

-- what lies before the end of the slots is as after the write of the front
slice_headed : (capacity : ℕ) (bytes front last : List ℕ) (from to : ℕ) → from ≤ to → to ≤ old_store_size capacity → old_store_size capacity ≤ length (splice bytes 4 front)
    → slice_range (headed capacity bytes front last) from to ≡ slice_range (splice bytes 4 front) from to
slice_headed capacity bytes front last from to order before within =
    let middle = splice bytes 4 front in
    let size : length (take (old_store_size capacity) middle) ≡ old_store_size capacity = length-take-le (old_store_size capacity) middle within in
    slice_front (take (old_store_size capacity) middle) last from to order (omega arith)
    ∙ slice_of_take middle (old_store_size capacity) from to order before

-- it leaves the slots
pub write_head : (capacity : ℕ) (bytes front last : List ℕ) → length front ≡ 614 → 1 ≤ length last → old_store_size capacity ≤ length bytes
    → device_at capacity (headed capacity bytes front last) ≡ with_head (device_at capacity bytes) (front ++ last)
write_head capacity bytes front last long some within =
    let middle = splice bytes 4 front in
    let new = headed capacity bytes front last in
    let size : length middle ≡ length bytes = length-splice bytes 4 front (omega arith) in
    let reached : old_store_size capacity ≤ length middle = omega arith in
    let slots : length (take (old_store_size capacity) middle) ≡ old_store_size capacity = length-take-le (old_store_size capacity) middle reached in
    let more : length new ≢ old_store_size capacity =
    λ same. let all = length-append (take (old_store_size capacity) middle) last in absurd (omega arith) in
    same_device (device_at capacity new) (with_head (device_at capacity bytes) (front ++ last))
    (ap (λ (l : List ℕ). l ++ tail_at capacity new)
    (slice_headed capacity bytes front last 4 618 (omega arith) (omega arith) reached ∙ slice_there bytes 4 front 618 (omega arith) (omega arith))
    ∙ ap (λ (l : List ℕ). front ++ l)
    (tail_there capacity new more ∙ drop_at (take (old_store_size capacity) middle) last (old_store_size capacity) slots))
    (slice_headed capacity bytes front last 618 (618 + capacity) (omega arith) (omega arith) reached
    ∙ slice_after bytes 4 front 618 (618 + capacity) (omega arith) (omega arith))
    (slice_headed capacity bytes front last (618 + capacity) (618 + capacity + capacity) (omega arith) (omega arith) reached
    ∙ slice_after bytes 4 front (618 + capacity) (618 + capacity + capacity) (omega arith) (omega arith))

-- N bytes more
last_size : (version : HeaderVersion) (capacity count : ℕ) → 614 + count ≡ header_size version
    → old_store_size capacity + count ≡ stored_size (tail_of version) capacity
last_size One capacity count all = omega arith
last_size Two capacity count all = omega arith

-- and then the store is one of the version that was written
pub head_laid : (version : HeaderVersion) (capacity : ℕ) (bytes front last : List ℕ) → length front ≡ 614
    → 614 + length last ≡ header_size version → IsStore bytes capacity
    → IsLaidOut (tail_of version) capacity (headed capacity bytes front last)
head_laid version capacity bytes front last long all is =
    let within : 618 + 2 * capacity ≤ length bytes = store_within capacity bytes is in
    let middle = splice bytes 4 front in
    let size : length middle ≡ length bytes = length-splice bytes 4 front (omega arith) in
    let slots : length (take (old_store_size capacity) middle) ≡ old_store_size capacity =
    length-take-le (old_store_size capacity) middle (omega arith) in
    let four : 4 ≤ old_store_size capacity = omega arith in
    record {
      begins =
          take-append-le 4 (take (old_store_size capacity) middle) last (omega arith)
          ∙ take-take 4 (old_store_size capacity) middle four
          ∙ take-splice bytes 4 front 4 (omega arith) (omega arith)
          ∙ is.begins;
      room = is.room;
      size =
          length-append (take (old_store_size capacity) middle) last
          ∙ ap (λ (n : ℕ). n + length last) slots
          ∙ last_size version capacity (length last) all;
    }

-- bytes that begin as those of a store, and are as many, are a store
pub still_laid : (tail : Tail) (capacity : ℕ) (old new : List ℕ) → take 4 new ≡ take 4 old → length new ≡ length old
    → IsLaidOut tail capacity old → IsLaidOut tail capacity new
still_laid tail capacity old new front size is = record { begins = front ∙ is.begins; room = is.room; size = size ∙ is.size }

-- a write after the capacity and before the end of the slots leaves a store
pub write_keeps : (tail : Tail) (capacity : ℕ) (bytes : List ℕ) (at : ℕ) (xs : List ℕ) → 4 ≤ at → at + length xs ≤ old_store_size capacity
    → IsLaidOut tail capacity bytes → IsLaidOut tail capacity (splice bytes at xs)
write_keeps tail capacity bytes at xs behind within is =
    let around : 618 + 2 * capacity ≤ length bytes = slots_within tail capacity bytes is in
    still_laid tail capacity bytes (splice bytes at xs) (take-splice bytes at xs 4 behind (omega arith)) (length-splice bytes at xs (omega arith)) is

-- a write that failed at a place in a slot
pub torn_slot : (capacity : ℕ) (old new : List ℕ) (slot : Slot) (at count place : ℕ) → at + count ≤ capacity → place ≡ slot_start capacity slot + at
    → old_store_size capacity ≤ length old → TornAt old place count new → Torn (device_at capacity old) slot at count (device_at capacity new)
torn_slot capacity old new slot at count place fits here within torn = record {
  left = torn.left;
  size = torn.size;
  stands =
      let small : length torn.left ≡ count = torn.size in
      ap (device_at capacity) (torn.stands ∙ ap (λ (n : ℕ). splice old n torn.left) here)
      ∙ write_slot capacity old slot at torn.left (omega arith) within;
}

-- a write at a place in a slot leaves a store, whether it failed or not
pub stays_laid : {A E : Type 0} (tail : Tail) (capacity : ℕ) (old new : List ℕ) (slot : Slot) (at : ℕ) (xs : List ℕ) (place : ℕ)
    → at + length xs ≤ capacity → place ≡ slot_start capacity slot + at → IsLaidOut tail capacity old → (r : Result A E)
    → OnOk r (new ≡ splice old place xs) → OnErr r (TornAt old place (length xs) new) → IsLaidOut tail capacity new
stays_laid tail capacity old new slot at xs place fits here is (Ok a) done torn =
    let behind : 618 ≤ slot_start capacity slot = slot_behind capacity slot in
    let within = slot_within capacity slot at (length xs) fits in
    rw done (write_keeps tail capacity old place xs (omega arith) (omega arith) is)
stays_laid tail capacity old new slot at xs place fits here is (Err e) done torn =
    let behind : 618 ≤ slot_start capacity slot = slot_behind capacity slot in
    let within = slot_within capacity slot at (length xs) fits in
    let small : length torn.left ≡ length xs = torn.size in
    rw torn.stands (write_keeps tail capacity old place torn.left (omega arith) (omega arith) is)

-- ---- what is read after the slots

-- all that stands there, if something does
pub tail_read : (capacity : ℕ) (bytes : List ℕ) (at to : ℕ) → at ≡ old_store_size capacity → to ≡ length bytes → at < to
    → slice_range bytes at to ≡ tail_at capacity bytes
tail_read capacity bytes at to here there some =
    let more : length bytes ≢ old_store_size capacity = λ same. absurd (omega arith) in
    let count : length (drop (old_store_size capacity) bytes) ≤ to - old_store_size capacity = omega (arith, length-drop (old_store_size capacity) bytes) in
    ap (λ (n : ℕ). take (to - n) (drop n bytes)) here
    ∙ take_all (to - old_store_size capacity) (drop (old_store_size capacity) bytes) count
    ∙ sym (tail_there capacity bytes more)
