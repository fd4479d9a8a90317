-- Stores as byte strings: what a header write makes of one (as in `fw_store`), and what a power cut leaves of one at rest.
use Rattle.std.proofs.Common.{◌≡◌, ◌≢◌, ◌⊎◌, ℕ, ◌+◌, ◌-◌, ◌*◌, ◌≤◌, Bool, cond, eqb, List, ◌++◌, length, take, drop, slice_range, replicate, sym, ap, ◌∙◌, arith, inl, inr}
use Rattle.std.proofs.lemmas.Bool.{ne_eqb}
use Rattle.std.proofs.lemmas.List.{take-take, take-append-le}
use Rattle.fw_cuts.specs.Sectors.{replaced}
use Rattle.fw_cuts.specs.Cuts.{splice}
use Rattle.fw_cuts.specs.Rest.{SameOutside}
use Rattle.fw_cuts.proofs.Splices.{slice_of_take, slice_front, take-splice, drop-splice, front_size, length-replaced, replaced_last, replaced_front}
use Rattle.fw_store.specs.Device.{Device, with_head}
use Rattle.fw_store.specs.StoreBytes.{IsStore, device_at, old_store_size, store_size, tail_at}
use Rattle.fw_store.specs.Versions.{header_size}
use Rattle.fw_store.specs.declared.version.HeaderVersion.{HeaderVersion}
use Rattle.fw_store.specs.declared.version.HeaderVersion.TheVariants.{One, Two}

-- the slots of a store are within its bytes
pub store_within : (capacity : ℕ) (bytes : List ℕ) → IsStore bytes capacity → old_store_size capacity ≤ length bytes
store_within capacity bytes is = elim is.size [
  | inl two ↦ omega arith
  | inr less ↦ elim less [ inl one ↦ omega arith | inr none ↦ omega arith ]
]

-- a header of a version has bytes after the slots
pub some_behind : (version : HeaderVersion) (n : ℕ) → n ≡ header_size version → 615 ≤ n
some_behind One n e = omega arith
some_behind Two n e = omega arith

same_device : (a b : Device) → a.head ≡ b.head → a.first ≡ b.first → a.second ≡ b.second → a ≡ b
same_device a b head first second =
    ap (λ (x : List ℕ). make x a.first a.second) head ∙ ap (λ (x : List ℕ). make b.head x a.second) first ∙ ap (λ (x : List ℕ). make b.head b.first x) second
  where
    make : List ℕ → List ℕ → List ℕ → Device
    make h f s = record { head = h; first = f; second = s }

tail_there : (capacity : ℕ) (bytes : List ℕ) → length bytes ≢ old_store_size capacity → tail_at capacity bytes ≡ drop (old_store_size capacity) bytes
tail_there capacity bytes more =
    let z : ℕ = 0 in
    ap (λ (b : Bool). cond b (replicate 8 z) (drop (old_store_size capacity) bytes)) (ne_eqb (length bytes) (old_store_size capacity) more)

-- ---- the bytes after a write of a header

abbrev pub headed : ℕ → List ℕ → List ℕ → List ℕ → List ℕ
headed capacity bytes front last = replaced bytes 4 front (old_store_size capacity) last

-- it leaves the slots
slots_headed : (capacity : ℕ) (bytes front last : List ℕ) (from to : ℕ) → length front ≡ 614 → old_store_size capacity ≤ length bytes
    → 618 ≤ from → from ≤ to → to ≤ old_store_size capacity → slice_range (headed capacity bytes front last) from to ≡ slice_range bytes from to
slots_headed capacity bytes front last from to long within behind order before =
    let middle = splice bytes 4 front in
    let size : length (take (old_store_size capacity) middle) ≡ old_store_size capacity =
    front_size bytes 4 front (old_store_size capacity) (omega arith) within in
    slice_front (take (old_store_size capacity) middle) last from to order (omega arith)
    ∙ slice_of_take middle (old_store_size capacity) from to order before
    ∙ ap (take (to - from)) (drop-splice bytes 4 front from (omega arith) (omega arith))

pub device_headed : (capacity : ℕ) (bytes front last : List ℕ) → length front ≡ 614 → 1 ≤ length last → old_store_size capacity ≤ length bytes
    → device_at capacity (headed capacity bytes front last) ≡ with_head (device_at capacity bytes) (front ++ last)
device_headed capacity bytes front last long some within =
    let new = headed capacity bytes front last in
    let order : 4 + length front ≤ old_store_size capacity = omega arith in
    let all : length new ≡ old_store_size capacity + length last = length-replaced bytes 4 front (old_store_size capacity) last order within in
    let more : length new ≢ old_store_size capacity = λ same. absurd (omega arith) in
    same_device (device_at capacity new) (with_head (device_at capacity bytes) (front ++ last))
    (ap (λ (l : List ℕ). l ++ tail_at capacity new) (replaced_front bytes 4 front (old_store_size capacity) last 618 order within (omega arith))
    ∙ ap (λ (l : List ℕ). front ++ l) (tail_there capacity new more ∙ replaced_last bytes 4 front (old_store_size capacity) last order within))
    (slots_headed capacity bytes front last 618 (618 + capacity) long within (omega arith) (omega arith) (omega arith))
    (slots_headed capacity bytes front last (618 + capacity) (618 + capacity + capacity) long within (omega arith) (omega arith) (omega arith))

-- N bytes after the slots
sized : (version : HeaderVersion) (capacity count size : ℕ) → 614 + count ≡ header_size version → size ≡ old_store_size capacity + count
    → (size ≡ store_size Two capacity) ⊎ (size ≡ store_size One capacity) ⊎ (size ≡ old_store_size capacity)
sized One capacity count size all is = inr (inl (omega arith))
sized Two capacity count size all is = inl (omega arith)

pub store_headed : (version : HeaderVersion) (capacity : ℕ) (bytes front last : List ℕ) → length front ≡ 614 → 614 + length last ≡ header_size version
    → IsStore bytes capacity → IsStore (headed capacity bytes front last) capacity
store_headed version capacity bytes front last long all is =
    let within : 618 + 2 * capacity ≤ length bytes = store_within capacity bytes is in
    let middle = splice bytes 4 front in
    let order : 4 + length front ≤ old_store_size capacity = omega arith in
    let slots : length (take (old_store_size capacity) middle) ≡ old_store_size capacity = front_size bytes 4 front (old_store_size capacity) order within in
    let four : 4 ≤ old_store_size capacity = omega arith in
    record {
      begins =
          take-append-le 4 (take (old_store_size capacity) middle) last (omega arith)
          ∙ take-take 4 (old_store_size capacity) middle four
          ∙ take-splice bytes 4 front 4 (omega arith) (omega arith)
          ∙ is.begins;
      room = is.room;
      size = sized version capacity (length last) (length (headed capacity bytes front last)) all
          (length-replaced bytes 4 front (old_store_size capacity) last order within);
    }

-- ---- bytes that are the same as a store's except in its slots

same_head : (capacity : ℕ) (a b : List ℕ) → length a ≡ length b → slice_range a 4 618 ≡ slice_range b 4 618
    → drop (old_store_size capacity) a ≡ drop (old_store_size capacity) b → (device_at capacity a).head ≡ (device_at capacity b).head
same_head capacity a b size front back =
    let z : ℕ = 0 in
    λ i. front i ++ cond (eqb (size i) (old_store_size capacity)) (replicate 8 z) (back i)

pub store_left : (capacity : ℕ) (a b : List ℕ) → SameOutside 618 (old_store_size capacity) a b → IsStore a capacity → IsStore b capacity
store_left capacity a b same is =
    let four : 4 ≤ 618 = omega arith in
    record {
      begins = sym (take-take 4 618 b four) ∙ ap (take 4) same.front ∙ take-take 4 618 a four ∙ is.begins;
      room = is.room;
      size = elim is.size [
        | inl two ↦ inl (same.size ∙ two)
        | inr less ↦ elim less [ inl one ↦ inr (inl (same.size ∙ one)) | inr none ↦ inr (inr (same.size ∙ none)) ]
      ];
    }

pub head_left : (capacity : ℕ) (a b : List ℕ) → SameOutside 618 (old_store_size capacity) a b → (device_at capacity b).head ≡ (device_at capacity a).head
head_left capacity a b same =
    let order : 4 ≤ 618 = omega arith in
    let within : 618 ≤ 618 = omega arith in
    same_head capacity b a same.size
    (sym (slice_of_take b 618 4 618 order within) ∙ ap (λ (l : List ℕ). slice_range l 4 618) same.front ∙ slice_of_take a 618 4 618 order within)
    same.back
