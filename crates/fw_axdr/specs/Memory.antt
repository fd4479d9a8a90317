-- Public vocabulary: for which byte strings reading may take memory at all. For the bytes of a string it takes some if there are any
-- and all of them are there. For the elements of an array or a structure it takes some once the first of them is there.
use Rattle.std.specs.Prelude.{◌≡◌, ℕ, zero, suc, ◌≤◌, ◌⊎◌, List, [], ◌∷◌, ◌++◌, length, MatchOption}
use Rattle.fw_axdr.specs.Bits.{bytes_for}
use Rattle.fw_axdr.specs.Spelling.{IsLength, SomeBegins}
use Rattle.fw_axdr.specs.Fault.{Contents, fixed, counted_bytes, counted_bits, counted_data, tags, contents_in}

-- at the place of a length: it isn't 0, and what follows it takes memory
abbrev pub CountedTakes : (ℕ → List ℕ → Type 0) → List ℕ → Type 0
CountedTakes Behind c = (len rest : List ℕ) × (n : ℕ) × (c ≡ len ++ rest) × IsLength len n × (1 ≤ n) × Behind n rest

-- at the place of contents, by what takes memory at the place of an element
abbrev pub ContentsTake : (List ℕ → Type 0) → Contents → List ℕ → Type 0
ContentsTake ElementTakes (fixed size) c = ⊥
ContentsTake ElementTakes counted_bytes c = CountedTakes (λ n rest. n ≤ length rest) c
ContentsTake ElementTakes counted_bits c = CountedTakes (λ n rest. bytes_for n ≤ length rest) c
ContentsTake ElementTakes counted_data c = CountedTakes (λ n rest. ElementTakes rest) c

-- after a tag
abbrev pub TaggedTakes : (List ℕ → Type 0) → ℕ → List ℕ → Type 0
TaggedTakes ElementTakes t c = MatchOption (contents_in tags t) ⊥ (λ k. ContentsTake ElementTakes k c)

-- At the place of a Data, where `levels` levels are left. An array or a structure takes memory once its first element is there, or within
-- that element.
abbrev pub MayTakeMemory : ℕ → List ℕ → Type 0
MayTakeMemory levels [] = ⊥
MayTakeMemory zero (t ∷ c) = ⊥
MayTakeMemory (suc levels) (t ∷ c) = TaggedTakes (λ s. MayTakeMemory levels s ⊎ SomeBegins levels s) t c
