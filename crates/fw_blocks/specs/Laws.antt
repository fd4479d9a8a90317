-- Public vocabulary: the laws of block cuts and of sets of block numbers. They speak of definitions alone, and of byte strings and
-- sets of any size.
use Rattle.std.specs.Prelude.{◌≡◌, ◌≢◌, ◌↔◌, ℕ, ◌+◌, ◌-◌, ◌<◌, ◌≤◌, Bool, List, [], ◌++◌, length, take, drop, slice_range}
use Rattle.std.specs.List.{flat_map, range_with_len}
use Rattle.fw_axdr.specs.Bits.{packed}
use Rattle.fw_blocks.specs.Cuts.{block_start, block_end, cut, block_count}
use Rattle.fw_blocks.specs.Members.{IsComplete, IsFirstMissing, first_missing}

-- a cut is not empty exactly if its number is below the count
abbrev pub NonemptyBelowCount : Type 0
NonemptyBelowCount = (block_size i : ℕ) (bytes : List ℕ) → 1 ≤ block_size
    → (cut block_size bytes i ≢ []) ↔ (i < block_count block_size (length bytes))

-- that is where its block begins within the bytes
abbrev pub BeginsWithin : Type 0
BeginsWithin = (block_size i size : ℕ) → 1 ≤ block_size → (i < block_count block_size size) ↔ (block_start block_size i < size)

-- the cuts below the count, joined in order, are the byte string
abbrev pub CutsJoin : Type 0
CutsJoin = (block_size : ℕ) (bytes : List ℕ) → 1 ≤ block_size
    → flat_map (cut block_size bytes) (range_with_len 0 (block_count block_size (length bytes))) ≡ bytes

-- the bytes before a block, and then the block, are the bytes before the next one
abbrev pub NextJoins : Type 0
NextJoins = (block_size i : ℕ) (bytes : List ℕ)
    → take (block_start block_size i) bytes ++ cut block_size bytes i ≡ take (block_start block_size (i + 1)) bytes

-- each block except the last has exactly the block size
abbrev pub WholeButTheLast : Type 0
WholeButTheLast = (block_size i : ℕ) (bytes : List ℕ) → i + 1 < block_count block_size (length bytes)
    → length (cut block_size bytes i) ≡ block_size

-- a block has as many bytes as lie between its ends
abbrev pub CutSize : Type 0
CutSize = (block_size i : ℕ) (bytes : List ℕ)
    → length (cut block_size bytes i) ≡ block_end block_size (length bytes) i - block_start block_size i

-- a block of the front of a longer byte string, such as a slot of a store, lies between the same ends in that one
abbrev pub CutOfFront : Type 0
CutOfFront = (block_size i size : ℕ) (bytes : List ℕ) → size ≤ length bytes
    → cut block_size (take size bytes) i ≡ slice_range bytes (block_start block_size i) (block_end block_size size i)

-- if two byte strings are the same before block i of the one and after it, every other block is the same
abbrev pub OtherBlocksStay : Type 0
OtherBlocksStay = (block_size i k : ℕ) (old new : List ℕ)
    → take (block_start block_size i) new ≡ take (block_start block_size i) old
    → drop (block_end block_size (length old) i) new ≡ drop (block_end block_size (length old) i) old
    → k ≢ i → cut block_size new k ≡ cut block_size old k

-- the first missing number is the least absent one or the count, and no other number is
abbrev pub OneFirstMissing : Type 0
OneFirstMissing = (set : List Bool) (n : ℕ) → IsFirstMissing set n ↔ (n ≡ first_missing set)

-- every number is there exactly if the first missing one is the count
abbrev pub CompleteWithoutMissing : Type 0
CompleteWithoutMissing = (set : List Bool) → IsComplete set ↔ (first_missing set ≡ length set)

-- two sets with the same count are the same where the same bytes hold their bits
abbrev pub OneSetForBytes : Type 0
OneSetForBytes = (a b : List Bool) → length a ≡ length b → packed a ≡ packed b → a ≡ b
