-- Public vocabulary: what a power cut in a write leaves on a disk that writes whole sectors of 512 bytes, and what is made of it.
use Rattle.std.specs.Prelude.{◌≡◌, ◌≢◌, ◌≤◌, ◌⊎◌, ℕ, ◌+◌, ◌-◌, ◌*◌, List, ◌++◌, length, take, drop, replicate, slice_range}
use Rattle.fw_cuts.specs.Write.{Write}

-- the bytes of a part that stand in the k-th sector of the disk, where the part begins at an offset of the file
abbrev pub in_sector : ℕ → ℕ → List ℕ → List ℕ
in_sector at k bytes = slice_range bytes (512 * k - at) (512 * k + 512 - at)

-- a sector of what stands there is the one of before or the one of after
abbrev pub IsEither : ℕ → List ℕ → List ℕ → List ℕ → ℕ → Type 0
IsEither at now before after k = (in_sector at k now ≡ in_sector at k before) ⊎ (in_sector at k now ≡ in_sector at k after)

-- each sector is
abbrev pub IsCut : ℕ → List ℕ → List ℕ → List ℕ → Type 0
IsCut at now before after = (k : ℕ) → IsEither at now before after k

-- bytes that are cut to a length, or have zeros up to it
abbrev pub resized : List ℕ → ℕ → List ℕ
resized bytes len = take len bytes ++ replicate (len - length bytes) 0

-- the same of a part with which the file ends: the length is the one of before or the one of after, and what is added to a file are zeros
-- until it is written
pub record IsCutAtEnd (at : ℕ) (now before after : List ℕ) : Type 0 where
  pub size : (length now ≡ length before) ⊎ (length now ≡ length after)
  pub cut : IsCut at now (resized before (length now)) (resized after (length now))

-- a file in which other bytes stand from an offset on, and others in place of all from a later one on
abbrev pub replaced : List ℕ → ℕ → List ℕ → ℕ → List ℕ → List ℕ
replaced file at bytes last_at last = take last_at (take at file ++ bytes ++ drop (at + length bytes) file) ++ last

-- the file before the write, and after it
abbrev pub before_of : Write → List ℕ → List ℕ
before_of w file = replaced file w.at w.before w.last_at w.last_before

abbrev pub after_of : Write → List ℕ → List ℕ
after_of w file = replaced file w.at w.after w.last_at w.last_after

-- the write is one on this file: what stood before it stands there
pub record IsOn (w : Write) (file : List ℕ) : Type 0 where
  pub within : w.last_at ≤ length file
  pub front : slice_range file w.at (w.at + length w.before) ≡ w.before
  pub last : drop w.last_at file ≡ w.last_before

-- what a power cut in the write may leave of this file: its own bytes, and in the places of the parts whole sectors of before or of after
pub record Leaves (w : Write) (file left : List ℕ) : Type 0 where
  pub front : List ℕ
  pub last : List ℕ
  pub size : length front ≡ length w.before
  pub front_cut : IsCut w.at front w.before w.after
  pub last_cut : IsCutAtEnd w.last_at last w.last_before w.last_after
  pub stands : left ≡ replaced file w.at front w.last_at last

-- what stands in the places of the parts may be what a cut left, and is not what was to be written: so it is of a torn header
pub record IsTorn (w : Write) (front last : List ℕ) : Type 0 where
  pub front_cut : IsCut w.at front w.before w.after
  pub last_cut : IsCutAtEnd w.last_at last w.last_before w.last_after
  pub unfinished : ¬ ((front ≡ w.after) × (last ≡ w.last_after))

-- a file in which it does
pub record IsTornIn (w : Write) (file : List ℕ) : Type 0 where
  pub within : w.last_at ≤ length file
  pub torn : IsTorn w (slice_range file w.at (w.at + length w.before)) (drop w.last_at file)

-- what is made of a file by the journal of a write: where the write was cut in it, the bytes of before are put back, and otherwise it is left
pub record Mends (w : Write) (file made : List ℕ) : Type 0 where
  pub torn : IsTornIn w file → made ≡ before_of w file
  pub whole : ¬ IsTornIn w file → made ≡ file

-- the bytes of a part before the write and after it differ in one sector at most
abbrev pub DifferInOneSector : ℕ → List ℕ → List ℕ → Type 0
DifferInOneSector at before after = (j k : ℕ) → in_sector at j before ≢ in_sector at j after → in_sector at k before ≢ in_sector at k after → j ≡ k

-- the write leaves the file's length, and changes one part of it alone, in one sector at most
pub record ChangesOneSector (w : Write) : Type 0 where
  pub size : length w.last_after ≡ length w.last_before
  pub change : ((w.last_after ≡ w.last_before) × DifferInOneSector w.at w.before w.after)
      ⊎ ((w.after ≡ w.before) × DifferInOneSector w.last_at w.last_before w.last_after)
