-- Public vocabulary: what the calls on the files of a store make of them, and what a power cut may leave, on a disk that writes whole
-- sectors of 512 bytes in any order.
use Rattle.std.specs.Prelude.{◌≡◌, ◌⊎◌, ◌≤◌, ◌<◌, ◌+◌, ◌-◌, ℕ, min, List, [], ◌++◌, length, take, drop, slice_range, ⊤}
use Rattle.fw_cuts.specs.Sectors.{IsCut, resized}
use Rattle.fw_cuts.specs.Both.{Both, of}
use Rattle.fw_cuts.specs.declared.files.Part.{Part}

-- ---- what a call makes of a file

-- a byte string in which these bytes stand at an offset, in place of as many others
abbrev pub splice : List ℕ → ℕ → List ℕ → List ℕ
splice old at bytes = take at old ++ bytes ++ drop (at + length bytes) old

abbrev pub Writes : ℕ → List ℕ → List ℕ → List ℕ → Type 0
Writes at bytes old new = new ≡ splice old at bytes

-- What may be left of a write: each sector of its range is the one of before or has what was written, as far as the file goes; its
-- length, and all else, is as before.
pub record Cuts (at : ℕ) (bytes old new : List ℕ) : Type 0 where
  pub part : List ℕ
  pub size : length part ≡ min (length bytes) (length old - at)
  pub cut : IsCut at part (slice_range old at (at + length part)) (take (length part) bytes)
  pub stands : new ≡ splice old at part

abbrev pub Resizes : ℕ → List ℕ → List ℕ → Type 0
Resizes len old new = new ≡ resized old len

-- a change of the length is there or it isn't
abbrev pub MayResize : ℕ → List ℕ → List ℕ → Type 0
MayResize len old new = (new ≡ old) ⊎ (new ≡ resized old len)

-- nothing changes
abbrev pub Stays : Both → Both → Type 0
Stays old new = new ≡ old

-- ---- what is known of the files

-- What reads give, what a power cut at this moment may leave, the places of bytes that no
-- sync brings to the disk until they are written again, this moment, as a number that never falls, and what a power cut at some moment
-- from that one on might have left, in a call or between two.
pub record Seen : Type 1 where
  pub held : Both
  pub may_leave : Both → Type 0
  pub lost : Part → ℕ → Type 0
  pub moment : ℕ
  pub left_since : ℕ → Both → Type 0

-- What an honest disk makes in a call, whatever it answers: what is read, and what a power cut may leave, in the call or after it, is made
-- by such a step of what was before.
pub record Goes (Step : Both → Both → Type 0) (old new : Seen) : Type 0 where
  pub reads : Step old.held new.held
  pub leaves : (left : Both) → new.may_leave left → (earlier : Both) × old.may_leave earlier × Step earlier left
  pub later : old.moment ≤ new.moment
  pub meanwhile : (since : ℕ) (left : Both) → since ≤ old.moment → new.left_since since left
      → old.left_since since left ⊎ ((earlier : Both) × old.may_leave earlier × Step earlier left)
  pub keeps : (since : ℕ) (left : Both) → since ≤ old.moment → old.left_since since left → new.left_since since left

-- a cut leaves the bytes of a file as they are read
abbrev pub IsSynced : Part → Seen → Type 0
IsSynced part seen = (left : Both) → seen.may_leave left → of part left ≡ of part seen.held

-- no byte of a file is lost
abbrev pub NoneLost : Part → Seen → Type 0
NoneLost part seen = (i : ℕ) → ¬ seen.lost part i

-- none of these bytes is lost
abbrev pub NoneLostOf : Part → ℕ → ℕ → Seen → Type 0
NoneLostOf part at count seen = (i : ℕ) → seen.lost part i → (i < at) ⊎ (at + count ≤ i)

-- what is lost was lost before
abbrev pub LosesNoMore : Seen → Seen → Type 0
LosesNoMore old new = (part : Part) (i : ℕ) → new.lost part i → old.lost part i

-- of files of which nothing is known
abbrev pub nothing_known : Seen
nothing_known = record {
  held = record { store = []; journal = [] };
  may_leave = λ left. ⊤;
  lost = λ part i. ⊥;
  moment = 0;
  left_since = λ since left. ⊤;
}
