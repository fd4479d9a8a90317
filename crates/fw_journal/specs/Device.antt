-- Public vocabulary: what the calls of a device make of its bytes, and what a power cut may leave of them.
use Rattle.std.specs.Prelude.{◌≡◌, ◌⊎◌, ℕ, ◌+◌, ◌≤◌, min, max, List, ◌++◌, length, take, drop, Bool, IsTrue}

-- a byte string in which these bytes stand at an offset, over what was there and past its end
abbrev pub splice : List ℕ → ℕ → List ℕ → List ℕ
splice old at bytes = take at old ++ bytes ++ drop (at + length bytes) old

-- what may be left of a write of `count` bytes: any bytes in their range, some or all of those past the old end, and the rest as before
pub record IsTorn (at count : ℕ) (old new : List ℕ) : Type 0 where
  pub before : take at new ≡ take at old
  pub after : drop (at + count) new ≡ drop (at + count) old
  pub no_shorter : length old ≤ length new
  pub no_longer : length new ≤ max (length old) (at + count)

-- what may be left where bytes are cut to a length: their first ones, `len` of them or more
pub record IsShortened (len : ℕ) (old new : List ℕ) : Type 0 where
  pub no_shorter : min len (length old) ≤ length new
  pub front : take (length new) old ≡ new

-- a power cut leaves what is read, and nothing else
abbrev pub IsSynced : {D : Type 0} → (D → List ℕ) → (D → List ℕ → Type 0) → D → Type 0
IsSynced contents may_leave device = (left : List ℕ) → may_leave device left → left ≡ contents device

-- what it may leave now, it might have left before
abbrev pub LeavesNoMore : {D : Type 0} → (D → List ℕ → Type 0) → D → D → Type 0
LeavesNoMore may_leave old new = (left : List ℕ) → may_leave new left → may_leave old left

-- what it may leave now is made, by such a step, of what it might have left before
abbrev pub LeavesBy : {D : Type 0} → (D → List ℕ → Type 0) → (List ℕ → List ℕ → Type 0) → D → D → Type 0
LeavesBy may_leave Step old new = (left : List ℕ) → may_leave new left → (earlier : List ℕ) × may_leave old earlier × Step earlier left

-- what a cut at a moment of the call may leave is what it may leave after it, or might have left before
pub record Elapses {D : Type 0} (moment : D → ℕ) (left_since : D → ℕ → List ℕ → Type 0) (may_leave : D → List ℕ → Type 0) (old new : D) : Type 0 where
  pub later : moment old ≤ moment new
  pub nothing_else : (since : ℕ) (left : List ℕ) → since ≤ moment old → left_since new since left → left_since old since left ⊎ may_leave new left
  pub keeps : (since : ℕ) (left : List ℕ) → since ≤ moment old → left_since old since left → left_since new since left

-- a cut at any moment of these calls leaves such bytes
pub record LeavesOnly {D : Type 0} (moment : D → ℕ) (left_since : D → ℕ → List ℕ → Type 0) (old new : D) (P : List ℕ → Type 0) : Type 0 where
  pub later : moment old ≤ moment new
  pub each : (left : List ℕ) → left_since new (moment old) left → P left
  -- for calls that began earlier
  pub before : (since : ℕ) (left : List ℕ) → since ≤ moment old → left_since new since left → left_since old since left ⊎ P left

-- what each call on a device keeps, whatever it answers and whether the device is honest or not
pub record Keeps {D : Type 0} (honest sound : D → Bool) (old new : D) : Type 0 where
  pub honesty : honest new ≡ honest old
  pub soundness : IsTrue (sound old) → IsTrue (sound new)
