-- Public vocabulary: what is found of a header write that was cut.
use Rattle.std.specs.Prelude.{Option, None, Some, ◌≡◌, ◌≢◌, ◌⊎◌, ◌+◌, ℕ, List, [], length, take, drop, slice_range}
use Rattle.fw_cuts.specs.Write.{Write, IsWrite, journal_bytes}
use Rattle.fw_cuts.specs.Sectors.{Mends, ChangesOneSector, before_of, after_of}
use Rattle.fw_cuts.specs.Both.{Both}
use Rattle.fw_cuts.specs.Cuts.{Seen, IsSynced, NoneLost}
use Rattle.fw_cuts.specs.declared.files.Part.{Part}
use Rattle.fw_cuts.specs.declared.files.Part.TheVariants.{Journal}

-- a write to these contents: of bytes from an offset on, and of others from a later one on, in place of all that stand there
abbrev pub write_on : List ℕ → ℕ → List ℕ → ℕ → List ℕ → Write
write_on contents at bytes last_at last = record {
  at = at;
  before = slice_range contents at (at + length bytes);
  after = bytes;
  last_at = last_at;
  last_before = drop last_at contents;
  last_after = last;
}

-- a journal with which the write can be cut anywhere: it is that of the write, or it is empty and the write changes one sector
abbrev pub IsReadyFor : List ℕ → Write → Type 0
IsReadyFor journal w = (journal ≡ journal_bytes w) ⊎ ((journal ≡ []) × ChangesOneSector w)

-- they are the journal of no write
abbrev pub IsNoJournal : List ℕ → Type 0
IsNoJournal journal = (w : Write) → IsWrite w → journal ≢ journal_bytes w

-- What an opening makes of FILE by these bytes of FILE.journal: where they are the journal of a write, one that was cut is taken back.
-- Otherwise FILE is left.
abbrev pub IsRecovered : List ℕ → List ℕ → List ℕ → Type 0
IsRecovered journal store made = ((w : Write) × IsWrite w × (journal ≡ journal_bytes w) × Mends w store made)
    ⊎ (IsNoJournal journal × (made ≡ store))

-- the bytes are the same, except from one place up to another
pub record SameOutside (from to : ℕ) (a b : List ℕ) : Type 0 where
  pub size : length b ≡ length a
  pub front : take from b ≡ take from a
  pub back : drop to b ≡ drop to a

-- The files between two header writes, if all that was written since the last one is in FILE between these places: nothing else is
-- left otherwise than it is read, and however these bytes are left, an opening leaves FILE as it is.
pub record IsAtRest (from to : ℕ) (seen : Seen) : Type 0 where
  pub found : (part : Part) → NoneLost part seen
  pub journal : IsSynced Journal seen
  pub outside : (left : Both) → seen.may_leave left → SameOutside from to seen.held.store left.store
  pub quiet : (store made : List ℕ) → SameOutside from to seen.held.store store → IsRecovered seen.held.journal store made → made ≡ store

-- A cut left neither the old journal nor that of the write, and yet the whole journal of some write. Its SHA-256 is right by chance.
pub record IsChance (old_journal : List ℕ) (w : Write) (journal : List ℕ) : Type 0 where
  pub v : Write
  pub is : IsWrite v
  pub whole : journal ≡ journal_bytes v
  pub not_new : journal ≢ journal_bytes w
  pub not_old : journal ≢ old_journal

-- whatever an opening makes of what is left is FILE as it was, or with all of the write, unless by chance
abbrev pub IsOldOrNew : Both → Write → Both → Both → Type 0
IsOldOrNew held w old left = (made : List ℕ) → IsRecovered left.journal left.store made
    → (made ≡ old.store) ⊎ (made ≡ after_of w held.store) ⊎ IsChance held.journal w left.journal

-- What is made of FILE after a header write that failed, by the journal that was kept of it: the bytes of before are put back. Without one
-- FILE is left.
abbrev pub IsTakenBack : Option (List ℕ) → List ℕ → List ℕ → Type 0
IsTakenBack None store made = made ≡ store
IsTakenBack (Some journal) store made = (w : Write) × IsWrite w × (journal ≡ journal_bytes w) × (made ≡ before_of w store)
