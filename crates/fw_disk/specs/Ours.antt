-- Public vocabulary: which files may be taken, and what the calls over them leave.
use Rattle.std.specs.Prelude.{◌≡◌, ◌⊎◌, ℕ, List, take}
use Rattle.fw_disk.specs.declared.name.Name.{Name}
use Rattle.fw_disk.specs.declared.name.Name.TheVariants.{Main, New}
use Rattle.fw_disk.specs.Disk.{absent, plain, Disk, Seen, IsAlone, ChangesOnly}
use Rattle.fw_disk.specs.Calls.{NoName, NoFile}

-- the file is alone under the name and is ours by its bytes
pub record IsOurs (ours : List ℕ → Type 0) (disk : Disk) (name : Name) (n : ℕ) : Type 0 where
  pub alone : IsAlone disk name n
  pub bytes : ours (disk.bytes n)

-- a new file may be made under the name, or the file that is there is ours
abbrev pub MayTake : (List ℕ → Type 0) → Disk → Name → ℕ → Type 0
MayTake ours disk name n = ((disk.entry name ≡ absent) × (n ≡ disk.next)) ⊎ IsOurs ours disk name n

-- a file that may be taken beside this one, which is alone under FILE
pub record MayTakeBeside (ours : List ℕ → Type 0) (disk : Disk) (old_file n : ℕ) : Type 0 where
  pub main : IsAlone disk Main old_file
  pub takes : MayTake ours disk New n

-- what stands under the name, if it is a file, is ours by its bytes
abbrev pub IsLeftOver : (List ℕ → Type 0) → Name → Disk → Type 0
IsLeftOver ours name disk = (n : ℕ) → disk.entry name ≡ plain n → ours (disk.bytes n)

-- Nothing changes except this name, and the bytes of a file that may be taken. If it fits, what is left can be taken again.
pub record Takes (ours : List ℕ → Type 0) (fits : Type 0) (name : Name) (may : ℕ → Type 0) (old new : Disk) : Type 0 where
  pub only : ChangesOnly (λ m. m ≡ name) may old new
  pub left_over : fits → IsLeftOver ours name old → IsLeftOver ours name new

-- the file has this name and these bytes
pub record IsNamed (name : Name) (n : ℕ) (bytes : List ℕ) (disk : Disk) : Type 0 where
  pub named : disk.entry name ≡ plain n
  pub contents : disk.bytes n ≡ bytes

-- a power cut leaves that
abbrev pub IsKept : Name → ℕ → List ℕ → Seen → Type 0
IsKept name n bytes seen = (left : Disk) → seen.may_leave left → IsNamed name n bytes left

-- the bytes of a file are filled in: any file that begins with the first `first` of them is ours
abbrev pub Starts : (List ℕ → Type 0) → ℕ → List ℕ → Type 0
Starts ours first bytes = (left : List ℕ) → take first left ≡ take first bytes → ours left

-- the bytes of the file alone change, and it stays ours, if it begins as it should
pub record Fills (ours : List ℕ → Type 0) (first n : ℕ) (bytes : List ℕ) (old new : Disk) : Type 0 where
  pub only : ChangesOnly NoName (λ m. m ≡ n) old new
  pub left_over : Starts ours first bytes → ours (new.bytes n)

-- FILE is as before, or names this file with these bytes, and FILE.new is as before, or absent. Nothing else changes.
pub record Names (n : ℕ) (bytes : List ℕ) (old new : Disk) : Type 0 where
  pub main : (new.entry Main ≡ old.entry Main) ⊎ IsNamed Main n bytes new
  pub beside : (new.entry New ≡ old.entry New) ⊎ (new.entry New ≡ absent)
  pub only : ChangesOnly (λ m. (m ≡ Main) ⊎ (m ≡ New)) NoFile old new

-- FILE has the old file as it was, or another with all of these bytes. Nothing else changes, except FILE.new and what may be taken there.
pub record Replaces (ours : List ℕ → Type 0) (first old_file : ℕ) (bytes : List ℕ) (may : ℕ → Type 0) (old new : Disk) : Type 0 where
  pub whole : old.entry Main ≡ plain old_file
      → IsNamed Main old_file (old.bytes old_file) new ⊎ ((n : ℕ) × IsNamed Main n bytes new)
  pub only : ChangesOnly (λ m. (m ≡ Main) ⊎ (m ≡ New)) may old new
  pub left_over : Starts ours first bytes → IsLeftOver ours New old → IsLeftOver ours New new
