-- Public vocabulary: the disk, as the folder of a file shows it, and what a power cut may leave of it.
use Rattle.std.specs.Prelude.{◌≡◌, ◌≢◌, ◌⊎◌, ℕ, ◌≤◌, List, [], Bool, IsTrue, false}
use Rattle.fw_disk.specs.declared.name.Name.{Name}
use Rattle.fw_disk.specs.declared.name.Name.TheVariants.{Main, New, Journal}
use Rattle.fw_disk.specs.declared.name.Found.{Found}
use Rattle.fw_disk.specs.declared.name.Found.TheVariants.{Absent, Plain, Other}

-- What stands under a name: nothing; a regular file, by its number; or a link, a folder, a FIFO, a device.
pub data Entry : Type 0 where
  absent : Entry
  plain : ℕ → Entry
  other : Entry

-- The entries of the three names, the bytes of each file, by its number, and whether it has a name elsewhere as well. `next` is the number
-- of the next file that is made.
pub record Disk : Type 0 where
  pub entry : Name → Entry
  pub bytes : ℕ → List ℕ
  pub elsewhere : ℕ → Bool
  pub next : ℕ

-- What is known of a folder: whether it keeps what is said of its calls, what reads give, what a power cut at this moment may leave, this
-- moment, as a number that never falls, and what a power cut at some moment from that one on might have left, in a call or between two.
pub record Seen : Type 1 where
  pub honest : Bool
  pub disk : Disk
  pub may_leave : Disk → Type 0
  pub moment : ℕ
  pub left_since : ℕ → Disk → Type 0

-- what is found under a name
abbrev pub found_of : Entry → Found
found_of absent = Absent
found_of (plain n) = Plain
found_of other = Other

-- no name stands for the file
pub record IsNameless (disk : Disk) (n : ℕ) : Type 0 where
  pub here : (name : Name) → disk.entry name ≢ plain n
  pub elsewhere : disk.elsewhere n ≡ false

-- the name stands for the file, and no other name does
pub record IsAlone (disk : Disk) (name : Name) (n : ℕ) : Type 0 where
  pub named : disk.entry name ≡ plain n
  pub here : (another : Name) → disk.entry another ≡ plain n → another ≡ name
  pub elsewhere : disk.elsewhere n ≡ false

-- FILE and FILE.new stand for the file, and no other name does: a cut renaming may leave that
pub record IsTwice (disk : Disk) (n : ℕ) : Type 0 where
  pub main : disk.entry Main ≡ plain n
  pub beside : disk.entry New ≡ plain n
  pub journal : disk.entry Journal ≢ plain n
  pub elsewhere : disk.elsewhere n ≡ false

-- Each entry, except of these names, and each byte of each file, except of these, is as before.
pub record ChangesOnly (names : Name → Type 0) (files : ℕ → Type 0) (old new : Disk) : Type 0 where
  pub entries : (name : Name) → ¬ names name → new.entry name ≡ old.entry name
  pub contents : (n : ℕ) → ¬ files n → new.bytes n ≡ old.bytes n
  pub others : (n : ℕ) → new.elsewhere n ≡ old.elsewhere n

-- What an honest folder makes in a call, whatever it answers: what is read, and what a power cut may leave, in the call or after it, is
-- made by such a step of what was before.
pub record Makes (Step : Disk → Disk → Type 0) (old new : Seen) : Type 0 where
  pub honest : IsTrue new.honest
  pub reads : Step old.disk new.disk
  pub leaves : (left : Disk) → new.may_leave left → (earlier : Disk) × old.may_leave earlier × Step earlier left
  pub later : old.moment ≤ new.moment
  pub meanwhile : (since : ℕ) (left : Disk) → since ≤ old.moment → new.left_since since left
      → old.left_since since left ⊎ ((earlier : Disk) × old.may_leave earlier × Step earlier left)
  pub keeps : (since : ℕ) (left : Disk) → since ≤ old.moment → old.left_since since left → new.left_since since left

abbrev pub Goes : (Disk → Disk → Type 0) → Seen → Seen → Type 0
Goes Step old new = IsTrue old.honest → Makes Step old new

-- a power cut leaves the file's bytes as they are read
abbrev pub IsSynced : ℕ → Seen → Type 0
IsSynced n seen = (left : Disk) → seen.may_leave left → left.bytes n ≡ seen.disk.bytes n

-- a power cut leaves each entry as it is read
abbrev pub AreNamesSynced : Seen → Type 0
AreNamesSynced seen = (left : Disk) → seen.may_leave left → (name : Name) → left.entry name ≡ seen.disk.entry name

-- of a folder of which nothing is known
abbrev pub nothing_known : Seen
nothing_known = record {
  honest = false;
  disk = record { entry = λ name. absent; bytes = λ n. []; elsewhere = λ n. false; next = 0 };
  may_leave = λ left. Unit {0};
  moment = 0;
  left_since = λ since left. Unit {0};
}
