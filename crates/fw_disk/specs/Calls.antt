-- Public vocabulary: what each call of a folder makes of the disk, and what a power cut may leave of it.
use Rattle.std.specs.Prelude.{◌≡◌, ◌⊎◌, ℕ, ◌+◌, ◌≤◌, min, max, List, [], ◌++◌, length, take, drop}
use Rattle.fw_disk.specs.declared.name.Name.{Name}
use Rattle.fw_disk.specs.Disk.{Entry, absent, plain, Disk, ChangesOnly}

abbrev pub NoName : Name → Type 0
NoName name = ⊥

abbrev pub NoFile : ℕ → Type 0
NoFile n = ⊥

-- nothing changes
abbrev pub Stays : Disk → Disk → Type 0
Stays old new = new ≡ old

-- a byte string in which these bytes stand at an offset, over what was there and past its end
abbrev pub splice : List ℕ → ℕ → List ℕ → List ℕ
splice old at bytes = take at old ++ bytes ++ drop (at + length bytes) old

-- What may be left of a write of `count` bytes: any bytes in their range, and between the old end and it, some or all of those past the
-- old end, and the rest as before.
pub record IsTorn (at count : ℕ) (old new : List ℕ) : Type 0 where
  pub before : take (min at (length old)) new ≡ take at old
  pub after : drop (at + count) new ≡ drop (at + count) old
  pub no_shorter : length old ≤ length new
  pub no_longer : length new ≤ max (length old) (at + count)

-- a file without bytes has this name, which nothing had
pub record Creates (name : Name) (n : ℕ) (old new : Disk) : Type 0 where
  pub named : new.entry name ≡ plain n
  pub empty : new.bytes n ≡ []
  pub rest : ChangesOnly (λ m. m ≡ name) (λ m. m ≡ n) old new

-- the file is there, or is not made
abbrev pub MayCreate : Name → ℕ → Disk → Disk → Type 0
MayCreate name n old new = (new ≡ old) ⊎ Creates name n old new

pub record Writes (n at : ℕ) (bytes : List ℕ) (old new : Disk) : Type 0 where
  pub written : new.bytes n ≡ splice (old.bytes n) at bytes
  pub rest : ChangesOnly NoName (λ m. m ≡ n) old new

pub record Tears (n at count : ℕ) (old new : Disk) : Type 0 where
  pub torn : IsTorn at count (old.bytes n) (new.bytes n)
  pub rest : ChangesOnly NoName (λ m. m ≡ n) old new

-- the file has its first bytes, some or all of them or none
pub record Shortens (n : ℕ) (old new : Disk) : Type 0 where
  pub count : ℕ
  pub front : new.bytes n ≡ take count (old.bytes n)
  pub rest : ChangesOnly NoName (λ m. m ≡ n) old new

-- what stands under the one name has the other
pub record Renames (from to : Name) (old new : Disk) : Type 0 where
  pub named : new.entry to ≡ old.entry from
  pub gone : new.entry from ≡ absent
  pub rest : ChangesOnly (λ m. (m ≡ from) ⊎ (m ≡ to)) NoFile old new

-- each of the names is as before or as after, independently of the other and of what was written
pub record MayRename (from to : Name) (renamed : Entry) (old new : Disk) : Type 0 where
  pub named : (new.entry to ≡ old.entry to) ⊎ (new.entry to ≡ renamed)
  pub gone : (new.entry from ≡ old.entry from) ⊎ (new.entry from ≡ absent)
  pub rest : ChangesOnly (λ m. (m ≡ from) ⊎ (m ≡ to)) NoFile old new

pub record Removes (name : Name) (old new : Disk) : Type 0 where
  pub gone : new.entry name ≡ absent
  pub rest : ChangesOnly (λ m. m ≡ name) NoFile old new

pub record MayRemove (name : Name) (old new : Disk) : Type 0 where
  pub gone : (new.entry name ≡ old.entry name) ⊎ (new.entry name ≡ absent)
  pub rest : ChangesOnly (λ m. m ≡ name) NoFile old new

-- a file without bytes gets the name, which nothing had, and may lose it again
abbrev pub MayMake : Name → ℕ → Disk → Disk → Type 0
MayMake name n old new = (made : Disk) × MayCreate name n old made × MayRemove name made new
