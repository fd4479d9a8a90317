-- Public vocabulary: how far the digest of what a slot holds has come (FIPS 180-4).
use Rattle.std.specs.Prelude.{ℕ, List, take, nat_lt, if◌then◌else◌}
use Rattle.sha2.specs.Hashers.{Holds256}
use Rattle.sha2.specs.declared.Sha256.{Sha256}
use Rattle.fw_store.specs.declared.slot.Slot.{Slot}

-- the first `size` bytes of a slot are to be digested, and the first `taken` of them are
pub record Progress : Type 0 where
  pub slot : Slot
  pub size : ℕ
  pub taken : ℕ
  pub state : Sha256

-- its state is that of the bytes that were taken, as far as a slot with these contents goes
abbrev pub IsDigesting : Progress → List ℕ → Type 0
IsDigesting progress contents = Holds256 progress.state (take progress.taken contents)

-- how many reads the next slice takes: none if all bytes are taken
abbrev pub reads_left : Progress → ℕ
reads_left progress = if nat_lt progress.taken progress.size then 1 else 0
