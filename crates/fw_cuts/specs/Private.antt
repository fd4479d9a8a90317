-- Of private functions.
use Rattle.std.specs.Prelude.{◌≡◌, ℕ, List}
use Rattle.fw_cuts.specs.Write.{Write}
use Rattle.fw_cuts.specs.Sectors.{Leaves}
use Rattle.fw_cuts.specs.Both.{Both}
use Rattle.fw_cuts.specs.Cuts.{Seen, IsSynced, NoneLost}
use Rattle.fw_cuts.specs.declared.files.Part.TheVariants.{Store}

abbrev pub SameStore : Both → Both → Type 0
SameStore old new = new.store ≡ old.store

abbrev pub SameJournal : Both → Both → Type 0
SameJournal old new = new.journal ≡ old.journal

-- of these contents of FILE there is left what a cut in the write may leave, and the journal stays
pub record Lays (w : Write) (contents : List ℕ) (old new : Both) : Type 0 where
  pub lays : old.store ≡ contents → Leaves w contents new.store
  pub rest : new.journal ≡ old.journal

-- FILE is as it was, and all of it is on the disk
pub record IsWrittenAgain (old new : Seen) : Type 0 where
  pub held : new.held ≡ old.held
  pub synced : IsSynced Store new
  pub found : NoneLost Store new
