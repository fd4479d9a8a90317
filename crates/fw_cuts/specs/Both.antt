-- Public vocabulary: the bytes of FILE and of FILE.journal.
use Rattle.std.specs.Prelude.{◌≡◌, List, ℕ}
use Rattle.fw_cuts.specs.declared.files.Part.{Part}
use Rattle.fw_cuts.specs.declared.files.Part.TheVariants.{Store, Journal}

pub record Both : Type 0 where
  pub store : List ℕ
  pub journal : List ℕ

-- the bytes of one of them
abbrev pub of : Part → Both → List ℕ
of Store both = both.store
of Journal both = both.journal

-- one of them changes by such a step, and the other one stays
abbrev pub On : Part → (List ℕ → List ℕ → Type 0) → Both → Both → Type 0
On Store Step old new = Step old.store new.store × (new.journal ≡ old.journal)
On Journal Step old new = Step old.journal new.journal × (new.store ≡ old.store)
