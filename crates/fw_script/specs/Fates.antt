-- Public vocabulary: fates as they are given on a command line, a letter each.
use Rattle.std.specs.Prelude.{◌≡◌, ◌==◌, ◌||◌, ℕ, Bool, List, map}
use Rattle.fw_air.specs.declared.fates.Fate.{Fate}
use Rattle.fw_air.specs.declared.fates.Fate.TheVariants.{Deliver, Drop, Twice, Late}
use Rattle.fw_air.specs.Fates.{IsFates}

-- d, x, t and l
abbrev pub letter_of : Fate → ℕ
letter_of Deliver = 100
letter_of Drop = 120
letter_of Twice = 116
letter_of Late = 108

-- one of these letters
abbrev pub is_letter : ℕ → Bool
is_letter letter = letter == 100 || (letter == 120 || (letter == 116 || letter == 108))

-- the letters are those of these fates, which a list can have
pub record SpellsFates (letters : List ℕ) (fates : List Fate) : Type 0 where
  pub spelled : map letter_of fates ≡ letters
  pub is_fates : IsFates fates

-- the letters spell fates
abbrev pub SpellsSome : List ℕ → Type 0
SpellsSome letters = (fates : List Fate) × SpellsFates letters fates
