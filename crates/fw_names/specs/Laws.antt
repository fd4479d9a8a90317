-- The laws of names' spellings.
use Rattle.std.specs.Prelude.{◌≡◌, ◌≢◌, ◌⊎◌, List, ℕ, length}
use Rattle.fw_names.specs.Name.{Name, IsName, SpellsName, name_bytes}

-- a byte string spells at most one name
abbrev pub OneName : Type 0
OneName = (bytes : List ℕ) (a b : Name) → SpellsName bytes a → SpellsName bytes b → a ≡ b

-- different names have different spellings
abbrev pub SpellingsDiffer : Type 0
SpellingsDiffer = (a b : Name) → IsName a → IsName b → a ≢ b → name_bytes a ≢ name_bytes b

-- every spelling has 41 bytes, or 45
abbrev pub SpellingSize : Type 0
SpellingSize = (bytes : List ℕ) (name : Name) → SpellsName bytes name → (length bytes ≡ 41) ⊎ (length bytes ≡ 45)
