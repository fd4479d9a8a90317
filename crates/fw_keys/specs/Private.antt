-- For private clauses alone: no public clause cites it.
use Rattle.std.specs.Prelude.{◌≡◌, ℕ, List, ◌∷◌, ◌++◌, All, Ok}
use Rattle.hex.specs.Hex.{decode_sized, encode_lower}
use Rattle.fw_keys.specs.declared.entry.Entry.{Entry}
use Rattle.fw_keys.specs.declared.entry.LinkKeys.{LinkKeys}
use Rattle.fw_keys.specs.Writing.{ReadsBack}

-- a line ends with a comma (44) and the digits of so many bytes
pub record EndsWith (size : ℕ) (line front bytes : List ℕ) : Type 0 where
  pub digits : List ℕ
  pub parts : line ≡ front ++ 44 ∷ digits
  pub spelled : decode_sized digits size ≡ Ok bytes

-- the digits of a title and of two keys spell them
pub record IsWritten (keys : LinkKeys) : Type 0 where
  pub title : decode_sized (encode_lower keys.title) 8 ≡ Ok keys.title
  pub encryption : decode_sized (encode_lower keys.encryption) 16 ≡ Ok keys.encryption
  pub authentication : decode_sized (encode_lower keys.authentication) 16 ≡ Ok keys.authentication

-- each of these links is written, and what is written of its name is read back, where that shows all of it
abbrev pub AreWritten : {N : Type 0} → (List ℕ → N → Type 0) → (N → List ℕ) → (N → Type 0) → List (Entry N) → Type 0
AreWritten {N} Names text shown entries =
    All (λ (entry : Entry N). IsWritten entry.keys × (shown entry.end → ReadsBack Names (text entry.end) entry.end)) entries
