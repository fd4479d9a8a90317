-- The lines of files of keys.
use Rattle.std.proofs.Common.{◌≡◌, ◌++◌, List, ℕ, [], ◌∷◌, ap, refl}
use Rattle.fw_key_files.specs.Making.{KeyText, owners_of}
use Rattle.fw_cli.specs.Keying.{lines_of, made_line, made_lines}

-- the lines of files are those of their owners
pub lines_of_owners : (folder : List ℕ) (files : List KeyText) → lines_of folder files ≡ made_lines folder (owners_of files)
lines_of_owners folder [] = refl
lines_of_owners folder (file ∷ files) = ap (λ (rest : List ℕ). made_line folder file.owner ++ rest) (lines_of_owners folder files)
