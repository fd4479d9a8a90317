-- Public vocabulary: a write to two places of a file, and the bytes of its journal (own format). Numbers have the high byte first.
use Rattle.std.specs.Prelude.{◌≡◌, ◌<◌, ◌≤◌, ◌+◌, ◌^◌, ℕ, List, [], ◌∷◌, ◌++◌, length}
use Rattle.std.specs.Int.{w32, w64, to_be_bytes}
use Rattle.sha2.specs.Sha256.{sha256}

-- from an offset on some bytes in place of as many others, and from a later one on others, in place of all that stand there
pub record Write : Type 0 where
  pub at : ℕ
  pub before : List ℕ
  pub after : List ℕ
  pub last_at : ℕ
  pub last_before : List ℕ
  pub last_after : List ℕ

-- the most bytes that a part of a write has
abbrev pub max_part : ℕ
max_part = 2048

-- the most bytes that a journal has
abbrev pub max_journal : ℕ
max_journal = 8260

-- one that a journal can have
pub record IsWrite (w : Write) : Type 0 where
  pub fits : w.last_at < 2 ^ 63
  pub same : length w.after ≡ length w.before
  pub most : length w.before ≤ max_part
  pub last_before_few : length w.last_before ≤ max_part
  pub last_after_few : length w.last_after ≤ max_part
  pub order : w.at + length w.before ≤ w.last_at

-- what each journal begins with: FWU1
abbrev pub mark : List ℕ
mark = 0x46 ∷ 0x57 ∷ 0x55 ∷ 0x31 ∷ []

-- a part of the write: how many bytes it has, and these
abbrev pub part : List ℕ → List ℕ
part bytes = to_be_bytes w32 (length bytes) ++ bytes

-- the bytes of the parts
abbrev pub parts : Write → List ℕ
parts w = part w.before ++ (part w.after ++ (part w.last_before ++ (part w.last_after ++ [])))

-- the journal before its digest
abbrev pub payload : Write → List ℕ
payload w = mark ++ (to_be_bytes w64 w.at ++ (to_be_bytes w64 w.last_at ++ parts w))

-- the journal
abbrev pub journal_bytes : Write → List ℕ
journal_bytes w = payload w ++ sha256 (payload w)
