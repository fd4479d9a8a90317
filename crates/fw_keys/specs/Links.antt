-- The links of an end, as its key file has them.
use Rattle.std.specs.Prelude.{◌≡◌, ◌≢◌, ℕ, List, All, AllPairs, Any}
use Rattle.fw_seal.specs.Sealing.{Ends}
use Rattle.fw_keys.specs.declared.entry.Entry.{Entry}
use Rattle.fw_keys.specs.declared.entry.LinkKeys.{LinkKeys}

-- the title of the end that has the file, and its links in the order of the lines
pub record Links (N : Type 0) : Type 0 where
  pub own : List ℕ
  pub entries : List (Entry N)

-- one of these links is with the end of this name, or none is
abbrev pub HasEnd : {N : Type 0} → List (Entry N) → N → Type 0
HasEnd {N} entries end = Any (λ (entry : Entry N). entry.end ≡ end) entries

abbrev pub HasNoEnd : {N : Type 0} → List (Entry N) → N → Type 0
HasNoEnd {N} entries end = All (λ (entry : Entry N). entry.end ≢ end) entries

-- one of them has this encryption key, or none has
abbrev pub HasKey : {N : Type 0} → List (Entry N) → List ℕ → Type 0
HasKey {N} entries key = Any (λ (entry : Entry N). entry.keys.encryption ≡ key) entries

abbrev pub HasNoKey : {N : Type 0} → List (Entry N) → List ℕ → Type 0
HasNoKey {N} entries key = All (λ (entry : Entry N). entry.keys.encryption ≢ key) entries

-- two links with other ends, under other keys
pub record Differ {N : Type 0} (entry other : Entry N) : Type 0 where
  pub ends : entry.end ≢ other.end
  pub keys : entry.keys.encryption ≢ other.keys.encryption

-- Links of an end with this title: no other end has its title, and any two of them differ.
pub record AreLinks {N : Type 0} (own : List ℕ) (entries : List (Entry N)) : Type 0 where
  pub titles : All (λ (entry : Entry N). entry.keys.title ≢ own) entries
  pub apart : AllPairs (λ (entry other : Entry N). Differ entry other) entries

-- a link that may stand behind these
pub record IsNew {N : Type 0} (own : List ℕ) (before : List (Entry N)) (entry : Entry N) : Type 0 where
  pub title : entry.keys.title ≢ own
  pub key : HasNoKey before entry.keys.encryption
  pub name : HasNoEnd before entry.end

-- the link of an end with this title
abbrev pub ends_of : List ℕ → LinkKeys → Ends
ends_of own keys = record {
  keys = record { encryption = keys.encryption; authentication = keys.authentication };
  own = own;
  other = keys.title;
}
