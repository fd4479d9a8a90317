-- What bytes are not, for the private functions that read a journal.
use Rattle.std.specs.Prelude.{◌≡◌, ◌<◌, ◌^◌, ℕ, List, ◌++◌, length}
use Rattle.sha2.specs.Sha256.{sha256}
use Rattle.fw_cuts.specs.Write.{Write, mark, part, payload}

-- they don't end with the digest of all that stands before it
abbrev pub IsUnsealed : List ℕ → Type 0
IsUnsealed bytes = (payload : List ℕ) → ¬ (bytes ≡ payload ++ sha256 payload)

-- they don't begin as a journal does
abbrev pub IsUnmarked : List ℕ → Type 0
IsUnmarked bytes = (rest : List ℕ) → ¬ (bytes ≡ mark ++ rest)

-- they don't begin with a part
abbrev pub IsNoPart : List ℕ → Type 0
IsNoPart bytes = (some rest : List ℕ) → length some < 2 ^ 32 → ¬ (bytes ≡ part some ++ rest)

-- nor with two of them
abbrev pub AreNoTwoParts : List ℕ → Type 0
AreNoTwoParts bytes = (first second rest : List ℕ) → length first < 2 ^ 32 → length second < 2 ^ 32 → ¬ (bytes ≡ part first ++ (part second ++ rest))

-- a write whose numbers a journal has room for
pub record HasSizes (w : Write) : Type 0 where
  pub at_fits : w.at < 2 ^ 64
  pub last_at_fits : w.last_at < 2 ^ 64
  pub before_fits : length w.before < 2 ^ 32
  pub after_fits : length w.after < 2 ^ 32
  pub last_before_fits : length w.last_before < 2 ^ 32
  pub last_after_fits : length w.last_after < 2 ^ 32

-- they are those of no journal before its digest
abbrev pub IsNoPayload : List ℕ → Type 0
IsNoPayload bytes = (w : Write) → HasSizes w → ¬ (bytes ≡ payload w)
