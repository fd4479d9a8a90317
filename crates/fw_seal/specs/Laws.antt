-- The laws of sealings.
use Rattle.std.specs.Prelude.{◌≡◌, ℕ, List}
use Rattle.fw_seal.specs.Sealing.{Keys, IsSealing, IsShortSealing}

-- bytes are the sealing of at most one APDU by an end, with one counter
abbrev pub OneSealing : Type 0
OneSealing =
    (keys : Keys) (title : List ℕ) (counter number : ℕ) (apdu more bytes : List ℕ)
    → IsSealing keys title counter apdu bytes → IsSealing keys title number more bytes → (counter ≡ number) × (apdu ≡ more)

-- what is made is a sealing, so it opens
abbrev pub ShortIsSealing : Type 0
ShortIsSealing =
    (keys : Keys) (title : List ℕ) (counter : ℕ) (apdu bytes : List ℕ)
    → IsShortSealing keys title counter apdu bytes → IsSealing keys title counter apdu bytes
