-- The round keys of AES-128 as a value keeps them, and four blocks at a time.
use Rattle.std.specs.Prelude.{◌≡◌, ℕ, ◌+◌, ◌<◌, List, [], slice_index_or}
use Rattle.fw_aes.specs.Aes.{cipher, round_key}
use Rattle.fw_aes.specs.Gcm.{counter_block}

-- these are the keys of rounds 0 to 10
abbrev pub IsExpanded : List (List ℕ) → Type 0
IsExpanded keys = (n : ℕ) → n < 11 → slice_index_or keys n [] ≡ round_key (slice_index_or keys 0 []) n

-- the first n of them
abbrev pub IsExpandedTo : List ℕ → List (List ℕ) → ℕ → Type 0
IsExpandedTo key keys n = (k : ℕ) → k < n → slice_index_or keys k [] ≡ round_key key k

-- each of four blocks, enciphered
abbrev pub AreCiphers : List ℕ → List (List ℕ) → List (List ℕ) → Type 0
AreCiphers key blocks ciphers = (i : ℕ) → i < 4 → slice_index_or ciphers i [] ≡ cipher key (slice_index_or blocks i [])

-- the key stream's four blocks from block n of the counter on
abbrev pub IsStream : List ℕ → List ℕ → ℕ → List (List ℕ) → Type 0
IsStream key iv n stream = (i : ℕ) → i < 4 → slice_index_or stream i [] ≡ cipher key (counter_block iv (n + i))
