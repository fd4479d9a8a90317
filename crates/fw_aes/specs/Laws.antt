-- The law of GCM.
use Rattle.std.specs.Prelude.{◌≡◌, ℕ, List}
use Rattle.fw_aes.specs.Gcm.{ciphertext_of, plaintext_of}

-- to open what was sealed gives the plaintext back
abbrev pub OpensWhatWasSealed : Type 0
OpensWhatWasSealed = (key iv plaintext : List ℕ) → plaintext_of key iv (ciphertext_of key iv plaintext) ≡ plaintext
