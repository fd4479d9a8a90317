-- AES-128's cipher (FIPS 197) as a function on lists of bytes. The byte in row r and column c of the state is at r + 4 * c (3.4).
use Rattle.std.specs.Prelude.{ℕ, zero, suc, ◌+◌, ◌*◌, ◌/◌, ◌%◌, List, [], ◌∷◌, map, bit_xor, slice_index}
use Rattle.fw_aes.specs.Field.{times, sbox}

abbrev pub places : List ℕ
places = 0 ∷ 1 ∷ 2 ∷ 3 ∷ 4 ∷ 5 ∷ 6 ∷ 7 ∷ 8 ∷ 9 ∷ 10 ∷ 11 ∷ 12 ∷ 13 ∷ 14 ∷ 15 ∷ []

-- SUBBYTES (5.1.1)
abbrev pub sub_bytes : List ℕ → List ℕ
sub_bytes s = map sbox s

-- SHIFTROWS: row r moves r places to the left (5.1.2)
abbrev pub shift_rows : List ℕ → List ℕ
shift_rows s = map (λ i. slice_index s ((i + 4 * (i % 4)) % 16)) places

-- one byte of MIXCOLUMNS, from the column's bytes from its row on (5.1.3)
abbrev pub mix_byte : ℕ → ℕ → ℕ → ℕ → ℕ
mix_byte a b c d = bit_xor (bit_xor (bit_xor (times 2 a) (times 3 b)) c) d

-- the byte k rows below place i, in its column
abbrev pub byte_below : List ℕ → ℕ → ℕ → ℕ
byte_below s i k = slice_index s (i / 4 * 4 + (i + k) % 4)

-- MIXCOLUMNS (5.1.3)
abbrev pub mix_columns : List ℕ → List ℕ
mix_columns s = map (λ i. mix_byte (slice_index s i) (byte_below s i 1) (byte_below s i 2) (byte_below s i 3)) places

-- ADDROUNDKEY (5.1.4)
abbrev pub add_round_key : List ℕ → List ℕ → List ℕ
add_round_key s k = map (λ i. bit_xor (slice_index s i) (slice_index k i)) places

-- ---- KEYEXPANSION (5.2), a round key of four words at a time

-- x^n, the first byte of Rcon n + 1
unfoldable pub round_constant : ℕ → ℕ
round_constant zero = 1
round_constant (suc n) = times 2 (round_constant n)

-- SUBWORD of ROTWORD of a key's last word, plus Rcon, added to its first word
abbrev pub first_word : List ℕ → ℕ → List ℕ
first_word k constant =
    bit_xor (slice_index k 0) (bit_xor (sbox (slice_index k 13)) constant) ∷ bit_xor (slice_index k 1) (sbox (slice_index k 14))
    ∷ bit_xor (slice_index k 2) (sbox (slice_index k 15)) ∷ bit_xor (slice_index k 3) (sbox (slice_index k 12)) ∷ []

-- the word at byte n of a key, added to the word before it
abbrev pub later_word : List ℕ → ℕ → List ℕ → List ℕ
later_word k n w =
    bit_xor (slice_index k n) (slice_index w 0) ∷ bit_xor (slice_index k (n + 1)) (slice_index w 1) ∷ bit_xor (slice_index k (n + 2)) (slice_index w 2)
    ∷ bit_xor (slice_index k (n + 3)) (slice_index w 3) ∷ []

abbrev pub key_of_words : List ℕ → List ℕ → List ℕ → List ℕ → List ℕ
key_of_words a b c d =
    slice_index a 0 ∷ slice_index a 1 ∷ slice_index a 2 ∷ slice_index a 3 ∷ slice_index b 0 ∷ slice_index b 1 ∷ slice_index b 2 ∷ slice_index b 3
    ∷ slice_index c 0 ∷ slice_index c 1 ∷ slice_index c 2 ∷ slice_index c 3 ∷ slice_index d 0 ∷ slice_index d 1 ∷ slice_index d 2 ∷ slice_index d 3 ∷ []

-- the round key after k
unfoldable pub next_key : List ℕ → ℕ → List ℕ
next_key k constant =
    let a = first_word k constant in
    let b = later_word k 4 a in
    let c = later_word k 8 b in
    key_of_words a b c (later_word k 12 c)

-- the key of round n
unfoldable pub round_key : List ℕ → ℕ → List ℕ
round_key key zero = key
round_key key (suc n) = next_key (round_key key n) (round_constant n)

-- ---- CIPHER (5.1)

-- the state after n rounds with MIXCOLUMNS
unfoldable pub after_rounds : List ℕ → List ℕ → ℕ → List ℕ
after_rounds key block zero = add_round_key block (round_key key 0)
after_rounds key block (suc n) = add_round_key (mix_columns (shift_rows (sub_bytes (after_rounds key block n)))) (round_key key (suc n))

-- a block of 16 bytes, enciphered under a key of 16 bytes
unfoldable pub cipher : List ℕ → List ℕ → List ℕ
cipher key block = add_round_key (shift_rows (sub_bytes (after_rounds key block 9))) (round_key key 10)
