-- GCM (SP 800-38D) over AES-128, with 12 bytes of IV and 12 bytes of tag. A block is the number that its 16 bytes spell, high first: bit 127
-- is the standard's x_0.
use Rattle.std.specs.Prelude.{ℕ, zero, suc, ◌+◌, ◌-◌, ◌*◌, ◌/◌, ◌%◌, ◌^◌, min, List, [], ◌∷◌, ◌++◌, length, take, map, fold, replicate, bit_xor, slice_index, slice_range}
use Rattle.std.specs.List.{range_with_len}
use Rattle.std.specs.Int.{bit_at, w32, w128, to_be_bytes, from_be_bytes}
use Rattle.fw_aes.specs.Aes.{cipher}

-- ---- the product of blocks (6.3, Algorithm 1)

-- R
abbrev pub feedback : ℕ
feedback = 0xe1000000000000000000000000000000

-- V_(i + 1), from V_i
abbrev pub next_v : ℕ → ℕ
next_v v = bit_xor (v / 2) (bit_at v 0 * feedback)

-- V_n
unfoldable pub v_after : ℕ → ℕ → ℕ
v_after y zero = y
v_after y (suc n) = next_v (v_after y n)

-- Z_n
unfoldable pub z_after : ℕ → ℕ → ℕ → ℕ
z_after x y zero = 0
z_after x y (suc n) = bit_xor (z_after x y n) (bit_at x (127 - n) * v_after y n)

-- X • Y
unfoldable pub dot : ℕ → ℕ → ℕ
dot x y = z_after x y 128

-- ---- GHASH (6.4, Algorithm 2)

-- how many blocks n bytes take
abbrev pub block_count : ℕ → ℕ
block_count n = (n + 15) / 16

-- a block of these bytes, and zeros after them
abbrev pub block_of : List ℕ → List ℕ
block_of bytes = bytes ++ replicate (16 - length bytes) 0

-- block n of a string of bytes, the last one with zeros after its end
abbrev pub block_at : List ℕ → ℕ → ℕ
block_at xs n = from_be_bytes w128 (block_of (slice_range xs (16 * n) (min (16 * n + 16) (length xs))))

-- the first n blocks
abbrev pub first_blocks : List ℕ → ℕ → List ℕ
first_blocks xs n = map (block_at xs) (range_with_len 0 n)

-- all blocks
abbrev pub blocks_of : List ℕ → List ℕ
blocks_of xs = first_blocks xs (block_count (length xs))

-- Y_i, from Y_(i - 1) and X_i
abbrev pub hash_step : ℕ → ℕ → ℕ → ℕ
hash_step h y x = dot (bit_xor y x) h

-- GHASH of these blocks under the hash subkey h
abbrev pub ghash : ℕ → List ℕ → ℕ
ghash h blocks = fold (hash_step h) 0 blocks

-- ---- GCM-AE and GCM-AD (7.1 and 7.2)

-- H, the hash subkey: the block of zeros, enciphered
unfoldable pub hash_subkey : List ℕ → ℕ
hash_subkey key = from_be_bytes w128 (cipher key (replicate 16 0))

-- the block of lengths in bits
abbrev pub lengths : List ℕ → List ℕ → ℕ
lengths aad text = 8 * length aad * 2 ^ 64 + 8 * length text

-- S, of additional data and a ciphertext
unfoldable pub hash_of_parts : ℕ → List ℕ → List ℕ → ℕ
hash_of_parts h aad text = ghash h (blocks_of aad ++ blocks_of text ++ lengths aad text ∷ [])

-- block n of the counter: J_0 is block 1, and block n + 1 is inc_32 of block n
abbrev pub counter_block : List ℕ → ℕ → List ℕ
counter_block iv n = iv ++ to_be_bytes w32 (n % 2 ^ 32)

-- byte k of the key stream that begins with block n of the counter
abbrev pub stream_byte : List ℕ → List ℕ → ℕ → ℕ → ℕ
stream_byte key iv n k = slice_index (cipher key (counter_block iv (n + k / 16))) (k % 16)

-- a string whose bytes from place k on are added to what a function says for their places
unfoldable pub sum_from : (ℕ → ℕ) → ℕ → List ℕ → List ℕ
sum_from f k [] = []
sum_from f k (x ∷ xs) = bit_xor x (f k) ∷ sum_from f (suc k) xs

-- GCTR, from block n of the counter (6.5, Algorithm 3)
abbrev pub gctr : List ℕ → List ℕ → ℕ → List ℕ → List ℕ
gctr key iv n xs = sum_from (stream_byte key iv n) 0 xs

-- C, of a plaintext, and P, of a ciphertext
abbrev pub ciphertext_of : List ℕ → List ℕ → List ℕ → List ℕ
ciphertext_of key iv plaintext = gctr key iv 2 plaintext

abbrev pub plaintext_of : List ℕ → List ℕ → List ℕ → List ℕ
plaintext_of key iv ciphertext = gctr key iv 2 ciphertext

-- T, of additional data and a ciphertext
unfoldable pub tag_of : List ℕ → List ℕ → List ℕ → List ℕ → List ℕ
tag_of key iv aad ciphertext = take 12 (gctr key iv 1 (to_be_bytes w128 (hash_of_parts (hash_subkey key) aad ciphertext)))
