-- A text with the key stream added to its bytes, one after another.
use Rattle.std.proofs.Common.{◌≡◌, ◌≢◌, ℕ, zero, suc, ◌+◌, ◌*◌, ◌/◌, ◌%◌, ◌^◌, ◌<◌, ◌≤◌, List, [], ◌∷◌, ◌++◌, length, take, drop, bit_xor, refl, sym, ap, ◌∙◌, add-one, arith, get_or, append-nil, length-append, length-drop}
use Rattle.std.proofs.Math.ListN.{set}
use Rattle.std.proofs.lemmas.List.{take_at, take_all, drop_all}
use Rattle.fw_aes.specs.Aes.{cipher}
use Rattle.std.specs.Int.{to_be_bytes, w32}
use Rattle.fw_aes.specs.Gcm.{counter_block, stream_byte, sum_from}
use Rattle.fw_aes.specs.Schedule.{IsStream}
use borrow.Rule.Slice.PartMut.{put_mid, post_of}

-- a block of 12 bytes and 4 bytes
pub counter_placed : (iv zs ys : List ℕ) → length iv ≡ 12 → length zs ≡ 4 → put_mid 12 4 (iv ++ zs) ys ≡ iv ++ ys
counter_placed iv zs ys li lz =
    let rest : post_of 12 4 (iv ++ zs) ≡ [] = drop_all 4 (drop 12 (iv ++ zs)) (omega (arith, length-drop 12 (iv ++ zs), length-append iv zs)) in
    rw (rest, take_at iv zs 12 li, append-nil) refl

pub added_first : (f : ℕ → ℕ) (xs : List ℕ) → xs ≡ sum_from f 0 [] ++ xs
unfolding sum_from
added_first f xs = refl

added_more_from : (f : ℕ → ℕ) (s k : ℕ) (xs : List ℕ) → k < length xs
    → set (sum_from f s (take k xs) ++ drop k xs) k (bit_xor (get_or (sum_from f s (take k xs) ++ drop k xs) k 0) (f (s + k)))
    ≡ sum_from f s (take (suc k) xs) ++ drop (suc k) xs
unfolding sum_from
added_more_from f s k [] lt = absurd (omega arith)
added_more_from f s zero (x ∷ xs) lt = ap (λ (i : ℕ). bit_xor x (f i) ∷ xs) (omega arith)
added_more_from f s (suc k) (x ∷ xs) lt =
    let e : s + suc k ≡ suc s + k = omega arith in
    ap (λ (i : ℕ). bit_xor x (f s) ∷ set (sum_from f (suc s) (take k xs) ++ drop k xs) k (bit_xor (get_or (sum_from f (suc s) (take k xs) ++ drop k xs) k 0) (f i))) e
    ∙ ap (λ (ys : List ℕ). bit_xor x (f s) ∷ ys) (added_more_from f (suc s) k xs (omega arith))

pub added_more : (f : ℕ → ℕ) (xs ys : List ℕ) (k b : ℕ) → k < length xs → ys ≡ sum_from f 0 (take k xs) ++ drop k xs → b ≡ f k
    → set ys k (bit_xor (get_or ys k 0) b) ≡ sum_from f 0 (take (k + 1) xs) ++ drop (k + 1) xs
added_more f xs ys k b lt ey eb =
    let at : 0 + k ≡ k = omega arith in
    rw (ey, eb, add-one) (ap (λ (i : ℕ). set (sum_from f 0 (take k xs) ++ drop k xs) k (bit_xor (get_or (sum_from f 0 (take k xs) ++ drop k xs) k 0) (f i))) (sym at) ∙ added_more_from f 0 k xs lt)

pub added_all : (f : ℕ → ℕ) (xs ys : List ℕ) (k : ℕ) → length xs ≤ k → ys ≡ sum_from f 0 (take k xs) ++ drop k xs → ys ≡ sum_from f 0 xs
added_all f xs ys k le ey = ey ∙ rw (take_all k xs le, drop_all k xs le, append-nil) refl

-- the stream's block of byte k, of four from block 2 + 4 * (k / 64) on
pub stream_at : (key iv : List ℕ) (stream : List (List ℕ)) (k : ℕ) → IsStream key iv (2 + 4 * (k / 64)) stream
    → get_or (get_or stream (k / 16 % 4) []) (k % 16) 0 ≡ stream_byte key iv 2 k
stream_at key iv stream k is =
    let block : 2 + 4 * (k / 64) + k / 16 % 4 ≡ 2 + k / 16 = omega arith in
    ap (λ (bs : List ℕ). get_or bs (k % 16) 0) (is (k / 16 % 4) (omega arith) ∙ ap (λ (n : ℕ). cipher key (counter_block iv n)) block)

-- the stream for the next byte
pub stream_next : (key iv : List ℕ) (stream : List (List ℕ)) (k : ℕ) → IsStream key iv (2 + 4 * (k / 64)) stream → (k + 1) % 64 ≢ 0
    → IsStream key iv (2 + 4 * ((k + 1) / 64)) stream
stream_next key iv stream k is ne =
    let same : (k + 1) / 64 ≡ k / 64 = omega arith in
    rw same is

-- the blocks of the counter from block n on
pub counter_next : (iv : List ℕ) (n m i : ℕ) → m ≡ (n + i) % 2 ^ 32 → counter_block iv m ≡ counter_block iv (n + i)
counter_next iv n m i e =
    let same : m % 2 ^ 32 ≡ (n + i) % 2 ^ 32 = omega arith in
    ap (λ (k : ℕ). iv ++ to_be_bytes w32 k) same
