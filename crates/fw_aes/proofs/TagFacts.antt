-- Tags that are the same, and texts that two key streams leave as they were.
use Rattle.std.proofs.Common.{◌≡◌, ℕ, suc, ◌+◌, ◌*◌, ◌%◌, ◌^◌, ◌<◌, List, [], ◌∷◌, ◌++◌, length, take, fold, append_assoc, bit_xor, bit_or, refl, sym, ap, ◌∙◌, arith, get_or, below_more}
use Rattle.std.proofs.lemmas.Nat.{le_or_l, le_or_r}
use Rattle.std.proofs.lemmas.Grind.{same_number_lists}
use Rattle.std.specs.Int.Bits.{xor_self, xor_assoc, xor_zero_r}
use Rattle.std.specs.Int.{w128, to_be_bytes}
use Rattle.fw_aes.specs.Aes.{add_round_key, cipher}
use Rattle.fw_aes.specs.Gcm.{sum_from, stream_byte, blocks_of, counter_block, dot, gctr, hash_subkey, hash_of_parts, hash_step, lengths, tag_of}
use Rattle.fw_aes.specs.Laws.{OpensWhatWasSealed}
use Rattle.fw_aes.proofs.BlockFacts.{fold_both}

pub xor_back : (a b : ℕ) → bit_xor (bit_xor a b) b ≡ a
xor_back a b = xor_assoc a b b ∙ ap (bit_xor a) (xor_self b) ∙ xor_zero_r a

pub same_from_xor : (a b : ℕ) → bit_xor a b ≡ 0 → a ≡ b
same_from_xor a b h = sym (xor_back a b) ∙ ap (λ (n : ℕ). bit_xor n b) h

pub or_first : (a b : ℕ) → bit_or a b ≡ 0 → a ≡ 0
or_first a b h = omega (arith, le_or_l a b)

pub or_second : (a b : ℕ) → bit_or a b ≡ 0 → b ≡ 0
or_second a b h = omega (arith, le_or_r a b)

-- one byte more is compared
pub same_next : (xs ys : List ℕ) (d i : ℕ) → (d ≡ 0 → (j : ℕ) → j < i → get_or xs j 0 ≡ get_or ys j 0)
    → bit_or d (bit_xor (get_or xs i 0) (get_or ys i 0)) ≡ 0 → (j : ℕ) → j < i + 1 → get_or xs j 0 ≡ get_or ys j 0
same_next xs ys d i held h =
    let x : ℕ = get_or xs i 0 in
    let y : ℕ = get_or ys i 0 in
    below_more (λ (j : ℕ). get_or xs j 0 ≡ get_or ys j 0) i (held (or_first d (bit_xor x y) h)) (same_from_xor x y (or_second d (bit_xor x y) h))

pub none_next : (xs ys : List ℕ) (d i : ℕ) → (((j : ℕ) → j < i → get_or xs j 0 ≡ get_or ys j 0) → d ≡ 0)
    → ((j : ℕ) → j < i + 1 → get_or xs j 0 ≡ get_or ys j 0) → bit_or d (bit_xor (get_or xs i 0) (get_or ys i 0)) ≡ 0
none_next xs ys d i held h =
    let before : d ≡ 0 = held (λ j lt. h j (omega arith)) in
    rw (before, h i (omega arith), xor_self (get_or ys i 0)) refl

pub lists_same : (xs ys : List ℕ) (n : ℕ) → length xs ≡ n → length ys ≡ n → ((j : ℕ) → j < n → get_or xs j 0 ≡ get_or ys j 0) → xs ≡ ys
lists_same xs ys n lx ly h = same_number_lists xs ys (omega arith) (λ k lt. h k (omega arith))

added_twice : (f : ℕ → ℕ) (k : ℕ) (xs : List ℕ) → sum_from f k (sum_from f k xs) ≡ xs
unfolding sum_from
added_twice f k [] = refl
added_twice f k (x ∷ xs) = rw (xor_back x (f k), added_twice f (suc k) xs) refl

pub sealed_opens : OpensWhatWasSealed
sealed_opens key iv text = added_twice (stream_byte key iv 2) 0 text

-- ---- the tag

masked_first : (key iv mask : List ℕ) (z : ℕ) → mask ≡ cipher key (counter_block iv 1) → take 12 (add_round_key (to_be_bytes w128 z) mask) ≡ take 12 (gctr key iv 1 (to_be_bytes w128 z))
unfolding sum_from
masked_first key iv mask z e = rw e refl

hash_whole : (h y1 y2 z l : ℕ) (aad text : List ℕ) → y1 ≡ fold (hash_step h) 0 (blocks_of aad) → y2 ≡ fold (hash_step h) y1 (blocks_of text) → l ≡ lengths aad text
    → z ≡ dot (bit_xor y2 l) h → z ≡ hash_of_parts h aad text
unfolding hash_of_parts
hash_whole h y1 y2 z l aad text e1 e2 el ez =
    ez ∙ ap (λ (n : ℕ). dot (bit_xor y2 n) h) el ∙ ap (λ (y : ℕ). hash_step h y (lengths aad text)) (e2 ∙ ap (λ (y : ℕ). fold (hash_step h) y (blocks_of text)) e1)
    ∙ sym (ap (fold (hash_step h) 0) (append_assoc (blocks_of aad) (blocks_of text) (lengths aad text ∷ [])) ∙ fold_both (hash_step h) 0 (blocks_of aad) (blocks_of text ++ lengths aad text ∷ [])
    ∙ fold_both (hash_step h) (fold (hash_step h) 0 (blocks_of aad)) (blocks_of text) (lengths aad text ∷ []))

pub tag_code : (key iv aad text mask s r : List ℕ) (h y1 y2 l z : ℕ) → h ≡ hash_subkey key → y1 ≡ fold (hash_step h) 0 (blocks_of aad)
    → y2 ≡ fold (hash_step h) y1 (blocks_of text) → l ≡ lengths aad text → z ≡ dot (bit_xor y2 l) h → s ≡ to_be_bytes w128 z → mask ≡ cipher key (counter_block iv 1)
    → r ≡ take 12 (add_round_key s mask) → r ≡ tag_of key iv aad text
unfolding tag_of
tag_code key iv aad text mask s r h y1 y2 l z eh e1 e2 el ez es em er =
    let whole : z ≡ hash_of_parts h aad text = hash_whole h y1 y2 z l aad text e1 e2 el ez in
    er ∙ ap (λ (b : List ℕ). take 12 (add_round_key b mask)) es ∙ masked_first key iv mask z em
    ∙ ap (λ (n : ℕ). take 12 (gctr key iv 1 (to_be_bytes w128 n))) (whole ∙ ap (λ (n : ℕ). hash_of_parts n aad text) eh)

pub lengths_code : (aad text : List ℕ) → length aad < 2 ^ 60 → 8 * length aad * 2 ^ 64 % 2 ^ 128 + 8 * length text ≡ lengths aad text
lengths_code aad text h = omega arith
