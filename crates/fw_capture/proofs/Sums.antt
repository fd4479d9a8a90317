-- The sum of words over bytes that stand one after another.
use Rattle.std.proofs.Common.{◌≡◌, ℕ, zero, suc, ◌+◌, ◌*◌, List, [], ◌∷◌, ◌++◌, length, arith}
use Rattle.std.proofs.lemmas.List.{length-append}
use Rattle.fw_capture.specs.Checksum.{word_sum}

-- where the first bytes are whole words
pub word_sum-append : (k : ℕ) (xs ys : List ℕ) → length xs ≡ 2 * k → word_sum (xs ++ ys) ≡ word_sum xs + word_sum ys
word_sum-append zero [] ys e = omega arith
word_sum-append zero (x ∷ xs) ys e = absurd (omega arith)
word_sum-append (suc k) [] ys e = absurd (omega arith)
word_sum-append (suc k) (a ∷ []) ys e = absurd (omega arith)
word_sum-append (suc k) (a ∷ b ∷ xs) ys e = omega (arith, word_sum-append k xs ys (omega arith))

-- two addresses of one length, and what follows them
pub pseudo_words : (k : ℕ) (from to tail : List ℕ) → length from ≡ 2 * k → length to ≡ 2 * k → word_sum (from ++ to ++ tail) ≡ word_sum from + word_sum to + word_sum tail
pseudo_words k from to tail e f =
    let len : length (from ++ to) ≡ 2 * (k + k) = omega (arith, length-append from to) in
    omega (arith, word_sum-append (k + k) (from ++ to) tail len, word_sum-append k from to e)
