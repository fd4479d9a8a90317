-- The checksum of IPv4 and UDP: the complement of the ones' complement sum of the words of 16 bits (RFC 1071, section 1).
use Rattle.std.specs.Prelude.{ℕ, ◌+◌, ◌-◌, ◌*◌, ◌%◌, List, [], ◌∷◌, ◌==◌, if◌then◌else◌}

-- the sum of the words that bytes are, two bytes each, high byte first; an odd byte at the end is followed by a zero
abbrev pub word_sum : List ℕ → ℕ
word_sum [] = 0
word_sum (a ∷ []) = a * 256
word_sum (a ∷ b ∷ bytes) = a * 256 + b + word_sum bytes

-- The ones' complement sum, in which each carry out of the 16 bits is added again at the other end: so it is the sum less a multiple
-- of 2 ^ 16 - 1. It is 0 only if each word is 0.
abbrev pub ones_complement : ℕ → ℕ
ones_complement sum = if sum == 0 then 0 else (sum - 1) % 65535 + 1

abbrev pub checksum_of : ℕ → ℕ
checksum_of sum = 65535 - ones_complement sum

abbrev pub checksum : List ℕ → ℕ
checksum bytes = checksum_of (word_sum bytes)
