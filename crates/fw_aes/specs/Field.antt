-- The field GF(2^8) of FIPS 197, 4: a byte is a polynomial over GF(2), whose coefficient of x^i is bit i.
use Rattle.std.specs.Prelude.{ℕ, zero, suc, ◌+◌, ◌*◌, ◌%◌, ◌^◌, bit_xor}
use Rattle.std.specs.Int.{bit_at}

-- the product of two polynomials, by the coefficients of the second below x^n
unfoldable pub product_below : ℕ → ℕ → ℕ → ℕ
product_below zero a b = 0
product_below (suc n) a b = bit_xor (product_below n a b) (bit_at b n * (a * 2 ^ n))

-- a polynomial below x^(8 + n) modulo x^8 + x^4 + x^3 + x + 1, which is 0x11b (4.2)
unfoldable pub remainder : ℕ → ℕ → ℕ
remainder zero p = p
remainder (suc n) p = remainder n (bit_xor p (bit_at p (8 + n) * (0x11b * 2 ^ n)))

-- the product in the field
unfoldable pub times : ℕ → ℕ → ℕ
times a b = remainder 7 (product_below 8 a b)

-- a to the power of 2 + 4 + .. + 2^n
unfoldable pub even_power : ℕ → ℕ → ℕ
even_power zero a = 1
even_power (suc n) a = let b = even_power n a in times (times a a) (times b b)

-- the inverse, a to the power of 254 = 2 + 4 + .. + 128, and 0 of 0 (4.4)
unfoldable pub inverse : ℕ → ℕ
inverse a = even_power 7 a

-- bit i of the affine transformation (5.1.1), with 0x63 as its constant
abbrev pub affine_bit : ℕ → ℕ → ℕ
affine_bit b i = (bit_at b i + bit_at b ((i + 4) % 8) + bit_at b ((i + 5) % 8) + bit_at b ((i + 6) % 8) + bit_at b ((i + 7) % 8) + bit_at 0x63 i) % 2

unfoldable pub affine_below : ℕ → ℕ → ℕ
affine_below zero b = 0
affine_below (suc n) b = affine_below n b + affine_bit b n * 2 ^ n

-- SBOX (5.1.1)
unfoldable pub sbox : ℕ → ℕ
sbox a = affine_below 8 (inverse a)
