-- Which texts are pairs of hexadecimal digits.
use Rattle.std.proofs.Common.{◌≡◌, ℕ, ◌%◌, ◌/◌, ◌-◌, Bool, true, false, List, [], ◌∷◌, length, Some, None, Result, Ok, Err, refl, sym, ◌∙◌, arith}
use Rattle.std.specs.Prelude.{IsOk, IsErr, is_some, nat_le, ◌&&◌, ◌||◌, if◌then◌else◌}
use Rattle.std.specs.List.{list_all}
use Rattle.std.specs.Char.{is_ascii_hexdigit}
use Rattle.std.proofs.lemmas.List.Sums.{AllPass-from_list_all, list_all-from_AllPass}
use Rattle.hex.specs.Hex.{decode_of, decode_sized, is_hex_digit}
use Rattle.hex.specs.declared.error.FromHexError.{FromHexError}
use Rattle.hex.proofs.HexLemmas.{decode_of-ok, decode_of-digits}

-- a byte in one of three ranges
in_ranges : (a b c : Bool) (x y z : ℕ) → is_some (if a then Some x else (if b then Some y else (if c then Some z else None))) ≡ ((c || a) || b)
in_ranges true b true x y z = refl
in_ranges true b false x y z = refl
in_ranges false true true x y z = refl
in_ranges false true false x y z = refl
in_ranges false false true x y z = refl
in_ranges false false false x y z = refl

-- a digit in either case
same_digit : (c : ℕ) → is_hex_digit c ≡ is_ascii_hexdigit c
same_digit c = in_ranges (nat_le 65 c && nat_le c 70) (nat_le 97 c && nat_le c 102) (nat_le 48 c && nat_le c 57) (c - 55) (c - 87) (c - 48)

same_digits : (s : List ℕ) → list_all is_hex_digit s ≡ list_all is_ascii_hexdigit s
same_digits [] = refl
same_digits (c ∷ s) = rw (same_digit c, same_digits s) refl

-- what a text decodes to, if it does
pub bytes_in : (r : Result (List ℕ) FromHexError) → IsOk r → (bytes : List ℕ) × (r ≡ Ok bytes)
bytes_in (Ok bytes) h = (bytes, refl)
bytes_in (Err e) h = cc h

pub digits_decode : (s : List ℕ) → length s % 2 ≡ 0 → list_all is_ascii_hexdigit s ≡ true → IsOk (decode_of s)
digits_decode s even all =
    let r = decode_of-digits s even (AllPass-from_list_all is_hex_digit s (same_digits s ∙ all)) in rw r.1 refl

pub decoded_digits : (s : List ℕ) → IsOk (decode_of s) → (length s % 2 ≡ 0) × (list_all is_ascii_hexdigit s ≡ true)
decoded_digits s ok =
    let r = bytes_in (decode_of s) ok in
    let d = decode_of-ok s r.0 r.1 in (d.0, sym (same_digits s) ∙ list_all-from_AllPass is_hex_digit s d.1)

-- a text that spells nothing
pub is_err : {A E : Type 0} (r : Result A E) → (IsOk r → ⊥) → IsErr r
is_err (Ok x) not = absurd (not refl)
is_err (Err e) not = refl

-- room that is half as long as the digits fits
pub sized : (s : List ℕ) (n : ℕ) → length s % 2 ≡ 0 → n ≡ length s / 2 → decode_sized s n ≡ decode_of s
sized s n even half = rw half (grind (arith))
