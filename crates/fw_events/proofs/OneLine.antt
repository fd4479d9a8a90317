-- The text of a value of JSON has no line feed.
use Rattle.std.proofs.Common.{◌≡◌, ◌≢◌, ◌⊎◌, inl, inr, ℕ, zero, suc, ◌+◌, ◌/◌, ◌%◌, ◌≤◌, ◌==◌, nat_lt, Bool, true, false, cond, if◌then◌else◌, pos, negsuc, ℤ, List, [], ◌∷◌, ◌++◌, decimal, arith, refl, sym, subst, eqb-true, false-eqb}
use Rattle.std.specs.Char.{digit_char}
use Rattle.std.specs.Fmt.{digit_glyph, digits, digits_onto, signed_decimal}
use Rattle.json.specs.Print.{escape, escape_byte, escape_letter, quoted}
use Rattle.serde_json.specs.Data.{Num, unsigned, negative, float, Data, null, boolean, number, string, array, object, Items, no_items, item, Members, no_members, member}
use Rattle.serde_json.specs.Written.{comma_if, compact_text, items_text, members_text, number_text}
use Rattle.fw_events.specs.Events.{IsOneLine}

joined : (a b : List ℕ) → IsOneLine a → IsOneLine b → IsOneLine (a ++ b)
joined [] b one other = other
joined (c ∷ a) b one other = (one.0, joined a b one.1 other)

either : (test : Bool) (a b : List ℕ) → IsOneLine a → IsOneLine b → IsOneLine (cond test a b)
either true a b one other = one
either false a b one other = other

either_number : (test : Bool) (a b : ℕ) → a ≢ 10 → b ≢ 10 → cond test a b ≢ 10
either_number true a b one other = one
either_number false a b one other = other

-- ---- numbers

glyph : (digit : ℕ) → digit_glyph false digit ≢ 10
glyph digit = either_number (nat_lt digit 10) (48 + digit) (87 + digit) (omega arith) (omega arith)

digits_more : (count n : ℕ) (text : List ℕ) → IsOneLine text → IsOneLine (digits_onto count 10 false n text)
digits_more zero n text one = one
digits_more (suc count) n text one =
    let more : List ℕ = digit_glyph false (n % 10) ∷ text in
    let is : IsOneLine more = (glyph (n % 10), one) in
    either (n / 10 == 0) more (digits_onto count 10 false (n / 10) more) is (digits_more count (n / 10) more is)

number_one : (n : ℕ) → IsOneLine (decimal n)
unfolding digits
number_one n = digits_more 64 n [] tt

signed_one : (z : ℤ) → IsOneLine (signed_decimal z)
signed_one (pos n) = number_one n
signed_one (negsuc n) = (omega arith, number_one (suc n))

num_one : (n : Num) → IsOneLine (number_text n)
num_one (unsigned n) = number_one n
num_one (negative z) = signed_one z
num_one (float x) = tt

-- ---- strings

letter : (byte : ℕ) → byte ≢ 10 → escape_letter byte ≢ 10
letter byte other =
    either_number _ byte _ other
    (either_number (byte == 8) 98 _ (omega arith) (either_number (byte == 12) 102 _ (omega arith) (either_number (byte == 10) 110 _ (omega arith)
    (either_number (byte == 13) 114 _ (omega arith) (either_number (byte == 9) 116 0 (omega arith) (omega arith))))))

digit_one : (digit : ℕ) → digit_char digit ≢ 10
digit_one digit = either_number (nat_lt digit 10) (48 + digit) (87 + digit) (omega arith) (omega arith)

by_test : (a b : ℕ) (test : Bool) → a == b ≡ test → (a ≡ b) ⊎ (a ≢ b)
by_test a b true e = inl (eqb-true a b e)
by_test a b false e = inr (false-eqb a b (sym e))

feed_one : IsOneLine (escape_byte 10)
unfolding escape_byte
feed_one = (omega arith, (omega arith, tt))

other_one : (byte : ℕ) → byte ≢ 10 → IsOneLine (escape_byte byte)
unfolding escape_byte
other_one byte other =
    let coded : List ℕ = 92 ∷ 117 ∷ 48 ∷ 48 ∷ digit_char (byte / 16) ∷ digit_char (byte % 16) ∷ [] in
    let coded_one : IsOneLine coded = (omega arith, (omega arith, (omega arith, (omega arith, (digit_one (byte / 16), (digit_one (byte % 16), tt)))))) in
    either (nat_lt 0 (escape_letter byte)) (92 ∷ escape_letter byte ∷ []) _ (omega arith, (letter byte other, tt))
    (either (nat_lt byte 32) coded (byte ∷ []) coded_one (other, tt))

byte_one : (byte : ℕ) → IsOneLine (escape_byte byte)
byte_one byte = elim (by_test byte 10 (byte == 10) refl) [
  | inl same ↦ subst (λ (b : ℕ). IsOneLine (escape_byte b)) (sym same) feed_one
  | inr other ↦ other_one byte other
]

escape_one : (text : List ℕ) → IsOneLine (escape text)
escape_one [] = tt
escape_one (byte ∷ text) = joined (escape_byte byte) (escape text) (byte_one byte) (escape_one text)

quoted_one : (text : List ℕ) → IsOneLine (quoted text)
quoted_one text = (omega arith, joined (escape text) (34 ∷ []) (escape_one text) (omega arith, tt))

-- ---- values

comma_one : (later : Bool) → IsOneLine (comma_if later)
comma_one true = (omega arith, tt)
comma_one false = tt

mutual
  pub text_one : (d : Data) → IsOneLine (compact_text d)
  text_one null = (omega arith, (omega arith, (omega arith, (omega arith, tt))))
  text_one (boolean true) = (omega arith, (omega arith, (omega arith, (omega arith, tt))))
  text_one (boolean false) = (omega arith, (omega arith, (omega arith, (omega arith, (omega arith, tt)))))
  text_one (number n) = num_one n
  text_one (string s) = quoted_one s
  text_one (array ds) = (omega arith, items_one false ds)
  text_one (object ms) = (omega arith, members_one false ms)

  items_one : (later : Bool) (ds : Items) → IsOneLine (items_text later ds)
  items_one later no_items = (omega arith, tt)
  items_one later (item d ds) =
      joined (comma_if later) (compact_text d ++ items_text true ds) (comma_one later)
      (joined (compact_text d) (items_text true ds) (text_one d) (items_one true ds))

  members_one : (later : Bool) (ms : Members) → IsOneLine (members_text later ms)
  members_one later no_members = (omega arith, tt)
  members_one later (member k d ms) =
      let value : IsOneLine (compact_text d ++ members_text true ms) = joined (compact_text d) (members_text true ms) (text_one d) (members_one true ms) in
      joined (comma_if later) (quoted k ++ 58 ∷ (compact_text d ++ members_text true ms)) (comma_one later)
      (joined (quoted k) (58 ∷ (compact_text d ++ members_text true ms)) (quoted_one k) (omega arith, value))
