-- Public vocabulary: the words of a line, and what a word says.
use Rattle.std.specs.Prelude.{ℕ, Bool, ◌&&◌, ◌==◌, if◌then◌else◌, nat_lt, nat_le, List, [], ◌∷◌, length, Option, Some, None, option_map, option_and_then, Result, Ok, Err, bytes_eq, codes}
use Rattle.std.specs.List.{list_all}
use Rattle.std.specs.Char.{is_ascii_digit}
use Rattle.std.specs.Str.Parse.{digits_value}
use Rattle.hex.specs.declared.error.FromHexError.{FromHexError}
use Rattle.hex.specs.Hex.{decode_of}
use Rattle.fw_text.specs.Lines.{onto_first}

-- One space (32) parts a word from the next. A space at the front parts an empty word from the others; any other byte there begins the
-- first word.
abbrev pub words_of : List ℕ → List (List ℕ)
words_of [] = [] ∷ []
words_of (byte ∷ rest) = if byte == 32 then [] ∷ words_of rest else onto_first byte (words_of rest)

-- the words after a word: the text after it is empty, or begins with the space that ended it
abbrev pub words_behind : List ℕ → List (List ℕ)
words_behind [] = []
words_behind (space ∷ text) = words_of text

-- ---- what a word says

-- a number: 1 to 10 decimal digits, with a value below 2^32
abbrev pub is_number : List ℕ → Bool
is_number word =
    nat_le 1 (length word) && nat_le (length word) 10 && list_all is_ascii_digit word && nat_lt (digits_value 10 word) 4294967296

abbrev pub number_of : List ℕ → Option ℕ
number_of word = if is_number word then Some (digits_value 10 word) else None

-- a number from the first up to the last of these
abbrev pub number_within : ℕ → ℕ → List ℕ → Option ℕ
number_within first last word = option_and_then (λ n. if nat_le first n && nat_le n last then Some n else None) (number_of word)

-- a number of a head end or of a campaign
abbrev pub from_one : List ℕ → Option ℕ
from_one = number_within 1 4294967295

abbrev pub byte_of : List ℕ → Option ℕ
byte_of = number_within 0 255

-- what decodes, if it does
abbrev pub decoded : Result (List ℕ) FromHexError → Option (List ℕ)
decoded (Ok bytes) = Some bytes
decoded (Err error) = None

-- bytes: pairs of hexadecimal digits, or a dash for no bytes
abbrev pub bytes_said : List ℕ → Option (List ℕ)
bytes_said [] = None
bytes_said (digit ∷ digits) = if bytes_eq (digit ∷ digits) (codes "-") then Some [] else decoded (decode_of (digit ∷ digits))

-- the word that stands in this place of a line
abbrev pub keyword : List ℕ → List ℕ → Option (Unit {0})
keyword text word = if bytes_eq word text then Some tt else None

-- ---- what words say, one after another

-- what the first word says, and the words after it
abbrev pub first_says : {A : Type 0} → (List ℕ → Option A) → List (List ℕ) → Option (A × List (List ℕ))
first_says says [] = None
first_says says (word ∷ words) = option_map (λ said. (said, words)) (says word)

-- The first word says something, and those after it say the rest.
abbrev pub reading : {A B : Type 0} → (List ℕ → Option A) → (A → List (List ℕ) → Option B) → List (List ℕ) → Option B
reading says rest words = option_and_then (λ r. rest r.0 r.1) (first_says says words)

-- no word is left
abbrev pub at_end : List (List ℕ) → Option (Unit {0})
at_end [] = Some tt
at_end (word ∷ words) = None

abbrev pub ending : {A : Type 0} → A → List (List ℕ) → Option A
ending said words = option_map (λ _. said) (at_end words)

-- all words that are left are numbers
abbrev pub numbers_of : List (List ℕ) → Option (List ℕ)
numbers_of [] = Some []
numbers_of (word ∷ words) = option_and_then (λ n. option_map (λ ns. n ∷ ns) (numbers_of words)) (number_of word)
