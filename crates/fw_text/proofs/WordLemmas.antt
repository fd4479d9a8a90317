-- Where the words of a line end, and what decimal digits are worth.
use Rattle.std.proofs.Common.{◌≡◌, ℕ, ◌+◌, ◌-◌, ◌*◌, ◌≤◌, ◌<◌, Bool, true, false, List, [], ◌∷◌, ◌++◌, append_assoc, append-nil, suc, length, map, take, drop, eqb, Option, Some, None, refl, sym, ap, ◌∙◌, arith}
use Rattle.std.specs.Prelude.{option_map, option_and_then, is_some, IsSome, unwrap_or, position, nat_lt, if◌then◌else◌}
use Rattle.std.specs.List.{position_or_len, list_all}
use Rattle.std.specs.Char.{is_ascii_digit, digit_value}
use Rattle.std.specs.Str.Parse.{digits_value_after}
use Rattle.std.proofs.lemmas.Grind.{common_steps}
use Rattle.std.proofs.lemmas.Bool.Decides.{nat_tests}
use Rattle.std.proofs.lemmas.List.Sums.{prefix_len-le-length}
use Rattle.fw_text.specs.Words.{words_of, number_of, numbers_of, first_says, words_behind}

-- a byte more at the front
cut_more : (b n : ℕ) (rest : List ℕ) → (b ∷ take n rest) ∷ words_behind (drop n rest) ≡ take (1 + n) (b ∷ rest) ∷ words_behind (drop (1 + n) (b ∷ rest))
cut_more b n rest = let one : 1 + n ≡ suc n = omega arith in rw one refl

-- the first word and the text after it
pub words_cut : (text : List ℕ) → words_of text ≡ take (position_or_len (λ byte. eqb byte 32) text) text ∷ words_behind (drop (position_or_len (λ byte. eqb byte 32) text) text)
words_cut [] = refl
words_cut (b ∷ rest) =
    elim (eqb b 32) as (λ v. eqb b 32 ≡ v → words_of (b ∷ rest) ≡ take (position_or_len (λ byte. eqb byte 32) (b ∷ rest)) (b ∷ rest) ∷ words_behind (drop (position_or_len (λ byte. eqb byte 32) (b ∷ rest)) (b ∷ rest))) [
      | true ↦ λ here. rw here refl
      | false ↦ λ other. rw (other, words_cut rest) (cut_more b (position_or_len (λ byte. eqb byte 32) rest) rest)
    ] refl

pub end_within : (text : List ℕ) → position_or_len (λ byte. eqb byte 32) text ≤ length text
end_within text = prefix_len-le-length _ text

-- the place of the first that passes, or the length
pub place_or_length : (p : ℕ → Bool) (xs : List ℕ) → unwrap_or (position p xs) (length xs) ≡ position_or_len p xs
place_or_length p xs =
    let within : position_or_len p xs ≤ length xs = prefix_len-le-length _ xs in
    elim (nat_lt (position_or_len p xs) (length xs)) as (λ v. nat_lt (position_or_len p xs) (length xs) ≡ v → unwrap_or (position p xs) (length xs) ≡ position_or_len p xs) [
      | true ↦ λ here. rw here refl
      | false ↦ λ past. rw past (grind arith)
    ] refl

-- ---- decimal digits

-- digits after others make a number greater
pub grows : (n : ℕ) (digits : List ℕ) → n ≤ digits_value_after 10 n digits
grows n [] = omega arith
grows n (d ∷ digits) = let more = grows (n * 10 + digit_value d) digits in omega (arith, more)

-- a value that fits, and one that doesn't
pub fits : (v : ℕ) → v < 4294967296 → (if nat_lt v 4294967296 then Some v else None) ≡ Some v
fits v below = let test : nat_lt v 4294967296 ≡ true = grind (arith, nat_tests) in rw test refl

pub too_great : (v : ℕ) → 4294967296 ≤ v → (if nat_lt v 4294967296 then Some v else None) ≡ None
too_great v past = let test : nat_lt v 4294967296 ≡ false = grind (arith, nat_tests) in rw test refl

-- the first digit's part in the value
pub first_grows : (v d : ℕ) (digits rest : List ℕ) → rest ≡ d ∷ digits → v * 10 + digit_value d ≤ digits_value_after 10 v rest
first_grows v d digits rest cut = rw cut (grows (v * 10 + digit_value d) digits)

-- a digit's own value
pub worth : (d : ℕ) (digits rest : List ℕ) → rest ≡ d ∷ digits → list_all is_ascii_digit rest ≡ true → digit_value d ≡ d - 48
worth d digits rest cut all =
    let whole : list_all is_ascii_digit (d ∷ digits) ≡ true = rw cut at all in
    let low : nat_lt d 48 ≡ false = grind (arith, nat_tests, common_steps) in
    let high : nat_lt d 58 ≡ true = grind (arith, nat_tests, common_steps) in
    rw (low, high) refl

-- ---- numbers, one after another

-- these items, and what f makes of the numbers that are left
abbrev pub collected : {B : Type 0} → (ℕ → B) → List B → List (List ℕ) → Option (List B)
collected f items words = option_map (λ ns. items ++ map f ns) (numbers_of words)

pub collects_none : {B : Type 0} (f : ℕ → B) (words : List (List ℕ)) → collected f [] words ≡ option_map (map f) (numbers_of words)
collects_none f words = elim (numbers_of words) as (λ o. option_map (λ ns. [] ++ map f ns) o ≡ option_map (map f) o) [ None ↦ refl | Some ns ↦ refl ]

-- one item more
one_more : {B : Type 0} (f : ℕ → B) (items : List B) (n : ℕ) (o : Option (List ℕ))
    → option_map (λ ns. items ++ map f ns) (option_map (λ ns. n ∷ ns) o) ≡ option_map (λ ns. (items ++ f n ∷ []) ++ map f ns) o
one_more f items n None = refl
one_more f items n (Some ns) = ap Some (sym (append_assoc items (f n ∷ []) (map f ns)))

abbrev pair : ℕ → List (List ℕ) → ℕ × List (List ℕ)
pair n words = (n, words)

pair_same : (m n : ℕ) (a b : List (List ℕ)) → Some (pair m a) ≡ Some (pair n b) → (m ≡ n) × (a ≡ b)
pair_same m n a b both =
    let same : pair m a ≡ pair n b = cc both in (ap (λ (r : ℕ × List (List ℕ)). r.0) same, ap (λ (r : ℕ × List (List ℕ)). r.1) same)

-- the first word's number, if it says one
more_by : {B : Type 0} (f : ℕ → B) (items : List B) (words others : List (List ℕ)) (n : ℕ) (v : Option ℕ) → option_map (λ said. pair said words) v ≡ Some (pair n others)
    → option_map (λ ns. items ++ map f ns) (option_and_then (λ m. option_map (λ ns. m ∷ ns) (numbers_of words)) v) ≡ collected f (items ++ f n ∷ []) others
more_by f items words others n None says = cc says
more_by f items words others n (Some m) says =
    let same = pair_same m n words others says in
    rw (same.0, same.1) (one_more f items n (numbers_of others))

pub collects_more : {B : Type 0} (f : ℕ → B) (items : List B) (words others : List (List ℕ)) (n : ℕ) → first_says number_of words ≡ Some (pair n others)
    → collected f items words ≡ collected f (items ++ f n ∷ []) others
collects_more f items [] others n says = cc says
collects_more f items (word ∷ words) others n says = more_by f items words others n (number_of word) says

not_none : {B : Type 0} (o : Option B) → o ≡ None → IsSome o → ⊥
not_none None none some = cc
not_none (Some x) none some = cc

-- no number is left: no word is, or one that is none
all_by : {B : Type 0} (f : ℕ → B) (items : List B) (words : List (List ℕ)) (all : Option (List B)) (v : Option ℕ) → option_map (λ said. pair said words) v ≡ None
    → option_map (λ ns. items ++ map f ns) (option_and_then (λ m. option_map (λ ns. m ∷ ns) (numbers_of words)) v) ≡ all → IsSome all → all ≡ Some items
all_by f items words all None says same some = absurd (not_none all (sym same) some)
all_by f items words all (Some m) says same some = cc says

pub collects_all : {B : Type 0} (f : ℕ → B) (items : List B) (words : List (List ℕ)) (all : Option (List B)) → first_says number_of words ≡ None → collected f items words ≡ all
    → IsSome all → all ≡ Some items
collects_all f items [] all says same some = sym same ∙ ap Some (append-nil items)
collects_all f items (word ∷ words) all says same some = all_by f items words all (number_of word) says same some

pub map_same : (ns : List ℕ) → map (λ n. n) ns ≡ ns
map_same [] = refl
map_same (n ∷ ns) = ap (λ ms. n ∷ ms) (map_same ns)

pub numbers_same : (o : Option (List ℕ)) → option_map (map (λ n. n)) o ≡ o
numbers_same None = refl
numbers_same (Some ns) = ap Some (map_same ns)

-- one number more is left out
pub numbers_go_on : (word : List ℕ) (words : List (List ℕ)) (n : ℕ) → number_of word ≡ Some n → is_some (numbers_of (word ∷ words)) ≡ is_some (numbers_of words)
numbers_go_on word words n says = rw says (elim (numbers_of words) as (λ o. is_some (option_map (λ ns. n ∷ ns) o) ≡ is_some o) [ None ↦ refl | Some ns ↦ refl ])

pub numbers_end : (word : List ℕ) (words : List (List ℕ)) → number_of word ≡ None → is_some (numbers_of (word ∷ words)) ≡ false
numbers_end word words none = rw none refl
