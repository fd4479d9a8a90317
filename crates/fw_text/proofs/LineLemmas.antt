-- Where the lines of a text end.
use Rattle.std.proofs.Common.{◌≡◌, ℕ, zero, suc, ◌+◌, ◌-◌, ◌<◌, ◌≤◌, List, [], ◌∷◌, ◌++◌, append_assoc, length, get_or, take, drop, true, false, eqb, Some, None, refl, ap, ◌∙◌, arith}
use Rattle.std.specs.List.{position, position_or_len}
use Rattle.std.proofs.lemmas.Grind.{common_steps}
use Rattle.std.proofs.lemmas.List.Quantifiers.{position-Some}
use Rattle.std.proofs.lemmas.List.Sums.{fails_before_first}
use Rattle.std.specs.Prelude.{◌≢◌}
use Rattle.std.proofs.lemmas.Bool.{ne_eqb}
use Rattle.std.proofs.lemmas.List.Elements.{All-head, All-tail}
use Rattle.fw_text.specs.Lines.{lines_of, onto_first}
use Rattle.fw_text.specs.Laws.{IsLine, LinesAreCut, text_of}

-- the line that ends with the first line feed
lines_at : (i : ℕ) (text : List ℕ) → i < length text → ((k : ℕ) → k < i → eqb (get_or text k 0) 10 ≡ false) → eqb (get_or text i 0) 10 ≡ true
    → lines_of text ≡ take i text ∷ lines_of (drop (suc i) text)
lines_at i [] lt none here = absurd (omega arith)
lines_at zero (b ∷ rest) lt none here = rw here refl
lines_at (suc i) (b ∷ rest) lt none here =
    let other : eqb b 10 ≡ false = none 0 (omega arith) in
    let rest-lines : lines_of rest ≡ take i rest ∷ lines_of (drop (suc i) rest) = lines_at i rest (omega arith) (λ k h. none (suc k) (omega arith)) here in
    rw (other, rest-lines) refl

-- the line that ends without one
lines_last : (text : List ℕ) → 0 < length text → ((k : ℕ) → k < length text → eqb (get_or text k 0) 10 ≡ false) → lines_of text ≡ text ∷ []
lines_last [] some none = absurd (omega arith)
lines_last (b ∷ []) some none =
    let other : eqb b 10 ≡ false = none 0 (omega arith) in
    rw other refl
lines_last (b ∷ c ∷ rest) some none =
    let other : eqb b 10 ≡ false = none 0 (omega arith) in
    let rest-lines : lines_of (c ∷ rest) ≡ (c ∷ rest) ∷ [] = lines_last (c ∷ rest) (omega arith) (λ k h. none (suc k) (omega arith)) in
    rw other (ap (onto_first b) rest-lines)

-- what stands after a line feed, as the code cuts it
rest_of : (text : List ℕ) (end : ℕ) → drop (suc end) text ≡ take (length text - (end + 1)) (drop (end + 1) text)
rest_of text end = grind (arith, common_steps)

-- the first line and the text after it, as the code cuts them
pub lines_cut : (text : List ℕ) (end : ℕ) → position (λ byte. eqb byte 10) text ≡ Some end
    → lines_of text ≡ take end text ∷ lines_of (take (length text - (end + 1)) (drop (end + 1) text))
lines_cut text end found =
    let at = position-Some (λ byte. eqb byte 10) text end 0 found in
    lines_at end text at.0 at.2 at.1 ∙ ap (λ (rest : List ℕ). take end text ∷ lines_of rest) (rest_of text end)

-- a text without a line feed is one line
pub lines_whole : (text : List ℕ) → 0 < length text → position (λ byte. eqb byte 10) text ≡ None → lines_of text ≡ text ∷ []
lines_whole text some missing =
    let past : length text ≤ position_or_len (λ byte. eqb byte 10) text = grind (arith, common_steps) in
    lines_last text some (λ k below. fails_before_first (λ byte. eqb byte 10) text k 0 (omega arith))

-- no byte of a line is a line feed, as a test
not_line_feed : (line : List ℕ) → IsLine line → (k : ℕ) → k < length line → eqb (get_or line k 0) 10 ≡ false
not_line_feed line whole k below = ne_eqb (get_or line k 0) 10 (whole k 0 below)

-- a line feed ends the line before it
first_ended : (line rest : List ℕ) → IsLine line → lines_of (line ++ 10 ∷ rest) ≡ line ∷ lines_of rest
first_ended [] rest whole = refl
first_ended (b ∷ line) rest whole =
    let other : eqb b 10 ≡ false = not_line_feed (b ∷ line) whole 0 (omega arith) in
    rw other (ap (onto_first b) (first_ended line rest (All-tail (λ byte. byte ≢ 10) b line whole)))

-- a line that ends without one
alone : (last : List ℕ) → IsLine last → last ≢ [] → lines_of last ≡ last ∷ []
alone [] whole some = absurd (some refl)
alone (b ∷ last) whole some = lines_last (b ∷ last) (omega arith) (not_line_feed (b ∷ last) whole)

pub lines_are_cut : LinesAreCut
lines_are_cut [] whole = (refl, alone)
lines_are_cut (line ∷ lines) whole =
    let first : IsLine line = All-head IsLine line lines whole in
    let rest = lines_are_cut lines (All-tail IsLine line lines whole) in (
      first_ended line (text_of lines) first ∙ ap (λ (ls : List (List ℕ)). line ∷ ls) rest.0,
      λ last last_whole some. ap lines_of (append_assoc line (10 ∷ text_of lines) last) ∙ first_ended line (text_of lines ++ last) first
          ∙ ap (λ (ls : List (List ℕ)). line ∷ ls) (rest.1 last last_whole some),
    )
