-- Public vocabulary: a session, the lines that a meter is given, and the text that answers them.
use Rattle.std.specs.Prelude.{◌≡◌, ℕ, true, IsTrue, ◌+◌, List, [], ◌∷◌, ◌++◌, length, Option, Some, None, Ok, IsOk, IsErr, codes}
use Rattle.hex.specs.Hex.{decode_of, encode_lower}
use Rattle.fw_names.specs.Name.{Name}
use Rattle.fw_image.specs.Meter.{Meter}
use Rattle.fw_image.specs.State.{State, Follows, Counts}
use Rattle.fw_meter.specs.Handling.{Handles}
use Rattle.fw_text.specs.Lines.{lines_of}

-- the line for a reply: lower-case hexadecimal, or a dash if there is no reply
abbrev pub line_for : Option (List ℕ) → List ℕ
line_for None = codes "-\n"
line_for (Some reply) = encode_lower reply ++ codes "\n"

-- The line spells a datagram in hexadecimal, and from old the meter may answer it by this text and become new. Its store is honest and
-- doesn't fail.
pub record AnswersLine (old : Meter) (line text : List ℕ) (new : Meter) : Type 0 where
  pub datagram : List ℕ
  pub reply : Option (List ℕ)
  pub activated : Option Name
  pub spelled : decode_of line ≡ Ok datagram
  pub step : Handles true IsTrue old datagram reply activated new
  pub told : text ≡ line_for reply

-- The same over any store: a code 1 says that it failed, and what it holds is known as far as it is honest.
pub record AnswersLineOver (old : State) (line text : List ℕ) (new : State) : Type 0 where
  pub datagram : List ℕ
  pub reply : Option (List ℕ)
  pub activated : Option Name
  pub spelled : decode_of line ≡ Ok datagram
  pub step : Handles old.honest (Counts old new) old.meter datagram reply activated new.meter
  pub follows : Follows old new
  pub told : text ≡ line_for reply

-- From old, the lines may be answered, one after another, by this text, which leads to new. Answers says it of one line.
abbrev pub AnswersLines : {M : Type 0} → (M → List ℕ → List ℕ → M → Type 0) → M → List (List ℕ) → List ℕ → M → Type 0
AnswersLines Answers old [] text new = (text ≡ []) × (new ≡ old)
AnswersLines Answers old (line ∷ lines) text new =
    (first : List ℕ) × (rest : List ℕ) × (next : _)
    × Answers old line first next × AnswersLines Answers next lines rest new × (text ≡ first ++ rest)

-- No line is left, or the first that is left, which has this number, spells nothing and is the bad line.
abbrev pub EndsAt : ℕ → List (List ℕ) → Option ℕ → Type 0
EndsAt number [] bad_line = bad_line ≡ None
EndsAt number (line ∷ lines) bad_line = IsErr (decode_of line) × (bad_line ≡ Some number)

-- The meter may answer the input by this text: all its lines, or those before the bad line. Lines count from 1.
pub record Session {M : Type 0} (Answers : M → List ℕ → List ℕ → M → Type 0) (meter : M) (input text : List ℕ) (bad_line : Option ℕ) : Type 0 where
  pub answered : List (List ℕ)
  pub left : List (List ℕ)
  pub after : M
  pub lines : lines_of input ≡ answered ++ left
  pub answers : AnswersLines Answers meter answered text after
  pub ends : EndsAt (length answered + 1) left bad_line

-- the input has a line, and the first one spells a datagram
abbrev pub BeginsWell : List ℕ → Type 0
BeginsWell input = (line : List ℕ) × (rest : List (List ℕ)) × (lines_of input ≡ line ∷ rest) × IsOk (decode_of line)
