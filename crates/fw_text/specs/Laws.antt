-- Public vocabulary: what the law says.
use Rattle.std.specs.Prelude.{◌≡◌, ◌≢◌, ℕ, List, [], ◌∷◌, ◌++◌, All}
use Rattle.fw_text.specs.Lines.{lines_of}

-- a line holds no line feed
abbrev pub IsLine : List ℕ → Type 0
IsLine line = All (λ byte. byte ≢ 10) line

-- the text of these lines, each with a line feed after it
abbrev pub text_of : List (List ℕ) → List ℕ
text_of [] = []
text_of (line ∷ lines) = line ++ 10 ∷ text_of lines

-- A text is cut into the lines that it was made of. The last line may lack its line feed, unless it is empty.
abbrev pub LinesAreCut : Type 0
LinesAreCut = (lines : List (List ℕ)) → All IsLine lines
    → (lines_of (text_of lines) ≡ lines)
    × ((last : List ℕ) → IsLine last → last ≢ [] → lines_of (text_of lines ++ last) ≡ lines ++ last ∷ [])
