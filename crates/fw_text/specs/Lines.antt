-- Public vocabulary: the lines of a text. A line feed (10) ends each, and the last line may lack it.
use Rattle.std.specs.Prelude.{ℕ, List, [], ◌∷◌, ◌==◌, if◌then◌else◌}

-- these lines with a byte more at the front of the first, or that byte as the only line
abbrev pub onto_first : ℕ → List (List ℕ) → List (List ℕ)
onto_first byte [] = (byte ∷ []) ∷ []
onto_first byte (line ∷ lines) = (byte ∷ line) ∷ lines

-- An empty text has no line. A line feed at the front ends an empty line; any other byte there begins the first line.
abbrev pub lines_of : List ℕ → List (List ℕ)
lines_of [] = []
lines_of (byte ∷ rest) = if byte == 10 then [] ∷ lines_of rest else onto_first byte (lines_of rest)
