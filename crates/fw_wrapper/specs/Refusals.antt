-- Public vocabulary: what refuses, as a list of rows, each a test and the error that it gives. If several would apply, the first of
-- them counts.
use Rattle.std.specs.Prelude.{Bool, List, [], ◌∷◌, Option, Some, None, if◌then◌else◌}

-- the error of the first row whose test is true
abbrev pub first_applying : {E : Type 0} → List (Bool × E) → Option E
first_applying [] = None
first_applying (row ∷ rows) = if row.0 then Some row.1 else first_applying rows
