-- Lists of rows.
use Rattle.std.proofs.Common.{◌≡◌, ℕ, Bool, ◌||◌, List, [], ◌∷◌, refl, ap}
use Rattle.std.specs.List.{list_any}
use Rattle.fw_book.specs.declared.row.Row.{Row}
use Rattle.fw_book.specs.Rows.{meters_of}

-- a test of each number, over the rows that have them
pub meters_any : (test : ℕ → Bool) (rows : List Row) → list_any test (meters_of rows) ≡ list_any (λ (row : Row). test row.meter) rows
meters_any test [] = refl
meters_any test (row ∷ rows) = ap (λ b. test row.meter || b) (meters_any test rows)
