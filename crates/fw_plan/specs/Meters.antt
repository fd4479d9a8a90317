-- Public vocabulary: which meters of a book numbers and ranges of them name.
use Rattle.std.specs.Prelude.{ℕ, Bool, ◌&&◌, nat_le, List, [], ◌∷◌, map, filter}
use Rattle.std.specs.List.{flat_map}
use Rattle.fw_book.specs.Contents.{Contents, Offered}
use Rattle.fw_book.specs.Rows.{is_live}
use Rattle.fw_book.specs.declared.row.Row.{Row}
use Rattle.fw_plan.specs.declared.meters.MeterRange.{MeterRange}
use Rattle.fw_plan.specs.declared.meters.MeterRange.TheVariants.{One, Span}

-- whether a row is live, and that of a meter from the first number to the last
abbrev pub is_live_within : ℕ → ℕ → Row → Bool
is_live_within first last row = is_live row.state && (nat_le first row.meter && nat_le row.meter last)

-- the meters of those of these rows
abbrev pub live_within : ℕ → ℕ → List Row → List ℕ
live_within first last rows = map (λ (row : Row). row.meter) (filter (λ (row : Row). is_live_within first last row) rows)

-- the meters of those of the rows of these campaigns
abbrev pub live_in : ℕ → ℕ → List (ℕ × Offered) → List ℕ
live_in first last campaigns = flat_map (λ (entry : ℕ × Offered). live_within first last entry.1.rows) campaigns

-- the meters that this names: one names itself, a range those in it that have a live row
abbrev pub meters_named : Contents → MeterRange → List ℕ
meters_named book (One meter) = meter ∷ []
meters_named book (Span first last) = live_in first last book.campaigns

abbrev pub meters_of : Contents → List MeterRange → List ℕ
meters_of book named = flat_map (λ (one : MeterRange). meters_named book one) named
