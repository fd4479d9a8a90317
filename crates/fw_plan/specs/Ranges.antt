-- Public vocabulary: which campaigns serial numbers and ranges of them name.
use Rattle.std.specs.Prelude.{ℕ, Bool, ◌&&◌, ◌==◌, nat_le, not, List, [], ◌∷◌, map, filter}
use Rattle.std.specs.List.{flat_map}
use Rattle.fw_book.specs.Contents.{Contents, Offered}
use Rattle.fw_book.specs.Rows.{has_live}
use Rattle.fw_plan.specs.declared.ranges.SerialRange.{SerialRange}
use Rattle.fw_plan.specs.declared.ranges.SerialRange.TheVariants.{One, Span}

-- whether a campaign is one from the first number to the last that has a live row
abbrev pub is_within : ℕ → ℕ → ℕ → Offered → Bool
is_within first last serial offer = nat_le first serial && (nat_le serial last && has_live offer.rows)

-- the numbers of those of these campaigns
abbrev pub range_in : ℕ → ℕ → List (ℕ × Offered) → List ℕ
range_in first last campaigns =
    map (λ (entry : ℕ × Offered). entry.0) (filter (λ (entry : ℕ × Offered). is_within first last entry.0 entry.1) campaigns)

-- the numbers that this names: one names itself, a range the campaigns in it that have a live row
abbrev pub serials_named : Contents → SerialRange → List ℕ
serials_named book (One serial) = serial ∷ []
serials_named book (Span first last) = range_in first last book.campaigns

-- those that these name
abbrev pub all_named : Contents → List SerialRange → List ℕ
all_named book named = flat_map (λ (one : SerialRange). serials_named book one) named

-- these numbers, each where it stands first
abbrev pub each_once : List ℕ → List ℕ
each_once [] = []
each_once (number ∷ others) = number ∷ filter (λ other. not (other == number)) (each_once others)

abbrev pub serials_of : Contents → List SerialRange → List ℕ
serials_of book named = each_once (all_named book named)
