-- For private clauses alone: what the steps of loops make.
use Rattle.std.specs.Prelude.{◌≡◌, ℕ, ◌+◌, ◌-◌, Bool, true, false, ◌<◌, ◌≤◌, ◌^◌, nat_le, ◌==◌, List, [], ◌∷◌, ◌++◌, Option, Some, None, SomeIff, MatchOption, if◌then◌else◌}
use Rattle.std.specs.List.{list_any}
use Rattle.std.specs.Option.{option_map_or}
use Rattle.fw_book.specs.declared.row.Row.{Row}
use Rattle.fw_book.specs.declared.row.RowState.{RowState}
use Rattle.fw_book.specs.Contents.{Contents, has_serial}
use Rattle.fw_book.specs.Rows.{is_live}
use Rattle.fw_plan.specs.declared.gate.WaveRow.{WaveRow}
use Rattle.fw_plan.specs.Openings.{IsNextFree, NoneFree}

-- the wave of a row, if it is live
abbrev pub wave_of : WaveRow → Option ℕ → Option ℕ
wave_of row next = if is_live row.state then Some row.wave else next

-- the first wave of some rows that has a live row, with one row more
abbrev pub next_after : Option ℕ → WaveRow → Option ℕ
next_after None row = wave_of row None
next_after (Some wave) row = if nat_le wave row.wave then Some wave else wave_of row (Some wave)

-- whether this is a number of which the book has a campaign
abbrev pub is_used : Contents → Option ℕ → Bool
is_used book None = false
is_used book (Some serial) = has_serial book serial

-- the number after one, if both have 32 bits
abbrev pub IsAfter : Option ℕ → Option ℕ → Type 0
IsAfter None next = next ≡ None
IsAfter (Some serial) next = SomeIff next (serial + 1 < 2 ^ 32) (serial + 1)

-- all numbers from one on are used up to this one, or up to the last
pub record AreUsedTo (book : Contents) (serial free : ℕ) : Type 0 where
  pub begins : serial ≤ free
  pub fits : free < 2 ^ 32
  pub used : (other : ℕ) → serial ≤ other → other < free → has_serial book other ≡ true

abbrev pub IsReached : Contents → ℕ → Option ℕ → Type 0
IsReached book serial None = NoneFree book serial
IsReached book serial (Some free) = AreUsedTo book serial free

-- how many numbers are left from this one on
abbrev pub left_from : Option ℕ → ℕ
left_from None = 0
left_from (Some serial) = 2 ^ 32 - serial

-- the first free number from one on, if that one is there
abbrev pub IsNextFrom : Contents → Option ℕ → Option ℕ → Type 0
IsNextFrom book None free = free ≡ None
IsNextFrom book (Some serial) free = MatchOption free (NoneFree book serial) (λ n. IsNextFree book serial n)

-- the next number to look at is the one behind the last, if it has 32 bits
abbrev pub IsBehind : Option ℕ → ℕ → Type 0
IsBehind None last = last ≡ 2 ^ 32
IsBehind (Some next) last = (next ≡ last) × (next < 2 ^ 32) × (1 ≤ next)

-- numbers with one more, unless it is there
abbrev pub with_new : List ℕ → ℕ → List ℕ
with_new numbers number = if list_any (λ other. other == number) numbers then numbers else numbers ++ number ∷ []

-- whether this is the state of a live row
abbrev pub is_live_state : Option RowState → Bool
is_live_state found = option_map_or is_live found false

-- how far a meter's own row is with one row more behind those before: a live one stays
abbrev pub after_row : Option RowState → Row → ℕ → Option RowState
after_row state row meter = if row.meter == meter then (if is_live_state state then state else Some row.state) else state

-- and with these
abbrev pub after_rows : Option RowState → List Row → ℕ → Option RowState
after_rows state [] meter = state
after_rows state (row ∷ rows) meter = after_rows (after_row state row meter) rows meter
