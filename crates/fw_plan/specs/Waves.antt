-- Public vocabulary: the waves of a rollout, and which of its rows may be asked.
use Rattle.std.specs.Prelude.{◌≡◌, ℕ, ◌<◌, ◌≤◌, ◌*◌, ◌==◌, Bool, true, false, nat_lt, ◌&&◌, List, [], ◌∷◌, count_by, All, Contains, Option, Some, None, if◌then◌else◌}
use Rattle.std.specs.List.{flat_map}
use Rattle.std.specs.Option.{option_or}
use Rattle.fw_book.specs.declared.row.Row.{Row}
use Rattle.fw_book.specs.declared.row.RowState.{RowState}
use Rattle.fw_book.specs.declared.row.RowState.TheVariants.{Live, Done, Failed, Cancelled}
use Rattle.fw_book.specs.Contents.{Contents, Offered}
use Rattle.fw_book.specs.Rows.{is_live, is_live_in}
use Rattle.fw_plan.specs.declared.gate.Gate.{Gate}
use Rattle.fw_plan.specs.declared.gate.Gate.TheVariants as gate
use Rattle.fw_plan.specs.declared.gate.WaveRow.{WaveRow}
use Rattle.fw_plan.specs.declared.rows.WaveMeter.{WaveMeter}
use Rattle.fw_plan.specs.declared.threshold.MaxFailed.{MaxFailed}
use Rattle.fw_plan.specs.declared.threshold.MaxFailed.TheVariants as max

-- a row that failed; one that was cancelled didn't
abbrev pub has_failed : RowState → Bool
has_failed Live = false
has_failed Done = false
has_failed Failed = true
has_failed Cancelled = false

-- how many rows the waves before this one have
abbrev pub rows_before : ℕ → List WaveRow → ℕ
rows_before wave rows = count_by (λ (row : WaveRow). nat_lt row.wave wave) rows

-- how many of them failed
abbrev pub failed_before : ℕ → List WaveRow → ℕ
failed_before wave rows = count_by (λ (row : WaveRow). nat_lt row.wave wave && has_failed row.state) rows

-- the threshold lets so many fail of so many rows
abbrev pub IsWithin : MaxFailed → ℕ → ℕ → Type 0
IsWithin (max.Rows most) failed rows = failed ≤ most
IsWithin (max.Percent most) failed rows = 100 * failed ≤ most * rows

-- each row of the waves before this one has ended
abbrev pub AreOverBefore : ℕ → List WaveRow → Type 0
AreOverBefore wave rows = All (λ (row : WaveRow). row.wave < wave → is_live row.state ≡ false) rows

-- A row may be asked: it is live, each row of the waves before its own has ended, and not too many of those failed.
pub record MayAsk (max_failed : MaxFailed) (rows : List WaveRow) (row : WaveRow) : Type 0 where
  pub live : is_live row.state ≡ true
  pub over : AreOverBefore row.wave rows
  pub few : IsWithin max_failed (failed_before row.wave rows) (rows_before row.wave rows)

-- the first wave that has a live row
pub record IsNext (rows : List WaveRow) (wave : ℕ) : Type 0 where
  pub row : WaveRow
  pub there : Contains rows row
  pub live : is_live row.state ≡ true
  pub own : row.wave ≡ wave
  pub over : AreOverBefore wave rows

-- no row is live
abbrev pub AllOver : List WaveRow → Type 0
AllOver rows = All (λ (row : WaveRow). is_live row.state ≡ false) rows

-- that wave, if there is one
abbrev pub IsFirst : List WaveRow → Option ℕ → Type 0
IsFirst rows None = AllOver rows
IsFirst rows (Some wave) = IsNext rows wave

-- how far the waves are
abbrev pub IsGate : MaxFailed → List WaveRow → Gate → Type 0
IsGate max_failed rows (gate.Open wave) =
    IsNext rows wave × IsWithin max_failed (failed_before wave rows) (rows_before wave rows)
IsGate max_failed rows (gate.TooManyFailed stop) =
    IsNext rows stop.wave × (stop.failed ≡ failed_before stop.wave rows) × (stop.rows ≡ rows_before stop.wave rows)
    × ¬ IsWithin max_failed stop.failed stop.rows
IsGate max_failed rows gate.Over = AllOver rows

-- the gate lets this row be asked
abbrev pub Asks : Gate → WaveRow → Type 0
Asks (gate.Open wave) row = (row.wave ≡ wave) × (is_live row.state ≡ true)
Asks (gate.TooManyFailed stop) row = ⊥
Asks gate.Over row = ⊥

-- ---- the rows of a rollout

-- the rows of these campaigns, in the order of their opening
abbrev pub rows_of : List (ℕ × Offered) → List Row
rows_of campaigns = flat_map (λ (entry : ℕ × Offered). entry.1.rows) campaigns

-- the state of the last of these rows that is the meter's
abbrev pub last_state : List Row → ℕ → Option RowState
last_state [] meter = None
last_state (row ∷ rows) meter = option_or (last_state rows meter) (if row.meter == meter then Some row.state else None)

-- how far the meter's own row is, if it has one: it is live where one of them is, and else the last counts
abbrev pub own_state_in : List Row → ℕ → Option RowState
own_state_in rows meter = if is_live_in rows meter then Some Live else last_state rows meter

abbrev pub own_state : Contents → ℕ → Option RowState
own_state book meter = own_state_in (rows_of book.campaigns) meter

-- the row of a meter of this wave, if it has one
abbrev pub row_in_wave : ℕ → Option RowState → List WaveRow
row_in_wave wave None = []
row_in_wave wave (Some state) = record { wave = wave; state = state } ∷ []

-- those of these meters, in their order
abbrev pub wave_rows : Contents → List WaveMeter → List WaveRow
wave_rows book meters = flat_map (λ (of : WaveMeter). row_in_wave of.wave (own_state book of.meter)) meters
