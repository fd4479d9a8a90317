-- For private clauses alone: the records of which a book is made again. For each of its campaigns, in their order, there is its opening,
-- the endings of its rows, where one is done or failed, and its cancelling, where one is cancelled; and then what is known of it.
use Rattle.std.specs.Prelude.{ℕ, Option, Some, None, Bool, true, false, nat_eq, nat_lt, map, is_some, ◌≡◌, List, [], ◌∷◌, ◌++◌, Vec, if◌then◌else◌}
use Rattle.std.specs.List.{flat_map, list_any, AllByRecursion}
use Rattle.std.specs.Map.{lookup}
use Rattle.std.specs.declared.alloc.Global.{Global}
use Rattle.fw_names.specs.Name.{Campaign}
use Rattle.fw_book.specs.declared.row.Row.{Row}
use Rattle.fw_book.specs.declared.row.RowState.{RowState}
use Rattle.fw_book.specs.declared.row.RowState.TheVariants.{Live, Done, Failed, Cancelled}
use Rattle.fw_book.specs.Rows.{meters_of}
use Rattle.fw_book.specs.Contents.{Offered}
use Rattle.fw_book.specs.Notes.{Known, opened_at, end_of}
use Rattle.fw_book.specs.declared.notes.End.{End}
use Rattle.fw_ledger.specs.declared.record.Note.TheVariants.{Opened, Ended}
use Rattle.fw_ledger.specs.Entry.{Source, Entry, opening, cancelling, endings, note, SpellAll}
use Rattle.fw_ledger.specs.Replay.{ends_so, records_of}

abbrev pub is_cancelled : RowState → Bool
is_cancelled Live = false
is_cancelled Done = false
is_cancelled Failed = false
is_cancelled Cancelled = true

-- the number of a row's ending, and 0 for one that is neither done nor failed
abbrev pub state_number : RowState → ℕ
state_number Live = 0
state_number Done = 1
state_number Failed = 2
state_number Cancelled = 0

-- the numbers of rows
abbrev pub numbers_of : List Row → List ℕ
numbers_of rows = map (λ (row : Row). state_number row.state) rows

-- the endings of a campaign with these rows
abbrev pub rows_entries : Campaign → List Row → List Entry
rows_entries campaign rows = if list_any (λ number. nat_lt 0 number) (numbers_of rows) then endings campaign (numbers_of rows) ∷ [] else []

abbrev pub has_cancelled : List Row → Bool
has_cancelled rows = list_any (λ (row : Row). is_cancelled row.state) rows

-- the cancelling of a campaign with these rows
abbrev pub ending_entries : Campaign → List Row → List Entry
ending_entries campaign rows = if has_cancelled rows then cancelling campaign ∷ [] else []

-- the records of a campaign, which has its image from there
abbrev pub campaign_entries : Campaign → Offered → Source → List Entry
campaign_entries campaign offer source =
    opening campaign offer.release source (meters_of offer.rows) ∷ (rows_entries campaign offer.rows ++ ending_entries campaign offer.rows)

-- the note of a campaign's opening, if its time is known
abbrev pub opening_notes : Campaign → Option ℕ → List Entry
opening_notes campaign None = []
opening_notes campaign (Some at) = note campaign (Opened at) ∷ []

-- the note of a row's end, if one is known and the row ended so
abbrev pub row_notes : Campaign → Row → Option End → List Entry
row_notes campaign row None = []
row_notes campaign row (Some told) = if ends_so row.state told then note campaign (Ended row.meter told) ∷ [] else []

abbrev pub rows_notes : Known → Campaign → List Row → List Entry
rows_notes known campaign rows = flat_map (λ (row : Row). row_notes campaign row (end_of known campaign.serial row.meter)) rows

-- what is known of a campaign with these rows
abbrev pub campaign_notes : Known → Campaign → List Row → List Entry
campaign_notes known campaign rows = opening_notes campaign (opened_at known campaign.serial) ++ rows_notes known campaign rows

-- what records are put after those that are there
pub record Puts (old new : List (Vec ℕ Global)) (entries : List Entry) : Type 0 where
  pub more : List (Vec ℕ Global)
  pub put : new ≡ old ++ more
  pub spelled : SpellAll (records_of more) entries

-- the campaigns have these serial numbers
abbrev pub HaveSerials : List (ℕ × Offered) → List ℕ → Type 0
HaveSerials campaigns serials = AllByRecursion (λ serial. is_some (lookup (nat_eq serial) campaigns) ≡ true) serials
