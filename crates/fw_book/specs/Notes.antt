-- Public vocabulary: what is known of a book beside its states, which is when campaigns were opened, when rows ended, and why they failed.
use Rattle.std.specs.Prelude.{◌≡◌, ℕ, ◌+◌, ◌*◌, ◌<◌, ◌^◌, Bool, ◌==◌, ◌&&◌, nat_eq, List, [], Option, Some, if◌then◌else◌}
use Rattle.std.specs.Map.{lookup}
use Rattle.indexmap.specs.IndexMap.{insert_entry}
use Rattle.fw_book.specs.declared.notes.End.{End}

pub record Known : Type 0 where
  -- when a campaign was opened, under its serial number
  pub openings : List (ℕ × ℕ)
  -- how a row ended, under its place
  pub ends : List (ℕ × End)

-- the place of a meter's row in the campaign of this serial number
abbrev pub place : ℕ → ℕ → ℕ
place serial meter = serial * 2 ^ 32 + meter

abbrev pub nothing_known : Known
nothing_known = record { openings = []; ends = [] }

-- when a campaign was opened, if that is known
abbrev pub opened_at : Known → ℕ → Option ℕ
opened_at known serial = lookup (nat_eq serial) known.openings

-- how a meter's row in a campaign ended, if that is known
abbrev pub end_of : Known → ℕ → ℕ → Option End
end_of known serial meter = lookup (nat_eq (place serial meter)) known.ends

abbrev pub with_opening : Known → ℕ → ℕ → Known
with_opening known serial at = record known { openings = insert_entry nat_eq known.openings serial at }

abbrev pub with_ending : Known → ℕ → ℕ → End → Known
with_ending known serial meter end = record known { ends = insert_entry nat_eq known.ends (place serial meter) end }

-- ---- what is known then

-- a note of an opening or of an end is known from then on, and all else that was known
pub record NotesSay : Type 0 where
  pub opened : (known : Known) (serial at other : ℕ)
      → opened_at (with_opening known serial at) other ≡ (if other == serial then Some at else opened_at known other)
  pub ended : (known : Known) (serial meter : ℕ) (end : End) (other whose : ℕ) → meter < 2 ^ 32 → whose < 2 ^ 32
      → end_of (with_ending known serial meter end) other whose ≡ (if (other == serial) && (whose == meter) then Some end else end_of known other whose)
