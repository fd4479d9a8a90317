-- Public vocabulary: what is known from the notes among a list of records, one after the other, beside the book that the records have.
use Rattle.std.specs.Prelude.{◌≡◌, ℕ, ◌<◌, ◌^◌, List, [], ◌∷◌, Some}
use Rattle.fw_names.specs.Name.{Campaign}
use Rattle.fw_book.specs.Contents.{Contents}
use Rattle.fw_book.specs.Notes.{Known, nothing_known, opened_at, end_of, with_opening, with_ending}
use Rattle.fw_book.specs.declared.notes.End.{End}
use Rattle.fw_ledger.specs.declared.record.Note.TheVariants.{Opened, Ended}
use Rattle.fw_ledger.specs.Entry.{Entry, opening, mark, cancelling, endings, note, SpellAll}
use Rattle.fw_ledger.specs.Replay.{IsNoteOf}

-- what is known after a record: a note is known then, and no other record tells anything
abbrev pub known_with : Known → Entry → Known
known_with known (opening campaign release image meters) = known
known_with known (mark campaign meter ending) = known
known_with known (cancelling campaign) = known
known_with known (endings campaign numbers) = known
known_with known (note campaign (Opened at)) = with_opening known campaign.serial at
known_with known (note campaign (Ended meter told)) = with_ending known campaign.serial meter told

-- what is known after these records
abbrev pub known_after : Known → List Entry → Known
known_after known [] = known
known_after known (entry ∷ entries) = known_after (known_with known entry) entries

-- the same is known of each campaign, and of each row
pub record KnowSame (a b : Known) : Type 0 where
  pub openings : (serial : ℕ) → opened_at a serial ≡ opened_at b serial
  pub ends : (serial meter : ℕ) → meter < 2 ^ 32 → end_of a serial meter ≡ end_of b serial meter

-- this is what is known from the notes of these records
pub record AreNotesOf (records : List (List ℕ)) (known : Known) : Type 0 where
  pub entries : List Entry
  pub spelled : SpellAll records entries
  pub same : KnowSame (known_after nothing_known entries) known

-- all that is known is of campaigns that the book has, and of rows of them that ended so
pub record IsKnownOf (book : Contents) (known : Known) : Type 0 where
  pub openings : (serial at : ℕ) → opened_at known serial ≡ Some at → IsNoteOf book (record { head = book.head; serial = serial }) (Opened at)
  pub ends : (serial meter : ℕ) (told : End) → meter < 2 ^ 32 → end_of known serial meter ≡ Some told
      → IsNoteOf book (record { head = book.head; serial = serial }) (Ended meter told)
