-- Public vocabulary: the laws of a book in bytes. They speak of definitions alone.
use Rattle.std.specs.Prelude.{◌≡◌, ℕ, List}
use Rattle.fw_book.specs.Contents.{Contents}
use Rattle.fw_journal.specs.Book.{IsBadBook}
use Rattle.fw_kept.specs.Kept.{HasBook, HasForeign, HasBadRecord, HasNoBook}

-- bytes have one book of a head end at most
abbrev pub OneBook : Type 0
OneBook = (head : ℕ) (bytes : List ℕ) (a b : Contents) → HasBook head bytes a → HasBook head bytes b → a ≡ b

-- bytes that are refused as bad have none
pub record RefusedHaveNone : Type 0 where
  pub bad : (head : ℕ) (bytes : List ℕ) (offset : ℕ) (book : Contents) → IsBadBook bytes offset → ¬ HasBook head bytes book
  pub bad_record : (head : ℕ) (bytes : List ℕ) (index : ℕ) (book : Contents) → HasBadRecord head bytes index → ¬ HasBook head bytes book

-- bytes of which the first record is of another head end have none of this one
abbrev pub ForeignHaveNone : Type 0
ForeignHaveNone = (head : ℕ) (bytes : List ℕ) (book : Contents) → HasForeign head bytes → ¬ HasBook head bytes book

-- and bytes with a record that has no place in the book of those before it have none of any head end
abbrev pub BadRecordsHaveNone : Type 0
BadRecordsHaveNone = (head : ℕ) (bytes : List ℕ) (index : ℕ) → HasBadRecord head bytes index → HasNoBook bytes
