-- The bytes of a book, version 2 (own): `FWB2` and the head end's number, and for each campaign in opening order its serial
-- number, its release, the size of its image, the image, the number of its meters, and for each meter in the order given its
-- number and its state. The number of meters has two bytes, a state one, and each other number four, high byte first. Version 1,
-- which is read too, begins with `FWB1` and has no releases.
use Rattle.std.specs.Prelude.{◌≡◌, ℕ, ◌⊎◌, List, [], ◌∷◌, ◌++◌, length}
use Rattle.std.specs.List.{flat_map, AllByRecursion}
use Rattle.std.specs.Int.{w16, w32, to_be_bytes}
use Rattle.fw_book.specs.declared.row.Row.{Row}
use Rattle.fw_book.specs.declared.row.RowState.{RowState}
use Rattle.fw_book.specs.declared.row.RowState.TheVariants.{Live, Done, Failed, Cancelled}
use Rattle.fw_book.specs.declared.version.Version.{Version}
use Rattle.fw_book.specs.declared.version.Version.TheVariants.{First, Second}
use Rattle.fw_book.specs.Contents.{Offered, Contents, IsBook}

-- the number of a state
abbrev pub state_number : RowState → ℕ
state_number Live = 0
state_number Done = 1
state_number Failed = 2
state_number Cancelled = 3

abbrev pub row_bytes : Row → List ℕ
row_bytes row = to_be_bytes w32 row.meter ++ state_number row.state ∷ []

abbrev pub rows_bytes : List Row → List ℕ
rows_bytes rows = flat_map (λ (row : Row). row_bytes row) rows

-- the rows after the number of them
abbrev pub counted_bytes : List Row → List ℕ
counted_bytes rows = to_be_bytes w16 (length rows) ++ rows_bytes rows

-- the image after its size
abbrev pub image_bytes : List ℕ → List ℕ
image_bytes image = to_be_bytes w32 (length image) ++ image

-- a campaign's serial number, and its release where the version has releases
abbrev pub numbers_bytes : Version → ℕ → ℕ → List ℕ
numbers_bytes First serial release = to_be_bytes w32 serial
numbers_bytes Second serial release = to_be_bytes w32 serial ++ to_be_bytes w32 release

abbrev pub entry_bytes : Version → ℕ × Offered → List ℕ
entry_bytes version entry = numbers_bytes version entry.0 entry.1.release ++ (image_bytes entry.1.image ++ counted_bytes entry.1.rows)

abbrev pub entries_bytes : Version → List (ℕ × Offered) → List ℕ
entries_bytes version entries = flat_map (λ (entry : ℕ × Offered). entry_bytes version entry) entries

-- the form, with which every book of a version begins
abbrev pub form_bytes : Version → List ℕ
form_bytes First = 0x46 ∷ 0x57 ∷ 0x42 ∷ 0x31 ∷ []
form_bytes Second = 0x46 ∷ 0x57 ∷ 0x42 ∷ 0x32 ∷ []

abbrev pub head_bytes : Version → ℕ → List ℕ
head_bytes version head = form_bytes version ++ to_be_bytes w32 head

-- a book in a version
abbrev pub book_bytes : Version → Contents → List ℕ
book_bytes version book = head_bytes version book.head ++ entries_bytes version book.campaigns

-- the bytes are the one spelling of this book
pub record SpellsBook (bytes : List ℕ) (book : Contents) : Type 0 where
  pub is_book : IsBook book
  pub spelled : bytes ≡ book_bytes Second book

-- the bytes are the old spelling of this book, which has no releases
pub record SpellsOldBook (bytes : List ℕ) (book : Contents) : Type 0 where
  pub is_book : IsBook book
  pub unreleased : AllByRecursion (λ (entry : ℕ × Offered). entry.1.release ≡ 0) book.campaigns
  pub spelled : bytes ≡ book_bytes First book

-- the bytes are read as this book
abbrev pub IsReadAs : List ℕ → Contents → Type 0
IsReadAs bytes book = SpellsBook bytes book ⊎ SpellsOldBook bytes book
