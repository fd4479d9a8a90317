-- The records of a kept book, version 1 (own). An opening has 01, its campaign, its release, its image, and the numbers of its meters in
-- the order given up to its end; a mark 02, its campaign, the number of the meter, and how the row ended; a cancelling 03, and its campaign;
-- endings 04, their campaign, and a byte for each of its rows; a note 05, its campaign, and what is noted. A number has four bytes, high
-- byte first.
use Rattle.std.specs.Prelude.{◌≡◌, ◌≢◌, ℕ, ◌<◌, ◌%◌, ◌^◌, true, nat_lt, List, [], ◌∷◌, ◌++◌, length}
use Rattle.std.specs.List.{flat_map, list_all, list_any, AllByRecursion}
use Rattle.std.specs.Int.{w32, to_be_bytes}
use Rattle.fw_names.specs.Name.{Campaign, IsOpened, campaign_bytes}
use Rattle.fw_ledger.specs.declared.record.Ending.{Ending}
use Rattle.fw_ledger.specs.declared.record.Ending.TheVariants.{Done, Failed}
use Rattle.fw_ledger.specs.declared.record.Note.{Note}
use Rattle.fw_ledger.specs.Note.{note_bytes, NoteFits}

-- where an opening has its image from: the record has it whole, or the campaign with this serial number offers it
pub data Source : Type 0 where
  whole : List ℕ → Source
  earlier : ℕ → Source

-- what a record says: a campaign was opened, with a release and an image, for these meters; or a meter's row in it ended; or it was
-- cancelled; or of each of its rows, in their order, by a number, whether it ended and how; or when it was opened, or how a row of it ended
pub data Entry : Type 0 where
  opening : Campaign → ℕ → Source → List ℕ → Entry
  mark : Campaign → ℕ → Ending → Entry
  cancelling : Campaign → Entry
  endings : Campaign → List ℕ → Entry
  note : Campaign → Note → Entry

-- 01, the size of the image, and the image; or 02, and the serial number
abbrev pub source_bytes : Source → List ℕ
source_bytes (whole image) = 1 ∷ (to_be_bytes w32 (length image) ++ image)
source_bytes (earlier serial) = 2 ∷ to_be_bytes w32 serial

abbrev pub meters_bytes : List ℕ → List ℕ
meters_bytes meters = flat_map (λ meter. to_be_bytes w32 meter) meters

abbrev pub ending_number : Ending → ℕ
ending_number Done = 1
ending_number Failed = 2

-- each number is that of an ending, or 0, for a row that didn't end; and some row did
abbrev pub AreEndings : List ℕ → Type 0
AreEndings numbers = (list_all (λ number. nat_lt number 3) numbers ≡ true) × (list_any (λ number. nat_lt 0 number) numbers ≡ true)

-- an opening up to its meters, without its first byte
abbrev pub opening_front : Campaign → ℕ → Source → List ℕ
opening_front campaign release image = campaign_bytes campaign ++ (to_be_bytes w32 release ++ source_bytes image)

abbrev pub mark_bytes : Campaign → ℕ → Ending → List ℕ
mark_bytes campaign meter ending = campaign_bytes campaign ++ (to_be_bytes w32 meter ++ ending_number ending ∷ [])

abbrev pub entry_bytes : Entry → List ℕ
entry_bytes (opening campaign release image meters) = 1 ∷ (opening_front campaign release image ++ meters_bytes meters)
entry_bytes (mark campaign meter ending) = 2 ∷ mark_bytes campaign meter ending
entry_bytes (cancelling campaign) = 3 ∷ campaign_bytes campaign
entry_bytes (endings campaign numbers) = 4 ∷ (campaign_bytes campaign ++ numbers)
entry_bytes (note campaign told) = 5 ∷ (campaign_bytes campaign ++ note_bytes told)

-- an image of which the size has four bytes, or a serial number that has
abbrev pub IsSource : Source → Type 0
IsSource (whole image) = length image < 2 ^ 32
IsSource (earlier serial) = serial < 2 ^ 32

abbrev pub MetersFit : List ℕ → Type 0
MetersFit meters = AllByRecursion (λ meter. meter < 2 ^ 32) meters

-- the campaign is one that a head end opens, the size of the image has four bytes, and numbers are those of endings
abbrev pub HasSpelling : Entry → Type 0
HasSpelling (opening campaign release image meters) = IsOpened campaign × IsSource image
HasSpelling (mark campaign meter ending) = IsOpened campaign
HasSpelling (cancelling campaign) = IsOpened campaign
HasSpelling (endings campaign numbers) = IsOpened campaign × AreEndings numbers
HasSpelling (note campaign told) = IsOpened campaign

-- the numbers have the bytes in which they are spelled
abbrev pub NumbersFit : Entry → Type 0
NumbersFit (opening campaign release image meters) = (release < 2 ^ 32) × MetersFit meters
NumbersFit (mark campaign meter ending) = meter < 2 ^ 32
NumbersFit (cancelling campaign) = Unit {0}
NumbersFit (endings campaign numbers) = Unit {0}
NumbersFit (note campaign told) = NoteFits told

-- the bytes are the one spelling of this record
pub record Spells (bytes : List ℕ) (entry : Entry) : Type 0 where
  pub can : HasSpelling entry
  pub fit : NumbersFit entry
  pub spelled : bytes ≡ entry_bytes entry

-- the bytes spell no record
abbrev pub NoRecord : List ℕ → Type 0
NoRecord bytes = (entry : Entry) → ¬ Spells bytes entry

-- an opening's bytes without the first one are none of these
abbrev pub NoOpening : List ℕ → Type 0
NoOpening bytes =
    (campaign : Campaign) (release : ℕ) (source : Source) (meters : List ℕ) → IsOpened campaign → release < 2 ^ 32 → IsSource source
    → ¬ (bytes ≡ opening_front campaign release source ++ meters_bytes meters)

-- it is an opening
abbrev pub IsOpening : Entry → Type 0
IsOpening (opening campaign release image meters) = Unit {0}
IsOpening (mark campaign meter ending) = ⊥
IsOpening (cancelling campaign) = ⊥
IsOpening (endings campaign numbers) = ⊥
IsOpening (note campaign told) = ⊥

-- it is a note
abbrev pub IsNote : Entry → Type 0
IsNote (opening campaign release image meters) = ⊥
IsNote (mark campaign meter ending) = ⊥
IsNote (cancelling campaign) = ⊥
IsNote (endings campaign numbers) = ⊥
IsNote (note campaign told) = Unit {0}

-- the bytes spell a note
abbrev pub SpellsNote : List ℕ → Type 0
SpellsNote bytes = (entry : Entry) × Spells bytes entry × IsNote entry

-- the byte strings spell these records
abbrev pub SpellAll : List (List ℕ) → List Entry → Type 0
SpellAll [] [] = Unit {0}
SpellAll (bytes ∷ records) (entry ∷ entries) = Spells bytes entry × SpellAll records entries
SpellAll _ _ = ⊥

-- the bytes begin with an opening's fields, up to its meters
pub record BeginsOpening (bytes : List ℕ) : Type 0 where
  pub campaign : Campaign
  pub release : ℕ
  pub image : Source
  pub meters : List ℕ
  pub opened : IsOpened campaign
  pub is_source : IsSource image
  pub spelled : bytes ≡ 1 ∷ (opening_front campaign release image ++ meters)

-- Reading these bytes may take memory: they begin with an opening's fields, and then come four bytes for each of its meters, of which there are some.
pub record MayTakeMemory (bytes : List ℕ) : Type 0 where
  pub campaign : Campaign
  pub release : ℕ
  pub image : Source
  pub meters : List ℕ
  pub opened : IsOpened campaign
  pub is_source : IsSource image
  pub some : meters ≢ []
  pub fours : length meters % 4 ≡ 0
  pub spelled : bytes ≡ 1 ∷ (opening_front campaign release image ++ meters)
