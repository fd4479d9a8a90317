-- For private clauses alone: when a book takes one campaign more, and what the parts of the reader give.
use Rattle.std.specs.Prelude.{◌≡◌, ℕ, Bool, false, nat_eq, ◌==◌, ◌&&◌, nat_lt, List, [], ◌∷◌, length, Option, zero, suc, ◌*◌, ◌<◌, ◌≤◌, ◌^◌, ◌++◌, Some, None}
use Rattle.std.specs.HashSet.{contains}
use Rattle.std.specs.List.{list_any, AllByRecursion}
use Rattle.fw_blocks.specs.Cuts.{max_image}
use Rattle.fw_book.specs.declared.error.BookError.{BookError}
use Rattle.fw_book.specs.declared.error.BookError.TheVariants.{NoMeters, TooManyMeters, MeterTwice, MeterBusy}
use Rattle.fw_book.specs.declared.live.LiveMeters.{LiveMeters}
use Rattle.fw_book.specs.declared.row.Row.{Row}
use Rattle.fw_book.specs.Rows.{is_live, repeats, meters_of}
use Rattle.fw_book.specs.Contents.{Offered, Contents, max_meters, has_serial, is_busy, IsEntry, IsBook}
use Rattle.fw_wrapper.specs.Refusals.{first_applying}
use Rattle.std.specs.Int.{w16, w32, to_be_bytes, from_be_bytes}
use Rattle.fw_book.specs.declared.row.RowState.{RowState}
use Rattle.fw_book.specs.declared.row.RowState.TheVariants.{Live, Done, Failed, Cancelled}
use Rattle.fw_book.specs.declared.version.Version.{Version}
use Rattle.fw_book.specs.declared.version.Version.TheVariants.{First, Second}
use Rattle.fw_book.specs.Format.{image_bytes, rows_bytes, counted_bytes, numbers_bytes, entry_bytes, entries_bytes, IsReadAs}

-- whether a live row's meter is live in a campaign
abbrev pub clashes : List (ℕ × Offered) → List Row → Bool
clashes campaigns rows = list_any (λ (row : Row). is_live row.state && is_busy campaigns row.meter) rows

-- the campaign is one that a book can have, its serial number is new, and no meter that is live in it is live in another
pub record Admits (book : Contents) (serial : ℕ) (offer : Offered) : Type 0 where
  pub is_entry : IsEntry (serial, offer)
  pub serial_new : has_serial book serial ≡ false
  pub meters_free : clashes book.campaigns offer.rows ≡ false

-- the refusals of an opening for its meters, in the order in which they count
abbrev pub meters_refusal : Contents → List ℕ → Option BookError
meters_refusal book meters = first_applying (
    (length meters == 0, NoMeters)
    ∷ (nat_lt max_meters (length meters), TooManyMeters)
    ∷ (repeats meters, MeterTwice)
    ∷ (list_any (λ meter. is_busy book.campaigns meter) meters, MeterBusy)
    ∷ [])

-- whether a meter is one of the live meters that a book keeps
abbrev pub has_live_meter : LiveMeters → ℕ → Bool
has_live_meter live meter = contains nat_eq live.numbers meter

-- what a book keeps beside its campaigns: the meters that are live in one of them
pub record IsKept (book : Contents) (live : LiveMeters) : Type 0 where
  pub is_book : IsBook book
  pub are_live : (meter : ℕ) → has_live_meter live meter ≡ is_busy book.campaigns meter

-- ---- reading

-- a release that a version can spell: version 1 has none
abbrev pub Tells : Version → ℕ → Type 0
Tells First release = release ≡ 0
Tells Second release = Unit {0}

-- the serial number and the release of a campaign have four bytes each, and the version can spell the release
pub record AreNumbers (version : Version) (serial release : ℕ) : Type 0 where
  pub serial_fits : serial < 2 ^ 32
  pub release_fits : release < 2 ^ 32
  pub tells : Tells version release

-- no campaign's numbers stand there
abbrev pub NoNumbers : Version → List ℕ → Type 0
NoNumbers version bytes = (serial release : ℕ) (rest : List ℕ) → ¬ (bytes ≡ numbers_bytes version serial release ++ rest)

-- a campaign that a book of a version can have
pub record IsEntryIn (version : Version) (entry : ℕ × Offered) : Type 0 where
  pub is_entry : IsEntry entry
  pub tells : Tells version entry.1.release

-- a version can spell the releases of these campaigns
abbrev pub TellsAll : Version → List (ℕ × Offered) → Type 0
TellsAll version entries = AllByRecursion (λ (entry : ℕ × Offered). Tells version entry.1.release) entries

-- 1 to 16,777,216 bytes
pub record IsImage (image : List ℕ) : Type 0 where
  pub begins : 1 ≤ length image
  pub ends : length image ≤ max_image

-- the numbers of the meters have four bytes
abbrev pub MetersFit : List Row → Type 0
MetersFit rows = AllByRecursion (λ meter. meter < 2 ^ 32) (meters_of rows)

-- 1 to 256 rows, of which no two are of one meter
pub record IsRows (rows : List Row) : Type 0 where
  pub begins : 1 ≤ length rows
  pub ends : length rows ≤ max_meters
  pub fit : MetersFit rows
  pub once : repeats (meters_of rows) ≡ false

-- the bytes don't begin with `count` rows
abbrev pub NoRows : ℕ → List ℕ → Type 0
NoRows count bytes = (rows : List Row) (rest : List ℕ) → length rows ≡ count → MetersFit rows → ¬ (bytes ≡ rows_bytes rows ++ rest)

-- the bytes don't begin with the number of some rows and these rows
abbrev pub NoCounted : List ℕ → Type 0
NoCounted bytes = (rows : List Row) (rest : List ℕ) → IsRows rows → ¬ (bytes ≡ counted_bytes rows ++ rest)

-- no campaign stands there
abbrev pub NoEntry : Version → List ℕ → Type 0
NoEntry version bytes = (entry : ℕ × Offered) (rest : List ℕ) → IsEntryIn version entry → ¬ (bytes ≡ entry_bytes version entry ++ rest)

-- the state that a number stands for, if it stands for one
abbrev pub state_of_number : ℕ → Option RowState
state_of_number zero = Some Live
state_of_number (suc zero) = Some Done
state_of_number (suc (suc zero)) = Some Failed
state_of_number (suc (suc (suc zero))) = Some Cancelled
state_of_number (suc (suc (suc (suc n)))) = None

-- a row before the others, if it has a state
abbrev pub row_before : ℕ → Option RowState → List Row → List Row
row_before meter (Some state) rows = record { meter = meter; state = state } ∷ rows
row_before meter None rows = []

-- the rows that stand there one after the other
abbrev pub rows_in : List ℕ → List Row
rows_in (a ∷ b ∷ c ∷ d ∷ state ∷ rest) = row_before (from_be_bytes w32 (a ∷ b ∷ c ∷ d ∷ [])) (state_of_number state) (rows_in rest)
rows_in _ = []

-- a campaign whose image and rows stand in these bytes
abbrev pub entry_in : ℕ → ℕ → List ℕ → List ℕ → ℕ × Offered
entry_in serial release image rows = (serial, record { release = release; image = image; rows = rows_in rows })

-- rows after the number of them; none of these rows was looked at
pub record SkimsRows (bytes rows rest : List ℕ) : Type 0 where
  pub count : ℕ
  pub fits : count < 2 ^ 16
  pub size : length rows ≡ 5 * count
  pub spelled : bytes ≡ to_be_bytes w16 count ++ (rows ++ rest)

-- a campaign of whose rows none was looked at
pub record Skims (version : Version) (bytes : List ℕ) (serial release : ℕ) (image rows rest : List ℕ) : Type 0 where
  pub are_numbers : AreNumbers version serial release
  pub is_image : IsImage image
  pub behind : List ℕ
  pub of_rows : SkimsRows behind rows rest
  pub spelled : bytes ≡ numbers_bytes version serial release ++ (image_bytes image ++ behind)

-- the bytes are those of these campaigns
pub record AreEntries (version : Version) (bytes : List ℕ) (entries : List (ℕ × Offered)) : Type 0 where
  pub spelled : bytes ≡ entries_bytes version entries
  pub fit : AllByRecursion (λ (entry : ℕ × Offered). IsEntryIn version entry) entries

-- the bytes are those of the campaigns of a book of this head end
pub record Campaigns (version : Version) (head : ℕ) (bytes : List ℕ) : Type 0 where
  pub campaigns : List (ℕ × Offered)
  pub is_book : IsBook (record { head = head; campaigns = campaigns })
  pub tells : TellsAll version campaigns
  pub spelled : bytes ≡ entries_bytes version campaigns

-- no book of this head end has campaigns with these bytes
abbrev pub NoCampaigns : Version → ℕ → List ℕ → Type 0
NoCampaigns version head bytes =
    (campaigns : List (ℕ × Offered)) → IsBook (record { head = head; campaigns = campaigns }) → TellsAll version campaigns
    → ¬ (bytes ≡ entries_bytes version campaigns)

-- the bytes are a book's in this version, of this head end and with these bytes of its campaigns
pub record Parts (version : Version) (bytes : List ℕ) (head : ℕ) (entries : List ℕ) : Type 0 where
  pub book : Contents
  pub is_book : IsBook book
  pub is_read : IsReadAs bytes book
  pub of_head : book.head ≡ head
  pub of_entries : AreEntries version entries book.campaigns
