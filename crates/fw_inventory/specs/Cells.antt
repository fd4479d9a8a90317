-- Public vocabulary: the cells of a report, one a column, and a report as a table and as comma-separated values (RFC 4180). No cell has a comma,
-- a quote or a line feed.
use Rattle.std.specs.Prelude.{ℕ, ◌-◌, Bool, true, false, List, [], ◌∷◌, ◌++◌, flat_map, length, nat_eq, replicate, take, Option, Some, None, is_some, codes, decimal, if◌then◌else◌}
use Rattle.hex.specs.Hex.{encode_lower}
use Rattle.fw_names.specs.Name.{Name}
use Rattle.fw_survey.specs.declared.answer.Answer.{Answer}
use Rattle.fw_survey.specs.declared.answer.Answer.TheVariants as answer
use Rattle.fw_survey.specs.Rows.{Row}
use Rattle.fw_inventory.specs.Verdicts.{name_in, verdict_of}
use Rattle.fw_inventory.specs.declared.cell.Column.{Column}
use Rattle.fw_inventory.specs.declared.cell.Column.TheVariants as column
use Rattle.fw_inventory.specs.declared.verdict.Offer.{Offer}
use Rattle.fw_inventory.specs.declared.verdict.Verdict.{Verdict}
use Rattle.fw_inventory.specs.declared.verdict.Verdict.TheVariants as verdict

-- a meter that answered nothing is silent
abbrev pub state_word : Row → List ℕ
state_word row =
    if is_some row.active.answer then (if is_some row.status.answer then codes "heard" else codes "partly") else codes "silent"

abbrev pub yes_or_no : Bool → List ℕ
yes_or_no true = codes "yes"
yes_or_no false = codes "no"

-- what a meter answered, but for a name: the code that refuses it, or that it is something else, too
abbrev pub answered_cell : Answer → List ℕ
answered_cell (answer.Active name) = []
answered_cell (answer.BlockSize size) = decimal size
answered_cell (answer.Enabled enabled) = yes_or_no enabled
answered_cell (answer.Status status) = decimal status
answered_cell (answer.Refused code) = codes "code " ++ decimal code
answered_cell answer.Other = codes "other"

abbrev pub answer_cell : Option Answer → List ℕ
answer_cell None = []
answer_cell (Some a) = answered_cell a

-- the parts of the name of the image that it runs, if it is known; what else was answered stands for the first
abbrev pub name_cell : (Name → List ℕ) → List ℕ → Option Name → List ℕ
name_cell part otherwise None = otherwise
name_cell part otherwise (Some name) = part name

abbrev pub head_cell : Option Answer → List ℕ
head_cell a = name_cell (λ name. decimal name.campaign.head) (answer_cell a) (name_in a)

abbrev pub campaign_cell : Option Answer → List ℕ
campaign_cell a = name_cell (λ name. decimal name.campaign.serial) [] (name_in a)

abbrev pub release_cell : Option Answer → List ℕ
release_cell a = name_cell (λ name. decimal name.release) [] (name_in a)

abbrev pub digest_cell : Option Answer → List ℕ
digest_cell a = name_cell (λ name. encode_lower name.digest) [] (name_in a)

-- the first digits of the digest, which tell images of a fleet apart
abbrev pub digest_front_cell : Option Answer → List ℕ
digest_front_cell a = name_cell (λ name. encode_lower (take 4 name.digest)) [] (name_in a)

abbrev pub number_cell_if : Option ℕ → List ℕ
number_cell_if None = []
number_cell_if (Some n) = decimal n

-- what a meter would do with an image: a refusal says which release it runs, or how large its blocks are
abbrev pub verdict_words : Verdict → List ℕ
verdict_words verdict.Unknown = codes "unknown"
verdict_words verdict.Runs = codes "runs"
verdict_words (verdict.Below running) = codes "refuses below " ++ decimal running
verdict_words (verdict.TooManyBlocks block_size) = codes "refuses blocks of " ++ decimal block_size
verdict_words verdict.Takes = codes "takes"

abbrev pub offer_cell : Row → Option Offer → List ℕ
offer_cell row None = []
offer_cell row (Some offer) = verdict_words (verdict_of row offer)

abbrev pub cell_of : Column → Row → Option Offer → List ℕ
cell_of column.Meter row offer = decimal row.meter
cell_of column.State row offer = state_word row
cell_of column.Head row offer = head_cell row.active.answer
cell_of column.Campaign row offer = campaign_cell row.active.answer
cell_of column.Release row offer = release_cell row.active.answer
cell_of column.Digest row offer = digest_cell row.active.answer
cell_of column.DigestFront row offer = digest_front_cell row.active.answer
cell_of column.Status row offer = answer_cell row.status.answer
cell_of column.Enabled row offer = answer_cell row.enabled.answer
cell_of column.BlockSize row offer = answer_cell row.block_size.answer
cell_of column.RoundTrip row offer = number_cell_if row.active.trip
cell_of column.Offer row offer = offer_cell row offer

-- ---- comma-separated values

abbrev pub csv_headings : List ℕ
csv_headings = codes "meter,state,head,campaign,release,digest,status,enabled,block_size,round_trip_us,offer\n"

-- the columns behind the first
abbrev pub csv_columns : List Column
csv_columns =
    column.State ∷ column.Head ∷ column.Campaign ∷ column.Release ∷ column.Digest ∷ column.Status ∷ column.Enabled ∷ column.BlockSize ∷ column.RoundTrip ∷ column.Offer ∷ []

-- a cell behind a comma
abbrev pub csv_cell : Column → Row → Option Offer → List ℕ
csv_cell c row offer = codes "," ++ cell_of c row offer

abbrev pub csv_cells : List Column → Row → Option Offer → List ℕ
csv_cells columns row offer = flat_map (λ (c : Column). csv_cell c row offer) columns

abbrev pub csv_line : Option Offer → Row → List ℕ
csv_line offer row = cell_of column.Meter row offer ++ (csv_cells csv_columns row offer ++ codes "\n")

abbrev pub csv_of : List Row → Option Offer → List ℕ
csv_of rows offer = csv_headings ++ flat_map (λ (row : Row). csv_line offer row) rows

-- ---- a table

-- how wide a column is, of those that a table has: the last one is as wide as its cells
abbrev pub width_of : Column → ℕ
width_of column.Offer = 0
width_of column.Enabled = 3
width_of column.Head = 4
width_of column.Campaign = 4
width_of column.Status = 4
width_of column.Meter = 5
width_of column.BlockSize = 5
width_of column.State = 6
width_of column.Release = 7
width_of column.RoundTrip = 7
width_of column.DigestFront = 8
width_of column.Digest = 64

-- what stands behind a cell that is empty, or isn't
abbrev pub stroke_if : Bool → List ℕ
stroke_if true = codes "-"
stroke_if false = []

-- a cell, with a stroke if it is empty
abbrev pub shown : List ℕ → List ℕ
shown cell = cell ++ stroke_if (nat_eq (length cell) 0)

-- a cell, spaces to the end of its column, and one more
abbrev pub padded : ℕ → List ℕ → List ℕ
padded width cell = cell ++ (replicate (width - length cell) 32 ++ codes " ")

abbrev pub table_headings : List ℕ
table_headings = codes "meter state  head camp release digest   stat on  block trip us offer\n"

-- the columns before the last
abbrev pub table_columns : List Column
table_columns =
    column.Meter ∷ column.State ∷ column.Head ∷ column.Campaign ∷ column.Release ∷ column.DigestFront ∷ column.Status ∷ column.Enabled ∷ column.BlockSize ∷ column.RoundTrip ∷ []

abbrev pub table_cells : List Column → Row → Option Offer → List ℕ
table_cells columns row offer = flat_map (λ (c : Column). padded (width_of c) (shown (cell_of c row offer))) columns

abbrev pub table_line : Option Offer → Row → List ℕ
table_line offer row = table_cells table_columns row offer ++ (shown (cell_of column.Offer row offer) ++ codes "\n")

abbrev pub table_of : List Row → Option Offer → List ℕ
table_of rows offer = table_headings ++ flat_map (λ (row : Row). table_line offer row) rows
