-- For private clauses, and for the models of the head end's types.
use Rattle.std.specs.Prelude.{◌≡◌, ℕ, ◌+◌, ◌%◌, ◌<◌, ◌≤◌, ◌==◌, Bool, true, false, not, ◌||◌, List, [], ◌∷◌, ◌++◌, length, Option, IsSome, if◌then◌else◌}
use Rattle.std.specs.List.{list_any, list_all}
use Rattle.std.specs.Option.{option_map_or}
use Rattle.std.specs.FinMap.{get}
use Rattle.fw_names.specs.Name.{Name, Campaign, name_of}
use Rattle.fw_apdu.specs.Request.{invoke_ids}
use Rattle.fw_blocks.specs.Cuts.{Partition, IsWithinLimits}
use Rattle.fw_client.specs.Claim.{Claim}
use Rattle.fw_client.specs.Ask.{Ask, request_of, kind_of, CarriesRequest}
use Rattle.fw_client.specs.State.{State, asking, invoke_byte}
use Rattle.fw_head.specs.declared.stage.Stage.{Stage}
use Rattle.fw_head.specs.declared.stage.Stage.TheVariants.{Size, Enable, Start, Blocks, Check, Gaps, Verify, Poll, Info, Activate, Confirm, Done, Failed}
use Rattle.fw_head.specs.declared.answers.Step.{Step}
use Rattle.fw_head.specs.declared.answers.Step.TheVariants.{Took, Move, Return}
use Rattle.fw_head.specs.declared.news.RowNews.{RowNews}
use Rattle.fw_head.specs.declared.news.RowNews.TheVariants as news
use Rattle.fw_head.specs.Phase.{count}
use Rattle.fw_head.specs.Row.{Row, max_returns, new_row, confirm_first, IsClaimOf}
use Rattle.fw_head.specs.Head.{Rows, row_of, reopened_rows, IsRowOf}
use Rattle.fw_book.specs.declared.row.Row as book_row
use Rattle.fw_book.specs.Rows.{is_live}
use Rattle.fw_book.specs.Contents.{Contents, Offered}

-- ---- of a stage: `Cut` of how the image is cut into blocks, with a mark known of each, and `Ends` of the claim that ended the row

abbrev pub StageHolds : (Partition → Type 0) → (Claim → Type 0) → Stage → Type 0
StageHolds Cut Ends Size = Unit {0}
StageHolds Cut Ends (Enable g) = Cut g
StageHolds Cut Ends (Start g) = Cut g
StageHolds Cut Ends (Blocks g known) = Cut g × (length known ≡ count g)
StageHolds Cut Ends (Check g) = Cut g
StageHolds Cut Ends (Gaps g) = Cut g
StageHolds Cut Ends (Verify g) = Cut g
StageHolds Cut Ends (Poll g) = Cut g
StageHolds Cut Ends (Info g) = Cut g
StageHolds Cut Ends (Activate g) = Cut g
StageHolds Cut Ends (Confirm g) = Cut g
StageHolds Cut Ends (Done claim) = Ends claim
StageHolds Cut Ends (Failed why) = Unit {0}

-- and of the stage that a step leads to
abbrev pub StepHolds : (Partition → Type 0) → (Claim → Type 0) → Step → Type 0
StepHolds Cut Ends (Move stage) = StageHolds Cut Ends stage
StepHolds Cut Ends (Return g) = Cut g
StepHolds Cut Ends step = Unit {0}

-- an image of this size, cut within the limits
pub record IsCutOf (size : ℕ) (g : Partition) : Type 0 where
  pub within : IsWithinLimits g.block_size g.size
  pub sized : g.size ≡ size

-- a stage of the row of this meter, for the image of this name and size
abbrev pub IsOwn : ℕ → Name → ℕ → Stage → Type 0
IsOwn meter name size stage = StageHolds (IsCutOf size) (IsClaimOf meter name) stage

abbrev pub IsOwnStep : ℕ → Name → ℕ → Step → Type 0
IsOwnStep meter name size step = StepHolds (IsCutOf size) (IsClaimOf meter name) step

-- what is reported of a done row is a claim of this meter under this name
abbrev pub IsOwnNews : ℕ → Name → RowNews → Type 0
IsOwnNews meter name (news.Done claim) = (claim.meter ≡ meter) × (claim.name ≡ name)
IsOwnNews meter name told = Unit {0}

-- the stages of a row that asks first: it hasn't started, and asks for no block
abbrev pub IsAsking : Stage → Type 0
IsAsking Size = Unit {0}
IsAsking (Enable g) = Unit {0}
IsAsking (Confirm g) = Unit {0}
IsAsking (Done claim) = Unit {0}
IsAsking (Failed why) = Unit {0}
IsAsking stage = ⊥

-- and the steps from them
abbrev pub IsAskingStep : Step → Type 0
IsAskingStep (Move stage) = IsAsking (confirm_first stage)
IsAskingStep (Took number) = ⊥
IsAskingStep step = Unit {0}

-- What every row keeps. The last return ends it, and its image is cut within the limits. Once it is done, the meter of its client claimed
-- its own name. A row that asks first is in one of those stages.
pub record IsRow (name : Name) (size : ℕ) (stage : Stage) (client : State) (returns : ℕ) (asks_first : Bool) : Type 0 where
  pub most : returns < max_returns
  pub own : IsOwn client.meter name size stage
  pub asking : asks_first ≡ true → IsAsking stage

-- each outstanding ask is one of the last `n`
abbrev pub AskedLately : State → ℕ → Type 0
AskedLately c n = (id : ℕ) → IsSome (get c.asks id) → (back : ℕ) × (1 ≤ back) × (back ≤ n) × ((id + back) % invoke_ids ≡ c.next % invoke_ids)

-- the datagrams carry these asks of a client, one each, under one id after the other
abbrev pub Carry : State → List Ask → List (List ℕ) → Type 0
Carry c [] [] = Unit {0}
Carry c (asked ∷ asks) (datagram ∷ datagrams) =
    (c.next < invoke_ids) × CarriesRequest datagram (invoke_byte c.next) (request_of asked) × Carry (asking c (kind_of asked)) asks datagrams
Carry c asks datagrams = ⊥

-- ---- whether rows are the live ones of a book

-- a row that is live in the book, for the image that its campaign offers
abbrev pub IsOfBook : Contents → Row → Type 0
IsOfBook book row = IsRowOf book row.client.meter (new_row row.client.meter row.name row.size)

-- whether a meter stands twice
abbrev pub repeats : List Row → Bool
repeats [] = false
repeats (row ∷ rows) = list_any (λ (other : Row). other.client.meter == row.client.meter) rows || repeats rows

-- whether there is a row, of the campaign of this serial number
abbrev pub is_row_in : ℕ → Option Row → Bool
is_row_in serial found = option_map_or (λ (row : Row). row.name.campaign.serial == serial) found false

-- whether each meter that is live in a campaign has a row of it
abbrev pub has_rows : Rows → ℕ → List book_row.Row → Bool
has_rows entries serial rows = list_all (λ (row : book_row.Row). not (is_live row.state) || is_row_in serial (row_of entries row.meter)) rows

-- and so for each campaign
abbrev pub has_each : Rows → List (ℕ × Offered) → Bool
has_each entries campaigns = list_all (λ (campaign : ℕ × Offered). has_rows entries campaign.0 campaign.1.rows) campaigns

-- ---- the rows of a book that is opened again

-- the meters that are live in these rows
abbrev pub live_meters : List book_row.Row → List ℕ
live_meters [] = []
live_meters (row ∷ rows) = if is_live row.state then row.meter ∷ live_meters rows else live_meters rows

-- a reopened row for each meter that is live in this campaign
abbrev pub rows_in : ℕ → ℕ × Offered → Rows
rows_in head entry =
    let campaign : Campaign = record { head = head; serial = entry.0 } in
    reopened_rows (name_of campaign entry.1.release entry.1.image) (length entry.1.image) (live_meters entry.1.rows)

-- and so for each of these campaigns
abbrev pub live_rows : ℕ → List (ℕ × Offered) → Rows
live_rows head [] = []
live_rows head (entry ∷ entries) = rows_in head entry ++ live_rows head entries
