-- Public vocabulary: the row machine. What a tick and a datagram make of a row, a head end's work on one meter.
use Rattle.std.specs.Prelude.{◌≡◌, ℕ, ◌+◌, ◌<◌, ◌≤◌, nat_lt, ◌⊎◌, Bool, true, false, List, [], ◌∷◌, map, length, slice_set, Option, Some, None, if◌then◌else◌}
use Rattle.std.specs.Global.{Vec}
use Rattle.fw_names.specs.Name.{Name}
use Rattle.fw_blocks.specs.Cuts.{Partition, IsWithinLimits, block_count, cut}
use Rattle.fw_blocks.specs.Members.{first_missing}
use Rattle.fw_wrapper.specs.Wrapper.{wrapped, wport}
use Rattle.fw_apdu.specs.Request.{invoke_ids, request_bytes}
use Rattle.fw_client.specs.Claim.{Claim}
use Rattle.fw_client.specs.Ask.{Ask, initiate, block, request_of, kind_of, CarriesRequest}
use Rattle.fw_client.specs.State.{State, fresh, asking, forgetting, invoke_byte}
use Rattle.fw_client.specs.Hearing.{Takes, AnswersNone, MayCarryData}
use Rattle.fw_client.specs.declared.heard.Heard.{Heard}
use Rattle.fw_book.specs.declared.notes.Answer.{Answer}
use Rattle.fw_book.specs.declared.notes.Reason.{Reason}
use Rattle.fw_head.specs.declared.giving_up.GivenUp.{GivenUp}
use Rattle.fw_head.specs.declared.giving_up.WhyGivenUp.{WhyGivenUp}
use Rattle.fw_head.specs.declared.stage.Stage.{Stage}
use Rattle.fw_head.specs.declared.stage.Stage.TheVariants.{Size, Enable, Start, Blocks, Check, Gaps, Verify, Poll, Info, Activate, Confirm, Done, Failed}
use Rattle.fw_head.specs.declared.answers.Step.{Step}
use Rattle.fw_head.specs.declared.answers.Step.TheVariants.{Stay, Took, Move, Return, Fail}
use Rattle.fw_head.specs.declared.news.RowNews.{RowNews}
use Rattle.fw_head.specs.declared.news.RowNews.TheVariants as news
use Rattle.fw_head.specs.Phase.{phase_of, asks_first_in, count, Leads, TakesMemory, with_known}
use Rattle.fw_head.specs.Reason.{answer_of, answer_for, reason_at}

pub record Row : Type 0 where
  -- the name and the size of the image that the meter is to run
  pub name : Name
  pub size : ℕ
  -- the phase, with what is known in it
  pub stage : Stage
  -- whom it asks, the next invoke-id, and the outstanding asks
  pub client : State
  -- how often it returned to Start
  pub returns : ℕ
  -- whether it began with a book that was opened again, and hasn't asked yet what its meter has
  pub asks_first : Bool

-- a claim of this meter, under this name
pub record IsClaimOf (meter : ℕ) (name : Name) (claim : Claim) : Type 0 where
  pub by : claim.meter ≡ meter
  pub named : claim.name ≡ name

-- the claim that ended a row, if one did
abbrev pub claim_in : Stage → Option Claim
claim_in (Done claim) = Some claim
claim_in stage = None

-- why a row failed, if it did
abbrev pub reason_in : Stage → Option Reason
reason_in (Failed why) = Some why
reason_in stage = None

-- the eighth return ends a row (own)
abbrev pub max_returns : ℕ
max_returns = 8

abbrev pub new_row : ℕ → Name → ℕ → Row
new_row meter name size = record { name = name; size = size; stage = Size; client = fresh meter; returns = 0; asks_first = false }

-- a new row that asks first what its meter has
abbrev pub reopened_row : ℕ → Name → ℕ → Row
reopened_row meter name size = record (new_row meter name size) { asks_first = true }

-- ---- how far it is

-- into how many blocks the meter cuts the image, if that is known
abbrev pub blocks_in : Stage → Option ℕ
blocks_in Size = None
blocks_in (Done claim) = None
blocks_in (Failed why) = None
blocks_in (Enable g) = Some (count g)
blocks_in (Start g) = Some (count g)
blocks_in (Blocks g known) = Some (count g)
blocks_in (Check g) = Some (count g)
blocks_in (Gaps g) = Some (count g)
blocks_in (Verify g) = Some (count g)
blocks_in (Poll g) = Some (count g)
blocks_in (Info g) = Some (count g)
blocks_in (Activate g) = Some (count g)
blocks_in (Confirm g) = Some (count g)

-- how many of them it is known to have, from the first one on: all that were asked for, once it took them
abbrev pub known_in : Stage → ℕ
known_in (Blocks g known) = first_missing known
known_in (Check g) = count g
known_in (Verify g) = count g
known_in (Poll g) = count g
known_in (Info g) = count g
known_in (Activate g) = count g
known_in (Confirm g) = count g
known_in stage = 0

-- so many of a row, and none if it hasn't asked yet what its meter has
abbrev pub known_of : Row → ℕ
known_of row = if row.asks_first then 0 else known_in row.stage

-- ---- a tick

-- the datagrams of these asks, each under the next id
abbrev pub datagrams : State → List Ask → List (List ℕ)
datagrams c [] = []
datagrams c (ask ∷ asks) = wrapped wport wport (request_bytes (invoke_byte c.next) (request_of ask)) ∷ datagrams (asking c (kind_of ask)) asks

-- the client once it asked them
abbrev pub asking_all : State → List Ask → State
asking_all c [] = c
asking_all c (ask ∷ asks) = asking_all (asking c (kind_of ask)) asks

-- what a tick asks of the row's image, of which these are the bytes, with windows of this width
abbrev pub tick_asks : Row → List ℕ → ℕ → List Ask
tick_asks row image width = asks_first_in row.name row.size image width row.stage row.asks_first

-- the bytes of each datagram
abbrev pub bytes_of : List (Vec ℕ) → List (List ℕ)
bytes_of datagrams = map (λ (datagram : Vec ℕ). datagram.items) datagrams

-- A tick forgets the outstanding asks, and sends these datagrams.
abbrev pub sends : Row → List ℕ → ℕ → List (List ℕ)
sends row image width = datagrams (forgetting row.client) (tick_asks row image width)

-- the row after a tick
abbrev pub ticked : Row → List ℕ → ℕ → Row
ticked row image width = record row { client = asking_all (forgetting row.client) (tick_asks row image width) }

-- ---- what a head end may send to a meter of this image, under this name

-- a block of the image under some block size within the limits, with its number
pub record IsBlockOf (image : List ℕ) (number : ℕ) (value : List ℕ) : Type 0 where
  pub block_size : ℕ
  pub within : IsWithinLimits block_size (length image)
  pub below : number < block_count block_size (length image)
  pub cut_is : value ≡ cut block_size image number

-- an initiate with the image's own name and size, a block of it, or else a set to true, a read, a verify or an activate
abbrev pub MaySend : Name → List ℕ → Ask → Type 0
MaySend name image (initiate n size) = (n ≡ name) × (size ≡ length image)
MaySend name image (block number value) = IsBlockOf image number value
MaySend name image asked = Unit {0}

-- a datagram that carries such an ask
pub record IsPermitted (name : Name) (image datagram : List ℕ) : Type 0 where
  pub asked : Ask
  pub id : ℕ
  pub is_id : id < invoke_ids
  pub may : MaySend name image asked
  pub carries : CarriesRequest datagram (invoke_byte id) (request_of asked)

-- ---- an answer

-- a move to another phase forgets the outstanding asks
abbrev pub moved : Row → Stage → Row
moved row stage = record row { stage = stage; client = forgetting row.client }

-- a return to Start is counted, and the last one makes the row failed instead, for this reason
abbrev pub returned : Row → Partition → Reason → Row
returned row g why =
    if nat_lt (row.returns + 1) max_returns
    then record (moved row (Start g)) { returns = row.returns + 1 }
    else moved row (Failed why)

-- the stage once the meter took the block of this number
abbrev pub with_block : Stage → ℕ → Stage
with_block (Blocks g known) number = with_known g (slice_set known number true)
with_block stage number = stage

-- the row in this stage, which is another phase unless it is Blocks
abbrev pub settled : Row → Stage → Row
settled row (Blocks g known) = record row { stage = Blocks g known }
settled row stage = moved row stage

-- the row after a step of the table; if the step ends it, for this reason
abbrev pub went : Row → Step → Reason → Row
went row Stay why = row
went row (Took number) why = settled row (with_block row.stage number)
went row (Move stage) why = moved row stage
went row (Return g) why = returned row g why
went row Fail why = moved row (Failed why)

-- in place of starting, it is asked which image runs
abbrev pub confirm_first : Stage → Stage
confirm_first (Start g) = Confirm g
confirm_first stage = stage

-- So it is with a row that asks first, except that it doesn't start before it has asked which image runs. If that isn't its own, it
-- asks which blocks the meter has, which is no return, and then it has asked.
abbrev pub asked_first : Row → Step → Reason → Row
asked_first row (Move stage) why = moved row (confirm_first stage)
asked_first row (Return g) why = moved (record row { asks_first = false }) (Gaps g)
asked_first row step why = went row step why

-- the row after a step
abbrev pub stepped : Row → Step → Reason → Row
stepped row step why = if row.asks_first then asked_first row step why else went row step why

-- what is reported of an answer that led to this stage
abbrev pub news_in : Stage → RowNews
news_in (Done claim) = news.Done claim
news_in (Failed why) = news.Failed why
news_in stage = news.Moved

-- why a row is given up, if this is reported of it
abbrev pub reason_of : RowNews → Option Reason
reason_of (news.Failed why) = Some why
reason_of told = None

-- The client takes an answer, and the row goes where it leads. If it ends there as failed, the answer is why.
pub record RowTakes (old : Row) (datagram : List ℕ) (told : RowNews) (new : Row) : Type 0 where
  pub heard : Heard
  pub client : State
  pub answer : Answer
  pub step : Step
  pub takes : Takes old.client datagram heard client
  pub answered : answer_of heard ≡ Some answer
  pub leads : Leads old.name old.size old.stage heard step
  pub new_is : new ≡ stepped (record old { client = client }) step (reason_at old.stage answer)
  pub told_is : told ≡ news_in new.stage

-- a datagram that answers no ask changes nothing
abbrev pub RowIgnores : Row → List ℕ → RowNews → Row → Type 0
RowIgnores old datagram told new = AnswersNone old.client datagram × (told ≡ news.Nothing) × (new ≡ old)

-- from old, a row that is given this datagram reports this, and becomes new
abbrev pub RowHears : Row → List ℕ → RowNews → Row → Type 0
RowHears old datagram told new = RowTakes old datagram told new ⊎ RowIgnores old datagram told new

-- the client takes an answer, and the row begins a list of known blocks by it
pub record TakesList (row : Row) (datagram : List ℕ) : Type 0 where
  pub heard : Heard
  pub client : State
  pub takes : Takes row.client datagram heard client
  pub wants : TakesMemory row.stage heard

-- A row may take memory for a datagram only if its client may, or for such a list.
abbrev pub RowMayWant : Row → List ℕ → Type 0
RowMayWant row datagram = MayCarryData datagram ⊎ TakesList row datagram

-- ---- why a row fails

-- In this row the step ends it: the phase has no place for the answer; or it makes the row return, once more than it may.
abbrev pub FailsAt : Row → Step → Type 0
FailsAt row Fail = Unit {0}
FailsAt row (Return g) = (row.asks_first ≡ false) × (max_returns ≤ row.returns + 1)
FailsAt row step = ⊥

-- A row is given up for this reason: its meter gave this answer in this phase, and that ends it.
pub record IsFailedBy (row : Row) (datagram : List ℕ) (why : Reason) : Type 0 where
  pub heard : Heard
  pub client : State
  pub step : Step
  pub takes : Takes row.client datagram heard client
  pub answered : answer_of heard ≡ Some why.answer
  pub in_phase : phase_of row.stage ≡ why.phase
  pub leads : Leads row.name row.size row.stage heard step
  pub fails : FailsAt row step

-- what is told of a row that is given up without an answer: its campaign, its phase, and why
abbrev pub given_up : Row → WhyGivenUp → GivenUp
given_up row why = record { campaign = row.name.campaign; reason = reason_at row.stage (answer_for why) }
