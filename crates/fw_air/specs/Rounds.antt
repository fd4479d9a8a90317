-- Public vocabulary: links, and what happens on them round by round.
use Rattle.std.specs.Prelude.{◌≡◌, ℕ, Bool, true, false, is_some, ◌&&◌, List, [], ◌∷◌, ◌++◌, map, filter, Option, Some, None, if◌then◌else◌}
use Rattle.std.specs.List.{list_any, flat_map}
use Rattle.fw_book.specs.Contents.{Contents, Offered}
use Rattle.fw_book.specs.Rows.{state_of}
use Rattle.fw_head.specs.Head.{Head}
use Rattle.fw_image.specs.Meter.{Meter, Phase, verifying}
use Rattle.fw_world.specs.declared.setup.HeadSetup.{HeadSetup}
use Rattle.fw_world.specs.declared.setup.MeterSetup.{MeterSetup}
use Rattle.fw_world.specs.declared.setup.Setup.{Setup}
use Rattle.fw_world.specs.Refusals.{refusal_of}
use Rattle.fw_world.specs.Setup.{number_of_head, number_of_meter}
use Rattle.fw_world.specs.State.{State, StateStep, head_at, meter_at}
use Rattle.fw_world.specs.Step.{Event, deliver, tick, turn, RunBy}

-- ---- runs that nothing refuses

-- an event that isn't refused, and what it makes of a world
abbrev pub Admits : State → Event → State → Type 0
Admits old event new = (refusal_of old event ≡ None) × StateStep old event new

abbrev pub AdmittedRun : State → List Event → State → Type 0
AdmittedRun = RunBy Admits

-- ---- links

-- a head end, and a meter that stands in its book
pub record Link : Type 0 where
  pub head : ℕ
  pub meter : ℕ

-- whether a meter stands in a campaign of a book, in any state
abbrev pub stands_in : Contents → ℕ → Bool
stands_in book meter = list_any (λ (entry : ℕ × Offered). is_some (state_of entry.1.rows meter)) book.campaigns

abbrev pub stands_with : Option Head → ℕ → Bool
stands_with None meter = false
stands_with (Some head) meter = stands_in head.book meter

abbrev pub is_link : State → ℕ → ℕ → Bool
is_link s head meter = is_some (meter_at s meter) && stands_with (head_at s head) meter

-- the links of a head end, and those of a world: by head ends, and then by meters, in the order of the setup
abbrev pub links_with : State → ℕ → List MeterSetup → List Link
links_with s head meters =
    map (λ (meter : MeterSetup). record { head = head; meter = number_of_meter meter })
    (filter (λ (meter : MeterSetup). is_link s head (number_of_meter meter)) meters)

abbrev pub links : Setup → State → List Link
links setup s = flat_map (λ (head : HeadSetup). links_with s (number_of_head head) setup.meters.items) setup.heads.items

-- ---- rounds

abbrev pub is_verifying : Phase → Bool
is_verifying (verifying goal taken) = true
is_verifying phase = false

abbrev pub turn_of : Option Meter → ℕ → List Event
turn_of None number = []
turn_of (Some meter) number = if is_verifying meter.phase then turn number ∷ [] else []

-- a turn of the meter, if it verifies
abbrev pub last_turn : State → ℕ → List Event
last_turn s number = turn_of (meter_at s number) number

-- A round of a link: what is late comes, the head end ticks the meter, what waits comes, and last the meter takes a turn if it
-- verifies.
pub record IsLinkRound (link : Link) (old : State) (events : List Event) (new : State) : Type 0 where
  pub late : List ℕ
  pub waiting : List ℕ
  pub middle : State
  pub comes : AdmittedRun old (map deliver late ++ tick link.head link.meter ∷ map deliver waiting) middle
  pub turns : AdmittedRun middle (last_turn middle link.meter) new
  pub events_are : events
      ≡ (map deliver late ++ tick link.head link.meter ∷ map deliver waiting) ++ last_turn middle link.meter

-- the events of these, one after another
abbrev pub OneByOne : {A : Type 0} → (A → State → List Event → State → Type 0) → List A → State → List Event → State → Type 0
OneByOne Does [] old events new = (events ≡ []) × (new ≡ old)
OneByOne Does (x ∷ xs) old events new =
    (first : List Event) × (others : List Event) × (next : State)
    × (events ≡ first ++ others) × Does x old first next × OneByOne Does xs next others new

-- a round of each link
abbrev pub IsRound : List Link → State → List Event → State → Type 0
IsRound = OneByOne IsLinkRound
