-- For private clauses alone: what a daemon tells while it serves or leads, in lines.
use Rattle.std.specs.Prelude.{◌≡◌, ◌⊎◌, ℕ, Bool, true, false, IsTrue, List, [], ◌∷◌, ◌++◌, Option, None, map}
use Rattle.fw_names.specs.Name.{name_of}
use Rattle.fw_daemon.specs.Daemon.{Daemon}
use Rattle.fw_daemon.specs.Rounds.{GoesRounds, events_in}
use Rattle.fw_daemon.specs.declared.daemon.Dropped.{Dropped}
use Rattle.fw_daemon.specs.declared.event.MeterEvent.{MeterEvent}
use Rattle.fw_daemon.specs.declared.event.MeterEvent.TheVariants as event
use Rattle.fw_head.specs.Head.{Head, campaign_at, cancelled_head, opened_head}
use Rattle.fw_rollout.specs.Counting.{CountsRows}
use Rattle.fw_rollout.specs.declared.daemon.Counts.{Counts}
use Rattle.fw_rollout.specs.declared.ended.Ended.{Ended}
use Rattle.fw_host.specs.Heads.{cancelled_line, opened_line}
use Rattle.fw_host.specs.Meters.{dropped_line, event_line}
use Rattle.fw_host.specs.Telling.{Told, lines_of_rows}

-- ---- of meters

-- what there is to tell of a meter: of several meters, of the one of this number
abbrev pub Happening : Type 0
Happening = Option ℕ × MeterEvent

-- what there is to tell of one meter
abbrev pub happenings_by : Option ℕ → List MeterEvent → List Happening
happenings_by number events = map (λ (e : MeterEvent). (number, e)) events

pub data Said : Type 0 where
  -- this happened
  happened : Happening → Said
  -- so much was dropped, so often the port failed, so many datagrams didn't open, and so many events were left out
  lacked : Dropped → ℕ → ℕ → ℕ → Said

abbrev pub line_of : Said → List ℕ
line_of (happened one) = event_line one.0 one.1
line_of (lacked dropped faults unopened untold) = dropped_line dropped faults unopened untold

abbrev pub lines_of : List Said → List (List ℕ)
lines_of said = map (λ (one : Said). line_of one) said

-- what happened of which it was said
abbrev pub happenings_said : List Said → List Happening
happenings_said [] = []
happenings_said (happened one ∷ said) = one ∷ happenings_said said
happenings_said (lacked dropped faults unopened untold ∷ said) = happenings_said said

-- refused initiates and failed calls of a store, of which there may come any number
abbrev pub may_be_left_out : MeterEvent → Bool
may_be_left_out (event.Refused name size why) = true
may_be_left_out (event.Failed w) = true
may_be_left_out e = false

-- Of what happened these were told, in this order: each once, but for those that were left out.
abbrev pub AreTold : List Happening → List Happening → Type 0
AreTold [] told = told ≡ []
AreTold (one ∷ others) told =
    ((rest : List Happening) × (told ≡ one ∷ rest) × AreTold others rest) ⊎ (IsTrue (may_be_left_out one.1) × AreTold others told)

-- what is said of what was dropped, if anything is
abbrev pub lack_of : Bool → Dropped → ℕ → ℕ → ℕ → List Said
lack_of true dropped faults unopened untold = lacked dropped faults unopened untold ∷ []
lack_of false dropped faults unopened untold = []

-- of what happened just these were told, as lines
pub record IsSaid (happenings : List Happening) (was_lost is_lost : Bool) (before after : Option (List ℕ)) : Type 0 where
  pub said : List Said
  pub are : AreTold happenings (happenings_said said)
  pub told : Told (lines_of said) was_lost is_lost before after

-- a meter that is alone made rounds, and just what happened in them was told
pub record TellsRounds (start now : Daemon) (was_lost is_lost : Bool) (before after : Option (List ℕ)) : Type 0 where
  pub rounds : List (Option MeterEvent)
  pub made : GoesRounds start rounds now
  pub said : IsSaid (happenings_by None (events_in rounds)) was_lost is_lost before after

-- ---- of head ends

pub data Change : Type 0 where
  -- the campaign of this serial number is cancelled
  cancels : ℕ → Change
  -- one is opened, of this release and this image, for these meters
  opens : ℕ → ℕ → List ℕ → List ℕ → Change

-- a change of the book, and the line that tells of it
abbrev pub ChangesOne : Head → Change → List ℕ → Head → Type 0
ChangesOne old (cancels serial) line new = (new ≡ cancelled_head old serial) × (line ≡ cancelled_line (campaign_at old serial))
ChangesOne old (opens serial release image meters) line new =
    (new ≡ opened_head old serial release image meters) × (line ≡ opened_line (name_of (campaign_at old serial) release image))

-- changes one after another, each with its line
abbrev pub ChangesAll : Head → List Change → List (List ℕ) → Head → Type 0
ChangesAll start [] [] now = now ≡ start
ChangesAll start [] (line ∷ lines) now = ⊥
ChangesAll start (change ∷ changes) [] now = ⊥
ChangesAll start (change ∷ changes) (line ∷ lines) now = (next : Head) × ChangesOne start change line next × ChangesAll next changes lines now

-- the book was changed, and just the lines of these changes were told
pub record TellsChanges (start now : Head) (was_lost is_lost : Bool) (before after : Option (List ℕ)) : Type 0 where
  pub changes : List Change
  pub lines : List (List ℕ)
  pub made : ChangesAll start changes lines now
  pub told : Told lines was_lost is_lost before after

-- rows ended and are on the device, and just their lines were told, and then these
pub record TellsEnded (was now : Counts) (then : List (List ℕ)) (was_lost is_lost : Bool) (before after : Option (List ℕ)) : Type 0 where
  pub rows : List Ended
  pub counts : CountsRows rows was now
  pub told : Told (lines_of_rows rows ++ then) was_lost is_lost before after
