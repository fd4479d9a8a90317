-- Public vocabulary: scripts. A script is lines, of which each is skipped, or says a part of a setup or what happens in the world.
use Rattle.std.specs.Prelude.{◌≡◌, false, ℕ, ◌+◌, Bool, true, ◌==◌, if◌then◌else◌, List, [], ◌∷◌, ◌++◌, map, length, Option, Some, None, option_map, option_and_then, bytes_eq, codes}
use Rattle.fw_names.specs.Name.{Campaign}
use Rattle.fw_world.specs.Step.{Event, open_campaign, cancel_campaign, tick, deliver, stop, restart_meter, stop_restart, restart_head, turn}
use Rattle.fw_world.specs.Runs.{events_of}
use Rattle.fw_world.specs.declared.event.Event.{Event as Given}
use Rattle.fw_world.specs.declared.setup.HeadSetup.{HeadSetup}
use Rattle.fw_world.specs.declared.setup.MeterSetup.{MeterSetup}
use Rattle.fw_world.specs.declared.setup.Setup.{Setup}
use Rattle.fw_text.specs.Lines.{lines_of}
use Rattle.fw_text.specs.Words.{words_of, number_of, bytes_said, keyword, reading, ending, numbers_of, from_one, byte_of}

-- a head end of a setup: its number and its width
pub record Head : Type 0 where
  pub number : ℕ
  pub width : ℕ

-- a meter of a setup: its number, the limits of its store, the image that it is made with, and whether its store is an old one
pub record Meter : Type 0 where
  pub number : ℕ
  pub block_size : ℕ
  pub capacity : ℕ
  pub factory : List ℕ
  pub old : Bool

-- what a line says
pub data Said : Type 0 where
  head_item : Head → Said
  meter_item : Meter → Said
  events_item : List Event → Said

abbrev pub event : Event → List (List ℕ) → Option Said
event e = ending (events_item (e ∷ []))

-- ---- the words after the first one

-- head H width W
abbrev pub head_line : List (List ℕ) → Option Said
head_line = reading from_one λ head. reading (keyword (codes "width")) λ _. reading number_of λ width.
    ending (head_item (record { number = head; width = width }))

-- nothing more, or the word `old` and nothing more: whether that word is there
abbrev pub old_said : List (List ℕ) → Option Bool
old_said [] = Some false
old_said (word ∷ words) = reading (keyword (codes "old")) (λ _. ending true) (word ∷ words)

-- meter M block B capacity C factory HEX, or the same and old
abbrev pub meter_line : List (List ℕ) → Option Said
meter_line = reading number_of λ meter. reading (keyword (codes "block")) λ _. reading number_of λ block_size.
    reading (keyword (codes "capacity")) λ _. reading number_of λ capacity.
    reading (keyword (codes "factory")) λ _. reading bytes_said λ factory. λ words.
    option_map (λ old. meter_item (record { number = meter; block_size = block_size; capacity = capacity; factory = factory; old = old }))
    (old_said words)

-- HEX M M .., after the words for the campaign and the release
abbrev pub opening : Campaign → ℕ → List (List ℕ) → Option Said
opening campaign release = reading bytes_said λ image. λ words.
    option_map (λ meters. events_item (open_campaign campaign release image meters ∷ [])) (numbers_of words)

-- open H S HEX M M ..
abbrev pub open_line : List (List ℕ) → Option Said
open_line = reading from_one λ head. reading from_one λ serial. opening (record { head = head; serial = serial }) 0

-- open-release H S R HEX M M ..
abbrev pub open_release_line : List (List ℕ) → Option Said
open_release_line = reading from_one λ head. reading from_one λ serial. reading number_of λ release.
    opening (record { head = head; serial = serial }) release

-- cancel H S
abbrev pub cancel_line : List (List ℕ) → Option Said
cancel_line = reading from_one λ head. reading from_one λ serial. event (cancel_campaign (record { head = head; serial = serial }))

-- tick H M
abbrev pub tick_line : List (List ℕ) → Option Said
tick_line = reading from_one λ head. reading number_of λ meter. event (tick head meter)

-- deliver K K ..
abbrev pub deliver_line : List (List ℕ) → Option Said
deliver_line [] = None
deliver_line (word ∷ words) = option_map (λ numbers. events_item (map deliver numbers)) (numbers_of (word ∷ words))

-- stop K CALLS TORN
abbrev pub stop_line : List (List ℕ) → Option Said
stop_line = reading number_of λ datagram. reading number_of λ calls. reading byte_of λ torn. event (stop datagram calls torn)

-- restart-meter M
abbrev pub restart_meter_line : List (List ℕ) → Option Said
restart_meter_line = reading number_of λ meter. event (restart_meter meter)

-- stop-restart M CALLS TORN
abbrev pub stop_restart_line : List (List ℕ) → Option Said
stop_restart_line = reading number_of λ meter. reading number_of λ calls. reading byte_of λ torn. event (stop_restart meter calls torn)

-- restart-head H
abbrev pub restart_head_line : List (List ℕ) → Option Said
restart_head_line = reading from_one λ head. event (restart_head head)

-- turn M
abbrev pub turn_line : List (List ℕ) → Option Said
turn_line = reading number_of λ meter. event (turn meter)

-- ---- lines

-- what the words after the first one say, where that names an event without a list
abbrev pub event_line : List ℕ → List (List ℕ) → Option Said
event_line first words =
    if bytes_eq first (codes "cancel") then cancel_line words else
    if bytes_eq first (codes "tick") then tick_line words else
    if bytes_eq first (codes "stop") then stop_line words else
    if bytes_eq first (codes "restart-meter") then restart_meter_line words else
    if bytes_eq first (codes "stop-restart") then stop_restart_line words else
    if bytes_eq first (codes "restart-head") then restart_head_line words else
    if bytes_eq first (codes "turn") then turn_line words else None

-- what the words of a line say
abbrev pub item_of : List (List ℕ) → Option Said
item_of [] = None
item_of (first ∷ words) =
    if bytes_eq first (codes "head") then head_line words else
    if bytes_eq first (codes "meter") then meter_line words else
    if bytes_eq first (codes "open") then open_line words else
    if bytes_eq first (codes "open-release") then open_release_line words else
    if bytes_eq first (codes "deliver") then deliver_line words else event_line first words

-- an empty line is skipped, and so is one that begins with a number sign (35)
abbrev pub is_skipped : List ℕ → Bool
is_skipped [] = true
is_skipped (byte ∷ rest) = byte == 35

-- what a script says: a setup, and the events in their order
pub record Script : Type 0 where
  pub heads : List Head
  pub meters : List Meter
  pub events : List Event

abbrev pub head_of : HeadSetup → Head
head_of head = record { number = head.head; width = head.width }

abbrev pub meter_of : MeterSetup → Meter
meter_of meter = record {
  number = meter.meter;
  block_size = meter.block_size;
  capacity = meter.capacity;
  factory = meter.factory.items;
  old = meter.old;
}

-- a setup and events, without where their lists lie in memory
abbrev pub script_of : Setup → List Given → Script
script_of setup events =
    record { heads = map head_of setup.heads.items; meters = map meter_of setup.meters.items; events = events_of events }

-- ---- scripts

-- nothing
abbrev pub no_script : Script
no_script = record { heads = []; meters = []; events = [] }

-- this script, if no event stands before it
abbrev pub before_all : List Event → Script → Option Script
before_all [] script = Some script
before_all (event ∷ events) script = None

-- the script with one item more: a setup line stands before all events
abbrev pub with_item : Script → Said → Option Script
with_item script (head_item head) = before_all script.events (record script { heads = script.heads ++ head ∷ [] })
with_item script (meter_item meter) = before_all script.events (record script { meters = script.meters ++ meter ∷ [] })
with_item script (events_item events) = Some (record script { events = script.events ++ events })

-- the script with one line more
abbrev pub with_line : Script → List ℕ → Option Script
with_line script line = if is_skipped line then Some script else option_and_then (with_item script) (item_of (words_of line))

-- the script with these lines more, one after another
abbrev pub with_lines : Script → List (List ℕ) → Option Script
with_lines script [] = Some script
with_lines script (line ∷ lines) = option_and_then (λ next. with_lines next lines) (with_line script line)

-- the lines of the input are this script
abbrev pub SpellsScript : List ℕ → Script → Type 0
SpellsScript input script = with_lines no_script (lines_of input) ≡ Some script

-- The lines before the one of this number begin a script, and this one can't go on with it. Lines count from 1, skipped ones too.
pub record IsBadLine (input : List ℕ) (number : ℕ) : Type 0 where
  pub before : List (List ℕ)
  pub line : List ℕ
  pub behind : List (List ℕ)
  pub begun : Script
  pub lines : lines_of input ≡ before ++ line ∷ behind
  pub begins : with_lines no_script before ≡ Some begun
  pub bad : with_line begun line ≡ None
  pub counted : number ≡ length before + 1

-- The lines up to some line begin a script, and this one isn't skipped.
pub record BeginsScript (input : List ℕ) : Type 0 where
  pub before : List (List ℕ)
  pub line : List ℕ
  pub behind : List (List ℕ)
  pub begun : Script
  pub lines : lines_of input ≡ before ++ line ∷ behind
  pub begins : with_lines no_script (before ++ line ∷ []) ≡ Some begun
  pub kept : is_skipped line ≡ false
