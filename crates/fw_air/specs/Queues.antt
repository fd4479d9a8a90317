-- Public vocabulary: rounds in which each datagram has its own fate.
use Rattle.std.specs.Prelude.{◌≡◌, ℕ, zero, suc, ◌+◌, ◌-◌, List, [], ◌∷◌, ◌++◌, length, map}
use Rattle.fw_world.specs.State.{State}
use Rattle.fw_world.specs.Step.{Event, deliver, tick}
use Rattle.fw_air.specs.declared.fates.Fate.{Fate}
use Rattle.fw_air.specs.Fates.{by_fates, comes, waits}
use Rattle.fw_air.specs.Logs.{capped}
use Rattle.fw_air.specs.Rounds.{AdmittedRun, Link, last_turn}

-- what waits on a link: how many datagrams had their fates there, and those that come at the beginning of the next round
pub record Queue : Type 0 where
  pub link : Link
  pub passed : ℕ
  pub late : List ℕ

-- nothing was sent there
abbrev pub new_queue : Link → Queue
new_queue link = record { link = link; passed = 0; late = [] }

-- what is late comes, and the head end ticks the meter
abbrev pub beginning : Queue → List Event
beginning queue = map deliver queue.late ++ tick queue.link.head queue.link.meter ∷ []

-- what comes at once of the datagrams from one number up to another, and what waits after them
abbrev pub coming : List Fate → Queue → ℕ → ℕ → List Event
coming fates queue from end = map deliver (by_fates comes fates queue.passed from end)

abbrev pub left_of : List Fate → Queue → ℕ → ℕ → Queue
left_of fates queue from end = record {
  link = queue.link;
  passed = capped (queue.passed + (end - from));
  late = by_fates waits fates queue.passed from end;
}

-- A round of a link. Each datagram that is sent in it, by the head end or by the meter, has the next fate of the list, in the order of
-- sending: it comes once or twice in this round, or it is lost, or it comes a round late, at the beginning of the next one.
pub record HasFates (fates : List Fate) (queue : Queue) (old : State) (events : List Event) (next : Queue) (new : State) : Type 0 where
  pub middle : State
  pub comes_all : AdmittedRun old (beginning queue ++ coming fates queue (length old.sent) (length new.sent)) middle
  pub turns : AdmittedRun middle (last_turn middle queue.link.meter) new
  pub events_are : events
      ≡ (beginning queue ++ coming fates queue (length old.sent) (length new.sent)) ++ last_turn middle queue.link.meter
  pub next_is : next ≡ left_of fates queue (length old.sent) (length new.sent)

-- a round of each link, one after another
abbrev pub RoundHasFates : List Fate → List Queue → State → List Event → List Queue → State → Type 0
RoundHasFates fates [] old events nexts new = (events ≡ []) × (nexts ≡ []) × (new ≡ old)
RoundHasFates fates (queue ∷ queues) old events nexts new =
    (first : List Event) × (others : List Event) × (next : Queue) × (rest : List Queue) × (middle : State)
    × (events ≡ first ++ others) × (nexts ≡ next ∷ rest)
    × HasFates fates queue old first next middle × RoundHasFates fates queues middle others rest new

-- N rounds of each link
abbrev pub RoundsHaveFates : List Fate → ℕ → List Queue → State → List Event → State → Type 0
RoundsHaveFates fates zero queues old events new = (events ≡ []) × (new ≡ old)
RoundsHaveFates fates (suc rounds) queues old events new =
    (first : List Event) × (others : List Event) × (nexts : List Queue) × (middle : State)
    × (events ≡ first ++ others) × RoundHasFates fates queues old first nexts middle × RoundsHaveFates fates rounds nexts middle others new
