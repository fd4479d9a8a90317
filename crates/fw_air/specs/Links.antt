-- Public vocabulary: the links of a world with what waits on them.
use Rattle.std.specs.Prelude.{◌≡◌, ℕ, ◌<◌, IsTrue, is_some, List, [], length, All}
use Rattle.fw_world.specs.State.{State, head_at, meter_at}
use Rattle.fw_air.specs.declared.links.LinkQueue.{LinkQueue}
use Rattle.fw_air.specs.Queues.{Queue}
use Rattle.fw_air.specs.Rounds.{Link}

-- the link of what waits
abbrev pub link_of : LinkQueue → Link
link_of waiting = record { head = waiting.head; meter = waiting.meter }

-- the datagrams that are late
abbrev pub late_of : LinkQueue → List ℕ
late_of waiting = waiting.late.items

-- how many datagrams had their fates
abbrev pub passed_of : LinkQueue → ℕ
passed_of waiting = waiting.passed

-- what waits on a link, without its memory
abbrev pub queue_of : LinkQueue → Queue
queue_of waiting = record { link = link_of waiting; passed = passed_of waiting; late = late_of waiting }

-- nothing was sent on it
pub record IsNew (waiting : LinkQueue) : Type 0 where
  pub passed : passed_of waiting ≡ 0
  pub late : late_of waiting ≡ []

-- these datagrams were sent
abbrev pub AreSent : State → List ℕ → Type 0
AreSent s numbers = All (λ number. number < length s.sent) numbers

-- both ends of a link are in the world, and what is late was sent
pub record IsThere (s : State) (waiting : LinkQueue) : Type 0 where
  pub head : IsTrue (is_some (head_at s waiting.head))
  pub meter : IsTrue (is_some (meter_at s waiting.meter))
  pub late : AreSent s (late_of waiting)
