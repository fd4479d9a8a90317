-- Public vocabulary: what a head end does in a rollout. It leads, gives up rows between its steps, and comes to ask other meters.
use Rattle.std.specs.Prelude.{◌≡◌, ℕ, Bool, List, [], ◌∷◌, ◌++◌, Result, OnOk, OnErr, IsTrue}
use Rattle.std.specs.declared.net.socket_addr.SocketAddr.{SocketAddr}
use Rattle.fw_journal.specs.declared.device.JournalDevice
use Rattle.fw_port.specs.declared.port.Port
use Rattle.fw_rollout.specs.declared.daemon.HeadDaemon.{HeadDaemon}
use Rattle.fw_rollout.specs.declared.ended.Ended.{Ended}
use Rattle.fw_rollout.specs.declared.link.Listed.{Listed}
use Rattle.fw_rollout.specs.Acts.{Act}
use Rattle.fw_rollout.specs.Counting.{CountsTold, TellsCounted, counted_of}
use Rattle.fw_rollout.specs.Daemon.{IsLed, Rests}
use Rattle.fw_rollout.specs.Leading.{Leader, Step, Steps, acts_of}
use Rattle.fw_rollout.specs.Plans.{GivesUpAt, with_meters}

pub data Deed : Type 0 where
  -- it makes a step, as one that leads
  makes : Step → Deed
  -- it gives up the live row of a meter, which ended at this time
  gives_up : ℕ → ℕ → Deed
  -- it asks the meters of this list from now on
  asks : List Listed → Deed

-- which lists it may come to ask
abbrev pub Lists : Type 1
Lists = List Listed → Type 0

-- those of a rollout of one list: it never comes to ask another
abbrev pub no_other : Lists
no_other meters = ⊥

-- once all that was to be sent is sent, it comes to ask the meters of one of these lists
pub record ComesToAsk (lists : Lists) (old : Leader) (meters : List Listed) (new : Leader) : Type 0 where
  pub one : lists meters
  pub sent_all : old.going ≡ []
  pub others : new ≡ with_meters meters old

-- the live row of a meter of the list is given up
abbrev pub GivesUpMeter : Leader → ℕ → ℕ → Leader → Type 0
GivesUpMeter old meter at new = (address : SocketAddr) × (given : GivesUpAt old address at new) × (given.meter ≡ meter)

-- from old, a head end does this and goes on to new
abbrev pub Does : Lists → Leader → Deed → Leader → Type 0
Does lists old (makes step) new = Steps old step new
Does lists old (gives_up meter at) new = GivesUpMeter old meter at new
Does lists old (asks meters) new = ComesToAsk lists old meters new

-- these deeds, the newest first, lead from start to now
abbrev pub RollsOut : Lists → Leader → List Deed → Leader → Type 0
RollsOut lists start [] now = now ≡ start
RollsOut lists start (deed ∷ deeds) now = (before : Leader) × RollsOut lists start deeds before × Does lists before deed now

-- the steps among them: what the outside sees of the deeds is what it sees of these
abbrev pub steps_of : List Deed → List Step
steps_of [] = []
steps_of (makes step ∷ deeds) = step ∷ steps_of deeds
steps_of (gives_up meter at ∷ deeds) = steps_of deeds
steps_of (asks meters ∷ deeds) = steps_of deeds

-- after what was done before, a head end did this in a rollout, and is as now
pub record HasRolled (lists : Lists) (start : Leader) (before after : List Act) (now : Leader) : Type 0 where
  pub deeds : List Deed
  pub adds : after ≡ acts_of (steps_of deeds) ++ before
  pub rolls_out : RollsOut lists start deeds now

-- a head end that is as start may do what it does in a rollout
abbrev pub MayRollOut : Lists → (List Act → Type 0) → Leader → List Act → Type 0
MayRollOut lists legal start before =
    (deeds : List Deed) (now : Leader) → RollsOut lists start deeds now → legal (acts_of (steps_of deeds) ++ before)

-- the daemon is that of some head end which may do what it does in a rollout
pub record BeginsRollout {D : Type 0} (lists : Lists) (honest : D → Bool) (contents : D → List ℕ) (may_leave : D → List ℕ → Type 0) (daemon : HeadDaemon D) (legal : List Act → Type 0) (before : List Act) : Type 0 where
  pub leader : Leader
  pub led : IsLed honest contents may_leave daemon leader
  pub rests : Rests leader
  pub may : MayRollOut lists legal leader before

-- From start, after what was done before, the head end did this in a rollout, and the daemon is its own then.
pub record RollsOn {D : Type 0} (lists : Lists) (honest : D → Bool) (contents : D → List ℕ) (may_leave : D → List ℕ → Type 0) (start : Leader) (before after : List Act) (daemon : HeadDaemon D) : Type 0 where
  pub now : Leader
  pub rolled : HasRolled lists start before after now
  pub led : IsLed honest contents may_leave daemon now
  pub rests : Rests now

-- ---- over a port

-- An honest port is had only over a device of which it is known what it keeps, and what a head end does in a rollout that is as this one may
-- be done.
abbrev pub MayRollOutOver : {P D : Type 0} → Lists → Port.Ghosts P Ended → JournalDevice.Ghosts D → P → HeadDaemon D → Type 0
MayRollOutOver lists N J port daemon =
    IsTrue (N.honest port) → BeginsRollout lists J.honest J.contents J.may_leave daemon (N.legal port) (N.acts port)

-- What was done over an honest port a head end did in a rollout, and after an `Ok` the daemon is its own then. The port stays as honest as it
-- was, and lets through what it would have.
pub record RollsOutOver {P D T E : Type 0} (lists : Lists) (N : Port.Ghosts P Ended) (J : JournalDevice.Ghosts D) (old : P) (before : HeadDaemon D) (result : Result T E) (new : P) (after : HeadDaemon D) : Type 0 where
  pub rolls : IsTrue (N.honest old) → (start : Leader) → IsLed J.honest J.contents J.may_leave before start → Rests start
      → OnOk result (RollsOn lists J.honest J.contents J.may_leave start (N.acts old) (N.acts new) after)
  pub rolls_err : IsTrue (N.honest old) → (start : Leader) → IsLed J.honest J.contents J.may_leave before start → Rests start
      → OnErr result ((now : Leader) × HasRolled lists start (N.acts old) (N.acts new) now)
  -- what it counted as done and as given up is what was reported
  pub counts : IsTrue (N.honest old) → CountsTold (N.acts old) (N.acts new) (counted_of before) (counted_of after)
  -- and so it is of any port
  pub tells : TellsCounted N.tells old new (counted_of before) (counted_of after)
  pub honesty : N.honest new ≡ N.honest old
  pub law : (done : List Act) → N.legal old done → N.legal new done
