-- What is there and what was sent, before a run and after it.
use Rattle.std.proofs.Common.{◌≡◌, ℕ, ◌<◌, ◌≤◌, List, [], ◌∷◌, ◌++◌, length, slice_index_or, Option, Some, None, IsTrue, is_some, refl, sym, ap, subst, ◌∙◌, arith, All, slice_get}
use Rattle.std.proofs.lemmas.List.{length-append}
use Rattle.std.proofs.lemmas.List.Elements.{All-nil, All-push}
use Rattle.std.proofs.lemmas.Option.{slice_get-get_or}
use Rattle.fw_head.specs.Head.{Head}
use Rattle.fw_image.specs.Meter.{Meter}
use Rattle.fw_world.specs.declared.datagram.Direction.{Direction}
use Rattle.fw_world.specs.declared.datagram.Direction.TheVariants.{ToMeter, ToHead}
use Rattle.fw_world.specs.declared.error.StepError.{StepError}
use Rattle.fw_world.specs.Laws.{ActorsStay, SentStaysAddressed}
use Rattle.fw_world.specs.Refusals.{refusal_of, with_head, with_meter, with_datagram, no_addressee}
use Rattle.fw_world.specs.State.{State, IsAddressed, AreAddressed, StateStep, DeliversAt, head_at, meter_at}
use Rattle.fw_world.specs.Step.{Event, open_campaign, cancel_campaign, tick, deliver, stop, restart_meter, stop_restart, restart_head, turn}
use Rattle.fw_world.specs.World.{Datagram}
use Rattle.fw_world.specs.declared.setup.Setup.{Setup}
use Rattle.fw_world.specs.Setup.{opening_state}
use Rattle.fw_air.specs.declared.links.LinkQueue.{LinkQueue}
use Rattle.fw_air.specs.Links.{AreSent, IsThere, link_of}
use Rattle.fw_air.specs.Rounds.{AdmittedRun, Link}

-- ---- what nothing refuses

with_one : (meter : Option Meter) → IsTrue (is_some meter) → with_meter meter ≡ None
with_one None h = absurd cc
with_one (Some meter) h = refl

with_other : (head : Option Head) (next : Head → Option StepError) → IsTrue (is_some head) → ((h : Head) → next h ≡ None) → with_head head next ≡ None
with_other None next h rest = absurd cc
with_other (Some head) next h rest = rest head

addressee_there : (s : State) (d : Datagram) (way : Direction) → IsAddressed s d → no_addressee s way d ≡ None
addressee_there s d ToMeter a = with_one (meter_at s d.meter) a.1
addressee_there s d ToHead a = with_other (head_at s d.head) (λ head. None) a.0 (λ head. refl)

pub delivery_admitted : (s : State) (number : ℕ) → AreAddressed s → number < length s.sent → refusal_of s (deliver number) ≡ None
delivery_admitted s number addressed inside =
    let d0 : Datagram = record { head = 0; meter = 0; direction = ToMeter; bytes = [] } in
    let d : Datagram = slice_index_or s.sent number d0 in
    let there : slice_get s.sent number ≡ Some d = slice_get-get_or s.sent number d0 inside in
    ap (λ (o : Option Datagram). with_datagram o (λ d. no_addressee s d.direction d)) there ∙ addressee_there s d d.direction (addressed number d0 inside)

pub tick_admitted : (s : State) (head meter : ℕ) → IsTrue (is_some (head_at s head)) → IsTrue (is_some (meter_at s meter)) → refusal_of s (tick head meter) ≡ None
tick_admitted s head meter h m = with_other (head_at s head) (λ head. with_meter (meter_at s meter)) h (λ head. with_one (meter_at s meter) m)

pub turn_admitted : (s : State) (meter : ℕ) → IsTrue (is_some (meter_at s meter)) → refusal_of s (turn meter) ≡ None
turn_admitted s meter m = with_one (meter_at s meter) m

-- ---- what was sent stays

grown : (a b : List Datagram) (new : List Datagram) → new ≡ a ++ b → length a ≤ length new
grown a b new e = let long = length-append a b in let same = ap (λ (l : List Datagram). length l) e in omega arith

as_long : (old new : State) → new.sent ≡ old.sent → length old.sent ≤ length new.sent
as_long old new e = let same = ap (λ (l : List Datagram). length l) e in omega arith

sent_grows : (old new : State) (event : Event) → StateStep old event new → length old.sent ≤ length new.sent
sent_grows old new (open_campaign campaign release image meters) s = as_long old new (ap (λ (w : State). w.sent) s.new_is)
sent_grows old new (cancel_campaign campaign) s = as_long old new (ap (λ (w : State). w.sent) s.new_is)
sent_grows old new (tick head meter) s = grown old.sent _ new.sent (ap (λ (w : State). w.sent) s.new_is)
sent_grows old new (deliver number) s = by s.0.direction s.2
  where
    by : (way : Direction) → DeliversAt way old s.0 new → length old.sent ≤ length new.sent
    by ToMeter serves = grown old.sent _ new.sent (ap (λ (w : State). w.sent) serves.new_is)
    by ToHead hears = as_long old new (ap (λ (w : State). w.sent) hears.new_is)
sent_grows old new (stop number calls torn) s = as_long old new (ap (λ (w : State). w.sent) s.3.new_is)
sent_grows old new (restart_meter number) s = as_long old new (ap (λ (w : State). w.sent) s.2)
sent_grows old new (stop_restart number calls torn) s = as_long old new (ap (λ (w : State). w.sent) s.2)
sent_grows old new (restart_head number) s = as_long old new (ap (λ (w : State). w.sent) s.2)
sent_grows old new (turn number) s = as_long old new (ap (λ (w : State). w.sent) s.4)

pub run_grows : (old new : State) (events : List Event) → AdmittedRun old events new → length old.sent ≤ length new.sent
run_grows old new [] r = as_long old new (ap (λ (w : State). w.sent) r)
run_grows old new (event ∷ events) r =
    let first = sent_grows old r.0 event r.1.1 in
    let others = run_grows r.0 new events r.2 in
    omega arith

pub still_sent : (old new : State) (events : List Event) (numbers : List ℕ) → AdmittedRun old events new → AreSent old numbers → AreSent new numbers
still_sent old new events numbers r sent k d inside =
    let more = run_grows old new events r in
    let before = sent k d inside in
    omega arith

-- ---- who is there stays there

module _ (stay : ActorsStay) where
  pub head_stays : (old new : State) (events : List Event) (number : ℕ) → AdmittedRun old events new → is_some (head_at new number) ≡ is_some (head_at old number)
  head_stays old new [] number r = ap (λ (w : State). is_some (head_at w number)) r
  head_stays old new (event ∷ events) number r = head_stays r.0 new events number r.2 ∙ (stay old r.0 event r.1.1 number).0

  pub meter_stays : (old new : State) (events : List Event) (number : ℕ) → AdmittedRun old events new → is_some (meter_at new number) ≡ is_some (meter_at old number)
  meter_stays old new [] number r = ap (λ (w : State). is_some (meter_at w number)) r
  meter_stays old new (event ∷ events) number r = meter_stays r.0 new events number r.2 ∙ (stay old r.0 event r.1.1 number).1

  pub still_there : (old new : State) (events : List Event) (waiting : LinkQueue) → AdmittedRun old events new → IsThere old waiting → IsThere new waiting
  still_there old new events waiting r there = record {
    head = subst IsTrue (sym (head_stays old new events waiting.head r)) there.head;
    meter = subst IsTrue (sym (meter_stays old new events waiting.meter r)) there.meter;
    late = still_sent old new events waiting.late.items r there.late;
  }

  pub all_still_there : (old new : State) (events : List Event) (links : List LinkQueue) → AdmittedRun old events new → All (IsThere old) links → All (IsThere new) links
  all_still_there old new events links r there k d inside = still_there old new events (slice_index_or links k d) r (there k d inside)

-- ---- both ends of what was sent are there

pub run_addressed : SentStaysAddressed → (old new : State) (events : List Event) → AdmittedRun old events new → AreAddressed old → AreAddressed new
run_addressed stay old new [] r addressed = subst AreAddressed (sym r) addressed
run_addressed stay old new (event ∷ events) r addressed = run_addressed stay r.0 new events r.2 (stay old r.0 event r.1.1 addressed)

pub opening_addressed : (setup : Setup) → AreAddressed (opening_state setup)
opening_addressed setup = All-nil (IsAddressed (opening_state setup))

-- ---- numbers below a bound

pub pushed : (end number : ℕ) (before after : List ℕ) → after ≡ before ++ number ∷ [] → All (λ n. n < end) before → number < end → All (λ n. n < end) after
pushed end number before after e all below = subst (λ (l : List ℕ). All (λ n. n < end) l) (sym e) (All-push (λ n. n < end) before number all below)

pub widened : (low high : ℕ) (numbers : List ℕ) → low ≤ high → All (λ n. n < low) numbers → All (λ n. n < high) numbers
widened low high numbers le all k d inside = let below = all k d inside in omega arith

pub none_below : (end : ℕ) (numbers : List ℕ) → numbers ≡ [] → All (λ n. n < end) numbers
none_below end numbers e = subst (λ (l : List ℕ). All (λ n. n < end) l) (sym e) (All-nil (λ n. n < end))

-- the same link, with other datagrams that are late
pub same_link_there : (s : State) (old new : LinkQueue) → link_of new ≡ link_of old → IsThere s old → AreSent s new.late.items → IsThere s new
same_link_there s old new same there late = record {
  head = subst (λ (l : Link). IsTrue (is_some (head_at s l.head))) (sym same) there.head;
  meter = subst (λ (l : Link). IsTrue (is_some (meter_at s l.meter))) (sym same) there.meter;
  late = late;
}
