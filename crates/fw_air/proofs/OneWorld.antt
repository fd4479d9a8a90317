-- A run has one end: what an event makes of a world is determined.
use Rattle.std.proofs.Common.{◌≡◌, ℕ, zero, suc, true, IsTrue, List, [], ◌∷◌, ◌++◌, map, take, replicate, Option, Some, None, inl, inr, sym, ap, subst, ◌∙◌, slice_get}
use Rattle.std.specs.Option.{option_map}
use Rattle.std.proofs.lemmas.List.{take-map}
use Rattle.std.proofs.lemmas.Option.{none-some, same_Some, slice_get-map}
use Rattle.fw_head.specs.declared.news.News.{News}
use Rattle.fw_head.specs.Head.{Head, HeadHears, opened_head, cancelled_head, restarted, row_of, sends_to, ticked_head, went_on}
use Rattle.fw_head.specs.Laws.{OneRow}
use Rattle.fw_head.specs.Row.{RowHears}
use Rattle.fw_image.specs.Laws.{OneTurn}
use Rattle.fw_image.specs.Meter as image
use Rattle.fw_image.specs.Meter.{Meter}
use Rattle.fw_image.specs.Step.{Turn}
use Rattle.fw_meter.specs.Handling.{Handles}
use Rattle.fw_meter.specs.Laws.{OneAnswer, OneStop}
use Rattle.fw_meter.specs.Stopping.{StopsAfter}
use Rattle.fw_names.specs.Name.{Name}
use Rattle.fw_world.specs.declared.datagram.Direction.{Direction}
use Rattle.fw_world.specs.declared.datagram.Direction.TheVariants.{ToMeter, ToHead}
use Rattle.fw_world.specs.declared.error.StepError.TheVariants.{OutOfMemory}
use Rattle.fw_world.specs.declared.setup.Setup.{Setup}
use Rattle.fw_world.specs.Refusals.{IsRefused, refusal_of}
use Rattle.fw_world.specs.Runs.{events_of}
use Rattle.fw_world.specs.Setup.{opening_state}
use Rattle.fw_world.specs.State.{State, DeliversAt, StopsIn, StateRun, StateStep, head_at, meter_at, restarted_within, sent_to, set_head, set_meter}
use Rattle.fw_world.specs.Step.{Event, activated, cancel_campaign, deliver, open_campaign, replies, restart_head, restart_meter, stop, stop_restart, tick, turn}
use Rattle.fw_world.specs.View.{event_of}
use Rattle.fw_world.specs.World.{Datagram}
use Rattle.fw_air.specs.Laws.{NoneRefused, OneWorld}
use Rattle.fw_air.specs.Rounds.{AdmittedRun, IsLinkRound, IsRound, Link, OneByOne, last_turn, links}
use Rattle.fw_air.specs.Schedules.{Schedules}
use Rattle.fw_air.proofs.Runs.{run_append}

same_found : {A : Type 0} (found : Option A) (x y : A) → found ≡ Some x → found ≡ Some y → x ≡ y
same_found found x y p q = same_Some x y (sym p ∙ q)

not_both : {A : Type 0} (found : Option A) (x : A) → found ≡ Some x → found ≡ None → ⊥
not_both found x p q = none-some x (sym q ∙ p)

-- ---- an event

module _ (one_row : OneRow) (one_turn : OneTurn) (one_answer : OneAnswer) (one_stop : OneStop) where
  heard_once : (old new other : Head) (meter : ℕ) (datagram : List ℕ) (told also : News) → HeadHears old meter datagram told new → HeadHears old meter datagram also other → new ≡ other
  heard_once old new other meter datagram told also (inl a) (inl b) =
      let row = same_found (row_of old.rows meter) a.row b.row a.found b.found in
      let one = one_row a.row a.next b.next datagram a.heard b.heard a.hears (subst (λ r. RowHears r datagram b.heard b.next) (sym row) b.hears) in
      a.new_is ∙ ap (λ next. went_on old meter next a.heard) one.1 ∙ ap (λ heard. went_on old meter b.next heard) one.0 ∙ sym b.new_is
  heard_once old new other meter datagram told also (inl a) (inr b) = absurd (not_both (row_of old.rows meter) a.row a.found b.0)
  heard_once old new other meter datagram told also (inr a) (inl b) = absurd (not_both (row_of old.rows meter) b.row b.found a.0)
  heard_once old new other meter datagram told also (inr a) (inr b) = a.2 ∙ sym b.2

  delivered_once : (way : Direction) (old new other : State) (d : Datagram) → DeliversAt way old d new → DeliversAt way old d other → new ≡ other
  delivered_once ToMeter old new other d a b =
      let made : Meter → Option (List ℕ) → Option Name → State = λ after reply name.
      record (set_meter old d.meter after) { sent = old.sent ++ replies d reply; activations = old.activations ++ activated d.meter name after } in
      let before = same_found (meter_at old d.meter) a.before b.before a.there b.there in
      let one = one_answer a.before a.after b.after d.bytes a.reply b.reply a.name b.name a.handles (subst (λ m. Handles true IsTrue m d.bytes b.reply b.name b.after) (sym before) b.handles) in
      a.new_is ∙ ap (λ m. made m a.reply a.name) one.2 ∙ ap (λ r. made b.after r a.name) one.0 ∙ ap (λ n. made b.after b.reply n) one.1 ∙ sym b.new_is
  delivered_once ToHead old new other d a b =
      let before = same_found (head_at old d.head) a.before b.before a.there b.there in
      let after = heard_once a.before a.after b.after d.meter d.bytes a.told b.told a.hears (subst (λ h. HeadHears h d.meter d.bytes b.told b.after) (sym before) b.hears) in
      a.new_is ∙ ap (λ h. set_head old d.head h) after ∙ sym b.new_is

  step_once : (old new other : State) (event : Event) → StateStep old event new → StateStep old event other → new ≡ other
  step_once old new other (open_campaign campaign release image meters) a b =
      let head = same_found (head_at old campaign.head) a.head b.head a.there b.there in
      a.new_is ∙ ap (λ h. set_head old campaign.head (opened_head h campaign.serial release image meters)) head ∙ sym b.new_is
  step_once old new other (cancel_campaign campaign) a b =
      let head = same_found (head_at old campaign.head) a.head b.head a.there b.there in
      a.new_is ∙ ap (λ h. set_head old campaign.head (cancelled_head h campaign.serial)) head ∙ sym b.new_is
  step_once old new other (tick number meter) a b =
      let made : Head → State = λ h. record (set_head old number (ticked_head h meter)) { sent = old.sent ++ sent_to number meter (sends_to h meter) } in
      let head = same_found (head_at old number) a.head b.head a.there b.there in
      a.new_is ∙ ap made head ∙ sym b.new_is
  step_once old new other (deliver number) a b =
      let d = same_found (slice_get old.sent number) a.0 b.0 a.1 b.1 in
      delivered_once a.0.direction old new other a.0 a.2 (subst (λ (d : Datagram). DeliversAt d.direction old d other) (sym d) b.2)
  step_once old new other (stop number calls torn) a b =
      let made : Meter → Option Name → State = λ after name.
      record (set_meter old a.0.meter (image.restarted after)) { activations = old.activations ++ activated a.0.meter name after } in
      let d = same_found (slice_get old.sent number) a.0 b.0 a.1 b.1 in
      let second : StopsIn old a.0 calls torn other = subst (λ (x : Datagram). StopsIn old x calls torn other) (sym d) b.3 in
      let before = same_found (meter_at old a.0.meter) a.3.before second.before a.3.there second.there in
      let one = one_stop calls torn a.3.before a.3.after second.after a.0.bytes a.3.name second.name a.3.stops
      (subst (λ m. StopsAfter calls torn m a.0.bytes second.name second.after) (sym before) second.stops) in
      a.3.new_is ∙ ap (λ m. made m a.3.name) one.1 ∙ ap (λ n. made second.after n) one.0 ∙ sym second.new_is
  step_once old new other (restart_meter number) a b =
      let meter = same_found (meter_at old number) a.0 b.0 a.1 b.1 in
      a.2 ∙ ap (λ m. set_meter old number (image.restarted m)) meter ∙ sym b.2
  step_once old new other (stop_restart number calls torn) a b =
      let meter = same_found (meter_at old number) a.0 b.0 a.1 b.1 in
      a.2 ∙ ap (λ m. set_meter old number (restarted_within calls m)) meter ∙ sym b.2
  step_once old new other (restart_head number) a b =
      let head = same_found (head_at old number) a.0 b.0 a.1 b.1 in
      a.2 ∙ ap (λ h. set_head old number (restarted h)) head ∙ sym b.2
  step_once old new other (turn number) a b =
      let meter = same_found (meter_at old number) a.0 b.0 a.2 b.2 in
      let after = one_turn a.0 a.1 b.1 a.3 (subst (λ m. Turn true m true b.1) (sym meter) b.3) in
      a.4 ∙ ap (λ m. set_meter old number m) after ∙ sym b.4

  run_once : (events : List Event) → (old new other : State) → StateRun old events new → StateRun old events other → new ≡ other
  run_once [] old new other r s = r ∙ sym s
  run_once (event ∷ events) old new other r s =
      let next = step_once old r.0 s.0 event r.1 s.1 in
      run_once events r.0 new other r.2 (subst (λ w. StateRun w events other) (sym next) s.2)

  -- at each place of a run in which no event is refused, none is refused in the world that any run leads to
  admitted_there : (events : List Event) → (old new world : State) (number : ℕ) (event : Event) → AdmittedRun old events new → slice_get events number ≡ Some event
      → StateRun old (take number events) world → refusal_of world event ≡ None
  admitted_there [] old new world number event r there s = absurd cc
  admitted_there (first ∷ events) old new world zero event r there s =
      subst (λ w. refusal_of w event ≡ None) (sym s) (subst (λ e. refusal_of old e ≡ None) (same_Some first event there) r.1.0)
  admitted_there (first ∷ events) old new world (suc number) event r there s =
      let next = step_once old s.0 r.0 first s.1 r.1.1 in
      admitted_there events r.0 new world number event r.2 there (subst (λ w. StateRun w (take number events) world) next s.2)

-- ---- the run of rounds

run_of_link_round : (link : Link) (old new : State) (events : List Event) → IsLinkRound link old events new → AdmittedRun old events new
run_of_link_round link old new events r =
    let comes : List Event = map deliver r.late ++ tick link.head link.meter ∷ map deliver r.waiting in
    subst (λ es. AdmittedRun old es new) (sym r.events_are) (run_append old r.middle new comes (last_turn r.middle link.meter) r.comes r.turns)

run_one_by_one : {A : Type 0} (Does : A → State → List Event → State → Type 0) → ((x : A) (old new : State) (events : List Event) → Does x old events new → AdmittedRun old events new)
    → (xs : List A) (old new : State) (events : List Event) → OneByOne Does xs old events new → AdmittedRun old events new
run_one_by_one Does each [] old new events o = subst (λ es. AdmittedRun old es new) (sym o.0) o.1
run_one_by_one Does each (x ∷ xs) old new events o =
    subst (λ es. AdmittedRun old es new) (sym o.3) (run_append old o.2 new o.0 o.1 (each x old o.2 o.0 o.4) (run_one_by_one Does each xs o.2 new o.1 o.5))

run_of : (old new : State) (events : List Event) → AdmittedRun old events new → StateRun old events new
run_of old new [] r = r
run_of old new (event ∷ events) r = (r.0, r.1.1, run_of r.0 new events r.2)

-- ---- a schedule

-- the run in which no event is refused
scheduled : (setup : Setup) (given : List Event) (rounds : ℕ) (events : List Event) (s : Schedules setup given rounds events) → AdmittedRun (opening_state setup) events s.end
scheduled setup given rounds events s =
    let opening = opening_state setup in
    let all : List (List Link) = replicate rounds (links setup s.middle) in
    let behind : AdmittedRun s.middle s.behind s.end = run_one_by_one IsRound (run_one_by_one IsLinkRound run_of_link_round) all s.middle s.end s.behind s.rounds_run in
    subst (λ es. AdmittedRun opening es s.end) (sym s.begins) (run_append opening s.middle s.end given s.behind s.given_run behind)

pub one_world : OneRow → OneTurn → OneAnswer → OneStop → OneWorld
one_world one_row one_turn one_answer one_stop setup given rounds events s world run =
    let is = scheduled setup given rounds events s in
    run_once one_row one_turn one_answer one_stop events (opening_state setup) world s.end run (run_of (opening_state setup) s.end events is)

pub none_refused : OneRow → OneTurn → OneAnswer → OneStop → NoneRefused
none_refused one_row one_turn one_answer one_stop setup given rounds events s number world cause (event, there, run, refused, led) =
    let is = scheduled setup given rounds (events_of events) s in
    let so_far = subst (λ es. StateRun (opening_state setup) es world) (sym (take-map event_of number events)) run in
    only_memory (admitted_there one_row one_turn one_answer one_stop (events_of events) (opening_state setup) s.end world number (event_of event) is (slice_get-map event_of events number ∙ ap (option_map event_of) there) so_far) refused
  where
    only_memory : refusal_of world (event_of event) ≡ None → IsRefused world (event_of event) cause → cause ≡ OutOfMemory
    only_memory admitted (inl other) = absurd (none-some cause (sym admitted ∙ other))
    only_memory admitted (inr memory) = memory.1
