-- Rounds in which each datagram has its own fate.
use Rattle.std.proofs.Common.{◌≡◌, ℕ, zero, suc, ◌+◌, ◌-◌, ◌≤◌, List, [], ◌∷◌, ◌++◌, map, length, Option, Some, None, Bool, true, false, if◌then◌else◌, slice_get, refl, sym, ap, subst, ◌∙◌, arith, append_assoc, All}
use Rattle.std.specs.List.{flat_map, range_with_len}
use Rattle.std.proofs.lemmas.List.{append-nil, map-append}
use Rattle.fw_image.specs.Meter.{Meter}
use Rattle.fw_world.specs.declared.datagram.Direction.{Direction}
use Rattle.fw_world.specs.declared.datagram.Direction.TheVariants.{ToMeter, ToHead}
use Rattle.fw_world.specs.State.{State, DeliversAt, HearsAt, meter_at}
use Rattle.fw_world.specs.Step.{Event, deliver, replies, tick, turn}
use Rattle.fw_world.specs.World.{Datagram}
use Rattle.fw_air.specs.declared.fates.Fate.{Fate}
use Rattle.fw_air.specs.declared.fates.Fate.TheVariants as fate
use Rattle.fw_air.specs.declared.links.LinkQueue.{LinkQueue}
use Rattle.fw_air.specs.Fates.{by_fates, comes, fate_of, waits}
use Rattle.fw_air.specs.Private.{Recorded, Follows}
use Rattle.fw_air.specs.Links.{IsNew, late_of, link_of, passed_of, queue_of}
use Rattle.fw_air.specs.Logs.{capped}
use Rattle.fw_air.specs.Queues.{Queue, HasFates, RoundHasFates, RoundsHaveFates, beginning, coming, new_queue}
use Rattle.fw_air.specs.Rounds.{AdmittedRun, IsLinkRound, Link, is_verifying, last_turn, turn_of}
use Rattle.fw_air.proofs.Passing.{joined}
use Rattle.fw_air.proofs.Runs.{follows_on}

-- ---- one by one

-- if these are left, whatever they lead to is what all of them lead to
abbrev pub LeadsAll : List Fate → List Queue → State → List Queue → State → List Event → List Queue → Type 0
LeadsAll fates all old left now so_far done =
    (events : List Event) (nexts : List Queue) (new : State) → RoundHasFates fates left now events nexts new → RoundHasFates fates all old (so_far ++ events) (done ++ nexts) new

pub leads_all : (fates : List Fate) (all left rest : List Queue) (queue after : Queue) (old now next : State) (so_far first : List Event) (done : List Queue) → left ≡ queue ∷ rest
    → LeadsAll fates all old left now so_far done → HasFates fates queue now first after next → LeadsAll fates all old rest next (so_far ++ first) (done ++ after ∷ [])
leads_all fates all left rest queue after old now next so_far first done is leads fated events nexts new others =
    let here : RoundHasFates fates (queue ∷ rest) now (first ++ events) (after ∷ nexts) new = (first, events, after, nexts, next, refl, refl, fated, others) in
    subst (λ (l : List Event). RoundHasFates fates all old l ((done ++ after ∷ []) ++ nexts) new) (sym (append_assoc so_far first events))
    (subst (λ (l : List Queue). RoundHasFates fates all old (so_far ++ (first ++ events)) l new) (sym (append_assoc done (after ∷ []) nexts))
    (leads (first ++ events) (after ∷ nexts) new (subst (λ (l : List Queue). RoundHasFates fates l now (first ++ events) (after ∷ nexts) new) (sym is) here)))

pub all_led : (fates : List Fate) (all left : List Queue) (old now : State) (so_far : List Event) (done : List Queue) → left ≡ []
    → LeadsAll fates all old left now so_far done → RoundHasFates fates all old so_far done now
all_led fates all left old now so_far done is leads =
    subst (λ (l : List Event). RoundHasFates fates all old l done now) (append-nil so_far)
    (subst (λ (l : List Queue). RoundHasFates fates all old (so_far ++ []) l now) (append-nil done)
    (leads [] [] now (subst (λ (l : List Queue). RoundHasFates fates l now [] [] now) (sym is) (refl, refl, refl))))

-- the rounds that are left
abbrev pub LeadsRounds : List Fate → ℕ → List Queue → State → ℕ → List Queue → State → List Event → Type 0
LeadsRounds fates all queues old left nows now so_far =
    (events : List Event) (new : State) → RoundsHaveFates fates left nows now events new → RoundsHaveFates fates all queues old (so_far ++ events) new

pub leads_rounds : (fates : List Fate) (all left rest : ℕ) (queues nows nexts : List Queue) (old now next : State) (so_far first : List Event) → left ≡ suc rest
    → LeadsRounds fates all queues old left nows now so_far → RoundHasFates fates nows now first nexts next → LeadsRounds fates all queues old rest nexts next (so_far ++ first)
leads_rounds fates all left rest queues nows nexts old now next so_far first is leads fated events new others =
    let here : RoundsHaveFates fates (suc rest) nows now (first ++ events) new = (first, events, nexts, next, refl, fated, others) in
    subst (λ (l : List Event). RoundsHaveFates fates all queues old l new) (sym (append_assoc so_far first events))
    (leads (first ++ events) new (subst (λ (n : ℕ). RoundsHaveFates fates n nows now (first ++ events) new) (sym is) here))

pub rounds_led : (fates : List Fate) (all left : ℕ) (queues nows : List Queue) (old now : State) (so_far : List Event) → left ≡ zero
    → LeadsRounds fates all queues old left nows now so_far → RoundsHaveFates fates all queues old so_far now
rounds_led fates all left queues nows old now so_far is leads =
    subst (λ (l : List Event). RoundsHaveFates fates all queues old l now) (append-nil so_far)
    (leads [] now (subst (λ (n : ℕ). RoundsHaveFates fates n nows now [] now) (sym is) (refl, refl)))

-- ---- what is sent where datagrams come

abbrev AllToHeads : List Datagram → Type 0
AllToHeads [] = Unit {0}
AllToHeads (d ∷ ds) = (d.direction ≡ ToHead) × AllToHeads ds

all_to_heads : (xs ys : List Datagram) → AllToHeads xs → AllToHeads ys → AllToHeads (xs ++ ys)
all_to_heads [] ys a b = b
all_to_heads (x ∷ xs) ys a b = (a.0, all_to_heads xs ys a.1 b)

replies_to_heads : (d : Datagram) (reply : Option (List ℕ)) → AllToHeads (replies d reply)
replies_to_heads d None = tt
replies_to_heads d (Some bytes) = (refl, tt)

-- what is sent where a datagram comes goes to a head end
one_sends : (way : Direction) (old new : State) (d : Datagram) → DeliversAt way old d new → (more : List Datagram) × (new.sent ≡ old.sent ++ more) × AllToHeads more
one_sends ToMeter old new d serves = (replies d serves.reply, ap (λ (w : State). w.sent) serves.new_is, replies_to_heads d serves.reply)
one_sends ToHead old new d hears = ([], ap (λ (w : State). w.sent) hears.new_is ∙ sym (append-nil old.sent), tt)

all_send : (numbers : List ℕ) (old new : State) → AdmittedRun old (map deliver numbers) new → (more : List Datagram) × (new.sent ≡ old.sent ++ more) × AllToHeads more
all_send [] old new r = ([], ap (λ (w : State). w.sent) r ∙ sym (append-nil old.sent), tt)
all_send (number ∷ numbers) old new r =
    let step = r.1.1 in
    let first = one_sends step.0.direction old r.0 step.0 step.2 in
    let others = all_send numbers r.0 new r.2 in (
      first.0 ++ others.0,
      others.1 ∙ ap (λ (l : List Datagram). l ++ others.0) first.1 ∙ append_assoc old.sent first.0 others.0,
      all_to_heads first.0 others.0 first.2 others.2,
    )

-- these datagrams go to head ends
abbrev GoToHeads : List Datagram → List ℕ → Type 0
GoToHeads sent [] = Unit {0}
GoToHeads sent (number ∷ numbers) = ((d : Datagram) → slice_get sent number ≡ Some d → d.direction ≡ ToHead) × GoToHeads sent numbers

-- nothing is sent where they come
none_sent : (numbers : List ℕ) (old new : State) → GoToHeads old.sent numbers → AdmittedRun old (map deliver numbers) new → new.sent ≡ old.sent
none_sent [] old new go r = ap (λ (w : State). w.sent) r
none_sent (number ∷ numbers) old new go r =
    let step = r.1.1 in
    let hears : HearsAt old step.0 r.0 = subst (λ (way : Direction). DeliversAt way old step.0 r.0) (go.0 step.0 step.1) step.2 in
    let same : r.0.sent ≡ old.sent = ap (λ (w : State). w.sent) hears.new_is in
    none_sent numbers r.0 new (subst (λ (sent : List Datagram). GoToHeads sent numbers) (sym same) go.1) r.2 ∙ same

-- ---- datagrams from a number on

abbrev AllFrom : ℕ → List ℕ → Type 0
AllFrom from [] = Unit {0}
AllFrom from (number ∷ numbers) = (from ≤ number) × AllFrom from numbers

all_from : (from : ℕ) (xs ys : List ℕ) → AllFrom from xs → AllFrom from ys → AllFrom from (xs ++ ys)
all_from from [] ys a b = b
all_from from (x ∷ xs) ys a b = (a.0, all_from from xs ys a.1 b)

comes_from : (from number : ℕ) (f : Option Fate) → from ≤ number → AllFrom from (comes f number)
comes_from from number None le = tt
comes_from from number (Some fate.Deliver) le = (le, tt)
comes_from from number (Some fate.Drop) le = tt
comes_from from number (Some fate.Twice) le = (le, (le, tt))
comes_from from number (Some fate.Late) le = tt

range_comes_from : (from start count : ℕ) (says : ℕ → Option Fate) → from ≤ start → AllFrom from (flat_map (λ (number : ℕ). comes (says number) number) (range_with_len start count))
range_comes_from from start zero says le = tt
range_comes_from from start (suc count) says le =
    all_from from (comes (says start) start) _ (comes_from from start (says start) le) (range_comes_from from (start + 1) count says (omega arith))

fates_from : (fates : List Fate) (passed from end : ℕ) → AllFrom from (by_fates comes fates passed from end)
fates_from fates passed from end = range_comes_from from from (end - from) (λ (number : ℕ). fate_of fates (capped (passed + (number - from)))) (omega arith)

sent_later : (more : List Datagram) (number : ℕ) (d : Datagram) → slice_get more number ≡ Some d → AllToHeads more → d.direction ≡ ToHead
sent_later [] number d there all = absurd cc
sent_later (x ∷ more) zero d there all = let same : x ≡ d = cc in ap (λ (d : Datagram). d.direction) (sym same) ∙ all.0
sent_later (x ∷ more) (suc number) d there all = sent_later more number d there all.1

later_to_head : (xs more : List Datagram) (number : ℕ) (d : Datagram) → length xs ≤ number → slice_get (xs ++ more) number ≡ Some d → AllToHeads more → d.direction ≡ ToHead
later_to_head [] more number d le there all = sent_later more number d there all
later_to_head (x ∷ xs) more zero d le there all = absurd (omega arith)
later_to_head (x ∷ xs) more (suc number) d le there all = later_to_head xs more number d (omega arith) there all

go_to_heads : (xs more : List Datagram) (numbers : List ℕ) → AllToHeads more → AllFrom (length xs) numbers → GoToHeads (xs ++ more) numbers
go_to_heads xs more [] all from = tt
go_to_heads xs more (number ∷ numbers) all from = (λ d there. later_to_head xs more number d from.0 there all, go_to_heads xs more numbers all from.1)

-- what comes after the replies sends nothing
answered : (first numbers : List ℕ) (begun replied new : State) → AdmittedRun begun (map deliver first) replied → AllFrom (length begun.sent) numbers → AdmittedRun replied (map deliver numbers) new
    → new.sent ≡ replied.sent
answered first numbers begun replied new one from other =
    let sends = all_send first begun replied one in
    none_sent numbers replied new (subst (λ (sent : List Datagram). GoToHeads sent numbers) (sym sends.1) (go_to_heads begun.sent sends.0 numbers sends.2 from)) other

turn_sends : (verifies : Bool) (number : ℕ) (old new : State) → AdmittedRun old (if verifies then turn number ∷ [] else []) new → new.sent ≡ old.sent
turn_sends true number old new r = ap (λ (w : State). w.sent) r.2 ∙ ap (λ (w : State). w.sent) r.1.1.4
turn_sends false number old new r = ap (λ (w : State). w.sent) r

last_sends : (meter : Option Meter) (number : ℕ) (old new : State) → AdmittedRun old (turn_of meter number) new → new.sent ≡ old.sent
last_sends None number old new r = ap (λ (w : State). w.sent) r
last_sends (Some meter) number old new r = turn_sends (is_verifying meter.phase) number old new r

-- ---- a round of a link

-- Two passes over what was sent, in which each datagram has its fate: those that the beginning left, and what came of these.
module _ (fates : List Fate) (queue next : Queue) (a b c d e : Recorded) (from mid end half : ℕ) where
  pub one_round : from ≡ length a.world.sent → mid ≡ length b.world.sent → end ≡ length c.world.sent → from ≤ mid → mid ≤ end → half ≡ capped (queue.passed + (mid - from))
      → Follows a (beginning queue) b → Follows b (map deliver (by_fates comes fates queue.passed from mid)) c → Follows c (map deliver (by_fates comes fates half mid end)) d
      → Follows d (last_turn d.world queue.link.meter) e → next ≡ record { link = queue.link; passed = capped (half + (end - mid)); late = by_fates waits fates queue.passed from mid ++ by_fates waits fates half mid end }
      → (events : List Event) × Follows a events e × IsLinkRound queue.link a.world events e.world × HasFates fates queue a.world events next e.world
  one_round from_is mid_is end_is more most half_is begins one other ends next_is =
      let later = subst (λ (n : ℕ). AllFrom n (by_fates comes fates half mid end)) mid_is (fates_from fates half mid end) in
      let stays : e.world.sent ≡ c.world.sent =
      last_sends (meter_at d.world queue.link.meter) queue.link.meter d.world e.world ends.run ∙ answered (by_fates comes fates queue.passed from mid) (by_fates comes fates half mid end) b.world c.world d.world one.run later other.run in
      let last : end ≡ length e.world.sent = end_is ∙ sym (ap (λ (l : List Datagram). length l) stays) in
      let all_of : (says : Option Fate → ℕ → List ℕ) → by_fates says fates queue.passed from mid ++ by_fates says fates half mid end ≡ by_fates says fates queue.passed (length a.world.sent) (length e.world.sent) =
      λ says. ap (λ (n : ℕ). by_fates says fates queue.passed from mid ++ by_fates says fates n mid end) half_is
      ∙ joined says fates queue.passed from mid more end most
      ∙ ap (λ (n : ℕ). by_fates says fates queue.passed n end) from_is
      ∙ ap (λ (n : ℕ). by_fates says fates queue.passed (length a.world.sent) n) last in
      let so_many : capped (half + (end - mid)) ≡ capped (queue.passed + (length e.world.sent - length a.world.sent)) = omega (arith, from_is, last, more, most, half_is) in
      let come = coming fates queue (length a.world.sent) (length e.world.sent) in
      let come_is : (beginning queue ++ map deliver (by_fates comes fates queue.passed from mid)) ++ map deliver (by_fates comes fates half mid end) ≡ beginning queue ++ come =
      append_assoc (beginning queue) (map deliver (by_fates comes fates queue.passed from mid)) (map deliver (by_fates comes fates half mid end))
      ∙ ap (λ (l : List Event). beginning queue ++ l) (sym (map-append deliver (by_fates comes fates queue.passed from mid) (by_fates comes fates half mid end)))
      ∙ ap (λ (l : List ℕ). beginning queue ++ map deliver l) (all_of comes) in
      let all : Follows a (beginning queue ++ come) d =
      subst (λ (l : List Event). Follows a l d) come_is (follows_on a c d _ (map deliver (by_fates comes fates half mid end)) (follows_on a b c (beginning queue) _ begins one) other) in
      let same : beginning queue ++ come ≡ map deliver queue.late ++ tick queue.link.head queue.link.meter ∷ come = append_assoc (map deliver queue.late) (tick queue.link.head queue.link.meter ∷ []) come in (
        (beginning queue ++ come) ++ last_turn d.world queue.link.meter,
        follows_on a d e (beginning queue ++ come) (last_turn d.world queue.link.meter) all ends,
        record {
          late = queue.late;
          waiting = by_fates comes fates queue.passed (length a.world.sent) (length e.world.sent);
          middle = d.world;
          comes = subst (λ (l : List Event). AdmittedRun a.world l d.world) same all.run;
          turns = ends.run;
          events_are = ap (λ (l : List Event). l ++ last_turn d.world queue.link.meter) same;
        },
        record {
          middle = d.world;
          comes_all = all.run;
          turns = ends.run;
          events_are = refl;
          next_is = next_is
              ∙ ap (λ (n : ℕ). record { link = queue.link; passed = n; late = by_fates waits fates queue.passed from mid ++ by_fates waits fates half mid end }) so_many
              ∙ ap (λ (l : List ℕ). record { link = queue.link; passed = capped (queue.passed + (length e.world.sent - length a.world.sent)); late = l }) (all_of waits);
        },
      )

-- ---- what waits on a link

pub queue_is : (waiting : LinkQueue) (link : Link) (passed : ℕ) (late : List ℕ) → link_of waiting ≡ link → passed_of waiting ≡ passed → late_of waiting ≡ late
    → queue_of waiting ≡ record { link = link; passed = passed; late = late }
queue_is waiting link passed late link_is passed_is late_is =
    ap (λ (l : Link). record { link = l; passed = passed_of waiting; late = late_of waiting }) link_is
    ∙ ap (λ (n : ℕ). record { link = link; passed = n; late = late_of waiting }) passed_is
    ∙ ap (λ (l : List ℕ). record { link = link; passed = passed; late = l }) late_is

pub new_queues : (made : List LinkQueue) → All IsNew made → map queue_of made ≡ map new_queue (map link_of made)
new_queues [] all = refl
new_queues (one ∷ made) all =
    let here : IsNew one = all 0 one (omega arith) in
    let first : queue_of one ≡ new_queue (link_of one) = queue_is one (link_of one) 0 [] refl here.passed here.late in
    let others = new_queues made (λ k d inside. all (suc k) d (omega arith)) in
    ap (λ (q : Queue). q ∷ map queue_of made) first ∙ ap (λ (l : List Queue). new_queue (link_of one) ∷ l) others
