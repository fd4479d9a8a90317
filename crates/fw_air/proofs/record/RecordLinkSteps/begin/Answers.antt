use Rattle.std.proofs.Common.{◌≡◌, ℕ, List, [], ◌∷◌, ◌++◌, length, map, IsTrue, is_some, subst, sym, ap, ◌∙◌}
use Rattle.std.proofs.lemmas.List.Elements.{All-nil}
use Rattle.fw_world.specs.State.{head_at, meter_at}
use Rattle.fw_world.specs.Step.{deliver, tick}
use Rattle.fw_air.specs.declared.links.LinkQueue.{LinkQueue}
use Rattle.fw_air.specs.Private.{Recorded, Follows}
use Rattle.fw_air.specs.Links.{AreSent, late_of, link_of, queue_of}
use Rattle.fw_air.specs.Queues.{beginning}
use Rattle.fw_air.specs.Rounds.{Link}
use Rattle.fw_air.proofs.Present.{head_stays, meter_stays, same_link_there, still_there, tick_admitted}
use Rattle.fw_air.proofs.Runs.{at_last, follows_on, goes_on}
use Rattle.fw_air.proofs.record.RecordLinkSteps.begin.Goals as goal

-- what was late came, and then the head end ticked the meter
came : (old middle new : Recorded) (was next : LinkQueue) (late : List ℕ) → late ≡ late_of was → link_of next ≡ link_of was → Follows old (map deliver late) middle
    → Follows middle (tick next.head next.meter ∷ []) new → Follows old (beginning (queue_of was)) new
came old middle new was next late late_is link comes ticks =
    let ticked = subst (λ (l : Link). Follows middle (tick l.head l.meter ∷ []) new) link ticks in
    subst (λ (l : List ℕ). Follows old (map deliver l ++ tick was.head was.meter ∷ []) new) late_is (follows_on old middle new _ _ comes ticked)

pub returns-in_err-deliver_all-clause-goes_on : goal.returns-in_err-deliver_all-clause-goes_on
returns-in_err-deliver_all-clause-goes_on c = λ start was. goes_on start c.args.self.now c.deliver_all.new.self was.0 was.1 c.deliver_all.ensures.goes_on

pub admit-requires : goal.admit-requires
admit-requires c =
    let old = c.args.self.now.world in
    let new = c.deliver_all.new.self.world in
    let run = c.in_ok-deliver_all.ensures.all.run in
    let stay = c.actors_stay.ensures in
    let link : link_of c.args.link.now ≡ link_of c.take_late-late.new.self = sym c.take_late-late.ensures.link in
    tick_admitted new c.take_late-late.new.self.head c.take_late-late.new.self.meter
    (subst (λ (l : Link). IsTrue (is_some (head_at new l.head))) link (subst IsTrue (sym (head_stays stay old new _ c.args.link.now.head run)) c.requires.head))
    (subst (λ (l : Link). IsTrue (is_some (meter_at new l.meter))) link (subst IsTrue (sym (meter_stays stay old new _ c.args.link.now.meter run)) c.requires.meter))

pub returns-in_err-admit-clause-goes_on : goal.returns-in_err-admit-clause-goes_on
returns-in_err-admit-clause-goes_on c = λ start was.
    goes_on start c.args.self.now c.admit.new.self was.0 was.1
    (at_last c.admit.result c.args.self.now c.deliver_all.new.self c.admit.new.self _ _ c.in_ok-deliver_all.ensures.all c.admit.ensures.made c.admit.ensures.same)

pub returns-clause-begun : goal.returns-clause-begun
returns-clause-begun c = record {
  from_is = ap (λ l. length l) (c.sent-from.ensures.sent ∙ ap (λ (r : Recorded). r.world.sent) c.self.view_is);
  all = came c.args.self.now c.deliver_all.new.self c.admit.new.self c.args.link.now c.take_late-late.new.self _ (c.deref.ensures.value ∙ c.take_late-late.ensures.late) c.take_late-late.ensures.link c.in_ok-deliver_all.ensures.all c.in_ok-admit.ensures.made;
  link_stays = c.take_late-late.ensures.link;
  passed = c.take_late-late.ensures.passed;
  late = c.take_late-late.ensures.none;
}

pub returns-clause-ready : goal.returns-clause-ready
returns-clause-ready c =
    let old = c.args.self.now in
    let new = c.admit.new.self in
    let all = follows_on old c.deliver_all.new.self new _ _ c.in_ok-deliver_all.ensures.all c.in_ok-admit.ensures.made in
    same_link_there new.world c.args.link.now c.take_late-late.new.self c.take_late-late.ensures.link (still_there c.actors_stay.ensures old.world new.world _ c.args.link.now all.run c.requires)
    (subst (AreSent new.world) (sym c.take_late-late.ensures.none) (All-nil _))

pub returns-clause-goes_on : goal.returns-clause-goes_on
returns-clause-goes_on c = λ start was.
    goes_on start c.args.self.now c.admit.new.self was.0 was.1
    (at_last c.admit.result c.args.self.now c.deliver_all.new.self c.admit.new.self _ _ c.in_ok-deliver_all.ensures.all c.admit.ensures.made c.admit.ensures.same)
