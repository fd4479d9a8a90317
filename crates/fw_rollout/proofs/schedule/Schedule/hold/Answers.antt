use Rattle.std.proofs.Common.{refl, length, ap, sym, ◌∙◌}
use Rattle.std.proofs.lemmas.Option.{slice_get_read}
use Rattle.fw_rollout.specs.Link.{until_of}
use Rattle.fw_rollout.specs.Schedule.{is_live, is_live_turn, links_of}
use Rattle.fw_rollout.proofs.Moving.{holds_back}
use Rattle.fw_rollout.proofs.Queueing.{queue_held}
use Rattle.fw_rollout.proofs.Turning.{is_due_there, no_time, same_meters, waited}
use Rattle.fw_rollout.proofs.schedule.Schedule.hold.Goals as goal

pub returns-clause-same : goal.returns-clause-same
returns-clause-same c = λ due.
    let link = c.in-Some.link.now in
    let links = links_of c.args.self.now in
    let was = slice_get_read links (length links) c.args.place link refl c.in-Some.ensures.item.3.0 c.in-Some.ensures.value in
    let e = c.in_ok-wait.ensures.others in
    same_meters c.args.place link c.held.new.self c.args.self.now c.wait.new.self was (ap links_of e) (ap (λ s. s.timing) e) (ap (λ l. l.at) c.held.ensures)
    (ap is_live c.held.ensures ∙ sym (ap is_live_turn (is_due_there c.args.place link c.args.self.now was due)))

pub returns-clause-schedule : goal.returns-clause-schedule
returns-clause-schedule c = λ s due first.
    let link = c.in-Some.link.now in
    let links = links_of c.args.self.now in
    let was = slice_get_read links (length links) c.args.place link refl c.in-Some.ensures.item.3.0 c.in-Some.ensures.value in
    let ready = is_due_there c.args.place link c.args.self.now was due in
    waited c.args.place (until_of link.turn) c.until-until.result link c.held.new.self c.args.self.now _ _ c.wait.new.self s
    (holds_back c.args.place c.args.now link c.held.new.self c.args.self.now _ s was ready c.held.ensures refl refl refl refl refl)
    refl refl c.until-until.ensures (no_time c.args.place (until_of link.turn) _ (ap until_of ready)) c.in_ok-wait.ensures
    (queue_held c.args.place _ link c.held.new.self c.args.self.now c.wait.new.self s was ready (ap (λ l. l.turn) c.held.ensures) first
    (ap (λ x. x.ready.items) c.in_ok-wait.ensures.others ∙ c.pop_front.ensures.rest))

pub returns-clause-out : goal.returns-clause-out
returns-clause-out c = ap (λ s. s.out) c.in_ok-wait.ensures.others

pub returns-clause-resends : goal.returns-clause-resends
returns-clause-resends c = ap (λ s. s.resends) c.in_ok-wait.ensures.others
