use Rattle.std.proofs.Common.{None, refl, length, ap, sym}
use Rattle.std.proofs.lemmas.Option.{slice_get_read}
use Rattle.fw_rollout.specs.Link.{until_of}
use Rattle.fw_rollout.specs.Schedule.{links_of}
use Rattle.fw_rollout.proofs.Moving.{ended_meter, ends, one_live, over_turn}
use Rattle.fw_rollout.proofs.Queueing.{queue_over}
use Rattle.fw_rollout.proofs.Turning.{no_new_time, waited}
use Rattle.fw_rollout.proofs.schedule.Schedule.end.Goals as goal

pub returns-clause-meters : goal.returns-clause-meters
returns-clause-meters c =
    let link = c.in-Some.link.now in
    let links = links_of c.args.self.now in
    let was = slice_get_read links (length links) c.args.place link refl c.in-Some.ensures.item.3.0 c.in-Some.ensures.value in
    let e = c.wait_no_more.ensures.others in
    ended_meter c.args.place link c.over-left.new.self c.args.self.now c.wait_no_more.new.self was (ap links_of e) (ap (λ s. s.timing) e) c.over-left.ensures.at
    (over_turn c.over-left.new.self.turn c.over-left.ensures.over.1)

pub returns-clause-schedule : goal.returns-clause-schedule
returns-clause-schedule c = λ s.
    let link = c.in-Some.link.now in
    let links = links_of c.args.self.now in
    let was = slice_get_read links (length links) c.args.place link refl c.in-Some.ensures.item.3.0 c.in-Some.ensures.value in
    let next = c.over-left.new.self in
    let over = over_turn next.turn c.over-left.ensures.over.1 in
    let one = one_live c.is_live-was_live.result c.from.result link c.from.ensures c.is_live-was_live.ensures in
    waited c.args.place c.until-was_until.result None link next c.args.self.now _ c.wait_no_more.new.self c.wait_no_more.new.self s
    (ends c.args.place c.over-left.result c.from.result link next c.args.self.now _ s was c.over-left.ensures.out one c.over-left.ensures.over.0 over c.over-left.ensures.at refl refl refl
    c.saturating_sub-self.ensures c.saturating_sub-self-2.ensures)
    refl c.until-was_until.ensures (sym (ap until_of over)) c.wait_no_more.ensures (no_new_time c.args.place None c.wait_no_more.new.self refl)
    (queue_over c.args.place link next c.args.self.now c.wait_no_more.new.self s was over (ap (λ x. x.ready.items) c.wait_no_more.ensures.others))

pub returns-clause-resends : goal.returns-clause-resends
returns-clause-resends c = ap (λ s. s.resends) c.wait_no_more.ensures.others
