use Rattle.std.proofs.Common.{◌++◌, refl, length, ap, sym, ◌∙◌}
use Rattle.std.proofs.lemmas.Option.{slice_get_read}
use Rattle.fw_rollout.specs.Schedule.{links_of, queued_of}
use Rattle.fw_rollout.proofs.Moving.{given_up_kept, gives_up}
use Rattle.fw_rollout.proofs.Queueing.{queue_turned, waits_live}
use Rattle.fw_rollout.proofs.Resending.{counts_resend, resend_counted}
use Rattle.fw_rollout.proofs.Settling.{time_there}
use Rattle.fw_rollout.proofs.Turning.{goes_on_at, is_live_there, live_over, live_true, same_meters, turn_kept, turned_on}
use Rattle.fw_rollout.proofs.schedule.Schedule.give_up_at.Goals as goal

pub returns-clause-given_up : goal.returns-clause-given_up
returns-clause-given_up c =
    let link = c.in-Some.link.now in
    let links = links_of c.args.self.now in
    let was = slice_get_read links (length links) c.args.place link refl c.in-Some.ensures.item.3.0 c.in-Some.ensures.value in
    let e = turn_kept c.args.place _ _ _ _ c.in_ok-turn.ensures in
    goes_on_at c.args.place _ link c.given_up-given_up.new.self c.args.self.now c.turn.new.self was (c.given_up-given_up.result, c.given_up-given_up.ensures)
    (ap links_of e ∙ ap links_of c.count_resend.ensures) (ap (λ s. s.timing) e ∙ ap (λ s. s.timing) c.count_resend.ensures)

pub returns-clause-same : goal.returns-clause-same
returns-clause-same c = λ live.
    let link = c.in-Some.link.now in
    let links = links_of c.args.self.now in
    let was = slice_get_read links (length links) c.args.place link refl c.in-Some.ensures.item.3.0 c.in-Some.ensures.value in
    let kept = given_up_kept c.args.now link c.given_up-given_up.result c.given_up-given_up.new.self c.given_up-given_up.ensures in
    let e = turn_kept c.args.place _ _ _ _ c.in_ok-turn.ensures in
    same_meters c.args.place link c.given_up-given_up.new.self c.args.self.now c.turn.new.self was
    (ap links_of e ∙ ap links_of c.count_resend.ensures) (ap (λ s. s.timing) e ∙ ap (λ s. s.timing) c.count_resend.ensures)
    kept.0 (kept.2 ∙ sym (live_true link.turn (is_live_there c.args.place link c.args.self.now was live)))

pub returns-clause-schedule : goal.returns-clause-schedule
returns-clause-schedule c = λ time s waiting.
    let link = c.in-Some.link.now in
    let next = c.given_up-given_up.new.self in
    let links = links_of c.args.self.now in
    let was = slice_get_read links (length links) c.args.place link refl c.in-Some.ensures.item.3.0 c.in-Some.ensures.value in
    let waited = time_there c.args.place time link c.args.self.now was waiting in
    let lives = waits_live link.turn time waited in
    let kept = given_up_kept c.args.now link c.given_up-given_up.result next c.given_up-given_up.ensures in
    let e = turn_kept c.args.place _ _ _ _ c.in_ok-turn.ensures in
    let more = c.count_resend.ensures in
    turned_on c.args.place c.until-was_until.result c.until-until.result link next c.args.self.now c.count_resend.new.self c.turn.new.self s
    (gives_up c.args.place c.args.now c.given_up-given_up.result link next c.args.self.now c.count_resend.new.self s was lives c.given_up-given_up.ensures
    (ap links_of more) (ap (λ s. s.timing) more) (ap (λ s. s.places) more) (ap (λ s. s.out) more ∙ c.saturating_sub-self.ensures) (ap (λ s. s.live) more))
    (ap (λ s. s.waiting) more) c.until-was_until.ensures c.until-until.ensures c.in_ok-turn.ensures
    (queue_turned c.args.place time c.until-until.result link next c.args.self.now c.turn.new.self s was waited (live_over next.turn kept.2) c.until-until.ensures
    (c.in_ok-turn.ensures.queued ∙ ap (λ s. s.ready.items ++ queued_of c.args.place c.until-until.result) more))

pub returns-clause-resends : goal.returns-clause-resends
returns-clause-resends c =
    let link = c.in-Some.link.now in
    let links = links_of c.args.self.now in
    let was = slice_get_read links (length links) c.args.place link refl c.in-Some.ensures.item.3.0 c.in-Some.ensures.value in
    let e = turn_kept c.args.place _ _ _ _ c.in_ok-turn.ensures in
    counts_resend c.args.place c.args.now link c.args.self.now c.turn.new.self was
    (ap (λ s. s.resends) e ∙ ap (λ s. s.resends) c.count_resend.ensures
    ∙ resend_counted c.args.now c.args.self.now.resends link c.given_up-given_up.result c.given_up-given_up.new.self c.is_paused-was_paused.result c.until-until.result
    c.is_paused-was_paused.ensures c.until-until.ensures c.given_up-given_up.ensures)
