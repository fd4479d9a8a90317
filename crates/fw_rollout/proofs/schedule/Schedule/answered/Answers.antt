use Rattle.std.proofs.Common.{refl, length, ap, sym, ◌∙◌}
use Rattle.std.proofs.lemmas.Bool.{false≢true}
use Rattle.std.proofs.lemmas.Option.{slice_get_read}
use Rattle.fw_rollout.specs.Schedule.{links_of}
use Rattle.fw_rollout.proofs.Moving.{answered_alike, answers, went_on_live, waited_until}
use Rattle.fw_rollout.proofs.Queueing.{queue_same, queue_turned}
use Rattle.fw_rollout.proofs.Turning.{as_before, goes_on_at, is_live_there, same_meters, turn_kept, turned, turned_on}
use Rattle.fw_rollout.proofs.schedule.Schedule.answered.Goals as goal

pub returns-then-is_same-clause-same : goal.returns-then-is_same-clause-same
returns-then-is_same-clause-same c = λ live.
    let link = c.in-Some.link.now in
    let links = links_of c.args.self.now in
    let was = slice_get_read links (length links) c.args.place link refl c.in-Some.ensures.item.3.0 c.in-Some.ensures.value in
    let alike = answered_alike c.args.now c.args.self.now.timing.resend c.args.answer link c.answered-answered.result c.answered-answered.new.self c.answered-answered.ensures
    (is_live_there c.args.place link c.args.self.now was live) in
    same_meters c.args.place link c.answered-answered.new.self c.args.self.now _ was refl refl alike.0 alike.1

pub returns-then-is_same-clause-schedule : goal.returns-then-is_same-clause-schedule
returns-then-is_same-clause-schedule c = λ s live.
    let link = c.in-Some.link.now in
    let next = c.answered-answered.new.self in
    let links = links_of c.args.self.now in
    let was = slice_get_read links (length links) c.args.place link refl c.in-Some.ensures.item.3.0 c.in-Some.ensures.value in
    let lives = is_live_there c.args.place link c.args.self.now was live in
    let resend = c.args.self.now.timing.resend in
    let same = sym c.until-until.ensures ∙ c.is_same.ensures.0 c.if-is_same.true ∙ c.until-was_until.ensures in
    turned c.args.place link next c.args.self.now _ s
    (answers c.args.place c.args.now resend c.args.answer c.answered-answered.result link next c.args.self.now _ s was lives c.answered-answered.ensures refl refl refl c.saturating_sub-self.ensures refl)
    (as_before c.args.place link next c.args.self.now _ s was same refl)
    (queue_same c.args.place link next c.args.self.now _ s was lives (went_on_live c.args.now resend c.args.answer link c.answered-answered.result next c.answered-answered.ensures lives) same refl)

pub returns-clause-answered : goal.returns-clause-answered
returns-clause-answered c =
    let link = c.in-Some.link.now in
    let links = links_of c.args.self.now in
    let was = slice_get_read links (length links) c.args.place link refl c.in-Some.ensures.item.3.0 c.in-Some.ensures.value in
    let e = turn_kept c.args.place _ _ _ _ c.in_ok-turn.ensures in
    goes_on_at c.args.place _ link c.answered-answered.new.self c.args.self.now _ was (c.answered-answered.result, c.answered-answered.ensures) (ap links_of e) (ap (λ s. s.timing) e)

pub returns-clause-same : goal.returns-clause-same
returns-clause-same c = λ live.
    let link = c.in-Some.link.now in
    let links = links_of c.args.self.now in
    let was = slice_get_read links (length links) c.args.place link refl c.in-Some.ensures.item.3.0 c.in-Some.ensures.value in
    let e = turn_kept c.args.place _ _ _ _ c.in_ok-turn.ensures in
    let alike = answered_alike c.args.now c.args.self.now.timing.resend c.args.answer link c.answered-answered.result c.answered-answered.new.self c.answered-answered.ensures
    (is_live_there c.args.place link c.args.self.now was live) in
    same_meters c.args.place link c.answered-answered.new.self c.args.self.now _ was (ap links_of e) (ap (λ s. s.timing) e) alike.0 alike.1

pub returns-clause-schedule : goal.returns-clause-schedule
returns-clause-schedule c = λ s live.
    let link = c.in-Some.link.now in
    let next = c.answered-answered.new.self in
    let links = links_of c.args.self.now in
    let was = slice_get_read links (length links) c.args.place link refl c.in-Some.ensures.item.3.0 c.in-Some.ensures.value in
    let lives = is_live_there c.args.place link c.args.self.now was live in
    let resend = c.args.self.now.timing.resend in
    let goes = went_on_live c.args.now resend c.args.answer link c.answered-answered.result next c.answered-answered.ensures lives in
    let waited = waited_until c.args.now resend c.args.answer link c.answered-answered.result next c.answered-answered.ensures lives
    (λ e. false≢true (sym c.if-is_same.false ∙ c.is_same.ensures.1 (c.until-until.ensures ∙ e ∙ sym c.until-was_until.ensures))) in
    turned_on c.args.place c.until-was_until.result c.until-until.result link next c.args.self.now _ c.turn.new.self s
    (answers c.args.place c.args.now resend c.args.answer c.answered-answered.result link next c.args.self.now _ s was lives c.answered-answered.ensures refl refl refl
    c.saturating_sub-self.ensures refl)
    refl c.until-was_until.ensures c.until-until.ensures c.in_ok-turn.ensures
    (queue_turned c.args.place waited.0 c.until-until.result link next c.args.self.now c.turn.new.self s was waited.1 goes c.until-until.ensures c.in_ok-turn.ensures.queued)

pub returns-clause-resends : goal.returns-clause-resends
returns-clause-resends c = ap (λ s. s.resends) (turn_kept c.args.place _ _ _ _ c.in_ok-turn.ensures)
