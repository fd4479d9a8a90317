use Rattle.std.proofs.Common.{rules, ◌≡◌, inl, inr, ℕ, true, is_some, [], ◌∷◌, ◌++◌, List, Option, None, refl, sym, ap, subst, ◌∙◌}
use Rattle.fw_book.specs.declared.notes.End.{End}
use Rattle.fw_book.specs.declared.phase.Phase.{Phase}
use Rattle.fw_head.specs.Head.{Head, HeadHears, IsHead, TellsReason, row_of}
use Rattle.fw_head.specs.declared.news.News.{News}
use Rattle.fw_head.specs.declared.news.News.TheVariants as news
use Rattle.fw_kept.specs.Head.{Holds, head_of, known_of}
use Rattle.fw_ledger.specs.declared.record.Ending.TheVariants as ends
use Rattle.fw_rollout.specs.declared.ended.Ended.{Ended}
use Rattle.fw_rollout.specs.Daemon.{since_with}
use Rattle.fw_rollout.specs.Early.{IsAnswerOf}
use Rattle.fw_rollout.specs.Laps.{lap_in, laps_gone, laps_of}
use Rattle.fw_rollout.specs.Leading.{ended_by, heard_of}
use Rattle.fw_rollout.specs.Plans.{phase_at, stuck_by}
use Rattle.fw_rollout.proofs.Daemons.{ended_on, is_listed, moved_live, moved_on, nothing_on, stranger_on}
use Rattle.fw_rollout.proofs.Hearing.{done_noted, noted_as, row_done, row_failed, row_moved, row_wanted}
use Rattle.fw_rollout.proofs.Rounds.{at_err}
use Rattle.fw_rollout.proofs.daemon.HeadDaemon.heard.Goals as goal

-- ---- refused memory is for a datagram of a meter of the list

pub returns-in_err-make_room-clause-listed : goal.returns-in_err-make_room-clause-listed
returns-in_err-make_room-clause-listed g c = λ leader led.
    let row : is_some (row_of (head_of c.args.self.now.kept).rows c.in-Some.meter) ≡ true = subst (λ (m : ℕ). is_some (row_of (head_of c.args.self.now.kept).rows m) ≡ true) (search rules) (sym c.has_row-has_row.ensures ∙ c.in_err-make_room.ensures.row) in
    at_err c.from_residual.result (
      c.in-Some.meter,
      is_listed g.D.JournalDevice.honest g.D.JournalDevice.contents g.D.JournalDevice.may_leave c.args.self.now leader c.in-Some.place (record { meter = c.in-Some.meter; address = c.args.from }) led
          (c.in-Some.ensures.found led.schedule),
      ap (λ (h : Head). is_some (row_of h.rows c.in-Some.meter)) led.head ∙ row,
    )

pub returns-in_err-news-clause-listed : goal.returns-in_err-news-clause-listed
returns-in_err-news-clause-listed g c = λ leader led.
    let row : is_some (row_of (head_of c.args.self.now.kept).rows c.in-Some.meter) ≡ true = subst (λ (m : ℕ). is_some (row_of (head_of c.args.self.now.kept).rows m) ≡ true) (search rules) (row_wanted c.args.self.now.kept c.hear.new.self _ c.args.datagram.now c.in_err-news.ensures.memory) in
    at_err c.from_residual-in_err-news.result (
      c.in-Some.meter,
      is_listed g.D.JournalDevice.honest g.D.JournalDevice.contents g.D.JournalDevice.may_leave c.args.self.now leader c.in-Some.place (record { meter = c.in-Some.meter; address = c.args.from }) led
          (c.in-Some.ensures.found led.schedule),
      ap (λ (h : Head). is_some (row_of h.rows c.in-Some.meter)) led.head ∙ row,
    )

pub returns-in_err-answer-in-Moved-clause-listed : goal.returns-in_err-answer-in-Moved-clause-listed
returns-in_err-answer-in-Moved-clause-listed g c = λ leader led.
    let heard = subst (λ (m : ℕ). HeadHears (head_of c.args.self.now.kept) m c.args.datagram.now c.in_ok-news.field-0.news (head_of c.hear.new.self)) (search rules) c.in_ok-news.ensures.heard in
    let row : is_some (row_of (head_of c.args.self.now.kept).rows c.in-Some.meter) ≡ true = row_moved (head_of c.args.self.now.kept) (head_of c.hear.new.self) c.in-Some.meter c.args.datagram.now c.in_ok-news.field-0.news heard c.in-Moved.is in
    at_err c.from_residual-in_err-answer-in-Moved.result (
      c.in-Some.meter,
      is_listed g.D.JournalDevice.honest g.D.JournalDevice.contents g.D.JournalDevice.may_leave c.args.self.now leader c.in-Some.place (record { meter = c.in-Some.meter; address = c.args.from }) led
          (c.in-Some.ensures.found led.schedule),
      ap (λ (h : Head). is_some (row_of h.rows c.in-Some.meter)) led.head ∙ row,
    )

pub returns-in_err-answered-in-Moved-clause-listed : goal.returns-in_err-answered-in-Moved-clause-listed
returns-in_err-answered-in-Moved-clause-listed g c = λ leader led.
    let heard = subst (λ (m : ℕ). HeadHears (head_of c.args.self.now.kept) m c.args.datagram.now c.in_ok-news.field-0.news (head_of c.hear.new.self)) (search rules) c.in_ok-news.ensures.heard in
    let row : is_some (row_of (head_of c.args.self.now.kept).rows c.in-Some.meter) ≡ true = row_moved (head_of c.args.self.now.kept) (head_of c.hear.new.self) c.in-Some.meter c.args.datagram.now c.in_ok-news.field-0.news heard c.in-Moved.is in
    at_err c.from_residual-in_err-answered-in-Moved.result (
      c.in-Some.meter,
      is_listed g.D.JournalDevice.honest g.D.JournalDevice.contents g.D.JournalDevice.may_leave c.args.self.now leader c.in-Some.place (record { meter = c.in-Some.meter; address = c.args.from }) led
          (c.in-Some.ensures.found led.schedule),
      ap (λ (h : Head). is_some (row_of h.rows c.in-Some.meter)) led.head ∙ row,
    )

pub returns-in_err-end_row-in-Done-clause-listed : goal.returns-in_err-end_row-in-Done-clause-listed
returns-in_err-end_row-in-Done-clause-listed g c = λ leader led.
    let heard = subst (λ (m : ℕ). HeadHears (head_of c.args.self.now.kept) m c.args.datagram.now c.in_ok-news.field-0.news (head_of c.hear.new.self)) (search rules) c.in_ok-news.ensures.heard in
    let row : is_some (row_of (head_of c.args.self.now.kept).rows c.in-Some.meter) ≡ true = row_done (head_of c.args.self.now.kept) (head_of c.hear.new.self) c.in-Some.meter c.args.datagram.now c.in_ok-news.field-0.news c.in-Done.campaign c.in-Done.meter heard c.in-Done.is in
    at_err c.from_residual-in_err-end_row-in-Done.result (
      c.in-Some.meter,
      is_listed g.D.JournalDevice.honest g.D.JournalDevice.contents g.D.JournalDevice.may_leave c.args.self.now leader c.in-Some.place (record { meter = c.in-Some.meter; address = c.args.from }) led
          (c.in-Some.ensures.found led.schedule),
      ap (λ (h : Head). is_some (row_of h.rows c.in-Some.meter)) led.head ∙ row,
    )

pub returns-in_err-end_row-in-Failed-clause-listed : goal.returns-in_err-end_row-in-Failed-clause-listed
returns-in_err-end_row-in-Failed-clause-listed g c = λ leader led.
    let heard = subst (λ (m : ℕ). HeadHears (head_of c.args.self.now.kept) m c.args.datagram.now c.in_ok-news.field-0.news (head_of c.hear.new.self)) (search rules) c.in_ok-news.ensures.heard in
    let row : is_some (row_of (head_of c.args.self.now.kept).rows c.in-Some.meter) ≡ true = row_failed (head_of c.args.self.now.kept) (head_of c.hear.new.self) c.in-Some.meter c.args.datagram.now c.in_ok-news.field-0.news c.in-Failed.campaign c.in-Failed.meter heard c.in-Failed.is in
    at_err c.from_residual-in_err-end_row-in-Failed.result (
      c.in-Some.meter,
      is_listed g.D.JournalDevice.honest g.D.JournalDevice.contents g.D.JournalDevice.may_leave c.args.self.now leader c.in-Some.place (record { meter = c.in-Some.meter; address = c.args.from }) led
          (c.in-Some.ensures.found led.schedule),
      ap (λ (h : Head). is_some (row_of h.rows c.in-Some.meter)) led.head ∙ row,
    )

-- ---- what is heard: the number that is passed on is that of the pair that was found, which search sees

pub returns-in_default-clause-hears : goal.returns-in_default-clause-hears
returns-in_default-clause-hears g c = λ leader led.
    stranger_on g.D.JournalDevice.honest g.D.JournalDevice.contents g.D.JournalDevice.may_leave c.args.self.now _ leader c.args.from c.args.datagram.now led (c.in_default.ensures.none led.schedule) refl refl refl

pub returns-in-Nothing-clause-hears : goal.returns-in-Nothing-clause-hears
returns-in-Nothing-clause-hears g c = λ leader led.
    let how : End = record { at = c.args.at; reason = c.in_ok-news.field-0.reason } in
    let tells = subst (λ (m : ℕ). TellsReason (head_of c.args.self.now.kept) m c.args.datagram.now c.in_ok-news.field-0.news c.in_ok-news.field-0.reason) (search rules) c.in_ok-news.ensures.reason in
    let heard = subst (λ (m : ℕ). HeadHears (head_of c.args.self.now.kept) m c.args.datagram.now c.in_ok-news.field-0.news (head_of c.hear.new.self)) (search rules) c.in_ok-news.ensures.heard in
    nothing_on g.D.JournalDevice.honest g.D.JournalDevice.contents g.D.JournalDevice.may_leave c.args.self.now
    (record c.args.self.now { kept = c.hear.new.self; ended = c.make_room.new.ended; counts = record c.args.self.now.counts { received = c.count-2.new.counter }; contacts = c.heard.new.self; stuck = None }) leader led c.in-Some.place c.in-Some.meter c.args.from
    (c.in-Some.ensures.found led.schedule) c.args.datagram.now c.in_ok-news.field-0.news how heard tells (c.in_ok-news.ensures.waits leader.synced led.holds) c.in-Nothing.is c.make_room.ensures.items refl

pub returns-in_ok-answered-in-Moved-clause-hears : goal.returns-in_ok-answered-in-Moved-clause-hears
returns-in_ok-answered-in-Moved-clause-hears g c = λ leader led.
    let there = c.in-Some.ensures.found led.schedule in
    let holds = c.in_ok-news.ensures.waits leader.synced led.holds in
    let how : End = record { at = c.args.at; reason = c.in_ok-news.field-0.reason } in
    let tells = subst (λ (m : ℕ). TellsReason (head_of c.args.self.now.kept) m c.args.datagram.now c.in_ok-news.field-0.news c.in_ok-news.field-0.reason) (search rules) c.in_ok-news.ensures.reason in
    let heard = subst (λ (m : ℕ). HeadHears (head_of c.args.self.now.kept) m c.args.datagram.now c.in_ok-news.field-0.news (head_of c.hear.new.self)) (search rules) c.in_ok-news.ensures.heard in
    let live = moved_live g.D.JournalDevice.honest g.D.JournalDevice.contents g.D.JournalDevice.may_leave c.args.self.now (record c.args.self.now { kept = c.hear.new.self }) leader led c.in-Some.place c.in-Some.meter
    c.args.from there c.args.datagram.now c.in_ok-news.field-0.news how heard tells holds c.in-Moved.is in
    moved_on g.D.JournalDevice.honest g.D.JournalDevice.contents g.D.JournalDevice.may_leave c.args.self.now
    (record c.args.self.now { kept = c.hear.new.self; schedule = c.answered.new.self; ended = c.make_room.new.ended; counts = record c.args.self.now.counts { received = c.count-2.new.counter }; contacts = c.heard.new.self; laps = c.go.new.self; stuck = c.stuck_row-self.result }) leader led c.in-Some.place
    c.in-Some.meter c.args.from there c.args.datagram.now c.in_ok-news.field-0.news how heard tells holds c.in-Moved.is c.make_room.ensures.items (c.in_ok-answered-in-Moved.ensures.schedule led.schedule live) (c.in_ok-answered-in-Moved.ensures.same live)

pub returns-in_ok-end_row-in-Done-clause-hears : goal.returns-in_ok-end_row-in-Done-clause-hears
returns-in_ok-end_row-in-Done-clause-hears g c = λ leader led.
    let how : End = record { at = c.args.at; reason = c.in_ok-news.field-0.reason } in
    let tells = subst (λ (m : ℕ). TellsReason (head_of c.args.self.now.kept) m c.args.datagram.now c.in_ok-news.field-0.news c.in_ok-news.field-0.reason) (search rules) c.in_ok-news.ensures.reason in
    let one : Ended = record { campaign = c.in-Done.campaign; meter = c.in-Done.meter; ending = ends.Done; end = how } in
    let heard = subst (λ (m : ℕ). HeadHears (head_of c.args.self.now.kept) m c.args.datagram.now c.in_ok-news.field-0.news (head_of c.hear.new.self)) (search rules) c.in_ok-news.ensures.heard in
    let hears = subst (λ k. HeadHears (head_of c.args.self.now.kept) c.in-Some.meter c.args.datagram.now c.in_ok-news.field-0.news (head_of k)) (sym c.end_row.ensures.kept) heard in
    let holds = subst (λ k. Holds g.D.JournalDevice.honest g.D.JournalDevice.contents g.D.JournalDevice.may_leave k leader.synced) (sym c.end_row.ensures.kept) (c.in_ok-news.ensures.waits leader.synced led.holds) in
    ended_on g.D.JournalDevice.honest g.D.JournalDevice.contents g.D.JournalDevice.may_leave c.args.self.now c.end_row.new.self leader led c.in-Some.place c.in-Some.meter c.args.from
    (c.in-Some.ensures.found led.schedule) c.args.datagram.now c.in_ok-news.field-0.news how hears tells holds c.states_follow.ensures c.row_keeps_goal.ensures
    (subst (λ (h : Head). IsHead h) c.head.ensures c.view-view.ensures.live) one (ap (λ (n : News). ended_by n how) c.in-Done.is)
    (c.in_ok-end_row-in-Done.ensures.ended ∙ ap (λ (xs : List Ended). xs ++ one ∷ []) c.make_room.ensures.items) (c.end_row.ensures.schedule led.schedule) c.end_row.ensures.meters
    (ap heard_of c.in-Done.is)

pub returns-in_ok-end_row-in-Failed-clause-hears : goal.returns-in_ok-end_row-in-Failed-clause-hears
returns-in_ok-end_row-in-Failed-clause-hears g c = λ leader led.
    let how : End = record { at = c.args.at; reason = c.in_ok-news.field-0.reason } in
    let tells = subst (λ (m : ℕ). TellsReason (head_of c.args.self.now.kept) m c.args.datagram.now c.in_ok-news.field-0.news c.in_ok-news.field-0.reason) (search rules) c.in_ok-news.ensures.reason in
    let one : Ended = record { campaign = c.in-Failed.campaign; meter = c.in-Failed.meter; ending = ends.Failed; end = how } in
    let heard = subst (λ (m : ℕ). HeadHears (head_of c.args.self.now.kept) m c.args.datagram.now c.in_ok-news.field-0.news (head_of c.hear.new.self)) (search rules) c.in_ok-news.ensures.heard in
    let hears = subst (λ k. HeadHears (head_of c.args.self.now.kept) c.in-Some.meter c.args.datagram.now c.in_ok-news.field-0.news (head_of k)) (sym c.end_row-in-Failed.ensures.kept) heard in
    let holds = subst (λ k. Holds g.D.JournalDevice.honest g.D.JournalDevice.contents g.D.JournalDevice.may_leave k leader.synced) (sym c.end_row-in-Failed.ensures.kept) (c.in_ok-news.ensures.waits leader.synced led.holds) in
    ended_on g.D.JournalDevice.honest g.D.JournalDevice.contents g.D.JournalDevice.may_leave c.args.self.now c.end_row-in-Failed.new.self leader led c.in-Some.place c.in-Some.meter c.args.from
    (c.in-Some.ensures.found led.schedule) c.args.datagram.now c.in_ok-news.field-0.news how hears tells holds c.states_follow.ensures c.row_keeps_goal.ensures
    (subst (λ (h : Head). IsHead h) c.head.ensures c.view-view.ensures.live) one (ap (λ (n : News). ended_by n how) c.in-Failed.is)
    (c.in_ok-end_row-in-Failed.ensures.ended ∙ ap (λ (xs : List Ended). xs ++ one ∷ []) c.make_room.ensures.items) (c.end_row-in-Failed.ensures.schedule led.schedule) c.end_row-in-Failed.ensures.meters
    (ap heard_of c.in-Failed.is)

-- ---- when the meter is asked again

pub returns-in_ok-answered-in-Moved-clause-takes : goal.returns-in_ok-answered-in-Moved-clause-takes
returns-in_ok-answered-in-Moved-clause-takes g c = λ leader led moved. record {
  place = c.in-Some.place;
  meter = c.in-Some.meter;
  there = c.in-Some.ensures.found led.schedule;
  answer = c.in_ok-answer-in-Moved.answer;
  leaves = subst (λ (m : ℕ). IsAnswerOf (head_of c.hear.new.self) m c.args.datagram.now c.in_ok-answer-in-Moved.answer) (search rules) c.in_ok-answer-in-Moved.ensures;
  goes_on = c.in_ok-answered-in-Moved.ensures.answered;
}

-- ---- how the row is getting on

pub returns-in_default-clause-laps : goal.returns-in_default-clause-laps
returns-in_default-clause-laps g c = λ leader led. (refl, refl)

pub returns-in-Nothing-clause-laps : goal.returns-in-Nothing-clause-laps
returns-in-Nothing-clause-laps g c = λ leader led. (refl, refl)

pub returns-in_ok-end_row-in-Done-clause-laps : goal.returns-in_ok-end_row-in-Done-clause-laps
returns-in_ok-end_row-in-Done-clause-laps g c = λ leader led. (c.end_row.ensures.laps, c.end_row.ensures.stuck)

pub returns-in_ok-end_row-in-Failed-clause-laps : goal.returns-in_ok-end_row-in-Failed-clause-laps
returns-in_ok-end_row-in-Failed-clause-laps g c = λ leader led. (c.end_row-in-Failed.ensures.laps, c.end_row-in-Failed.ensures.stuck)

pub returns-in_ok-answered-in-Moved-clause-laps : goal.returns-in_ok-answered-in-Moved-clause-laps
returns-in_ok-answered-in-Moved-clause-laps g c = λ leader led.
    let meter = c.in-Some.meter in
    let laps = laps_of c.args.self.now.laps in
    let was : c.phase_of-was.result ≡ phase_at (head_of c.args.self.now.kept) meter =
    subst (λ (m : ℕ). c.phase_of-was.result ≡ phase_at (head_of c.args.self.now.kept) m) (search rules) c.phase_of-was.ensures in
    let is : c.phase_of-is.result ≡ phase_at (head_of c.hear.new.self) meter =
    subst (λ (m : ℕ). c.phase_of-is.result ≡ phase_at (head_of c.hear.new.self) m) (search rules) c.phase_of-is.ensures in
    record {
      place = c.in-Some.place;
      meter = meter;
      there = c.in-Some.ensures.found led.schedule;
      gone = c.go.ensures
          ∙ ap (λ (p : Option Phase). laps_gone c.in-Some.place c.args.now p c.phase_of-is.result laps) was
          ∙ ap (λ (p : Option Phase). laps_gone c.in-Some.place c.args.now (phase_at (head_of c.args.self.now.kept) meter) p laps) is;
      told = subst (λ (m : ℕ). c.stuck_row-self.result ≡ stuck_by (lap_in laps c.in-Some.place) (head_of c.hear.new.self) m c.phase_of-was.result c.phase_of-is.result) (search rules) c.stuck_row-self.ensures
          ∙ ap (λ (p : Option Phase). stuck_by (lap_in laps c.in-Some.place) (head_of c.hear.new.self) meter p c.phase_of-is.result) was
          ∙ ap (λ (p : Option Phase). stuck_by (lap_in laps c.in-Some.place) (head_of c.hear.new.self) meter (phase_at (head_of c.args.self.now.kept) meter) p) is;
    }

-- ---- since when rows wait

pub returns-in_ok-end_row-in-Done-clause-since : goal.returns-in_ok-end_row-in-Done-clause-since
returns-in_ok-end_row-in-Done-clause-since g c = c.end_row.ensures.since ∙ ap (λ (rows : List Ended). since_with c.args.now rows c.args.self.now.held_since) c.make_room.ensures.items

pub returns-in_ok-end_row-in-Failed-clause-since : goal.returns-in_ok-end_row-in-Failed-clause-since
returns-in_ok-end_row-in-Failed-clause-since g c = c.end_row-in-Failed.ensures.since ∙ ap (λ (rows : List Ended). since_with c.args.now rows c.args.self.now.held_since) c.make_room.ensures.items

-- ---- what is counted

pub returns-in_default-clause-counts : goal.returns-in_default-clause-counts
returns-in_default-clause-counts g c = ap (λ (n : ℕ). record c.args.self.now.counts { strangers = n }) c.count.ensures

pub returns-in-Nothing-clause-counts : goal.returns-in-Nothing-clause-counts
returns-in-Nothing-clause-counts g c = ap (λ (n : ℕ). record c.args.self.now.counts { received = n }) c.count-2.ensures

pub returns-in_ok-answered-in-Moved-clause-counts : goal.returns-in_ok-answered-in-Moved-clause-counts
returns-in_ok-answered-in-Moved-clause-counts g c = ap (λ (n : ℕ). record c.args.self.now.counts { received = n }) c.count-2.ensures

pub returns-in_ok-end_row-in-Done-clause-counts : goal.returns-in_ok-end_row-in-Done-clause-counts
returns-in_ok-end_row-in-Done-clause-counts g c = c.end_row.ensures.counts ∙ ap (λ (n : ℕ). record c.args.self.now.counts { received = n }) c.count-2.ensures

pub returns-in_ok-end_row-in-Failed-clause-counts : goal.returns-in_ok-end_row-in-Failed-clause-counts
returns-in_ok-end_row-in-Failed-clause-counts g c = c.end_row-in-Failed.ensures.counts ∙ ap (λ (n : ℕ). record c.args.self.now.counts { received = n }) c.count-2.ensures

pub returns-in_err-make_room-clause-counts_err : goal.returns-in_err-make_room-clause-counts_err
returns-in_err-make_room-clause-counts_err g c = at_err c.from_residual.result (ap (λ (n : ℕ). record c.args.self.now.counts { received = n }) c.count-2.ensures)

pub returns-in_err-news-clause-counts_err : goal.returns-in_err-news-clause-counts_err
returns-in_err-news-clause-counts_err g c = at_err c.from_residual-in_err-news.result (ap (λ (n : ℕ). record c.args.self.now.counts { received = n }) c.count-2.ensures)

pub returns-in_err-answer-in-Moved-clause-counts_err : goal.returns-in_err-answer-in-Moved-clause-counts_err
returns-in_err-answer-in-Moved-clause-counts_err g c =
    at_err c.from_residual-in_err-answer-in-Moved.result (ap (λ (n : ℕ). record c.args.self.now.counts { received = n }) c.count-2.ensures)

pub returns-in_err-answered-in-Moved-clause-counts_err : goal.returns-in_err-answered-in-Moved-clause-counts_err
returns-in_err-answered-in-Moved-clause-counts_err g c =
    at_err c.from_residual-in_err-answered-in-Moved.result (ap (λ (n : ℕ). record c.args.self.now.counts { received = n }) c.count-2.ensures)

pub returns-in_err-end_row-in-Done-clause-counts_err : goal.returns-in_err-end_row-in-Done-clause-counts_err
returns-in_err-end_row-in-Done-clause-counts_err g c =
    at_err c.from_residual-in_err-end_row-in-Done.result (c.end_row.ensures.counts ∙ ap (λ (n : ℕ). record c.args.self.now.counts { received = n }) c.count-2.ensures)

pub returns-in_err-end_row-in-Failed-clause-counts_err : goal.returns-in_err-end_row-in-Failed-clause-counts_err
returns-in_err-end_row-in-Failed-clause-counts_err g c =
    at_err c.from_residual-in_err-end_row-in-Failed.result (c.end_row-in-Failed.ensures.counts ∙ ap (λ (n : ℕ). record c.args.self.now.counts { received = n }) c.count-2.ensures)

-- ---- nothing is sent again by what comes

pub returns-in_ok-answered-in-Moved-clause-resends : goal.returns-in_ok-answered-in-Moved-clause-resends
returns-in_ok-answered-in-Moved-clause-resends g c = c.in_ok-answered-in-Moved.ensures.resends

pub returns-in_ok-end_row-in-Done-clause-resends : goal.returns-in_ok-end_row-in-Done-clause-resends
returns-in_ok-end_row-in-Done-clause-resends g c = c.end_row.ensures.resends

pub returns-in_ok-end_row-in-Failed-clause-resends : goal.returns-in_ok-end_row-in-Failed-clause-resends
returns-in_ok-end_row-in-Failed-clause-resends g c = c.end_row-in-Failed.ensures.resends

-- ---- which row ended, and when

pub returns-in_default-clause-ended : goal.returns-in_default-clause-ended
returns-in_default-clause-ended g c = inl (refl, refl)

pub returns-in-Nothing-clause-ended : goal.returns-in-Nothing-clause-ended
returns-in-Nothing-clause-ended g c =
    inl (c.make_room.ensures.items, noted_as (known_of c.args.self.now.kept) (known_of c.hear.new.self) c.args.at c.in_ok-news.field-0 c.in_ok-news.ensures.noted news.Nothing c.in-Nothing.is)

pub returns-in_ok-answered-in-Moved-clause-ended : goal.returns-in_ok-answered-in-Moved-clause-ended
returns-in_ok-answered-in-Moved-clause-ended g c =
    inl (c.make_room.ensures.items, noted_as (known_of c.args.self.now.kept) (known_of c.hear.new.self) c.args.at c.in_ok-news.field-0 c.in_ok-news.ensures.noted news.Moved c.in-Moved.is)

pub returns-in_ok-end_row-in-Done-clause-ended : goal.returns-in_ok-end_row-in-Done-clause-ended
returns-in_ok-end_row-in-Done-clause-ended g c =
    let how : End = record { at = c.args.at; reason = c.in_ok-news.field-0.reason } in
    let one : Ended = record { campaign = c.in-Done.campaign; meter = c.in-Done.meter; ending = ends.Done; end = how } in
    let tells = subst (λ (m : ℕ). TellsReason (head_of c.args.self.now.kept) m c.args.datagram.now c.in_ok-news.field-0.news c.in_ok-news.field-0.reason) (search rules) c.in_ok-news.ensures.reason in
    let noted = noted_as (known_of c.args.self.now.kept) (known_of c.hear.new.self) c.args.at c.in_ok-news.field-0 c.in_ok-news.ensures.noted (news.Done c.in-Done.campaign c.in-Done.meter) c.in-Done.is in
    inr (
      one,
      c.in_ok-end_row-in-Done.ensures.ended ∙ ap (λ (xs : List Ended). xs ++ one ∷ []) c.make_room.ensures.items,
      refl,
      ap (λ k. known_of k) c.end_row.ensures.kept
          ∙ done_noted (known_of c.args.self.now.kept) (head_of c.args.self.now.kept) c.in-Some.meter c.args.datagram.now c.in_ok-news.field-0.news c.in_ok-news.field-0.reason c.args.at c.in-Done.campaign c.in-Done.meter (known_of c.hear.new.self) c.in-Done.is tells noted,
    )

pub returns-in_ok-end_row-in-Failed-clause-ended : goal.returns-in_ok-end_row-in-Failed-clause-ended
returns-in_ok-end_row-in-Failed-clause-ended g c =
    let how : End = record { at = c.args.at; reason = c.in_ok-news.field-0.reason } in
    let one : Ended = record { campaign = c.in-Failed.campaign; meter = c.in-Failed.meter; ending = ends.Failed; end = how } in
    inr (
      one,
      c.in_ok-end_row-in-Failed.ensures.ended ∙ ap (λ (xs : List Ended). xs ++ one ∷ []) c.make_room.ensures.items,
      refl,
      ap (λ k. known_of k) c.end_row-in-Failed.ensures.kept
          ∙ noted_as (known_of c.args.self.now.kept) (known_of c.hear.new.self) c.args.at c.in_ok-news.field-0 c.in_ok-news.ensures.noted (news.Failed c.in-Failed.campaign c.in-Failed.meter) c.in-Failed.is,
    )
