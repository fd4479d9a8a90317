use Rattle.std.proofs.Common.{◌≡◌, ℕ, ◌+◌, ◌≤◌, List, Some, length, min, slice_get, refl, sym, ap, subst, ◌∙◌, arith}
use Rattle.std.proofs.lemmas.Bool.{false≢true}
use Rattle.fw_rollout.specs.Schedule.{links_of, listed_of}
use Rattle.fw_rollout.specs.Timing.{max_tick}
use Rattle.fw_rollout.specs.declared.link.Listed.{Listed}
use Rattle.fw_rollout.proofs.Lives.{listed_at}
use Rattle.fw_rollout.proofs.Daemons.{none_live, same_on, ticked_on, waits_on}
use Rattle.fw_rollout.specs.Counting.{IsMore, greatest}
use Rattle.fw_rollout.specs.Daemon.{resent_at}
use Rattle.fw_rollout.proofs.Dues.{due_before, due_lives, none_asked, out_since}
use Rattle.fw_rollout.proofs.Queueing.{queued_once}
use Rattle.fw_rollout.proofs.Rounds.{at_err}
use Rattle.fw_rollout.proofs.Settling.{some_live_before}
use Rattle.fw_rollout.proofs.daemon.HeadDaemon.due.Goals as goal

-- ---- nothing is sent

pub returns-in_default-clause-none : goal.returns-in_default-clause-none
returns-in_default-clause-none g c = λ leader led.
    none_asked c.args.now c.args.self.now.schedule c.next.new.self (c.in_ok-place.ensures.schedule led.schedule) (c.in_ok-place.ensures.settles led.schedule) c.in_ok-place.ensures.timing
    (rw c.in_default.is at c.in_ok-place.ensures.none)

pub returns-in_default-clause-queued : goal.returns-in_default-clause-queued
returns-in_default-clause-queued g c = λ leader led place due. queued_once c.next.new.self place (c.in_ok-place.ensures.schedule led.schedule) due

-- ---- a meter is silent

pub returns-then-is_silent-clause-silent : goal.returns-then-is_silent-clause-silent
returns-then-is_silent-clause-silent g c = record {
  place = c.in-Some.place;
  there = listed_at (links_of c.next.new.self) c.in-Some.place c.in-Some-at.listed (sym c.at.ensures ∙ c.in-Some-at.is);
  silent = c.is_silent.ensures.0 c.if-is_silent.true;
}

pub returns-then-is_silent-clause-queued : goal.returns-then-is_silent-clause-queued
returns-then-is_silent-clause-queued g c = λ leader led place due. queued_once c.next.new.self place (c.in_ok-place.ensures.schedule led.schedule) due

pub returns-then-is_silent-clause-resends : goal.returns-then-is_silent-clause-resends
returns-then-is_silent-clause-resends g c = λ leader led. c.in_ok-place.ensures.resends led.schedule

-- ---- a row waits

pub returns-then-not-may_ask-clause-ticks : goal.returns-then-not-may_ask-clause-ticks
returns-then-not-may_ask-clause-ticks g c = λ leader led sent_all.
    let due = rw c.in-Some.is at c.in_ok-place.ensures.due in
    let first = rw c.in-Some.is at c.in_ok-place.ensures.first in
    waits_on g.D.JournalDevice.honest g.D.JournalDevice.contents g.D.JournalDevice.may_leave c.args.self.now _ leader led refl refl
    (c.in_ok-hold.ensures.schedule (c.in_ok-place.ensures.schedule led.schedule) due first)
    (same_on c.args.self.now.schedule c.next.new.self c.hold.new.self (c.in_ok-place.ensures.same led.schedule) (c.in_ok-hold.ensures.same due))

pub returns-then-not-may_ask-clause-held : goal.returns-then-not-may_ask-clause-held
returns-then-not-may_ask-clause-held g c =
    let place = c.in-Some.place in
    let at : Listed = c.in-Some-at.listed in
    let same = c.in_ok-hold.ensures.same (rw c.in-Some.is at c.in_ok-place.ensures.due) in
    record {
      place = place;
      at = at;
      there = ap (λ (ls : List Listed). slice_get ls place) same.listed ∙ listed_at (links_of c.next.new.self) place at (sym c.at.ensures ∙ c.in-Some-at.is);
      held = λ is. false≢true (sym c.if-not-may_ask.true ∙ c.may_ask.ensures.1 is);
    }

pub returns-then-not-may_ask-clause-queued : goal.returns-then-not-may_ask-clause-queued
returns-then-not-may_ask-clause-queued g c = λ leader led place due.
    queued_once c.hold.new.self place
    (c.in_ok-hold.ensures.schedule (c.in_ok-place.ensures.schedule led.schedule) (rw c.in-Some.is at c.in_ok-place.ensures.due) (rw c.in-Some.is at c.in_ok-place.ensures.first)) due

pub returns-then-not-may_ask-clause-resends : goal.returns-then-not-may_ask-clause-resends
returns-then-not-may_ask-clause-resends g c = λ leader led.
    subst (λ (n : ℕ). IsMore c.args.self.now.schedule.resends (resent_at c.args.now c.args.self.now) n) (sym c.in_ok-hold.ensures.resends) (c.in_ok-place.ensures.resends led.schedule)

-- ---- memory is refused

pub returns-in_err-hold-clause-wanted : goal.returns-in_err-hold-clause-wanted
returns-in_err-hold-clause-wanted g c = λ leader led.
    at_err c.from_residual-in_err-hold.result
    (λ over. some_live_before c.args.self.now.schedule c.next.new.self c.in-Some.place (c.in_ok-place.ensures.same led.schedule)
    (due_lives c.next.new.self c.in-Some.place (rw c.in-Some.is at c.in_ok-place.ensures.due))
    (none_live g.D.JournalDevice.honest g.D.JournalDevice.contents g.D.JournalDevice.may_leave c.args.self.now leader led over))

pub returns-in_err-hold-clause-counts_err : goal.returns-in_err-hold-clause-counts_err
returns-in_err-hold-clause-counts_err g c = at_err c.from_residual-in_err-hold.result refl

pub returns-in_err-place-clause-wanted : goal.returns-in_err-place-clause-wanted
returns-in_err-place-clause-wanted g c = λ leader led.
    at_err c.from_residual.result
    (λ over. c.in_err-place.ensures.live led.schedule
    (none_live g.D.JournalDevice.honest g.D.JournalDevice.contents g.D.JournalDevice.may_leave c.args.self.now leader led over))

pub returns-in_err-datagrams-clause-wanted : goal.returns-in_err-datagrams-clause-wanted
returns-in_err-datagrams-clause-wanted g c = λ leader led.
    at_err c.from_residual-in_err-datagrams.result
    (λ over. some_live_before c.args.self.now.schedule c.next.new.self c.in-Some.place (c.in_ok-place.ensures.same led.schedule)
    (due_lives c.next.new.self c.in-Some.place (rw c.in-Some.is at c.in_ok-place.ensures.due))
    (none_live g.D.JournalDevice.honest g.D.JournalDevice.contents g.D.JournalDevice.may_leave c.args.self.now leader led over))

pub returns-in_err-sent-clause-wanted : goal.returns-in_err-sent-clause-wanted
returns-in_err-sent-clause-wanted g c = λ leader led.
    at_err c.from_residual-in_err-sent.result
    (λ over. some_live_before c.args.self.now.schedule c.next.new.self c.in-Some.place (c.in_ok-place.ensures.same led.schedule)
    (due_lives c.next.new.self c.in-Some.place (rw c.in-Some.is at c.in_ok-place.ensures.due))
    (none_live g.D.JournalDevice.honest g.D.JournalDevice.contents g.D.JournalDevice.may_leave c.args.self.now leader led over))

-- ---- a meter is asked

pub returns-clause-plan : goal.returns-clause-plan
returns-clause-plan g c = λ leader led.
    let place = c.in-Some.place in
    let at : Listed = c.in-Some-at.listed in
    let same = c.in_ok-place.ensures.same led.schedule in
    record {
      place = place;
      there = ap (λ (ls : List Listed). slice_get ls place) (sym same.listed) ∙ listed_at (links_of c.next.new.self) place at (sym c.at.ensures ∙ c.in-Some-at.is);
      let_so = (c.may_ask.ensures.0 c.if-not-may_ask.false).0;
      rested = (c.may_ask.ensures.0 c.if-not-may_ask.false).1;
      heard = λ is. false≢true (sym c.if-is_silent.false ∙ c.is_silent.ensures.1 is);
      owes = c.asked.ensures;
    }

pub returns-clause-asked : goal.returns-clause-asked
returns-clause-asked g c = λ leader led.
    let place = c.in-Some.place in
    let schedule = c.next.new.self in
    let at : Listed = c.in-Some-at.listed in
    let same = c.in_ok-place.ensures.same led.schedule in
    record {
      place = place;
      there = ap (λ (ls : List Listed). slice_get ls place) (sym same.listed) ∙ listed_at (links_of schedule) place at (sym c.at.ensures ∙ c.in-Some-at.is);
      due = due_before c.args.now c.args.self.now.schedule schedule place (c.in_ok-place.ensures.settles led.schedule) (rw c.in-Some.is at c.in_ok-place.ensures.due);
    }

pub returns-clause-queued : goal.returns-clause-queued
returns-clause-queued g c = λ leader led place due.
    let few : c.len-count.result ≤ max_tick = omega (arith, c.in_ok-datagrams.ensures.most, c.len-count.ensures) in
    queued_once c.sent.new.self place
    (c.in_ok-sent.ensures.schedule (c.in_ok-place.ensures.schedule led.schedule) (rw c.in-Some.is at c.in_ok-place.ensures.due) (rw c.in-Some.is at c.in_ok-place.ensures.first)
    (rw c.in-Some.is at c.in_ok-place.ensures.room) few) due

pub returns-clause-ticks : goal.returns-clause-ticks
returns-clause-ticks g c = λ leader led sent_all.
    let place = c.in-Some.place in
    let schedule = c.next.new.self in
    let at : Listed = c.in-Some-at.listed in
    let same = c.in_ok-place.ensures.same led.schedule in
    let due = rw c.in-Some.is at c.in_ok-place.ensures.due in
    let first = rw c.in-Some.is at c.in_ok-place.ensures.first in
    let room = rw c.in-Some.is at c.in_ok-place.ensures.room in
    let few : c.len-count.result ≤ max_tick = omega (arith, c.in_ok-datagrams.ensures.most, c.len-count.ensures) in
    let there : slice_get (listed_of c.args.self.now.schedule) place ≡ Some at =
    ap (λ (ls : List Listed). slice_get ls place) (sym same.listed)
    ∙ listed_at (links_of schedule) place at (sym c.at.ensures ∙ c.in-Some-at.is) in
    ticked_on g.D.JournalDevice.honest g.D.JournalDevice.contents g.D.JournalDevice.may_leave c.args.self.now _ leader led sent_all place at there
    _ c.in_ok-datagrams.ensures.sent (c.in_ok-datagrams.ensures.permitted leader.synced led.holds) c.in_ok-datagrams.ensures.ticked
    (c.in_ok-datagrams.ensures.waits leader.synced led.holds) refl
    (c.in_ok-sent.ensures.schedule (c.in_ok-place.ensures.schedule led.schedule) due first room few)
    (same_on c.args.self.now.schedule schedule c.sent.new.self same (c.in_ok-sent.ensures.same due))

-- ---- it is out since then

pub returns-clause-waits : goal.returns-clause-waits
returns-clause-waits g c = λ leader led.
    let count : c.len-count.result ≡ length c.in_ok-datagrams.datagrams.items = omega (arith, c.len-count.ensures) in
    out_since c.args.now c.len-count.result (length c.in_ok-datagrams.datagrams.items) c.in-Some.place c.in-Some-at.listed c.next.new.self
    _
    (rw c.in-Some.is at c.in_ok-place.ensures.due) (sym c.at.ensures ∙ c.in-Some-at.is) c.in_ok-sent.ensures.sent count

-- ---- what is counted

pub returns-clause-counts : goal.returns-clause-counts
returns-clause-counts g c =
    let count : c.len-count.result ≡ length c.in_ok-datagrams.datagrams.items = omega (arith, c.len-count.ensures) in
    ap (λ (n : ℕ). record c.args.self.now.counts { sent = n }) (c.add.ensures ∙ ap (λ (n : ℕ). min (c.args.self.now.counts.sent + n) greatest) count)

pub returns-in_err-place-clause-counts_err : goal.returns-in_err-place-clause-counts_err
returns-in_err-place-clause-counts_err g c = at_err c.from_residual.result refl

pub returns-in_err-datagrams-clause-counts_err : goal.returns-in_err-datagrams-clause-counts_err
returns-in_err-datagrams-clause-counts_err g c = at_err c.from_residual-in_err-datagrams.result refl

pub returns-in_err-sent-clause-counts_err : goal.returns-in_err-sent-clause-counts_err
returns-in_err-sent-clause-counts_err g c = at_err c.from_residual-in_err-sent.result refl

-- ---- what is sent again

pub returns-in_default-clause-resends : goal.returns-in_default-clause-resends
returns-in_default-clause-resends g c = λ leader led. c.in_ok-place.ensures.resends led.schedule

pub returns-clause-resends : goal.returns-clause-resends
returns-clause-resends g c = λ leader led.
    subst (λ (n : ℕ). IsMore c.args.self.now.schedule.resends (resent_at c.args.now c.args.self.now) n) (sym c.in_ok-sent.ensures.resends) (c.in_ok-place.ensures.resends led.schedule)
