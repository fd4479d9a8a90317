use Rattle.std.proofs.Common.{◌≡◌, ℕ, List, [], ◌∷◌, ◌++◌, inr, refl, sym, ap, subst, ◌∙◌, rules}
use Rattle.fw_head.specs.Head.{GivesUpRow, Head, IsHead}
use Rattle.fw_head.specs.declared.giving_up.WhyGivenUp.TheVariants as why
use Rattle.fw_kept.specs.Head.{Holds, head_of, known_given_up, known_of}
use Rattle.fw_rollout.specs.Daemon.{ended_of}
use Rattle.fw_rollout.specs.Plans.{given_up_at}
use Rattle.fw_rollout.specs.declared.ended.Ended.{Ended}
use Rattle.fw_rollout.proofs.Daemons.{gives_up_on}
use Rattle.fw_rollout.proofs.daemon.HeadDaemon.give_up.Goals as goal

-- ---- a row is given up: the number that is passed on is that of the pair that was found, which search sees

pub returns-clause-gives_up : goal.returns-clause-gives_up
returns-clause-gives_up g c = λ leader led.
    let there = c.in-Some.ensures.found led.schedule in
    let given = c.in-Some-2.given in
    let told = rw c.in-Some-2.is at c.in_ok-given.ensures.given_up in
    let gives = subst (λ (m : ℕ). GivesUpRow (head_of c.args.self.now.kept) m why.Silent given (head_of c.give_up.new.self)) (search rules) told in
    let holds = c.in_ok-given.ensures.waits leader.synced led.holds in
    let passed = subst (λ (m : ℕ). ended_of c.end_row.new.self ≡ c.make_room.new.ended.items ++ given_up_at c.args.at m given ∷ []) (search rules) c.in_ok-end_row.ensures.ended in
    let ended = subst (λ (xs : List Ended). ended_of c.end_row.new.self ≡ xs ++ given_up_at c.args.at c.in-Some.meter given ∷ []) c.make_room.ensures.items passed in
    gives_up_on g.D.JournalDevice.honest g.D.JournalDevice.contents g.D.JournalDevice.may_leave c.states_follow.ensures c.args.self.now c.end_row.new.self leader led
    (subst (λ (h : Head). IsHead h) c.head.ensures c.view-view.ensures.live) c.in-Some.place c.in-Some.meter c.args.address c.args.at given there
    (subst (λ k. GivesUpRow (head_of c.args.self.now.kept) c.in-Some.meter why.Silent given (head_of k)) (sym c.end_row.ensures.kept) gives)
    (subst (λ k. Holds g.D.JournalDevice.honest g.D.JournalDevice.contents g.D.JournalDevice.may_leave k leader.synced) (sym c.end_row.ensures.kept) holds)
    ended (c.end_row.ensures.schedule led.schedule) c.end_row.ensures.meters

pub returns-clause-silent : goal.returns-clause-silent
returns-clause-silent g c = λ leader led is. (
  c.in-Some.meter,
  record { place = c.in-Some.place; there = c.in-Some.ensures.found led.schedule; silent = c.is_silent.ensures.0 c.if-not-is_silent.false },
)

pub returns-clause-ended : goal.returns-clause-ended
returns-clause-ended g c =
    let given = c.in-Some-2.given in
    let one : Ended = given_up_at c.args.at c.in-Some.meter given in
    let passed = subst (λ (m : ℕ). ended_of c.end_row.new.self ≡ c.make_room.new.ended.items ++ given_up_at c.args.at m given ∷ []) (search rules) c.in_ok-end_row.ensures.ended in
    let told = rw c.in-Some-2.is at c.in_ok-given.ensures.noted in
    inr (
      one,
      subst (λ (xs : List Ended). ended_of c.end_row.new.self ≡ xs ++ one ∷ []) c.make_room.ensures.items passed,
      refl,
      ap (λ k. known_of k) c.end_row.ensures.kept
          ∙ subst (λ (m : ℕ). known_of c.give_up.new.self ≡ known_given_up (known_of c.args.self.now.kept) m given c.args.at) (search rules) told,
    )
