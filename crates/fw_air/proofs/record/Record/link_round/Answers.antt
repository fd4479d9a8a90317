use Rattle.std.proofs.Common.{◌≡◌, ℕ, ◌+◌, ◌-◌, List, ◌++◌, map, subst, ap, ◌∙◌, arith}
use Rattle.fw_world.specs.Step.{deliver}
use Rattle.fw_air.specs.Fates.{by_fates, comes, waits}
use Rattle.fw_air.specs.Private.{Follows, HasBegun, HasPassed, HasTurned}
use Rattle.fw_air.specs.Links.{late_of, link_of, passed_of, queue_of}
use Rattle.fw_air.specs.Logs.{capped}
use Rattle.fw_air.specs.Order.{IsMadeInOrder}
use Rattle.fw_air.specs.Rounds.{Link, last_turn}
use Rattle.fw_air.proofs.Fated.{one_round, queue_is}
use Rattle.fw_air.proofs.Present.{run_grows}
use Rattle.fw_air.proofs.Runs.{on_ok}
use Rattle.fw_air.proofs.record.Record.link_round.Goals as goal

pub returns-clause-all : goal.returns-clause-all
returns-clause-all c =
    let fates = c.args.fates.now in
    let was = c.args.link.now in
    let next = c.link_round.new.link in
    on_ok c.link_round.result _ _
    (λ (made : IsMadeInOrder HasBegun (HasPassed fates) HasTurned c.args.self.now was c.link_round.new.steps next).
    let begun = made.begins in
    let first = made.first_pass in
    let second = made.second_pass in
    let from = made.sent in
    let mid = made.replies in
    let end = made.others in
    let half = passed_of made.answered in
    let grew = run_grows c.args.self.now.world made.one.world _ begun.all.run in
    let more = run_grows made.one.world made.two.world _ first.all.run in
    let half_is : half ≡ capped (passed_of was + (mid - from)) = first.passed ∙ ap (λ n. capped (n + (mid - from))) begun.passed in
    let one = subst (λ n. Follows made.one (map deliver (by_fates comes fates n from mid)) made.two) begun.passed first.all in
    let link : link_of next ≡ link_of was = second.link_stays ∙ first.link_stays ∙ begun.link_stays in
    let late : late_of next ≡ by_fates waits fates (passed_of was) from mid ++ by_fates waits fates half mid end =
    second.waiting ∙ ap (λ (l : List ℕ). l ++ by_fates waits fates half mid end) (first.waiting ∙ ap (λ (l : List ℕ). l ++ by_fates waits fates (passed_of made.opened) from mid) begun.late ∙ ap (λ n. by_fates waits fates n from mid) begun.passed) in
    one_round fates (queue_of was) (queue_of next) c.args.self.now made.one made.two made.three c.link_round.new.steps from mid end half
    begun.from_is first.end_is second.end_is (omega (arith, grew, begun.from_is, first.end_is)) (omega (arith, more, first.end_is, second.end_is)) half_is
    begun.all one second.all
    (subst (λ (l : Link). Follows made.three (last_turn made.three.world l.meter) c.link_round.new.steps) link made.turns)
    (queue_is next (link_of was) (capped (half + (end - mid))) _ link second.passed late))
    c.link_round.ensures.made
