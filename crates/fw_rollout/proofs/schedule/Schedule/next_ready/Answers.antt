use Rattle.std.proofs.Common.{rules, ◌≡◌, Some, slice_get, refl, ap, sym, ◌∙◌}
use Rattle.std.proofs.lemmas.Bool.{false≢true}
use Rattle.fw_rollout.specs.declared.schedule.Schedule.{Schedule}
use Rattle.fw_rollout.proofs.Queueing.{popped}
use Rattle.fw_rollout.proofs.schedule.Schedule.next_ready.Goals as goal

pub loop-place-preserved : goal.loop-place-preserved
loop-place-preserved c =
    let was = c.loop-place.invariant in
    let first : slice_get c.loop-place.self.ready.items 0 ≡ Some c.in-Some.place = search rules in
    record {
      others = ap (λ (s : Schedule). record s { ready = c.pop_front.new.self }) was.others;
      schedule = λ s. popped c.in-Some.place c.loop-place.self (record c.loop-place.self { ready = c.pop_front.new.self }) (was.schedule s) first
          (λ due. false≢true (sym c.if-is_ready.false ∙ c.is_ready.ensures.1 due)) refl c.pop_front.ensures.rest;
    }
