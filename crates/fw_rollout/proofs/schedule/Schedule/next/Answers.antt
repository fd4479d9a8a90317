use Rattle.std.proofs.Common.{ℕ, sym, ap, subst}
use Rattle.fw_rollout.specs.Counting.{IsMore}
use Rattle.fw_rollout.specs.Schedule.{links_of, resent_in}
use Rattle.fw_rollout.proofs.Settling.{settles_apart}
use Rattle.fw_rollout.proofs.schedule.Schedule.next.Goals as goal

pub returns-clause-settles : goal.returns-clause-settles
returns-clause-settles c = λ s. settles_apart c.args.now c.args.self.now c.give_up.new.self c.next_ready.new.self c.next_ready.ensures.others (c.in_ok-give_up.ensures.settles s)

pub returns-clause-resends : goal.returns-clause-resends
returns-clause-resends c = λ s.
    subst (λ (n : ℕ). IsMore c.args.self.now.resends (resent_in c.args.now (links_of c.args.self.now)) n) (sym (ap (λ s. s.resends) c.next_ready.ensures.others)) (c.in_ok-give_up.ensures.resends s)
