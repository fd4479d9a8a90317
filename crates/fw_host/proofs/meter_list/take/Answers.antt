use Rattle.fw_host.proofs.Listings.{none_added, none_spelled, one_planned_or_host}
use Rattle.fw_host.proofs.meter_list.take.Goals as goal

pub returns-in_default-clause-bad_list : goal.returns-in_default-clause-bad_list
returns-in_default-clause-bad_list g c = λ line e. none_spelled _ _ c.args.meters.now c.in_default.ensures

pub returns-else-is_new-clause-bad_list : goal.returns-else-is_new-clause-bad_list
returns-else-is_new-clause-bad_list g c = λ line e.
    let known = rw c.if-is_new.false at c.in_ok-is_new.ensures.added in
    none_added _ _ c.args.meters.now c.in-Some.planned (one_planned_or_host _ _ _ c.in-Some.ensures) known.1

pub returns-in_err-is_new-clause-memory : goal.returns-in_err-is_new-clause-memory
returns-in_err-is_new-clause-memory g c = λ e. (c.in-Some.planned, c.in-Some.ensures)
