use Rattle.std.proofs.Common.{◌≤◌, ◌+◌, arith, refl}
use Rattle.fw_cli.proofs.Fleeting.{turn_begins, turn_ends, turn_on}
use Rattle.fw_cli.proofs.fleet.Member.turn.Goals as goal

pub loop-made-init : goal.loop-made-init
loop-made-init g c = turn_begins g.W.FleetWatch.tells _ _ _

pub loop-made-preserved : goal.loop-made-preserved
loop-made-preserved g c = turn_on g.W.FleetWatch.tells _ _ _ _ _ _ _ _ _ c.loop-made.invariant c.in_ok-event.ensures.goes c.round_of.ensures.tells

pub returns-in_err-event : goal.returns-in_err-event
returns-in_err-event g c =
    let most : c.loop-made.made ≤ 16 = omega arith in
    record { watched = turn_ends g.W.FleetWatch.tells _ _ _ _ _ _ _ c.loop-made.invariant c.in_err-event.ensures.closed most }

pub returns-then-common : goal.returns-then-common
returns-then-common g c =
    let most : c.loop-made.made + 1 ≤ 16 = omega arith in
    let was = turn_on g.W.FleetWatch.tells _ _ _ _ _ _ _ _ _ c.loop-made.invariant c.in_ok-event.ensures.goes c.round_of.ensures.tells in
    record { watched = turn_ends g.W.FleetWatch.tells _ _ _ _ _ _ _ was refl most }

pub returns-then-has_heard : goal.returns-then-has_heard
returns-then-has_heard g c =
    let most : c.loop-made.made + 1 ≤ 16 = omega arith in
    let was = turn_on g.W.FleetWatch.tells _ _ _ _ _ _ _ _ _ c.loop-made.invariant c.in_ok-event.ensures.goes c.round_of.ensures.tells in
    record { watched = turn_ends g.W.FleetWatch.tells _ _ _ _ _ _ _ was refl most }

pub returns-else-has_heard : goal.returns-else-has_heard
returns-else-has_heard g c =
    let most : c.loop-made.made + 1 ≤ 16 = omega arith in
    let was = turn_on g.W.FleetWatch.tells _ _ _ _ _ _ _ _ _ c.loop-made.invariant c.in_ok-event.ensures.goes c.round_of.ensures.tells in
    record { watched = turn_ends g.W.FleetWatch.tells _ _ _ _ _ _ _ was refl most }

pub returns : goal.returns
returns g c =
    let most : c.loop-made.made ≤ 16 = omega arith in
    record { watched = turn_ends g.W.FleetWatch.tells _ _ _ _ _ _ _ c.loop-made.invariant refl most }
