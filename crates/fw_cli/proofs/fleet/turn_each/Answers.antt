use Rattle.std.proofs.Common.{arith, rules}
use Rattle.fw_cli.proofs.Fleeting.{pass_begins, pass_ends, pass_on, turns_of}
use Rattle.fw_cli.proofs.fleet.turn_each.Goals as goal

pub loop-member-init : goal.loop-member-init
loop-member-init g c = record { counted = search rules; had = pass_begins g.W.FleetWatch.tells _ _ }

pub loop-member-preserved : goal.loop-member-preserved
loop-member-preserved g c =
    let counted = c.loop-member.invariant.counted in
    record {
      counted = omega (arith, counted);
      had = pass_on g.W.FleetWatch.tells _ _ _ _ c.loop-member.members c.loop-member.member-index _ c.member-item.result c.turn.new.self (omega arith) (omega (arith, counted))
          c.loop-member.invariant.had c.turn.ensures.watched;
    }

pub returns-in_err-is_busy-clause-watched : goal.returns-in_err-is_busy-clause-watched
returns-in_err-is_busy-clause-watched g c =
    let counted = c.loop-member.invariant.counted in
    turns_of g.W.FleetWatch.tells _ _ _ _ _
    (pass_on g.W.FleetWatch.tells _ _ _ _ c.loop-member.members c.loop-member.member-index _ c.member-item.result c.turn.new.self (omega arith) (omega (arith, counted))
    c.loop-member.invariant.had c.turn.ensures.watched)

pub returns-clause-watched : goal.returns-clause-watched
returns-clause-watched g c = turns_of g.W.FleetWatch.tells _ _ _ _ _ c.loop-member.invariant.had

pub returns-clause-pass : goal.returns-clause-pass
returns-clause-pass g c = pass_ends g.W.FleetWatch.tells _ _ _ _ _ _ c.loop-member.invariant.had (omega arith)
