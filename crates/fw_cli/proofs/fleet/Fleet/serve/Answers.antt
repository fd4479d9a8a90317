use Rattle.std.proofs.Common.{rules}
use Rattle.fw_cli.proofs.Fleeting.{fleet_none, fleet_then}
use Rattle.fw_cli.proofs.fleet.Fleet.serve.Goals as goal

pub loop-init : goal.loop-init
loop-init g c = (search rules, search rules, fleet_none g.W.FleetWatch.tells _ _)

pub loop-preserved : goal.loop-preserved
loop-preserved g c = (search rules, search rules, fleet_then g.W.FleetWatch.tells _ _ _ _ _ _ c.loop.invariant.2 c.pass.ensures.watched)

pub returns-in-Err : goal.returns-in-Err
returns-in-Err g c = record { watched = fleet_then g.W.FleetWatch.tells _ _ _ _ _ _ c.loop.invariant.2 c.pass.ensures.watched }

pub loop-preserved-then-not-has_more : goal.loop-preserved-then-not-has_more
loop-preserved-then-not-has_more g c = (search rules, search rules, fleet_then g.W.FleetWatch.tells _ _ _ _ _ _ c.loop.invariant.2 c.pass.ensures.watched)
