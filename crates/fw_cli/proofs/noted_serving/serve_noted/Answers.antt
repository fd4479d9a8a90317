use Rattle.std.proofs.Common.{rules}
use Rattle.fw_cli.proofs.Noted.{watched_none, watched_on, watched_same}
use Rattle.fw_cli.proofs.noted_serving.serve_noted.Goals as goal

pub loop-init : goal.loop-init
loop-init g c = (search rules, search rules, c.requires.unknown, watched_none g.W.Watch.tells _ _)

pub loop-preserved : goal.loop-preserved
loop-preserved g c =
    let was = c.loop.invariant in (
      search rules,
      search rules,
      c.step_noted.ensures.unknown,
      watched_on g.W.Watch.tells _ _ _ _ _ _ _ was.3 c.in-Ok.ensures.goes c.round.ensures.tells,
    )

pub returns-in-Err : goal.returns-in-Err
returns-in-Err g c = record { watched = watched_same g.W.Watch.tells _ _ _ _ _ c.in-Err.ensures.closed c.loop.invariant.3 }
